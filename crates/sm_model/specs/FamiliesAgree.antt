-- Copies of one identity in one family have the same numbers.
use Rattle.std.specs.Prelude.{◌≡◌}
use Rattle.sm_defs.specs.Image.{tags}
use Rattle.sm_defs.specs.Volume.{Volume, Snapshot}
use Rattle.sm_defs.specs.World.{Up}
use Rattle.sm_model.specs.Standing.{Stands}

abbrev pub FamiliesAgree : Up → Type 0
FamiliesAgree w = (v u : Volume) (s t : Snapshot) → Stands w v s → Stands w u t → v.family ≡ u.family → s.ident ≡ t.ident → tags s.image ≡ tags t.image
