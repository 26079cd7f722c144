-- Copies of one identity agree.
use Rattle.std.specs.Prelude.{◌≡◌}
use Rattle.sm_defs.specs.Image.{SameContents}
use Rattle.sm_defs.specs.Volume.{Volume, Snapshot}
use Rattle.sm_defs.specs.World.{Up}
use Rattle.sm_model.specs.Standing.{Stands}

pub record IsCopy (s t : Snapshot) : Type 0 where
  pub ident : s.ident ≡ t.ident
  pub name : s.name ≡ t.name
  pub label : s.label ≡ t.label
  pub time : s.time ≡ t.time
  pub maker : s.maker ≡ t.maker
  pub contents : SameContents s.image t.image

abbrev pub CopiesAgree : Up → Type 0
CopiesAgree w = (v u : Volume) (s t : Snapshot) → Stands w v s → Stands w u t → s.ident ≡ t.ident → IsCopy s t
