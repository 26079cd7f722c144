-- What an identity's origin held when it was taken.
use Rattle.std.specs.Prelude.{Bool, List, [], ◌∷◌, Option, Some, None}
use Rattle.std.specs.List.{find}
use Rattle.sm_base.specs.declared.numbers.Ident.{Ident}
use Rattle.sm_model.specs.declared.reply.Reply.{Reply}
use Rattle.sm_model.specs.declared.reply.Reply.TheVariants as replies
use Rattle.sm_defs.specs.Words.{same_ident, is_ident, or_else}
use Rattle.sm_defs.specs.Image.{Image}
use Rattle.sm_defs.specs.Volume.{Volume, Snapshot}
use Rattle.sm_defs.specs.World.{Up, volume_at}
use Rattle.sm_model.specs.World.{Deed}

-- the identity that a reply tells of
unfoldable pub made_by : Reply → Option Ident
made_by (replies.Snapped i) = Some i
made_by (replies.Prepared relation i) = Some i
made_by _ = None

-- the deed took the snapshot of this identity
abbrev pub makes : Ident → Deed → Bool
makes i d = is_ident (made_by d.reply) i

-- the copy on the lowest volume
abbrev pub lowest_copy : Ident → List Volume → Option Snapshot
lowest_copy i [] = None
lowest_copy i (v ∷ vs) = or_else (find (λ s. same_ident s.ident i) v.snapshots) (lowest_copy i vs)

-- what a deed found active on the identity's volume
abbrev pub found_active : Ident → Option Deed → Option Image
found_active i None = None
found_active i (Some d) = Some (volume_at d.old i.origin).active

-- the copy that the start had, or else what the deed that made it found active
abbrev pub origin_from : Ident → Option Snapshot → Option Deed → Option Image
origin_from i (Some s) maker = Some s.image
origin_from i None maker = found_active i maker

-- from a start, along these deeds
abbrev pub origin : Up → List Deed → Ident → Option Image
origin start deeds i = origin_from i (lowest_copy i start.volumes) (find (makes i) deeds)
