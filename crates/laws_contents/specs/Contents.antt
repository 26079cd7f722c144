-- Each snapshot has the contents that its origin held.
use Rattle.std.specs.Prelude.{◌≡◌, ◌⊎◌, true, false, List, ◌++◌, Some}
use Rattle.std.specs.List.{AllByRecursion}
use Rattle.sm_base.specs.declared.numbers.Ident.{Ident}
use Rattle.sm_model.specs.declared.event.Event.{Event}
use Rattle.sm_defs.specs.Image.{Image, SameContents}
use Rattle.sm_defs.specs.Volume.{Volume, Snapshot}
use Rattle.sm_defs.specs.World.{Up, volume_at}
use Rattle.sm_model.specs.World.{Deed}
use Rattle.sm_model.specs.Standing.{Stands}
use Rattle.sm_model.specs.CopiesAgree.{IsCopy}
use Rattle.sm_model.specs.Origin.{makes, origin}
use Rattle.sm_model.specs.LegalRun.{IsDeed}
use Rattle.sm_model.specs.Sound.{SoundUp}

-- ---- one deed

-- it is a copy of a snapshot that stood
abbrev pub WasThere : Up → Snapshot → Type 0
WasThere w s = (v : Volume) × (t : Snapshot) × Stands w v t × IsCopy s t

-- the deed took it, of what was active on its origin, and its identity stood nowhere
pub record WasTaken (d : Deed) (s : Snapshot) : Type 0 where
  pub made : makes s.ident d ≡ true
  pub contents : SameContents s.image (volume_at d.old s.ident.origin).active
  pub fresh : (v : Volume) (t : Snapshot) → Stands d.old v t → ¬ (t.ident ≡ s.ident)

-- each snapshot after the deed was there before and was not taken by it, or was taken by it
abbrev pub IsTraced : Deed → Type 0
IsTraced d = (v : Volume) (s : Snapshot) → Stands d.new v s → (WasThere d.old s × (makes s.ident d ≡ false)) ⊎ WasTaken d s

abbrev pub DeedsAreTraced : Type 0
DeedsAreTraced = (e : Event) (d : Deed) → SoundUp d.old → IsDeed e d → IsTraced d

-- ---- a run

abbrev pub BeginSound : List Deed → Type 0
BeginSound ds = AllByRecursion (λ d. SoundUp d.old) ds

-- its origin held the same bytes, block by block
abbrev pub HasOrigin : Up → List Deed → Snapshot → Type 0
HasOrigin start ds s = (image : Image) × (origin start ds s.ident ≡ Some image) × SameContents s.image image

abbrev pub AllHaveOrigins : Up → List Deed → Up → Type 0
AllHaveOrigins start ds w = (v : Volume) (s : Snapshot) → Stands w v s → HasOrigin start ds s

-- later deeds leave an origin that is known
abbrev pub OriginsStay : Type 0
OriginsStay = (start : Up) (deeds later : List Deed) (i : Ident) (image : Image) → origin start deeds i ≡ Some image → origin start (deeds ++ later) i ≡ Some image
