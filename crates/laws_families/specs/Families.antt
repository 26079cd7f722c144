-- Copies in one family have the same numbers, and families are of numbers that were given.
use Rattle.std.specs.Prelude.{◌≡◌, Some, Ok}
use Rattle.sm_defs.specs.World.{Up}
use Rattle.sm_model.specs.declared.event.Event.{Event}
use Rattle.sm_model.specs.World.{Deed}
use Rattle.sm_model.specs.Answers.{Reached}
use Rattle.sm_model.specs.Answer.{answer}
use Rattle.sm_model.specs.LegalRun.{IsDeed}
use Rattle.sm_model.specs.Opened.{opened}
use Rattle.sm_model.specs.Standing.{EachVolume}
use Rattle.sm_model.specs.FamiliesAgree.{FamiliesAgree}
use Rattle.sm_model.specs.FamiliesStand.{IsFamily, FamiliesStand}
use Rattle.sm_model.specs.Sound.{SoundUp}

abbrev pub AnswersKeepFamilyBlocks : Type 0
AnswersKeepFamilyBlocks = (w : Up) (e : Event) (reached : Reached) → SoundUp w → answer w e ≡ Some (Ok reached) → FamiliesAgree reached.world

abbrev pub DeedsKeepFamilyBlocks : Type 0
DeedsKeepFamilyBlocks = (e : Event) (d : Deed) → SoundUp d.old → IsDeed e d → FamiliesAgree d.new

abbrev pub RestartsKeepFamilyBlocks : Type 0
RestartsKeepFamilyBlocks = (w : Up) → FamiliesAgree w → FamiliesAgree (opened w)

-- each volume's family is a volume's number, or belongs to a transfer whose number was given
abbrev pub FamiliesGiven : Up → Type 0
FamiliesGiven w = EachVolume (λ v. IsFamily w v.family) w

abbrev pub DeedsKeepFamilyNumbers : Type 0
DeedsKeepFamilyNumbers = (e : Event) (d : Deed) → SoundUp d.old → IsDeed e d → FamiliesGiven d.new

abbrev pub RestartsKeepFamilyNumbers : Type 0
RestartsKeepFamilyNumbers = (w : Up) → FamiliesGiven w → FamiliesGiven (opened w)

abbrev pub DeedsKeepOwnFamilies : Type 0
DeedsKeepOwnFamilies = (e : Event) (d : Deed) → SoundUp d.old → IsDeed e d → FamiliesStand d.new

abbrev pub RestartsKeepOwnFamilies : Type 0
RestartsKeepOwnFamilies = (w : Up) → SoundUp w → FamiliesStand (opened w)
