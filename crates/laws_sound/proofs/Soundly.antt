-- A sound world stays sound.
use Rattle.std.proofs.Common.{◌≡◌, List, sym, subst}
use Rattle.sm_base.specs.declared.numbers.Side.{Side}
use Rattle.sm_defs.specs.World.{Up}
use Rattle.sm_model.specs.declared.event.Event.{Event}
use Rattle.sm_model.specs.declared.reply.Entry.{Entry}
use Rattle.sm_model.specs.World.{World, Deed}
use Rattle.sm_model.specs.InRange.{IsGiven}
use Rattle.sm_model.specs.LegalRun.{IsDeed, IsAsked, Fits, done, quiet, failed, down_still, restart_up, restart_before, restart_after, restart_failed_up, restart_failed}
use Rattle.sm_model.specs.Opened.{opened}
use Rattle.sm_model.specs.Sound.{SoundUp, Sound}
use Rattle.laws_copies.proofs.TagsStay as tags_stay
use Rattle.laws_copies.proofs.CopiesStay.{deeds_keep_copies, restarts_keep_copies}
use Rattle.laws_families.proofs.BlocksStay.{restarts_keep_family_blocks}
use Rattle.laws_families.proofs.BlocksSteps.{deeds_keep_family_blocks}
use Rattle.laws_form.proofs.FormedSteps.{deeds_keep_form, restarts_keep_form}
use Rattle.laws_copies.proofs.NumbersStay.{deeds_keep_numbers, restarts_keep_numbers}
use Rattle.laws_destinations.proofs.DestinationsStay.{deeds_keep_destinations, restarts_keep_destinations}
use Rattle.laws_destinations.proofs.TransfersStay.{deeds_keep_transfers, restarts_keep_transfers}
use Rattle.laws_crossed.proofs.CrossedStays.{deeds_keep_crossed, restarts_keep_crossed}
use Rattle.laws_legs.proofs.KeptStays.{deeds_keep_legs, restarts_keep_legs}
use Rattle.laws_families.proofs.OwnFamiliesStay.{deeds_keep_own_families, restarts_keep_own_families}
use Rattle.laws_legs.proofs.FitSteps.{deeds_keep_fit}
use Rattle.laws_legs.proofs.FitStays.{restarts_keep_fit}

pub deeds_keep_sound : (e : Event) (d : Deed) → SoundUp d.old → IsGiven e → IsDeed e d → SoundUp d.new
deeds_keep_sound e d s g i = record {
  formed = deeds_keep_form e d s g i;
  tags_fit = tags_stay.of_deed e d s i;
  copies_agree = deeds_keep_copies e d s i;
  families_agree = deeds_keep_family_blocks e d s i;
  crossed = deeds_keep_crossed e d s i;
  destinations_stand = deeds_keep_destinations e d s i;
  legs_fit = deeds_keep_fit e d s i;
  numbers_stand = deeds_keep_numbers e d s g i;
  families_stand = deeds_keep_own_families e d s i;
  legs_kept = deeds_keep_legs e d s i;
  transfers_stand = deeds_keep_transfers e d s i;
}

pub restarts_keep_sound : (w : Up) → SoundUp w → SoundUp (opened w)
restarts_keep_sound w s = record {
  formed = restarts_keep_form w s.formed;
  tags_fit = tags_stay.of_opened w s.tags_fit;
  copies_agree = restarts_keep_copies w s.copies_agree;
  families_agree = restarts_keep_family_blocks w s.families_agree;
  crossed = restarts_keep_crossed w s;
  destinations_stand = restarts_keep_destinations w s;
  legs_fit = restarts_keep_fit w s;
  numbers_stand = restarts_keep_numbers w s;
  families_stand = restarts_keep_own_families w s;
  legs_kept = restarts_keep_legs w s;
  transfers_stand = restarts_keep_transfers w s;
}

of_deed : (w : Up) (e : Event) (d : Deed) → d.old ≡ w → SoundUp w → IsGiven e → IsDeed e d → SoundUp d.new
of_deed w e d o s g i = deeds_keep_sound e d (subst SoundUp (sym o) s) g i

pub entries_keep_sound : (old new : World) (e : Entry) (sides left : List Side) (deeds : List Deed) → Sound old → IsAsked old e.event → Fits old e sides deeds new left → Sound new
entries_keep_sound old new e sides left deeds s a (done {w = w} d o x y z i) = of_deed w e.event d o s a.0 i
entries_keep_sound old new e sides left deeds s a (quiet q) = s
entries_keep_sound old new e sides left deeds s a (failed {w = w} d disk count o x y i c r) = (subst SoundUp (sym o) s, of_deed w e.event d o s a.0 i)
entries_keep_sound old new e sides left deeds s a (down_still n r) = s
entries_keep_sound old new e sides left deeds s a (restart_up {w = w} side i r) = restarts_keep_sound w s
entries_keep_sound old new e sides left deeds s a (restart_before {d = d} i r) = restarts_keep_sound d.old s.0
entries_keep_sound old new e sides left deeds s a (restart_after {d = d} i r) = restarts_keep_sound d.new s.1
entries_keep_sound old new e sides left deeds s a (restart_failed_up disk count i r) = (s, s)
entries_keep_sound old new e sides left deeds s a (restart_failed disk count i r) = s
