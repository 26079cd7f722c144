-- A volume's restart, as a turn of its seat.
use Rattle.std.proofs.Common.{◌≡◌, IsTrue, refl, sym, ◌∙◌, ap, subst, Some, None, arith}
use Rattle.std.specs.Prelude.{Option, option_map}
use Rattle.sm_base.specs.declared.numbers.Side.{Side}
use Rattle.sm_base.specs.declared.numbers.Side.TheVariants.{Before, After}
use Rattle.sm_defs.specs.Volume.{Volume}
use Rattle.sm_disk.specs.Disk.{DiskState, GoesOn, Steps, IsSynced}
use Rattle.sm_disk.proofs.Moments.{weaker}
use Rattle.sm_volume.specs.Mounted.{Mounted, opened, of_side, bare}
use Rattle.sm_volume.specs.Kept.{IsKept}
use Rattle.sm_volume.specs.Restarted.{IsRestarted, IsStillDown}
use Rattle.volume_store.specs.Held.{number_of}
use Rattle.sm_register.specs.Turned.{Turns, joined}
use Rattle.sm_node.specs.Turning.{VolumeTurns, IsBack, at_rest}
use Rattle.sm_seats.proofs.Lists.{one_value}
use Rattle.sm_node.proofs.Bare.{zeroed_by, rest_by}

-- a restart brings no image
pub no_more : (a b : DiskState) → Steps a b → IsSynced b → (IsTrue a.told → a.may_leave b.seen) → GoesOn a b a.may_leave
no_more a b steps synced image =
    weaker a b b.may_leave a.may_leave steps (λ c may. subst a.may_leave (sym (synced c may)) (image (subst IsTrue steps.told (b.only_told b.moment c (b.counts_now b.moment c (omega arith) may)))))

pub joined_none : (s : Side) → s ≡ joined s Before
joined_none Before = refl
joined_none After = refl

module _ {D : Type 0} (state : D → DiskState) (old new : Mounted D) (kept : IsKept state new) (steps : Steps (state old.disk) (state new.disk)) (synced : IsSynced (state new.disk))
    (image : IsTrue (state old.disk).told → (state old.disk).may_leave (state new.disk).seen) where
  read : (side : Side) (v : Volume) → of_side side old.volume old.after ≡ Some v → new.after ≡ None → (IsTrue (state old.disk).told → new.selected ≡ number_of side old.selected)
      → Turns side (IsTrue (state old.disk).told) old.selected old.after new.selected new.after
  read Before v is none selected = (selected, λ e. none)
  read After v is none selected = (λ e. (let g = sym e ∙ is in cc), none, selected)

  same_side : (side : Side) (v u : Volume) → of_side side old.volume old.after ≡ Some v → of_side side old.volume old.after ≡ Some u → v ≡ u
  same_side side v u e f = one_value (of_side side old.volume old.after) v u e f

  pub turns_ok : (side : Side) → IsRestarted state old side new → VolumeTurns state side old new
  turns_ok side h = record {
    kept = kept;
    number = ap (λ (x : Mounted D). x.number) h.2;
    goes = no_more (state old.disk) (state new.disk) steps synced image;
    turns = read side h.0 h.1 (ap (λ (x : Mounted D). x.after) h.2) h.5;
    volume = λ v e. rest_by new.volume (opened h.0) h.3 ∙ ap at_rest (same_side side h.0 v h.1 e);
    after = λ v e. absurd (let g = sym (ap (λ (x : Mounted D). x.after) h.2) ∙ e in cc);
  }

  pub is_back : (side : Side) → IsRestarted state old side new → IsBack state new
  is_back side h = record {
    up = ap (λ (x : Mounted D). x.up) h.2;
    opened = λ told.
        let same = h.4 (subst IsTrue steps.told told) in
        same ∙ sym (ap opened same);
    bare = zeroed_by new.volume (opened h.0) h.3 ∙ sym (rest_by new.volume (opened h.0) h.3);
    synced = synced;
  }

  none_mapped : (o : Option Volume) → option_map bare o ≡ None → o ≡ None
  none_mapped None e = refl
  none_mapped (Some v) e = absurd (cc)

  by_after : (o : Option Volume) (v : Volume) → option_map bare o ≡ Some (bare v) → (u : Volume) × (o ≡ Some u) × (at_rest v ≡ at_rest u)
  by_after None v e = absurd (cc)
  by_after (Some u) v e = let same : bare u ≡ bare v = cc in (u, refl, rest_by v u (sym same))

  pub turns_err : IsStillDown state old new → VolumeTurns state Before old new
  turns_err h = record {
    kept = kept;
    number = h.number;
    goes = no_more (state old.disk) (state new.disk) steps synced image;
    turns = (λ told. h.selected, λ e. none_mapped new.after (h.after ∙ ap (option_map bare) e));
    volume = λ v e. let same : old.volume ≡ v = cc in rest_by new.volume old.volume h.volume ∙ ap at_rest same;
    after = λ v e. by_after old.after v (sym h.after ∙ ap (option_map bare) e);
  }
