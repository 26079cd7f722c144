-- What is tested, in the words of the calls.
use Rattle.std.proofs.Common.{◌≡◌, ◌⊎◌, ℕ, ◌<◌, ◌≤◌, Bool, true, false, not, List, [], ◌∷◌, length, map, Some, inl, inr, ⊎_elim, refl, sym, ◌∙◌, ap, arith}
use Rattle.std.specs.Prelude.{slice_index_or, option_map, ◌==◌}
use Rattle.sm_base.specs.declared.numbers.Ident.{Ident}
use Rattle.sm_base.specs.declared.numbers.PolicyKind.{PolicyKind}
use Rattle.sm_bits.specs.Places.{has}
use Rattle.sm_defs.specs.Words.{same_ident}
use Rattle.sm_defs.specs.Image.{stands, tags}
use Rattle.sm_defs.specs.Relationship.{is_mirror}
use Rattle.sm_defs.specs.Volume.{Volume, Snapshot, images_of, tags_of}
use Rattle.sm_defs.specs.Volume as volumes
use Rattle.sm_defs.proofs.Searches.{find_any}
use Rattle.sm_relation.specs.declared.relation.Relation.{Relation}
use Rattle.sm_relation.specs.declared.relation.Standing.{Standing}
use Rattle.sm_relation.specs.Shown.{transfer_of, relationship_of}
use Rattle.sm_model.specs.Running.{Running}
use Rattle.sm_model.specs.LegsFit.{IsUnderWay}
use Rattle.volume_store.specs.Maps.{AreMapsOf}
use Rattle.volume_store.proofs.Used.{used_within}
use Rattle.sm_volume.specs.Numbers.{AreFreeOn, AreHeldOn}
use Rattle.sm_volume.proofs.SeenLemmas.{in_maps}
use Rattle.sm_transfer.specs.Beginning.{CanBegin}
use Rattle.sm_transfer.specs.Landing.{StandsBySnapshots}
use Rattle.sm_transfer.proofs.PlanningLemmas.{flat_tags}

-- each number up to the physical size is held or free
pub told_by_sets : (held space : List Bool) (v : Volume) → AreMapsOf v.logical v.physical (map tags (images_of v)) → AreHeldOn held v → AreFreeOn space v
    → ((k : ℕ) → 1 ≤ k → k < length held → (has held k ≡ true) ⊎ (has space k ≡ true)) → StandsBySnapshots v
told_by_sets held space v maps are_held are_free each = λ n one used.
    let within = used_within v.logical v.physical (map tags (images_of v)) n maps (sym (in_maps n (map tags (images_of v))) ∙ sym (ap (stands n) (flat_tags (images_of v))) ∙ used) in
    ⊎_elim (λ h. sym (are_held.each n one within) ∙ h) (λ f. let g : true ≡ false = sym f ∙ are_free.each n one within ∙ ap not used in absurd (cc)) (each n one (let long = are_held.long in omega (arith, long, within)))

nothing_shipped : (relation : Relation) (t : Standing) → t.checkpoint ≡ 0 → IsUnderWay (transfer_of [] false t) → ⊥
nothing_shipped relation t none (inl some) = some none
nothing_shipped relation t none (inr some) = some refl

-- a new transfer whose first leg is on the source
pub begins : (kind : PolicyKind) (relation : Relation) (t : Standing) (i : Ident) (later : List Ident) (s d : Volume) → relation.transfer ≡ Some t → t.checkpoint ≡ 0 → t.legs ≡ i ∷ later → volumes.has s.snapshots i ≡ true
    → s.logical ≡ d.logical → (is_mirror kind ≡ true → s.physical ≡ d.physical) → (x : Running) × (leg : Snapshot) × CanBegin kind relation s d x leg
begins kind relation t i later s d stands none legs there logical physical =
    let leg = find_any (λ (u : Snapshot). same_ident u.ident i) s.snapshots there in
    let x : Running = record { relation = relationship_of [] false relation; transfer = transfer_of [] false t; policy = record { name = []; kind = kind; rules = [] }; source = s; destination = d } in (
      x,
      leg.0,
      (
        record {
          of_relation = refl;
          transfer = ap (option_map (transfer_of [] false)) stands;
          policy = refl;
          of_source = refl;
          of_destination = refl;
        },
        record {
          first = i;
          later = later;
          legs = legs;
          leg_is = leg.1;
          logical = logical;
          physical = physical;
          fits = λ way. absurd (nothing_shipped relation t none way);
        },
      ),
    )

-- a list that is not empty by its length
pub first_of : (is : List Ident) (d : Ident) → (length is == 0) ≡ false → (later : List Ident) × (is ≡ slice_index_or is 0 d ∷ later)
first_of [] d some = let f : true ≡ false = some in absurd (cc)
first_of (i ∷ later) d some = (later, refl)
