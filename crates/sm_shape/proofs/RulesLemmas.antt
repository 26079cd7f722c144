-- Snapshots of the world of maps have the identities of those of the definitions.
use Rattle.std.proofs.Common.{◌≡◌, ◌⊎◌, ◌↔◌, ℕ, zero, suc, ◌<◌, ◌≤◌, true, List, [], ◌∷◌, length, get_or, map, refl, sym, ap, ◌∙◌, inl, inr, arith}
use Rattle.std.specs.Prelude.{◌||◌, slice_index_or}
use Rattle.std.specs.List.{list_any}
use Rattle.std.proofs.lemmas.List.{get_or_default, get_or_past, length-map}
use Rattle.sm_base.specs.declared.numbers.Ident.{Ident}
use Rattle.sm_defs.specs.Words.{same_ident}
use Rattle.sm_defs.specs.Volume.{Volume, has, no_volume}
use Rattle.sm_defs.specs.Relationship.{Relationship, Policy, Transfer, is_mirror}
use Rattle.sm_defs.specs.World.{Up, volume_at, policy_at, no_policy}
use Rattle.sm_model.specs.Crossed.{CrossedRelation, CrossedTransfer, IsReservedLeg}
use Rattle.sm_model.specs.declared.world.WorldSnapshot.{WorldSnapshot}
use Rattle.sm_model.specs.declared.world.WorldVolume.{WorldVolume}
use Rattle.sm_shape.specs.Blank.{blank_snapshot, blank_volume}
use Rattle.sm_shape.specs.Rules.{PairFits, IsLegOf, TransferFits}
use Rattle.sm_shape.proofs.ListWords.{all_among, among_all}

pub has_blank : (ss : List WorldSnapshot) (i : Ident) → list_any (λ s. same_ident s.ident i) ss ≡ has (map blank_snapshot ss) i
has_blank [] i = refl
has_blank (s ∷ ss) i = ap (λ b. same_ident s.ident i || b) (has_blank ss i)

pub at_image : {X Y : Type 0} (f : X → Y) (xs : List X) (k : ℕ) (x : X) (d : Y) → k < length xs → x ≡ get_or xs k x → get_or (map f xs) k d ≡ f x
at_image f [] k x d lt is = absurd (omega arith)
at_image f (y ∷ xs) zero x d lt is = ap f (sym is)
at_image f (y ∷ xs) (suc k) x d lt is = at_image f xs k x d (omega arith) is

pub past_image : {X Y : Type 0} (f : X → Y) (xs : List X) (k : ℕ) (d : Y) → length xs ≤ k → get_or (map f xs) k d ≡ d
past_image f xs k d past = get_or_past (map f xs) k d (omega (arith, past, length-map xs f))

module _ (w : Up) (vs : List WorldVolume) (stands : w.volumes ≡ map blank_volume vs) (r : Relationship)
    (s d : WorldVolume) (p : Policy)
    (s_lt : r.source < length vs) (s_is : s ≡ get_or vs r.source s)
    (d_lt : r.destination < length vs) (d_is : d ≡ get_or vs r.destination d)
    (p_lt : r.policy < length w.policies) (p_is : p ≡ get_or w.policies r.policy p) where
  source_is : volume_at w r.source ≡ blank_volume s
  source_is = ap (λ l. slice_index_or l r.source no_volume) stands ∙ at_image blank_volume vs r.source s no_volume s_lt s_is

  destination_is : volume_at w r.destination ≡ blank_volume d
  destination_is = ap (λ l. slice_index_or l r.destination no_volume) stands ∙ at_image blank_volume vs r.destination d no_volume d_lt d_is

  policy_is : policy_at w r.policy ≡ p
  policy_is = get_or_default w.policies r.policy no_policy p p_lt ∙ sym p_is

  all_volumes : length w.volumes ≡ length vs
  all_volumes = ap (λ l. length l) stands ∙ length-map vs blank_volume

  pub pair_crossed : PairFits r s d p w.next_relation ↔ CrossedRelation w r
  pair_crossed = (
    λ f. record {
      source = omega (arith, all_volumes);
      destination = omega (arith, all_volumes);
      policy = p_lt;
      apart = f.0.0;
      counts = f.0.1;
      given = f.0.2;
      halves = λ half dp. f.1.0 half (sym (ap (λ (v : Volume). v.kind) destination_is) ∙ dp);
      base_at_source = λ i e half. ap (λ (v : Volume). has v.snapshots i) source_is ∙ f.1.1.0.0 i e half;
      base_at_destination = λ i e half. ap (λ (v : Volume). has v.snapshots i) destination_is ∙ f.1.1.0.1 i e half;
      logical = ap (λ (v : Volume). v.logical) source_is ∙ f.1.1.1.0 ∙ sym (ap (λ (v : Volume). v.logical) destination_is);
      physical = λ mirror. ap (λ (v : Volume). v.physical) source_is ∙ f.1.1.1.1 (sym (ap (λ (q : Policy). is_mirror q.kind) policy_is) ∙ mirror) ∙ sym (ap (λ (v : Volume). v.physical) destination_is);
    },
    λ c. (
      (c.apart, c.counts, c.given),
      (
        λ half dp. c.halves half (ap (λ (v : Volume). v.kind) destination_is ∙ dp),
        (
          (
            λ i e half. sym (ap (λ (v : Volume). has v.snapshots i) source_is) ∙ c.base_at_source i e half,
            λ i e half. sym (ap (λ (v : Volume). has v.snapshots i) destination_is) ∙ c.base_at_destination i e half,
          ),
          (
            sym (ap (λ (v : Volume). v.logical) source_is) ∙ c.logical ∙ ap (λ (v : Volume). v.logical) destination_is,
            λ mirror. sym (ap (λ (v : Volume). v.physical) source_is) ∙ c.physical (ap (λ (q : Policy). is_mirror q.kind) policy_is ∙ mirror) ∙ ap (λ (v : Volume). v.physical) destination_is,
          ),
        ),
      ),
    ),
  )

module _ (w : Up) (vs : List WorldVolume) (stands : w.volumes ≡ map blank_volume vs) (r : Relationship)
    (s : WorldVolume) (s_lt : r.source < length vs) (s_is : s ≡ get_or vs r.source s) where
  the_source : volume_at w r.source ≡ blank_volume s
  the_source = ap (λ l. slice_index_or l r.source no_volume) stands ∙ at_image blank_volume vs r.source s no_volume s_lt s_is

  leg_there : (t : Transfer) (i : Ident) → IsLegOf r t s i → (has (volume_at w r.source).snapshots i ≡ true) ⊎ IsReservedLeg r t i
  leg_there t i (inl there) = inl (ap (λ (v : Volume). has v.snapshots i) the_source ∙ there)
  leg_there t i (inr made) = inr made

  there_leg : (t : Transfer) (i : Ident) → (has (volume_at w r.source).snapshots i ≡ true) ⊎ IsReservedLeg r t i → IsLegOf r t s i
  there_leg t i (inl there) = inl (sym (ap (λ (v : Volume). has v.snapshots i) the_source) ∙ there)
  there_leg t i (inr made) = inr made

  pub transfer_crossed : (t : Transfer) → TransferFits r t s w.next_transfer ↔ CrossedTransfer w r t
  transfer_crossed t = (
    λ f. record {
      at_source = f.at_source;
      at_destination = f.at_destination;
      counts = f.counts;
      given = f.given;
      legs_differ = f.legs_differ;
      legs_at_source = λ i a. leg_there t i (all_among (IsLegOf r t s) t.legs f.legs_at_source i a);
    },
    λ c. record {
      at_source = c.at_source;
      at_destination = c.at_destination;
      counts = c.counts;
      given = c.given;
      legs_differ = c.legs_differ;
      legs_at_source = among_all (IsLegOf r t s) t.legs (λ i a. there_leg t i (c.legs_at_source i a));
    },
  )
