-- How what is decided of two volumes comes from the tests of the code.
use Rattle.std.proofs.Common.{◌≡◌, ℕ, ◌==◌, Bool, true, false, not, List, position, refl, sym, ap, ◌∙◌, Option, Some, None, Result, Ok, Err}
use Rattle.std.specs.Prelude.{◌||◌, ◌&&◌}
use Rattle.std.specs.Str.{bytes_eq}
use Rattle.sm_base.specs.declared.numbers.PolicyKind.{PolicyKind}
use Rattle.sm_base.specs.declared.numbers.RelNo.{RelNo}
use Rattle.sm_base.specs.declared.refusal.What.TheVariants.{Relations}
use Rattle.sm_base.specs.declared.refusal.Refusal.{Refusal}
use Rattle.sm_base.specs.declared.refusal.Refusal.TheVariants as refusals
use Rattle.sm_defs.specs.Edges as edges
use Rattle.sm_defs.specs.Relationship.{Policy, is_mirror}
use Rattle.sm_defs.specs.Volume.{Volume}
use Rattle.sm_defs.specs.Words.{Found, found}
use Rattle.sm_defs.specs.World.{Up, volume_at, policy_at, no_policy}
use Rattle.sm_defs.proofs.Searches.{found_by_position, none_by_position}
use Rattle.sm_model.specs.Answers.{and_then, refused_if, some_or, goes_to, volume_named, policy_named}
use Rattle.sm_model.specs.OfRelations.{already, sizes_differ, closes}
use Rattle.sm_catroot.specs.Catalog.{Catalog}
use Rattle.sm_events.specs.Relating.{already_by, are_full, relation_test, related_at, related, with_new_relation}

pub sizes_are : (kind other : PolicyKind) (a b c d e f g h : ℕ) → kind ≡ other → a ≡ e → b ≡ f → c ≡ g → d ≡ h → (not (a == b) || (is_mirror kind && not (c == d))) ≡ (not (e == f) || (is_mirror other && not (g == h)))
sizes_are kind other a b c d e f g h same i j k l = rw (same, i, j, k, l) refl

-- ---- the tests, one after the other

module _ (k : Catalog) (w : Up) (source destination policy : ℕ) where
  test : Result (Unit {0}) Refusal → Bool → Bool → Bool → Result (Unit {0}) Refusal
  test r a b c = and_then r (λ _. and_then (refused_if a refusals.SizeMismatch) (λ _. and_then (refused_if b refusals.Cycle) (λ _. refused_if c (refusals.Full Relations))))

  tested : (r : Result (Unit {0}) Refusal) (a b c : Bool) → already (found (goes_to destination) w.relations) ≡ r → sizes_differ (policy_at w policy) (volume_at w source) (volume_at w destination) ≡ a
      → closes (edges.edges w) source destination ≡ b → are_full k ≡ c → relation_test k w source destination policy ≡ test r a b c
  unfolding test
  tested r a b c e f g h =
      ap (λ x. test x (sizes_differ (policy_at w policy) (volume_at w source) (volume_at w destination)) (closes (edges.edges w) source destination) (are_full k)) e
      ∙ ap (λ x. test r x (closes (edges.edges w) source destination) (are_full k)) f
      ∙ ap (λ x. test r a x (are_full k)) g
      ∙ ap (λ x. test r a b x) h

  pub follows_one : (o : Option RelNo) (number : RelNo) → already (found (goes_to destination) w.relations) ≡ already_by o → o ≡ Some number → Err (refusals.AlreadyDestination number) ≡ relation_test k w source destination policy
  unfolding and_then already_by test
  follows_one o number e is = sym (tested (Err (refusals.AlreadyDestination number)) _ _ _ (e ∙ ap already_by is) refl refl refl)

  module _ (o : Option RelNo) (free : already (found (goes_to destination) w.relations) ≡ already_by o) (none : o ≡ None) where
    free_is : already (found (goes_to destination) w.relations) ≡ Ok tt
    unfolding already_by
    free_is = free ∙ ap already_by none

    pub other_sizes : sizes_differ (policy_at w policy) (volume_at w source) (volume_at w destination) ≡ true → Err refusals.SizeMismatch ≡ relation_test k w source destination policy
    unfolding and_then refused_if test
    other_sizes e = sym (tested (Ok tt) true _ _ free_is e refl refl)

    module _ (same : sizes_differ (policy_at w policy) (volume_at w source) (volume_at w destination) ≡ false) where
      pub a_cycle : closes (edges.edges w) source destination ≡ true → Err refusals.Cycle ≡ relation_test k w source destination policy
      unfolding and_then refused_if test
      a_cycle e = sym (tested (Ok tt) false true _ free_is same e refl)

      module _ (apart : closes (edges.edges w) source destination ≡ false) where
        pub all_full : are_full k ≡ true → Err (refusals.Full Relations) ≡ relation_test k w source destination policy
        unfolding and_then refused_if test
        all_full e = sym (tested (Ok tt) false false true free_is same apart e)

        pub all_passed : are_full k ≡ false → Ok tt ≡ relation_test k w source destination policy
        unfolding and_then refused_if test
        all_passed e = sym (tested (Ok tt) false false false free_is same apart e)

  -- ---- the decision

  pub test_refuses : (t : Result (Unit {0}) Refusal) (g : Refusal) → t ≡ relation_test k w source destination policy → t ≡ Err g → Err g ≡ related_at k w source destination policy
  unfolding and_then
  test_refuses t g e is = sym (ap (λ (r : Result (Unit {0}) Refusal). and_then r (λ _. Ok (with_new_relation k source destination policy))) (sym e ∙ is))

  pub test_allows : (t : Result (Unit {0}) Refusal) (u : Unit {0}) (next : Catalog) → t ≡ relation_test k w source destination policy → t ≡ Ok u → next ≡ with_new_relation k source destination policy → Ok next ≡ related_at k w source destination policy
  unfolding and_then
  test_allows t u next e is same =
      ap (λ (j : Catalog). let d : Result Catalog Refusal = Ok j in d) same
      ∙ sym (ap (λ (r : Result (Unit {0}) Refusal). and_then r (λ _. Ok (with_new_relation k source destination policy))) (sym e ∙ is))

-- ---- the names

module _ (k : Catalog) (w : Up) (source destination policy : List ℕ) where
  at_policy : Found Volume → Found Volume → Result (Found Policy) Refusal → Result Catalog Refusal
  at_policy s d r = and_then r (λ p. related_at k w s.at d.at p.at)

  at_destination : Found Volume → Result (Found Volume) Refusal → Result Catalog Refusal
  at_destination s r = and_then r (λ d. at_policy s d (policy_named w policy))

  at_source : Result (Found Volume) Refusal → Result Catalog Refusal
  at_source r = and_then r (λ s. at_destination s (volume_named w destination))

  pub no_source : (g : Refusal) → volume_named w source ≡ Err g → Err g ≡ related k w source destination policy
  unfolding and_then at_source at_destination at_policy
  no_source g e = sym (ap at_source e)

  module _ (s : Found Volume) (is_source : volume_named w source ≡ Ok s) where
    pub no_destination : (g : Refusal) → volume_named w destination ≡ Err g → Err g ≡ related k w source destination policy
    unfolding and_then at_source at_destination at_policy
    no_destination g e = sym (ap at_source is_source ∙ ap (at_destination s) e)

    module _ (d : Found Volume) (is_destination : volume_named w destination ≡ Ok d) where
      pub none_named : position (λ (p : Policy). bytes_eq p.name policy) w.policies ≡ None → Err (refusals.NoPolicy policy) ≡ related k w source destination policy
      unfolding and_then some_or at_source at_destination at_policy
      none_named e =
          sym (ap at_source is_source ∙ ap (at_destination s) is_destination
          ∙ ap (λ o. at_policy s d (some_or (refusals.NoPolicy policy) o)) (none_by_position (λ (p : Policy). bytes_eq p.name policy) w.policies e))

      pub all_named : (at : ℕ) → position (λ (p : Policy). bytes_eq p.name policy) w.policies ≡ Some at → related_at k w s.at d.at at ≡ related k w source destination policy
      unfolding and_then some_or at_source at_destination at_policy
      all_named at e =
          sym (ap at_source is_source ∙ ap (at_destination s) is_destination
          ∙ ap (λ o. at_policy s d (some_or (refusals.NoPolicy policy) o)) (found_by_position (λ (p : Policy). bytes_eq p.name policy) w.policies at no_policy e).0)
