-- What is decided of two volumes that are to be related is what the definitions answer.
use Rattle.std.proofs.Common.{◌≡◌, ℕ, suc, ◌==◌, Bool, true, false, List, [], ◌∷◌, length, refl, sym, ◌∙◌, ap, Option, Some, None, Result, Ok, Err}
use Rattle.std.specs.Prelude.{◌||◌}
use Rattle.std.specs.Str.{bytes_eq}
use Rattle.std.proofs.lemmas.List.{length-map, map-append}
use Rattle.sm_base.specs.declared.limits.TheConstants.{MOST_RELATIONS, LAST_RELATION}
use Rattle.sm_base.specs.declared.refusal.What.TheVariants.{Relations}
use Rattle.sm_base.specs.declared.refusal.Refusal.{Refusal}
use Rattle.sm_base.specs.declared.refusal.Refusal.TheVariants as refusals
use Rattle.sm_defs.specs.Edges as edges
use Rattle.sm_defs.specs.Relationship.{Policy, Relationship}
use Rattle.sm_defs.specs.Volume.{Volume, no_volume}
use Rattle.sm_defs.specs.Words.{Found, found}
use Rattle.sm_defs.specs.World.{Up, volume_at, policy_at, no_policy}
use Rattle.sm_defs.proofs.Searches.{found_at}
use Rattle.sm_model.specs.declared.reply.Reply.{Reply}
use Rattle.sm_model.specs.declared.reply.Reply.TheVariants as replies
use Rattle.sm_model.specs.Answers.{Answer, told, and_then, refused_if, some_or, goes_to, relno}
use Rattle.sm_model.specs.OfRelations as answers
use Rattle.sm_catroot.specs.Catalog.{Catalog}
use Rattle.sm_node.specs.Nodes.{Node, world_of, stopped_relation}
use Rattle.sm_events.specs.Deciding.{answer_by}
use Rattle.sm_events.specs.Relating.{new_relation, with_new_relation, are_full, related_at, related}

module _ {D : Type 0} (n : Node D) where
  abbrev k : Catalog
  k = n.root.held

  abbrev w : Up
  w = world_of n

  abbrev reply : Reply
  reply = replies.Related (relno n.root.held.next_relation)

  abbrev done : Up → Answer
  done x = Ok (record { reply = told reply; world = x })

  -- the world with a further relationship is that of the catalogue with it
  done_with : (s d p : ℕ) → done (answers.with_new_relation w s d p) ≡ answer_by n reply (Ok (with_new_relation k s d p))
  done_with s d p =
      ap (λ (rs : List Relationship). done (record w { next_relation = suc k.next_relation; relations = rs })) (sym (map-append stopped_relation k.relations (new_relation k.next_relation s d p ∷ [])))

  full_is : ((length w.relations == MOST_RELATIONS) || (w.next_relation == LAST_RELATION)) ≡ are_full k
  full_is = ap (λ (l : ℕ). (l == MOST_RELATIONS) || (k.next_relation == LAST_RELATION)) (length-map k.relations stopped_relation)

  by_tests : (r : Result (Unit {0}) Refusal) (b c d : Bool) (a : Answer) (next : Catalog) → a ≡ answer_by n reply (Ok next) →
      and_then r (λ _. and_then (refused_if b refusals.SizeMismatch) (λ _. and_then (refused_if c refusals.Cycle) (λ _. and_then (refused_if d (refusals.Full Relations)) (λ _. a))))
      ≡ answer_by n reply (and_then (and_then r (λ _. and_then (refused_if b refusals.SizeMismatch) (λ _. and_then (refused_if c refusals.Cycle) (λ _. refused_if d (refusals.Full Relations))))) (λ _. Ok next))
  unfolding and_then refused_if
  by_tests (Err g) b c d a next is = refl
  by_tests (Ok u) true c d a next is = refl
  by_tests (Ok u) false true d a next is = refl
  by_tests (Ok u) false false true a next is = refl
  by_tests (Ok u) false false false a next is = is

  abbrev behind : Found Volume → Found Volume → Found Policy → Answer
  behind s d p =
      and_then (answers.already (found (goes_to d.at) w.relations)) (λ _. and_then (refused_if (answers.sizes_differ p.item s.item d.item) refusals.SizeMismatch) (λ _. and_then (refused_if (answers.closes (edges.edges w) s.at d.at) refusals.Cycle) (λ _.
      and_then (refused_if ((length w.relations == MOST_RELATIONS) || (w.next_relation == LAST_RELATION)) (refusals.Full Relations)) (λ _. done (answers.with_new_relation w s.at d.at p.at)))))

  at_ends : (s d : Found Volume) (p : Found Policy) → volume_at w s.at ≡ s.item → volume_at w d.at ≡ d.item → policy_at w p.at ≡ p.item → behind s d p ≡ answer_by n reply (related_at k w s.at d.at p.at)
  unfolding and_then refused_if answers.already
  at_ends s d p is_s is_d is_p =
      let next = with_new_relation k s.at d.at p.at in
      let r = answers.already (found (goes_to d.at) w.relations) in
      let c = answers.closes (edges.edges w) s.at d.at in
      let test : Bool → Bool → Result (Unit {0}) Refusal = λ b f. and_then r (λ _. and_then (refused_if b refusals.SizeMismatch) (λ _. and_then (refused_if c refusals.Cycle) (λ _. refused_if f (refusals.Full Relations)))) in
      by_tests r (answers.sizes_differ p.item s.item d.item) c ((length w.relations == MOST_RELATIONS) || (w.next_relation == LAST_RELATION)) (done (answers.with_new_relation w s.at d.at p.at)) next (done_with s.at d.at p.at)
      ∙ ap (λ f. answer_by n reply (and_then (test (answers.sizes_differ p.item s.item d.item) f) (λ _. Ok next))) full_is
      ∙ sym (ap (λ (q : Policy). answer_by n reply (and_then (test (answers.sizes_differ q (volume_at w s.at) (volume_at w d.at)) (are_full k)) (λ _. Ok next))) is_p
      ∙ ap (λ (v : Volume). answer_by n reply (and_then (test (answers.sizes_differ p.item v (volume_at w d.at)) (are_full k)) (λ _. Ok next))) is_s
      ∙ ap (λ (v : Volume). answer_by n reply (and_then (test (answers.sizes_differ p.item s.item v) (are_full k)) (λ _. Ok next))) is_d)

  by_policy : (policy : List ℕ) (s d : Found Volume) → volume_at w s.at ≡ s.item → volume_at w d.at ≡ d.item → (o : Option (Found Policy)) → found (λ (p : Policy). bytes_eq p.name policy) w.policies ≡ o
      → and_then (some_or (refusals.NoPolicy policy) o) (λ p. behind s d p) ≡ answer_by n reply (and_then (some_or (refusals.NoPolicy policy) o) (λ p. related_at k w s.at d.at p.at))
  unfolding and_then some_or
  by_policy policy s d is_s is_d None e = refl
  by_policy policy s d is_s is_d (Some p) e = at_ends s d p is_s is_d (found_at (λ (q : Policy). bytes_eq q.name policy) w.policies p no_policy e)

  by_destination : (destination policy : List ℕ) (s : Found Volume) → volume_at w s.at ≡ s.item → (o : Option (Found Volume)) → found (λ (v : Volume). bytes_eq v.path destination) w.volumes ≡ o
      → and_then (some_or (refusals.NoVolume destination) o) (λ d. and_then (some_or (refusals.NoPolicy policy) (found (λ (p : Policy). bytes_eq p.name policy) w.policies)) (λ p. behind s d p))
      ≡ answer_by n reply (and_then (some_or (refusals.NoVolume destination) o) (λ d. and_then (some_or (refusals.NoPolicy policy) (found (λ (p : Policy). bytes_eq p.name policy) w.policies)) (λ p. related_at k w s.at d.at p.at)))
  unfolding and_then some_or
  by_destination destination policy s is_s None e = refl
  by_destination destination policy s is_s (Some d) e =
      by_policy policy s d is_s (found_at (λ (v : Volume). bytes_eq v.path destination) w.volumes d no_volume e) (found (λ (p : Policy). bytes_eq p.name policy) w.policies) refl

  by_source : (source destination policy : List ℕ) (o : Option (Found Volume)) → found (λ (v : Volume). bytes_eq v.path source) w.volumes ≡ o
      → and_then (some_or (refusals.NoVolume source) o) (λ s. and_then (some_or (refusals.NoVolume destination) (found (λ (v : Volume). bytes_eq v.path destination) w.volumes)) (λ d.
      and_then (some_or (refusals.NoPolicy policy) (found (λ (p : Policy). bytes_eq p.name policy) w.policies)) (λ p. behind s d p)))
      ≡ answer_by n reply (and_then (some_or (refusals.NoVolume source) o) (λ s. and_then (some_or (refusals.NoVolume destination) (found (λ (v : Volume). bytes_eq v.path destination) w.volumes)) (λ d.
      and_then (some_or (refusals.NoPolicy policy) (found (λ (p : Policy). bytes_eq p.name policy) w.policies)) (λ p. related_at k w s.at d.at p.at))))
  unfolding and_then some_or
  by_source source destination policy None e = refl
  by_source source destination policy (Some s) e =
      by_destination destination policy s (found_at (λ (v : Volume). bytes_eq v.path source) w.volumes s no_volume e) (found (λ (v : Volume). bytes_eq v.path destination) w.volumes) refl

  pub relate_answers : (source destination policy : List ℕ) → answers.relate w source destination policy ≡ answer_by n reply (related k w source destination policy)
  unfolding and_then
  relate_answers source destination policy = by_source source destination policy (found (λ (v : Volume). bytes_eq v.path source) w.volumes) refl
