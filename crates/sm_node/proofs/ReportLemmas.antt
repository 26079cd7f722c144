-- The lines of the report that no device is asked for.
use Rattle.std.proofs.Common.{◌≡◌, ℕ, ◌==◌, Bool, true, false, cond, List, [], ◌∷◌, length, map, get_or, position, refl, sym, ap, ◌∙◌, Option, Some, None, Result, Ok, Err, IfOk, arith}
use Rattle.std.specs.Prelude.{slice_get, slice_index_or, option_map}
use Rattle.std.proofs.lemmas.Bool.Decides.{nat_tests}
use Rattle.std.proofs.lemmas.List.{length-map}
use Rattle.std.proofs.lemmas.Option.{get_or_from_slice_get, slice_get_read}
use Rattle.sm_defs.specs.Volume.{no_volume}
use Rattle.sm_defs.specs.Words.{Among, Found, found, next_place}
use Rattle.sm_defs.specs.Relationship.{Policy, Relationship}
use Rattle.sm_defs.specs.World.{Up, no_policy}
use Rattle.sm_defs.proofs.Members.{from_map}
use Rattle.sm_defs.proofs.Searches.{found_by_position, none_by_position, found_none}
use Rattle.sm_model.specs.Answers.{relno}
use Rattle.sm_catroot.specs.declared.placed.Placed.{Placed}
use Rattle.sm_catroot.specs.Catalog.{Catalog}
use Rattle.sm_relation.specs.declared.relation.Relation.{Relation}
use Rattle.sm_model.specs.declared.reply.Line.{Line}
use Rattle.sm_model.specs.declared.reply.Line.TheVariants as lines
use Rattle.sm_model.specs.declared.reply.Condition.{Condition}
use Rattle.sm_model.specs.declared.reply.Course.{Course}
use Rattle.sm_model.specs.OfReport.{head_line, relation_line, condition, course, numbered}
use Rattle.sm_node.specs.Seats.{Seated}
use Rattle.sm_node.specs.Nodes.{world_with, stopped_relation}
use Rattle.sm_node.proofs.PlacedLemmas.{all_long, path_placed}

pub head_is : {D : Type 0} (k : Catalog) (seats : List (Seated D)) (lengths : List ℕ) (volumes relations policies clock : ℕ) → length k.volumes ≡ length seats
    → volumes ≡ length k.volumes → relations ≡ length k.relations → policies ≡ length k.policies → clock ≡ k.clock → lines.Head volumes relations policies clock ≡ head_line (world_with k seats lengths)
head_is k seats lengths volumes relations policies clock many v r p c =
    let all_volumes = v ∙ sym (all_long k.volumes seats many) in
    let all_relations = r ∙ sym (length-map k.relations stopped_relation) in
    ap (λ (n : ℕ). lines.Head n relations policies clock) all_volumes
    ∙ ap (λ (n : ℕ). lines.Head (length (world_with k seats lengths).volumes) n policies clock) all_relations
    ∙ ap (λ (n : ℕ). lines.Head (length (world_with k seats lengths).volumes) (length (world_with k seats lengths).relations) n clock) p
    ∙ ap (λ (n : ℕ). lines.Head (length (world_with k seats lengths).volumes) (length (world_with k seats lengths).relations) (length k.policies) n) c

pub relation_is : {D : Type 0} (k : Catalog) (seats : List (Seated D)) (lengths : List ℕ) (r : Relation) (from to : Placed) (policy : Policy) (source destination name : List ℕ) (state : Option Condition) (transfer : Option Course) → length k.volumes ≡ length seats
    → slice_get k.volumes r.source.0 ≡ Some from → slice_get k.volumes r.destination.0 ≡ Some to → slice_get k.policies r.policy ≡ Some policy
    → source ≡ from.path → destination ≡ to.path → name ≡ policy.name
    → state ≡ condition (world_with k seats lengths) (stopped_relation r) → transfer ≡ course (stopped_relation r).transfer
    → lines.Relationship r.number source destination name state r.base transfer ≡ relation_line (world_with k seats lengths) (stopped_relation r)
relation_is k seats lengths r from to policy source destination name state transfer many is_from is_to is_policy f t n s c =
    let w = world_with k seats lengths in
    let g = stopped_relation r in
    let first = f ∙ sym (path_placed k.volumes seats r.source.0 from many is_from) in
    let second = t ∙ sym (path_placed k.volumes seats r.destination.0 to many is_to) in
    let third = n ∙ sym (ap (λ (p : Policy). p.name) (get_or_from_slice_get k.policies r.policy policy no_policy is_policy)) in
    let l : List ℕ → List ℕ → List ℕ → Option Condition → Option Course → Line = λ a b p x y. lines.Relationship r.number a b p x r.base y in
    ap (λ a. l a destination name state transfer) first
    ∙ ap (λ b. l (slice_index_or w.volumes r.source.0 no_volume).path b name state transfer) second
    ∙ ap (λ p. l (slice_index_or w.volumes r.source.0 no_volume).path (slice_index_or w.volumes r.destination.0 no_volume).path p state transfer) third
    ∙ ap (λ x. l (slice_index_or w.volumes r.source.0 no_volume).path (slice_index_or w.volumes r.destination.0 no_volume).path (slice_index_or k.policies r.policy no_policy).name x transfer) s
    ∙ ap (λ y. l (slice_index_or w.volumes r.source.0 no_volume).path (slice_index_or w.volumes r.destination.0 no_volume).path (slice_index_or k.policies r.policy no_policy).name (condition w g) y) c

-- ---- the relationship of a number

through : {X Y : Type 0} → (X → Y) → Found X → Found Y
through f g = record { at = g.at; item = f g.item }

next_through : {X Y : Type 0} (f : X → Y) (o : Option (Found X)) → next_place (option_map (through f) o) ≡ option_map (through f) (next_place o)
unfolding through
next_through f None = refl
next_through f (Some g) = refl

through_by : {X Y : Type 0} (f : X → Y) (b : Bool) (x : X) (o : Option (Found X)) (q : Option (Found Y)) → q ≡ option_map (through f) o
    → cond b (Some (record { at = 0; item = f x })) (next_place q) ≡ option_map (through f) (cond b (Some (record { at = 0; item = x })) (next_place o))
unfolding through
through_by f true x o q e = refl
through_by f false x o q e = ap next_place e ∙ next_through f o

found_mapped : {X Y : Type 0} (f : X → Y) (p : Y → Bool) (xs : List X) → found p (map f xs) ≡ option_map (through f) (found (λ x. p (f x)) xs)
found_mapped f p [] = refl
found_mapped f p (x ∷ xs) = through_by f (p (f x)) x (found (λ y. p (f y)) xs) (found p (map f xs)) (found_mapped f p xs)

module _ (number : ℕ) (rs : List Relation) where
  numbered_so : Relation → Bool
  numbered_so r = r.number.0 == number

  pub relation_at_place : (w : Up) → w.relations ≡ map stopped_relation rs → (at : ℕ) (r : Relation) → position (λ (q : Relation). q.number.0 == number) rs ≡ Some at → slice_get rs at ≡ Some r → numbered w (relno number) ≡ stopped_relation r
  unfolding through
  relation_at_place w is at r e there =
      let found_here = (found_by_position (λ (q : Relation). q.number.0 == number) rs at r e).0 in
      let item = get_or_from_slice_get rs at r r there in
      let f : found (λ (q : Relationship). q.number == number) w.relations ≡ Some (record { at = at; item = stopped_relation r }) =
      ap (found (λ (q : Relationship). q.number == number)) is ∙ found_mapped stopped_relation (λ (q : Relationship). q.number == number) rs
      ∙ ap (option_map (through stopped_relation)) (found_here ∙ ap (λ (x : Relation). let g : Found Relation = record { at = at; item = x } in Some g) item) in
      rw f refl

  pub relation_stands : (at : ℕ) (r : Relation) → position (λ (q : Relation). q.number.0 == number) rs ≡ Some at → r ≡ get_or rs at r → slice_get rs at ≡ Some r
  relation_stands at r e is = slice_get_read rs _ at r refl (found_by_position (λ (q : Relation). q.number.0 == number) rs at r e).1 is

  equal_self : (n : ℕ) → n ≡ number → (n == number) ≡ true
  equal_self n e = grind (arith, nat_tests)

  pub relation_missing : position (λ (q : Relation). q.number.0 == number) rs ≡ None → (r : Relationship) → Among (map stopped_relation rs) r → r.number ≡ number → ⊥
  relation_missing e r a n =
      let x = from_map stopped_relation rs r a in
      let no = found_none (λ (q : Relation). q.number.0 == number) rs x.0 (none_by_position (λ (q : Relation). q.number.0 == number) rs e) x.1 in
      let yes = equal_self x.0.number.0 (ap (λ (q : Relationship). q.number) (sym x.2) ∙ n) in
      absurd (let both : true ≡ false = sym yes ∙ no in cc)

-- ---- from the catalogue and the seats at hand to the node's

pub ok_all : {A E I : Type 0} (r : Result A E) (P Q : A → I → Type 0) → IfOk r (λ x. (i : I) → P x i) → ((x : A) (i : I) → P x i → Q x i) → IfOk r (λ x. (i : I) → Q x i)
ok_all (Ok x) P Q h so = λ i. so x i (h i)
ok_all (Err e) P Q h so = tt
