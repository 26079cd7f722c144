-- The destinations of a catalogue's relationships, and the edges that would close a walk.
use Rattle.std.proofs.Common.{◌≡◌, ℕ, ◌==◌, Bool, true, false, cond, List, [], ◌∷◌, map, refl, sym, ◌∙◌, ap, Option, Some, None, arith}
use Rattle.std.specs.Prelude.{◌||◌}
use Rattle.std.specs.List.{find}
use Rattle.std.proofs.lemmas.Bool.Decides.{nat_tests}
use Rattle.sm_base.specs.declared.numbers.RelNo.{RelNo}
use Rattle.sm_defs.specs.Edges.{Edge, upstream}
use Rattle.sm_defs.specs.Relationship.{Relationship}
use Rattle.sm_defs.specs.Words.{Found, found, next_place}
use Rattle.sm_relation.specs.declared.relation.Relation.{Relation}
use Rattle.sm_model.specs.Answers.{goes_to}
use Rattle.sm_model.specs.OfRelations.{already, closes}
use Rattle.sm_node.specs.Nodes.{stopped_relation}
use Rattle.sm_events.specs.Relating.{already_by, goes_there}

same_either : (m n : ℕ) → (m == n) ≡ (n == m)
same_either m n = grind (arith, nat_tests)

pub closes_as : (es fs : List Edge) (source destination : ℕ) → es ≡ fs → ((destination == source) || upstream fs destination source) ≡ closes es source destination
closes_as es fs source destination same =
    ap (λ b. b || upstream fs destination source) (same_either destination source) ∙ ap (λ gs. (source == destination) || upstream gs destination source) (sym same)

-- ---- destinations

abbrev pub number_found : Option Relation → Option RelNo
number_found None = None
number_found (Some r) = Some r.number

behind : (o : Option (Found Relationship)) → already (next_place o) ≡ already o
unfolding already
behind None = refl
behind (Some f) = refl

first_by : (b : Bool) (r : Relation) (o : Option (Found Relationship)) (p : Option Relation) → already o ≡ already_by (number_found p)
    → already (cond b (Some (record { at = 0; item = stopped_relation r })) (next_place o)) ≡ already_by (number_found (cond b (Some r) p))
unfolding already already_by
first_by true r o p e = refl
first_by false r o p e = behind o ∙ e

pub already_found : (number : ℕ) (rs : List Relation) → already (found (goes_to number) (map stopped_relation rs)) ≡ already_by (number_found (find (goes_there number) rs))
unfolding already already_by
already_found number [] = refl
already_found number (r ∷ rs) = first_by (goes_there number r) r (found (goes_to number) (map stopped_relation rs)) (find (goes_there number) rs) (already_found number rs)
