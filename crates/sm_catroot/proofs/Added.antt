-- Reading the rules of a policy one after the other.
use Rattle.std.proofs.Common.{◌≡◌, ℕ, List, [], ◌∷◌, ◌++◌, Ok, Err, refl, ap, append_assoc}
use Rattle.std.specs.Prelude.{Option, Some, None, IfSome}
use Rattle.sm_defs.specs.Relationship.{Policy, Rule}
use Rattle.sm_defs.specs.Rules.{with_rule}
use Rattle.sm_fields.specs.Format.{in_turn}
use Rattle.sm_fields.specs.Place.{Place}
use Rattle.sm_fields.specs.Reading.{read}
use Rattle.sm_catroot.specs.Layout.{with_rules, next_rule, added}

pub added_fails : (p : Policy) (n : ℕ) (here : Place) (byte : Option ℕ) → IfSome byte (λ k. read (in_turn (next_rule p) [] n) here ≡ Err k) → IfSome byte (λ k. read (added p n) here ≡ Err k)
unfolding added
added_fails p n here None failed = tt
added_fails p n here (Some k) failed = rw failed refl

pub added_is : (p : Policy) (n : ℕ) (here after : Place) (rules : List Rule) → read (in_turn (next_rule p) [] n) here ≡ Ok (rules, after) → read (added p n) here ≡ Ok (with_rules p rules, after)
unfolding added
added_is p n here after rules is = rw is refl

pub one_more : (p : Policy) (before : List Rule) (r : Rule) → with_rule (with_rules p before) r ≡ with_rules p (before ++ r ∷ [])
one_more p before r = ap (λ (rules : List Rule). record p { rules = rules }) (append_assoc p.rules before (r ∷ []))
