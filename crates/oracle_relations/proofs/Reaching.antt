-- Which rule has no room, told by its label.
use Rattle.std.proofs.Common.{◌≡◌, ℕ, List, Option, Some, None, Ok, Err, refl, sym, ap}
use Rattle.std.proofs.lemmas.Option.{same_Some}
use Rattle.std.specs.Option.{option_map}
use Rattle.sm_base.specs.declared.refusal.Refusal.TheVariants as refusals
use Rattle.sm_defs.specs.Relationship.{Rule}
use Rattle.sm_model.specs.OfTransfers.{refused_rule}

pub no_rule : (o : Option Rule) → None ≡ option_map (λ (r : Rule). r.label) o → Ok tt ≡ refused_rule o
unfolding refused_rule
no_rule None e = refl
no_rule (Some r) e = absurd (cc)

pub some_rule : (o : Option Rule) (label : List ℕ) → Some label ≡ option_map (λ (r : Rule). r.label) o → Err (refusals.KeepReached label) ≡ refused_rule o
unfolding refused_rule
some_rule None label e = absurd (cc)
some_rule (Some r) label e = ap (λ l. Err (refusals.KeepReached l)) (same_Some label r.label e)
