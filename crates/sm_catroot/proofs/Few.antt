-- Counts that a catalogue keeps within their limits.
use Rattle.std.proofs.Common.{ℕ}
use Rattle.std.specs.Prelude.{All, Option, Some, None, IfSome, slice_index_or}
use Rattle.sm_defs.proofs.Members.{among_get_or}
use Rattle.sm_relation.specs.declared.relation.Standing.{Standing}
use Rattle.sm_catroot.specs.Catalog.{Catalog}
use Rattle.sm_catroot.specs.Condition.{HasFewRules, HasFewLegs, IsTransfer, IsCatalog}

pub rules_few : (k : Catalog) → IsCatalog k → All HasFewRules k.policies
rules_few k is i d lt = (is.policies (slice_index_or k.policies i d) (among_get_or k.policies i d lt)).few

few_if : (source : ℕ) (o : Option Standing) → IfSome o (IsTransfer source) → IfSome o HasFewLegs
few_if source None is = tt
few_if source (Some t) is = is.few

pub legs_few : (k : Catalog) → IsCatalog k → All (λ r. IfSome r.transfer HasFewLegs) k.relations
legs_few k is i d lt =
    let r = slice_index_or k.relations i d in
    few_if r.source.0 r.transfer (is.relations r (among_get_or k.relations i d lt)).transfer
