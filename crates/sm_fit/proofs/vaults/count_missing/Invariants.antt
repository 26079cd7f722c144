use Rattle.std.proofs.Common.{◌≡◌, ◌≤◌, ◌+◌}
use Rattle.sm_fit.specs.Shipped.{vault_cost_of}
use Rattle.sm_fit.proofs.VaultLemmas.{missing_behind}
use Rattle.sm_fit.proofs.vaults.count_missing.Given as goal

-- those so far and those behind are all
abbrev pub invariant-loop-place : goal.invariant-loop-place
invariant-loop-place l = record {
  few : l.count ≤ l.place;
  counted : l.count + missing_behind l.leg l.base l.place ≡ vault_cost_of l.leg l.base;
}
