use Rattle.std.proofs.Common.{◌≡◌, ◌≤◌, ◌+◌, drop}
use Rattle.sm_select.specs.Planned.{missing_count}
use Rattle.sm_select.proofs.vault.count.Given as goal

abbrev pub invariant-loop-place : goal.invariant-loop-place
invariant-loop-place l = record {
  few : l.count ≤ l.place;
  rest : l.count + missing_count (drop l.place l.target) (drop l.place l.base) ≡ missing_count l.target l.base;
}
