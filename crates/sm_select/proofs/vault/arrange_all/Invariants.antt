use Rattle.std.proofs.Common.{◌≡◌, ◌≤◌, ◌++◌, drop, length}
use Rattle.sm_select.specs.Planned.{members, missing_count, paired, arranged}
use Rattle.sm_select.proofs.vault.arrange_all.Given as goal

abbrev pub invariant-loop-place : goal.invariant-loop-place
invariant-loop-place l = record {
  room : missing_count (drop l.place l.target) (drop l.place l.source) ≤ length (members l.space);
  pairs : l.plan.pairs ++ paired (drop l.place l.target) (drop l.place l.source) (members l.space) ≡ paired l.target l.source (members l.fn.space);
  map : l.plan.map ++ arranged (drop l.place l.target) (drop l.place l.source) (drop l.place l.destination) (members l.space) ≡ arranged l.target l.source l.destination (members l.fn.space);
}
