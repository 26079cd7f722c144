use Rattle.std.proofs.Common.{◌≡◌, true, take}
use Rattle.laws_volume.specs.Assigned.{plain, AssignsAll}
use Rattle.laws_volume.proofs.DoneLemmas.{WereMade}
use Rattle.laws_volume.proofs.performing.perform_all.Given as goal

abbrev pub invariant-loop-call : goal.invariant-loop-call
invariant-loop-call g l = record {
  up : l.v.up ≡ true;
  told : (g.D.Disk.state l.v.disk).told ≡ (g.D.Disk.state l.fn.v.disk).told;
  assigned : AssignsAll (g.D.Disk.state l.fn.v.disk).told (take l.call-index l.calls) (plain g.D.Disk.state l.fn.v) (plain g.D.Disk.state l.v);
  made : WereMade (g.D.Disk.state l.fn.v.disk).told (take l.call-index l.calls) (plain g.D.Disk.state l.fn.v) (plain g.D.Disk.state l.v);
}
