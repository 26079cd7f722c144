-- An event that is one call of one volume, which commits.
use Rattle.std.proofs.Common.{◌≡◌, ℕ, List, sym, subst}
use Rattle.std.specs.Prelude.{slice_get, slice_set, Option, Some, Result}
use Rattle.sm_base.specs.declared.numbers.DiskNo.{DiskNo}
use Rattle.sm_defs.specs.Volume.{Volume}
use Rattle.sm_disk.specs.Disk.{DiskState}
use Rattle.sm_model.specs.declared.reply.Reply.{Reply}
use Rattle.sm_model.specs.Answers.{Answer}
use Rattle.sm_catroot.specs.declared.placed.Placed.{Placed}
use Rattle.volume_store.specs.declared.faults.VolumeFault.{VolumeFault}
use Rattle.sm_node.specs.declared.fault.NodeFault.{NodeFault}
use Rattle.sm_node.specs.Seats.{Seated, moved}
use Rattle.sm_node.specs.Nodes.{Node, world_of}
use Rattle.sm_node.specs.Parts.{StandsUp}
use Rattle.sm_node.specs.Moves.{MovesOne, IsCommitCall, Matches}
use Rattle.sm_node.specs.Acts.{Acts}
use Rattle.sm_node.proofs.VolumeCalls.{commit_acts}

module _ {D : Type 0} (state : D → DiskState) (n : Node D) (h : StandsUp state n) (at : ℕ) (p : Placed) (place : slice_get n.root.held.volumes at ≡ Some p) (disk : DiskNo) (named : disk.0 ≡ p.disk.0) (R : Result Reply NodeFault) (news : List (Seated D)) where
  pub call_acts : (reply : Reply) (refusal : Volume → Option VolumeFault) (next : Volume → Volume) (a : Answer)
      → ((s : Seated D) → slice_get n.seats at ≡ Some s → Matches (world_of n) at p a (refusal s.volume.volume) reply (next s.volume.volume))
      → MovesOne state at (IsCommitCall state reply disk refusal next R) n.seats news
      → Acts state a n R (record n { seats = news })
  call_acts reply refusal next a matches moves =
      let s = moves.old in
      let d = moves.did in
      subst (λ (seats : List (Seated D)). Acts state a n R (record n { seats = seats })) (sym moves.is)
      (subst (λ (x : Result Reply NodeFault). Acts state a n x (record n { seats = slice_set n.seats at (moved s moves.new) })) (sym d.1)
      (commit_acts state n h at p s moves.new moves.was place (next s.volume.volume) (refusal s.volume.volume) reply disk a named (matches s moves.was) d.0 d.2 d.3))
