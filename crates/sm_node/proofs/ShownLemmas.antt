-- An event that tells something of the node and leaves it.
use Rattle.std.proofs.Common.{◌≡◌, ℕ, List, map, refl, sym, ap, subst, Ok, Err}
use Rattle.sm_base.specs.declared.refusal.Refusal.{Refusal}
use Rattle.sm_defs.specs.Volume.{Volume}
use Rattle.sm_defs.specs.World.{Up}
use Rattle.sm_disk.specs.Disk.{DiskState}
use Rattle.sm_model.specs.declared.reply.Reply.{Reply}
use Rattle.sm_model.specs.declared.reply.Reply.TheVariants as replies
use Rattle.sm_model.specs.declared.reply.Line.{Line}
use Rattle.sm_model.specs.Answers.{Answer, told, and_then, volume_named, volno}
use Rattle.sm_model.specs.OfReport.{show_snapshots, listed_line}
use Rattle.sm_node.specs.Nodes.{Node, world_of}
use Rattle.sm_node.specs.Parts.{devices, StandsUp}
use Rattle.sm_node.specs.Acts.{Acts, GoesThrough}
use Rattle.sm_node.proofs.ButBytesLemmas.{reply_itself}
use Rattle.sm_node.proofs.BlockLemmas.{none_changed}
use Rattle.sm_node.proofs.SeatLemmas.{parts_now}

pub shown : {D : Type 0} (state : D → DiskState) (n : Node D) → StandsUp state n → (a : Answer) (reply : Reply) → a ≡ Ok (record { reply = told reply; world = world_of n }) → Acts state a n (Ok reply) n
shown state n h a reply is = subst (λ (b : Answer). Acts state b n (Ok reply) n) (sym is) (record {
  up = h.up;
  answered = λ told. (refl, refl);
  without_bytes = (reply_itself reply, refl);
  failed = λ disk count e. absurd (cc);
  unchanged = λ e. absurd (cc);
  blocks = none_changed state (world_of n) (world_of n) n n refl;
  whole = GoesThrough.stays 0 (h.nothing_changes 0 (world_of n) (world_of n) (devices n) (parts_now state n h));
})

pub shows_none : (w : Up) (path : List ℕ) (g : Refusal) → volume_named w path ≡ Err g → show_snapshots w path ≡ Err g
unfolding and_then
shows_none w path g e = rw e refl

pub shows_is : (w : Up) (path : List ℕ) (at : ℕ) (v : Volume) (lines : List Line) → volume_named w path ≡ Ok (record { at = at; item = v }) → lines ≡ map (listed_line (volno at)) v.snapshots → show_snapshots w path ≡ Ok (record { reply = told (replies.Table lines); world = w })
unfolding and_then
shows_is w path at v lines e same = rw e (ap (λ (ls : List Line). let a : Answer = Ok (record { reply = told (replies.Table ls); world = w }) in a) (sym same))
