-- The first volume is made where its disk is long enough.
use Rattle.std.proofs.Common.{◌≡◌, ◌≤◌, ◌==◌, ℕ, List, Some, false, refl, arith}
use Rattle.std.specs.Prelude.{slice_get, nat_lt}
use Rattle.std.proofs.lemmas.Bool.{ne_eqb, le-ltb}
use Rattle.sm_base.specs.declared.numbers.DiskNo.{DiskNo}
use Rattle.sm_base.specs.declared.numbers.Kind.{Kind}
use Rattle.sm_defs.specs.Volume.{new_volume, length_needed}
use Rattle.sm_defs.specs.World.{empty_world}
use Rattle.sm_model.specs.declared.event.Event.TheVariants as events
use Rattle.sm_model.specs.declared.reply.Reply.TheVariants as replies
use Rattle.sm_model.specs.Answers.{and_then, refused_if, some_or, ◌and◌, volno}
use Rattle.sm_model.specs.Answer.{answer}
use Rattle.sm_model.specs.OfVolumes.{with_new_volume}

pub first_volume : (disks : List ℕ) (path : List ℕ) (disk : DiskNo) (kind : Kind) (logical physical len : ℕ) → 1 ≤ disk.0 → slice_get disks disk.0 ≡ Some len → length_needed physical ≤ len →
    answer (empty_world disks) (events.CreateVolume path disk kind logical physical) ≡
    Some (replies.Created (volno 0) and with_new_volume (empty_world disks) (new_volume path disk.0 kind 0 logical physical))
unfolding answer and_then refused_if some_or
first_volume disks path disk kind logical physical len some there long =
    let no_zero : (disk.0 == 0) ≡ false = ne_eqb disk.0 0 (λ e. omega arith) in
    let enough : nat_lt len (length_needed physical) ≡ false = le-ltb len (length_needed physical) long in
    rw (no_zero, there, enough) refl
