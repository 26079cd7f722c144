use Rattle.std.proofs.Common.{refl, sym, ap, ◌∙◌, Some}
use Rattle.std.proofs.lemmas.Option.{slice_get-get_or}
use Rattle.sm_model.specs.declared.reply.Reply.TheVariants as replies
use Rattle.sm_node.specs.Seats.{Seated}
use Rattle.sm_node.specs.Moves.{event_answer, fault_answer}
use Rattle.sm_node.proofs.calls.write_at.Goals as goal

pub returns-in-Ok : goal.returns-in-Ok
returns-in-Ok g c = record {
  old = record { disk = c.seat.inside.disk.0; volume = c.seat.inside.volume };
  new = c.write-done.new.self;
  was = slice_get-get_or c.args.seats.now c.args.named.at c.index-seats-named.result c.requires.place ∙ ap (λ (s : Seated _). Some s) (sym c.seat.view_is);
  is = refl;
  did = (
    c.write-done.result,
    sym (ap (event_answer replies.Done c.args.named.disk (g.D.Disk.state c.write-done.new.self.disk).faults) c.in-Ok.is),
    c.write-done.ensures.refused,
    record {
      ok = c.write-done.ensures.ok;
      fault = c.write-done.ensures.fault;
      counted = c.write-done.ensures.counted;
      unchanged = c.write-done.ensures.unchanged;
      free = c.write-done.ensures.free;
      blocks = c.write-done.ensures.blocks;
      any_moment = c.write-done.ensures.any_moment;
    },
  );
  kept = c.told.ensures;
}

pub returns-in-Err : goal.returns-in-Err
returns-in-Err g c = record {
  old = record { disk = c.seat.inside.disk.0; volume = c.seat.inside.volume };
  new = c.write-done.new.self;
  was = slice_get-get_or c.args.seats.now c.args.named.at c.index-seats-named.result c.requires.place ∙ ap (λ (s : Seated _). Some s) (sym c.seat.view_is);
  is = refl;
  did = (
    c.write-done.result,
    c.answer_of.ensures ∙ ap (λ k. fault_answer c.args.named.disk k c.in-Err.fault) c.faults.ensures ∙ sym (ap (event_answer replies.Done c.args.named.disk (g.D.Disk.state c.write-done.new.self.disk).faults) c.in-Err.is),
    c.write-done.ensures.refused,
    record {
      ok = c.write-done.ensures.ok;
      fault = c.write-done.ensures.fault;
      counted = c.write-done.ensures.counted;
      unchanged = c.write-done.ensures.unchanged;
      free = c.write-done.ensures.free;
      blocks = c.write-done.ensures.blocks;
      any_moment = c.write-done.ensures.any_moment;
    },
  );
  kept = c.told.ensures;
}
