use Rattle.std.proofs.Common.{◌≡◌, ◌+◌, suc, List, [], ◌∷◌, ◌++◌, take, drop, Bool, Result, Err, sym, ap, ◌∙◌, subst, refl}
use Rattle.std.proofs.Math.Numerals.{add-one}
use Rattle.std.proofs.Math.Seq.{take-suc}
use Rattle.std.proofs.lemmas.Result.{err_from_is_err_and}
use Rattle.volume_store.specs.declared.faults.VolumeFault.{VolumeFault}
use Rattle.laws_volume.specs.declared.call.Call.{Call}
use Rattle.laws_volume.specs.Assigned.{plain, Assigns, AssignsAll, AreReady}
use Rattle.laws_volume.specs.Answered.{IsDone}
use Rattle.laws_volume.proofs.DoneLemmas.{split_at, assigned_next, ready_then, made_next, WereMade, done_err, done_all}
use Rattle.laws_volume.proofs.performing.perform_all.Goals as goal

pub perform-requires-clause-ready : goal.perform-requires-clause-ready
perform-requires-clause-ready g c =
    let state = g.D.Disk.state in
    let j = c.loop-call.call-index in
    let calls = c.args.calls.now in
    let split = split_at j calls c.call-item.result c.loop-call-test.true c.call-item.is in
    let ready = subst (λ (cs : List Call). AreReady (state c.args.v.now.disk).told cs (plain state c.args.v.now)) split c.requires.ready in
    (ready_then (state c.args.v.now.disk).told (take j calls) (c.call-item.result ∷ drop (suc j) calls) (plain state c.args.v.now) (plain state c.loop-call.v) ready c.loop-call.invariant.assigned).0

pub returns-in_err-perform : goal.returns-in_err-perform
returns-in_err-perform g c =
    let state = g.D.Disk.state in
    let j = c.loop-call.call-index in
    let calls = c.args.calls.now in
    let p = err_from_is_err_and c.from_residual.result c.from_residual.ensures.1 in
    let same : c.perform.result ≡ c.from_residual.result = c.in_err-perform.was ∙ ap Err (sym p.2) ∙ sym p.1 in
    let done = subst (λ (r : Result (Unit {0}) VolumeFault). IsDone state c.call-item.result c.loop-call.v r c.perform.new.v) same c.perform.ensures in
    done_err state (state c.args.v.now.disk).told calls (take j calls) (drop (suc j) calls) c.call-item.result c.args.v.now c.loop-call.v c.perform.new.v c.from_residual.result p.0 p.1 refl
    (split_at j calls c.call-item.result c.loop-call-test.true c.call-item.is) c.loop-call.invariant.made done c.loop-call.invariant.told

pub loop-call-preserved : goal.loop-call-preserved
loop-call-preserved g c =
    let state = g.D.Disk.state in
    let a = c.in_ok-perform.ensures in
    let i = c.loop-call.invariant in
    let j = c.loop-call.call-index in
    let calls = c.args.calls.now in
    let told = (state c.args.v.now.disk).told in
    let more : take (j + 1) calls ≡ take j calls ++ c.call-item.result ∷ [] =
    ap (λ k. take k calls) (add-one j) ∙ take-suc calls j c.call-item.result c.loop-call-test.true
    ∙ ap (λ (x : Call). take j calls ++ x ∷ []) (sym c.call-item.is) in
    let one = subst (λ (b : Bool). Assigns b c.call-item.result (plain state c.loop-call.v) (plain state c.perform.new.v)) i.told a.assigned in
    record {
      up = a.up;
      told = a.told ∙ i.told;
      assigned = subst (λ (cs : List Call). AssignsAll told cs (plain state c.args.v.now) (plain state c.perform.new.v)) (sym more)
          (assigned_next told (take j calls) c.call-item.result (plain state c.args.v.now) (plain state c.loop-call.v) (plain state c.perform.new.v) i.assigned one);
      made = subst (λ (cs : List Call). WereMade told cs (plain state c.args.v.now) (plain state c.perform.new.v)) (sym more)
          (made_next told (take j calls) c.call-item.result (plain state c.args.v.now) (plain state c.loop-call.v) (plain state c.perform.new.v) i.made a.answers one);
    }

pub returns : goal.returns
returns g c = done_all g.D.Disk.state c.args.calls.now c.loop-call.call-index c.args.v.now c.loop-call.v c.loop-call-test.false c.loop-call.invariant.up c.loop-call.invariant.told c.loop-call.invariant.assigned c.loop-call.invariant.made
