use Rattle.std.proofs.Common.{length, sym, ap, ◌∙◌, arith}
use Rattle.std.proofs.lemmas.List.{length-map, take_all}
use Rattle.sm_volume.specs.Seen.{kept_snapshot}
use Rattle.sm_publish.specs.Dropping.{lost_reason}
use Rattle.sm_publish.proofs.GoingLemmas.{unseen, at_kept, at_holder, lost_more, lost_whole, none_left}
use Rattle.sm_publish.proofs.marking.lost_reason.Goals as goal

pub returns-then-is_some : goal.returns-then-is_some
returns-then-is_some c = λ who there ss a e f.
    let s = c.index-snapshots-at.result in
    let (within, same) = at_kept ss c.args.snapshots.now c.loop-at.at s c.loop-at-test.true c.index-snapshots-at.is e in
    lost_whole who there ss c.loop-at.at (unseen s) within (c.loop-at.invariant who there ss a e f) c.lost_reason_of-reason.result (sym c.is_some.ensures ∙ c.if-is_some.true)
    (c.lost_reason_of-reason.ensures who there _ a same (at_holder who ss c.args.holders.now c.loop-at.at (unseen s) _ within f))

pub loop-at-preserved : goal.loop-at-preserved
loop-at-preserved c = λ who there ss a e f.
    let s = c.index-snapshots-at.result in
    let (within, same) = at_kept ss c.args.snapshots.now c.loop-at.at s c.loop-at-test.true c.index-snapshots-at.is e in
    lost_more who there ss c.loop-at.at (unseen s) within (c.loop-at.invariant who there ss a e f)
    ∙ (sym (c.lost_reason_of-reason.ensures who there _ a same (at_holder who ss c.args.holders.now c.loop-at.at (unseen s) _ within f)) ∙ none_left c.lost_reason_of-reason.result (sym c.is_some.ensures ∙ c.if-is_some.false))

pub returns : goal.returns
returns c = λ who there ss a e f.
    let long = ap length e ∙ length-map ss kept_snapshot in
    let end = c.loop-at-test.false in
    sym (ap (lost_reason who there) (sym (take_all c.loop-at.at ss (omega (arith, long, end)))) ∙ c.loop-at.invariant who there ss a e f)
