use Rattle.std.proofs.Common.{◌≡◌, ℕ, ◌<◌, List, [], ◌∷◌, ◌++◌, length, Some, slice_get, slice_index_or, sym, ap, subst, ◌∙◌, arith}
use Rattle.std.specs.Vec.Iter.{into_iter_items}
use Rattle.std.proofs.lemmas.List.{append_assoc, length_push}
use Rattle.std.proofs.lemmas.Option.{slice_get-get_or}
use Rattle.volume_store.specs.Opened.{FoundMaps}
use Rattle.sm_opening.proofs.SyncLemmas.{lies_below}
use Rattle.sm_opening.proofs.SeatLemmas.{next_at, is_ready, one_more_seated}
use Rattle.sm_opening.proofs.seating.seat_volumes.Goals as goal

pub seat_on-requires-clause-place : goal.seat_on-requires-clause-place
seat_on-requires-clause-place g c =
    let so_far = c.loop-found.invariant.4 in
    let whole = ap (λ (l : List FoundMaps). c.loop-found.yielded ++ l) (sym c.in-Some.ensures.steps.0) ∙ c.loop-found.invariant.2 in
    let next = next_at c.loop-found.yielded (into_iter_items c.next.new.self) c.args.founds.items c.in-Some.found whole in
    let at : c.len.result ≡ length c.loop-found.yielded = (let e = c.len.ensures in let ok = c.loop-found.seats.ok in let many = so_far.as_many in omega (arith, e, ok, many)) in
    let lt : c.len.result < length c.args.placed.now = (let less = next.0 in let same = c.requires.as_many in omega (arith, at, less, same)) in
    let there = slice_get-get_or c.args.placed.now c.len.result c.index-placed-len.result lt in
    let below = lies_below (length c.args.spares.now) c.args.placed.now c.len.result (slice_index_or c.args.placed.now c.len.result c.index-placed-len.result) c.requires.apart there in
    let long = so_far.as_long in
    omega (arith, below, long)

pub seat_on-requires-clause-ready : goal.seat_on-requires-clause-ready
seat_on-requires-clause-ready g c =
    let so_far = c.loop-found.invariant.4 in
    let whole = ap (λ (l : List FoundMaps). c.loop-found.yielded ++ l) (sym c.in-Some.ensures.steps.0) ∙ c.loop-found.invariant.2 in
    let next = next_at c.loop-found.yielded (into_iter_items c.next.new.self) c.args.founds.items c.in-Some.found whole in
    let at : c.len.result ≡ length c.loop-found.yielded = (let e = c.len.ensures in let ok = c.loop-found.seats.ok in let many = so_far.as_many in omega (arith, e, ok, many)) in
    let lt : c.len.result < length c.args.placed.now = (let less = next.0 in let same = c.requires.as_many in omega (arith, at, less, same)) in
    let p = slice_index_or c.args.placed.now c.len.result c.index-placed-len.result in
    let there = subst (λ (n : ℕ). slice_get c.args.placed.now n ≡ Some p) at (slice_get-get_or c.args.placed.now c.len.result c.index-placed-len.result lt) in
    (length c.loop-found.yielded, is_ready g.D.Disk.state c.args.placed.now c.args.founds.items c.args.spares.now c.requires.apart c.requires.ready (length c.loop-found.yielded) c.loop-found.spares c.loop-found.seats.items so_far p c.in-Some.found there next.1)

pub loop-found-preserved : goal.loop-found-preserved
loop-found-preserved g c =
    let so_far = c.loop-found.invariant.4 in
    let whole = ap (λ (l : List FoundMaps). c.loop-found.yielded ++ l) (sym c.in-Some.ensures.steps.0) ∙ c.loop-found.invariant.2 in
    let next = next_at c.loop-found.yielded (into_iter_items c.next.new.self) c.args.founds.items c.in-Some.found whole in
    let at : c.len.result ≡ length c.loop-found.yielded = (let e = c.len.ensures in let ok = c.loop-found.seats.ok in let many = so_far.as_many in omega (arith, e, ok, many)) in
    let lt : c.len.result < length c.args.placed.now = (let less = next.0 in let same = c.requires.as_many in omega (arith, at, less, same)) in
    let p = slice_index_or c.args.placed.now c.len.result c.index-placed-len.result in
    let there = subst (λ (n : ℕ). slice_get c.args.placed.now n ≡ Some p) at (slice_get-get_or c.args.placed.now c.len.result c.index-placed-len.result lt) in
    let now = one_more_seated g.D.Disk.state c.args.placed.now c.args.founds.items c.args.spares.now c.requires.apart c.requires.ready (length c.loop-found.yielded) c.loop-found.spares c.loop-found.seats.items so_far p c.in-Some.found there next.1 c.seat_on.result c.seat_on.ensures.seat c.seat_on.ensures.kept in (
      tt,
      tt,
      append_assoc c.loop-found.yielded (c.in-Some.found ∷ []) (into_iter_items c.next.new.self) ∙ whole,
      c.push_reserved.ensures.capacity ∙ c.loop-found.invariant.3,
      rw (length_push c.loop-found.yielded c.in-Some.found, c.seat_on.ensures.left, c.push_reserved.ensures.items) now,
    )
