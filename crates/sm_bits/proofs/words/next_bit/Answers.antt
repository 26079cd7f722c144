use Rattle.std.proofs.Common.{◌/◌, arith}
use Rattle.sm_bits.proofs.BitPlaces.{clear_past, first_here, first_later, none_later}
use Rattle.sm_bits.proofs.words.next_bit.Goals as goal

pub returns-then-at-words : goal.returns-then-at-words
returns-then-at-words c = λ place low. clear_past c.args.words.now place (omega arith)

pub returns-then-rest-ne0 : goal.returns-then-rest-ne0
returns-then-rest-ne0 c = first_here c.args.words.now c.args.from (c.type_inv.words (c.args.from / 64)) (omega arith)

pub returns-then-next-words : goal.returns-then-next-words
returns-then-next-words c =
    none_later c.args.words.now c.args.from (c.type_inv.words (c.args.from / 64)) c.first_filled-next.result c.if-rest-ne0.false c.first_filled-next.ensures c.if-next-words.true

pub returns : goal.returns
returns c =
    let next = c.first_filled-next.result in
    first_later c.args.words.now c.args.from (c.type_inv.words (c.args.from / 64)) next c.if-rest-ne0.false (c.type_inv.words next) c.first_filled-next.ensures (omega (arith, c.first_filled-next.ensures.within))
