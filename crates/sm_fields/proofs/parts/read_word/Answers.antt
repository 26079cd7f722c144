use Rattle.std.proofs.Common.{refl}
use Rattle.std.proofs.lemmas.Result.{err_from_is_err_and}
use Rattle.sm_fields.specs.Format.{word}
use Rattle.sm_fields.specs.Reading.{read}
use Rattle.sm_fields.proofs.Words.{word_goes_on, word_ends, word_is_done}
use Rattle.sm_fields.proofs.parts.read_word.Goals as goal

pub returns-in_err-read_byte : goal.returns-in_err-read_byte
returns-in_err-read_byte c =
    let p = err_from_is_err_and c.from_residual.result c.from_residual.ensures.1 in
    rw (p.1, p.2) (word_ends c.args.word.now c.loop-byte.byte-index _ c.in_err-read_byte.field-0.0.at c.loop-byte.reader (read (word c.args.word.now) c.args.reader.now) c.loop-byte-test.true refl c.in_err-read_byte.ensures c.loop-byte.invariant)

pub loop-byte-preserved : goal.loop-byte-preserved
loop-byte-preserved c =
    word_goes_on c.args.word.now c.loop-byte.byte-index _ c.in_ok-read_byte.field-0 c.loop-byte.reader c.read_byte.new.reader (read (word c.args.word.now) c.args.reader.now) c.loop-byte-test.true refl c.in_ok-read_byte.ensures c.loop-byte.invariant

pub returns : goal.returns
returns c = word_is_done c.args.word.now c.loop-byte.byte-index c.loop-byte.reader (read (word c.args.word.now) c.args.reader.now) c.loop-byte-test.false c.loop-byte.invariant
