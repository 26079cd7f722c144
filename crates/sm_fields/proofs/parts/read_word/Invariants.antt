use Rattle.std.proofs.Common.{◌≡◌, drop}
use Rattle.sm_fields.specs.Format.{word}
use Rattle.sm_fields.specs.Reading.{read}
use Rattle.sm_fields.proofs.parts.read_word.Given as goal

abbrev pub invariant-loop-byte : goal.invariant-loop-byte
invariant-loop-byte l = read (word (drop l.byte-index l.word)) l.reader ≡ read (word l.word) l.fn.reader
