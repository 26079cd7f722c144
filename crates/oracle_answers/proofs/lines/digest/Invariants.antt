use Rattle.std.proofs.Common.{take}
use Rattle.sha2.specs.Hashers.{Holds256}
use Rattle.sm_defs.specs.Image.{image_bytes}
use Rattle.oracle_answers.proofs.lines.digest.Given as goal

abbrev pub invariant-loop-block : goal.invariant-loop-block
invariant-loop-block l = Holds256 l.hasher (image_bytes (take l.block-index l.image))
