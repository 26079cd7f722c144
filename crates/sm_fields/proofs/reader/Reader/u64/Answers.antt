use Rattle.std.proofs.Common.{◌+◌, rules}
use Rattle.sm_fields.specs.Format.{number, bits64}
use Rattle.sm_fields.proofs.Whole.{fits_of, found_at, none_at}
use Rattle.sm_fields.proofs.reader.Reader.u64.Goals as goal

pub returns-then-self-lt8-clause-none : goal.returns-then-self-lt8-clause-none
returns-then-self-lt8-clause-none c = none_at (number bits64) c.args.self.now c.self.inside.at (fits_of _ _ c.self.view_is c.self.invariant.1) (search rules)

pub returns-clause-found : goal.returns-clause-found
returns-clause-found c = found_at (number bits64) c.args.self.now c.from_be_bytes.result (record { at = c.self.inside.at + 8; rest = c.split_at.result.1.now }) (fits_of _ _ c.self.view_is c.self.invariant.1) (search rules)
