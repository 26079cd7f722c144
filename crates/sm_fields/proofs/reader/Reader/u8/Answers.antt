use Rattle.std.proofs.Common.{◌+◌, rules, slice_index_or}
use Rattle.sm_fields.specs.Format.{number, bits8}
use Rattle.sm_fields.proofs.Whole.{fits_of, found_at, none_at}
use Rattle.sm_fields.proofs.reader.Reader.u8.Goals as goal

pub returns-then-is_empty-clause-none : goal.returns-then-is_empty-clause-none
returns-then-is_empty-clause-none c = none_at (number bits8) c.args.self.now c.self.inside.at (fits_of _ _ c.self.view_is c.self.invariant.1) (search rules)

pub returns-clause-found : goal.returns-clause-found
returns-clause-found c = found_at (number bits8) c.args.self.now (slice_index_or c.split_at.result.0.now 0 0) (record { at = c.self.inside.at + 1; rest = c.split_at.result.1.now }) (fits_of _ _ c.self.view_is c.self.invariant.1) (search rules)
