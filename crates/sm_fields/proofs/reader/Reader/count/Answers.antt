use Rattle.std.proofs.Common.{◌+◌, rules}
use Rattle.sm_fields.specs.Format.{count}
use Rattle.sm_fields.proofs.Whole.{fits_of, found_at, none_at}
use Rattle.sm_fields.proofs.reader.Reader.count.Goals as goal

pub returns-then-self-lt4-clause-none : goal.returns-then-self-lt4-clause-none
returns-then-self-lt4-clause-none c = none_at (count c.args.max) c.args.self.now c.self.inside.at (fits_of _ _ c.self.view_is c.self.invariant.1) (search rules)

pub returns-then-value-max-clause-none : goal.returns-then-value-max-clause-none
returns-then-value-max-clause-none c = none_at (count c.args.max) c.args.self.now c.self.inside.at (fits_of _ _ c.self.view_is c.self.invariant.1) (search rules)

pub returns-clause-found : goal.returns-clause-found
returns-clause-found c = found_at (count c.args.max) c.args.self.now c.from_be_bytes-value.result (record { at = c.self.inside.at + 4; rest = c.split_at.result.1.now }) (fits_of _ _ c.self.view_is c.self.invariant.1) (search rules)
