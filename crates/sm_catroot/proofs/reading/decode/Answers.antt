use Rattle.std.proofs.Common.{arith}
use Rattle.sm_catroot.proofs.Decoded.{is_found, is_read, is_first, is_told}
use Rattle.sm_catroot.proofs.reading.decode.Goals as goal

pub returns-clause-found : goal.returns-clause-found
returns-clause-found c = is_found c.args.bytes.now c.read_record.result (λ i. omega (arith, c.type_inv.bytes i)) c.read_record.ensures

pub returns-clause-only : goal.returns-clause-only
returns-clause-only c = is_read c.args.bytes.now c.read_record.result (omega (arith, c.requires)) c.read_record.ensures

pub returns-clause-first : goal.returns-clause-first
returns-clause-first c = is_first c.args.bytes.now c.read_record.result (λ i. omega (arith, c.type_inv.bytes i)) c.read_record.ensures

pub returns-clause-fault : goal.returns-clause-fault
returns-clause-fault c = is_told c.args.bytes.now c.read_record.result (λ i. omega (arith, c.type_inv.bytes i)) c.read_record.ensures
