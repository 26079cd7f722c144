use Rattle.sm_fields.specs.Format.{number, text, identity, option, numbers}
use Rattle.sm_fields.proofs.Whole.{fault_iff}
use Rattle.sm_fields.proofs.laws.first_fault.Goals as goal

pub returns-clause-numbers : goal.returns-clause-numbers
returns-clause-numbers c size bytes at fits = fault_iff (number size) bytes at fits

pub returns-clause-texts : goal.returns-clause-texts
returns-clause-texts c most bytes at fits = fault_iff (text most) bytes at fits

pub returns-clause-options : goal.returns-clause-options
returns-clause-options c bytes at fits = fault_iff (option identity) bytes at fits

pub returns-clause-lists : goal.returns-clause-lists
returns-clause-lists c size holds n bytes at fits = fault_iff (numbers size holds n) bytes at fits
