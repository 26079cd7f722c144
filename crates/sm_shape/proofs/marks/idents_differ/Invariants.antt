use Rattle.std.proofs.Common.{◌≡◌, take}
use Rattle.std.specs.HashSet.{contains}
use Rattle.sm_base.specs.declared.numbers.Ident.{Ident}
use Rattle.sm_defs.specs.Words.{KeysDiffer, has_ident, same_ident}
use Rattle.sm_shape.proofs.marks.idents_differ.Given as goal

abbrev pub invariant-loop-ident : goal.invariant-loop-ident
invariant-loop-ident l = record {
  knows : (i : Ident) → contains same_ident l.known i ≡ has_ident (take l.ident-index l.idents) i;
  differ : KeysDiffer (λ (i : Ident). i) (take l.ident-index l.idents);
}
