use Rattle.std.proofs.Common.{◌≡◌, replicate, sym, ap, ◌∙◌, subst}
use Rattle.sm_bits.specs.Words.{AreWordsOf, marks, words_for}
use Rattle.sm_bits.proofs.Marks.{empty_words, empty_marks}
use Rattle.sm_bits.proofs.map.BitMap.new.Goals as goal

zeros : (c : goal.In_ok-vec) → c.in_ok-vec.field-0.items ≡ replicate (words_for c.args.len) 0
zeros c = c.in_ok-vec.ensures.items_if_clones_equal (λ y e. e)

pub invariant_of-result : goal.invariant_of-result
invariant_of-result c = subst (AreWordsOf c.args.len) (sym (zeros c)) (empty_words c.args.len c.ranges.len.fits)

pub returns : goal.returns
returns c = ap (marks c.args.len) (zeros c) ∙ empty_marks c.args.len
