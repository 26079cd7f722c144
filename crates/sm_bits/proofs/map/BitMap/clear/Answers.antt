use Rattle.std.proofs.Common.{◌≡◌, ◌/◌, false, set, get_or, ap, ◌∙◌, arith}
use Rattle.std.proofs.lemmas.List.{get_or_read}
use Rattle.sm_bits.proofs.Marks.{within, word_of, changed_words, changed_marks, clear_here, clear_others}
use Rattle.sm_bits.proofs.map.BitMap.clear.Goals as goal

pub index_mut-requires : goal.index_mut-requires
index_mut-requires c =
    let less = within c.self.inside.places c.self.inside.words.items c.args.self.now c.self.view_is c.args.at c.requires in
    omega (arith, word_of c.self.inside.places c.self.inside.words.items c.self.invariant c.args.at less, c.self.inside.words.ok.0)

pub invariant_of-self : goal.invariant_of-self
invariant_of-self c =
    let words = c.self.inside.words.items in
    let at = c.args.at in
    let less = within c.self.inside.places words c.args.self.now c.self.view_is at c.requires in
    let inside = word_of c.self.inside.places words c.self.invariant at less in
    let is : c.index_mut.result.now ≡ get_or words (at / 64) 0 = get_or_read words (at / 64) c.index_mut.result.now inside c.index_mut.ensures.value 0 in
    changed_words c.self.inside.places words c.self.invariant at less _ false (clear_here words at c.index_mut.result.now is) (clear_others words at c.index_mut.result.now is)

pub returns : goal.returns
returns c =
    let words = c.self.inside.words.items in
    let at = c.args.at in
    let less = within c.self.inside.places words c.args.self.now c.self.view_is at c.requires in
    let inside = word_of c.self.inside.places words c.self.invariant at less in
    let is : c.index_mut.result.now ≡ get_or words (at / 64) 0 = get_or_read words (at / 64) c.index_mut.result.now inside c.index_mut.ensures.value 0 in
    changed_marks c.self.inside.places words c.self.invariant at less _ false (clear_here words at c.index_mut.result.now is) (clear_others words at c.index_mut.result.now is)
    ∙ ap (λ s. set s at false) c.self.view_is
