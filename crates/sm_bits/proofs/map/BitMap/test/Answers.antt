use Rattle.std.proofs.Common.{◌≡◌, ◌/◌, get_or, refl, sym, ap, ◌∙◌, arith}
use Rattle.std.proofs.lemmas.List.{get_or_read}
use Rattle.sm_bits.specs.Places.{has}
use Rattle.sm_bits.proofs.Marks.{within, word_of, has-marks, tested}
use Rattle.sm_bits.proofs.map.BitMap.test.Goals as goal

pub index-requires : goal.index-requires
index-requires c =
    let less = within c.self.inside.places c.self.inside.words.items c.args.self.now c.self.view_is c.args.at c.requires in
    omega (arith, word_of c.self.inside.places c.self.inside.words.items c.self.invariant c.args.at less, c.self.inside.words.ok.0)

pub returns : goal.returns
returns c =
    let words = c.self.inside.words.items in
    let at = c.args.at in
    let less = within c.self.inside.places words c.args.self.now c.self.view_is at c.requires in
    let inside = word_of c.self.inside.places words c.self.invariant at less in
    let is : c.index.result.now ≡ get_or words (at / 64) 0 = get_or_read words (at / 64) c.index.result.now inside c.index.ensures 0 in
    tested words at c.index.result.now is at refl ∙ sym (has-marks c.self.inside.places words at less) ∙ ap (λ s. has s at) c.self.view_is
