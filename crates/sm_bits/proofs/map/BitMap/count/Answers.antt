use Rattle.std.proofs.Common.{◌≡◌, sum_by, count_ones, sym, ap, ◌∙◌, arith}
use Rattle.std.proofs.lemmas.List.Sums.{count_by-le-length}
use Rattle.sm_bits.specs.Places.{size}
use Rattle.sm_bits.specs.Words.{marks}
use Rattle.sm_bits.proofs.Marks.{length-marks, few_words}
use Rattle.sm_bits.proofs.OnesBelow.{size_is}
use Rattle.sm_bits.proofs.map.BitMap.count.Goals as goal

pub count-requires-clause-short : goal.count-requires-clause-short
count-requires-clause-short c = rw c.deref.ensures.value (few_words c.self.inside.places c.self.inside.words.items c.self.invariant)

counted : (c : goal.After-count) → c.count.result ≡ size (marks c.self.inside.places c.self.inside.words.items)
counted c =
    c.count.ensures.total ∙ ap (sum_by count_ones) c.deref.ensures.value
    ∙ sym (size_is c.self.inside.places c.self.inside.words.items (λ k. record { fits = rw c.deref.ensures.value at c.count.ensures.fits k }) c.self.invariant)

pub overflow_cast-result : goal.overflow_cast-result
overflow_cast-result c =
    let set = marks c.self.inside.places c.self.inside.words.items in
    record { fits = omega (arith, counted c, count_by-le-length (λ mark. mark) set, length-marks c.self.inside.places c.self.inside.words.items, c.self.invariant.short) }

pub returns : goal.returns
returns c = counted c ∙ ap size c.self.view_is
