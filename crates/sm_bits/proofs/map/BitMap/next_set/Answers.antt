use Rattle.std.proofs.Common.{◌≡◌, ◌<◌, ℕ, Bool, false, List, inl, inr, sym, ap, ◌∙◌, subst, arith}
use Rattle.std.proofs.lemmas.Bool.{cases_lt, false≢true}
use Rattle.sm_bits.specs.Places.{has, IsLeastFrom}
use Rattle.sm_bits.specs.Words.{AreWordsOf, IsLeastBit, bit}
use Rattle.sm_bits.proofs.Marks.{has_is_bit, few_words}
use Rattle.sm_bits.proofs.map.BitMap.next_set.Goals as goal

-- a bit that is set is that of a place
a_place : (places : ℕ) (words : List ℕ) (from place : ℕ) → AreWordsOf places words → IsLeastBit words from place → place < places
a_place places words from place are least = elim (cases_lt place places) [
  | inl less ↦ less
  | inr past ↦ absurd (false≢true (sym (are.clear place past) ∙ least.is_set))
]

pub next_bit-requires : goal.next_bit-requires
next_bit-requires c = rw c.deref.ensures.value (few_words c.self.inside.places c.self.inside.words.items c.self.invariant)

pub overflow_cast-result : goal.overflow_cast-result
overflow_cast-result c =
    let least : IsLeastBit c.self.inside.words.items c.args.from c.in-Some.place = rw c.deref.ensures.value at c.in-Some.ensures in
    record { fits = omega (arith, a_place c.self.inside.places c.self.inside.words.items c.args.from c.in-Some.place c.self.invariant least, c.self.invariant.short) }

pub returns-in-Some : goal.returns-in-Some
returns-in-Some c =
    let places = c.self.inside.places in
    let words = c.self.inside.words.items in
    let least : IsLeastBit words c.args.from c.in-Some.place = rw c.deref.ensures.value at c.in-Some.ensures in
    subst (λ (set : List Bool). IsLeastFrom set c.args.from c.in-Some.place) c.self.view_is (record {
      from_on = least.from_on;
      is_in = has_is_bit places words c.self.invariant c.in-Some.place ∙ least.is_set;
      least = λ other low high. has_is_bit places words c.self.invariant other ∙ least.least other low high;
    })

pub returns-in-None : goal.returns-in-None
returns-in-None c = λ place low.
    let words = c.self.inside.words.items in
    let clear : bit words place ≡ false = rw c.deref.ensures.value at (c.in-None.ensures place low) in
    ap (λ s. has s place) (sym c.self.view_is) ∙ has_is_bit c.self.inside.places words c.self.invariant place ∙ clear
