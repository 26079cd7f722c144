use Rattle.std.proofs.Common.{◌≡◌, ◌<◌, ◌/◌, ℕ, Bool, ◌&&◌, not, length, refl, sym, ap, ap₂, ◌∙◌, subst}
use Rattle.std.proofs.lemmas.List.{with_items_is}
use Rattle.std.specs.Simd.Lanes.{zip2}
use Rattle.std.specs.Vec.{with_items}
use Rattle.sm_bits.specs.Words.{bit, marks, AreWordsOf}
use Rattle.sm_bits.proofs.Marks.{as_many, places_agree, words_agree, joined_words, joined_marks}
use Rattle.sm_bits.proofs.map.BitMap.minus.Goals as goal

pub subtract-requires-clause-same : goal.subtract-requires-clause-same
subtract-requires-clause-same c =
    let places = places_agree c.self.inside.places c.other.inside.places c.self.inside.words.items c.other.inside.words.items c.args.self.now c.args.other.now c.self.view_is c.other.view_is c.requires in
    ap length c.deref.ensures.value
    ∙ as_many c.self.inside.places c.other.inside.places c.self.inside.words.items c.other.inside.words.items c.self.invariant c.other.invariant places
    ∙ sym (ap length c.deref_mut.ensures.value)

abbrev joined : Bool → Bool → Bool
joined x y = x && not y

-- the new words, as the value holds them
is_new : (c : goal.After-self-1) → (with_items c.self.inside.words c.subtract.new.words).items ≡ c.subtract.new.words
is_new c = with_items_is c.self.inside.words c.subtract.new.words (c.subtract.auto.words ∙ ap length c.deref_mut.ensures.value ∙ sym c.self.inside.words.ok.0)

same_length : (c : goal.After-self-1) → length c.subtract.new.words ≡ length c.self.inside.words.items
same_length c = c.subtract.auto.words ∙ ap length c.deref_mut.ensures.value

joins : (c : goal.After-self-1) (place : ℕ) → place / 64 < length c.self.inside.words.items
    → bit c.subtract.new.words place ≡ joined (bit c.self.inside.words.items place) (bit c.other.inside.words.items place)
joins c place inside =
    c.subtract.ensures place (rw c.deref_mut.ensures.value inside)
    ∙ ap₂ (λ x y. joined (bit x place) (bit y place)) c.deref_mut.ensures.value c.deref.ensures.value

pub invariant_of-self : goal.invariant_of-self
invariant_of-self c =
    let others = words_agree c.self.inside.places c.other.inside.places c.self.inside.words.items c.other.inside.words.items c.args.self.now c.args.other.now c.self.view_is c.other.view_is c.requires c.other.invariant in
    subst (AreWordsOf c.self.inside.places) (sym (is_new c))
    (joined_words c.self.inside.places c.self.inside.words.items c.other.inside.words.items c.subtract.new.words c.self.invariant others (same_length c) joined refl (joins c))

pub returns : goal.returns
returns c =
    let places = c.self.inside.places in
    let agree = places_agree c.self.inside.places c.other.inside.places c.self.inside.words.items c.other.inside.words.items c.args.self.now c.args.other.now c.self.view_is c.other.view_is c.requires in
    let others = words_agree c.self.inside.places c.other.inside.places c.self.inside.words.items c.other.inside.words.items c.args.self.now c.args.other.now c.self.view_is c.other.view_is c.requires c.other.invariant in
    ap (marks places) (is_new c)
    ∙ joined_marks places c.self.inside.words.items c.other.inside.words.items c.subtract.new.words c.self.invariant others (same_length c) joined refl (joins c)
    ∙ ap₂ (zip2 joined) c.self.view_is (ap (λ n. marks n c.other.inside.words.items) (sym agree) ∙ c.other.view_is)
