-- Tests of items in turn, put together.
use Rattle.std.proofs.Common.{◌≡◌, ℕ, ◌+◌, ◌<◌, ◌≤◌, Bool, true, false, List, [], ◌∷◌, ◌++◌, length, get_or, take, drop, refl, sym, ap, subst, ◌∙◌, inl, inr, append-nil}
use Rattle.std.specs.List.{flat_map}
use Rattle.std.proofs.lemmas.List.{take_all, take-append-drop}
use Rattle.std.proofs.lemmas.Grind.{flat_map-append}
use Rattle.sm_defs.specs.Words.{Among}
use Rattle.std.specs.Prelude.{IsTrue, ◌↔◌}
use Rattle.sm_shape.specs.Takes.{Takes}
use Rattle.sm_shape.proofs.Tests.{decided}
use Rattle.sm_shape.proofs.ListWords.{front_more}
use Rattle.sm_defs.proofs.Members.{among_left, among_right, among_append}

abbrev pub Within : {X : Type 0} → List X → List X → Type 0
Within {X} xs ys = (x : X) → Among xs x → Among ys x

turned : {X : Type 0} (xs ys seen : List X) → Within (ys ++ (xs ++ seen)) ((xs ++ ys) ++ seen)
turned xs ys seen x a = elim (among_append ys (xs ++ seen) x a) [
  | inl b ↦ among_left (xs ++ ys) seen x (among_right xs ys x b)
  | inr b ↦ elim (among_append xs seen x b) [
    | inl c ↦ among_left (xs ++ ys) seen x (among_left xs ys x c)
    | inr c ↦ among_right (xs ++ ys) seen x c
  ]
]

back : {X : Type 0} (xs ys seen : List X) → Within ((xs ++ ys) ++ seen) (ys ++ (xs ++ seen))
back xs ys seen x a = elim (among_append (xs ++ ys) seen x a) [
  | inl b ↦ elim (among_append xs ys x b) [
    | inl c ↦ among_right ys (xs ++ seen) x (among_left xs seen x c)
    | inr c ↦ among_left ys (xs ++ seen) x c
  ]
  | inr b ↦ among_right ys (xs ++ seen) x (among_right xs seen x b)
]

shorter : {X : Type 0} (xs ys seen : List X) → Within (xs ++ seen) ((xs ++ ys) ++ seen)
shorter xs ys seen x a = elim (among_append xs seen x a) [
  | inl b ↦ among_left (xs ++ ys) seen x (among_left xs ys x b)
  | inr b ↦ among_right (xs ++ ys) seen x b
]

module _ {S X : Type 0} (Of : S → List X → Type 0) (Good : List X → Type 0)
    (same : (s : S) (xs ys : List X) → Within xs ys → Within ys xs → Of s xs → Of s ys)
    (fewer : (xs ys : List X) → Within xs ys → Good ys → Good xs) where
  pub takes_none : (s : S) → Takes Of Good s s [] true
  takes_none s = record { joins = λ _ seen of. of; differs = λ e. absurd cc }

  pub takes_then : (a b c : S) (xs ys : List X) (g : Bool) → Takes Of Good a b xs true → Takes Of Good b c ys g → Takes Of Good a c (xs ++ ys) g
  takes_then a b c xs ys g first second = record {
    joins = λ good seen of. same c (ys ++ (xs ++ seen)) ((xs ++ ys) ++ seen) (turned xs ys seen) (back xs ys seen) (second.joins good (xs ++ seen) (first.joins refl seen of));
    differs = λ bad seen of all. second.differs bad (xs ++ seen) (first.joins refl seen of) (fewer (ys ++ (xs ++ seen)) ((xs ++ ys) ++ seen) (turned xs ys seen) all);
  }

  pub takes_fail : (a b : S) (xs ys : List X) → Takes Of Good a b xs false → Takes Of Good a b (xs ++ ys) false
  takes_fail a b xs ys first = record {
    joins = λ e. absurd cc;
    differs = λ bad seen of all. first.differs refl seen of (fewer (xs ++ seen) ((xs ++ ys) ++ seen) (shorter xs ys seen) all);
  }

  -- the loops: over pieces, of which each has items
  module _ {Y : Type 0} (f : Y → List X) (ys : List Y) (k : ℕ) (y : Y) (lt : k < length ys) (is : y ≡ get_or ys k y) (a b c : S) (before : Takes Of Good a b (flat_map f (take k ys)) true) where
    piece_more : flat_map f (take (k + 1) ys) ≡ flat_map f (take k ys) ++ f y
    piece_more = ap (flat_map f) (front_more ys k y lt is) ∙ flat_map-append f (take k ys) (y ∷ []) ∙ ap (λ l. flat_map f (take k ys) ++ l) (append-nil (f y))

    pub pieces_go : Takes Of Good b c (f y) true → Takes Of Good a c (flat_map f (take (k + 1) ys)) true
    pieces_go one = subst (λ l. Takes Of Good a c l true) (sym piece_more) (takes_then a b c (flat_map f (take k ys)) (f y) true before one)

    all_pieces : (rest : List X) × (flat_map f ys ≡ (flat_map f (take k ys) ++ f y) ++ rest)
    all_pieces = (flat_map f (drop (k + 1) ys), ap (flat_map f) (sym (take-append-drop (k + 1) ys)) ∙ flat_map-append f (take (k + 1) ys) (drop (k + 1) ys) ∙ ap (λ l. l ++ flat_map f (drop (k + 1) ys)) piece_more)

    pub pieces_stop : Takes Of Good b c (f y) false → Takes Of Good a c (flat_map f ys) false
    pieces_stop one =
        subst (λ l. Takes Of Good a c l false) (sym all_pieces.1) (takes_fail a c (flat_map f (take k ys) ++ f y) all_pieces.0 (takes_then a b c (flat_map f (take k ys)) (f y) false before one))

pub pieces_end : {X Y : Type 0} (f : Y → List X) (ys : List Y) (k : ℕ) → length ys ≤ k → flat_map f (take k ys) ≡ flat_map f ys
pieces_end f ys k end = ap (flat_map f) (take_all k ys end)

-- from a state for nothing
pub takes_decides : {S X : Type 0} (Of : S → List X → Type 0) (Good : List X → Type 0) (a b : S) (xs : List X) (g : Bool)
    → Of a [] → (Of b xs → Good xs) → Takes Of Good a b xs g → IsTrue g ↔ Good xs
takes_decides Of Good a b xs g start fine takes =
    decided g
    (λ good. fine (subst (Of b) (append-nil xs) (takes.joins good [] start)))
    (λ bad all. takes.differs bad [] start (subst Good (sym (append-nil xs)) all))
