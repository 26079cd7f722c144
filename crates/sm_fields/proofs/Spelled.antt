-- Each value has one spelling: for the fields, and for lists of what has one.
use Rattle.std.proofs.Common.{◌≡◌, ℕ, zero, suc, ◌-◌, ◌^◌, ◌<◌, ◌≤◌, Bool, true, false, List, [], ◌∷◌, ◌++◌, length, get_or, refl, sym, ap, ◌∙◌, arith, length-append, lit<}
use Rattle.std.specs.Prelude.{nat_le, ◌==◌, Option, Some, None, IfSome}
use Rattle.std.specs.List.{flat_map}
use Rattle.std.proofs.lemmas.Bool.{eqb-true, leb-true, le-leb}
use Rattle.std.proofs.lemmas.List.{append-nil}
use Rattle.std.proofs.lemmas.List.Concat.{flat_map-cons}
use Rattle.sm_base.specs.declared.numbers.Ident.{Ident}
use Rattle.sm_fields.specs.Format.{Format, Size, bits8, bits32, bits64, count, truth, identity, option, where_it_stands, word, head, in_turn}
use Rattle.sm_fields.specs.Grammar.{digits, limit, with_length, truth_digits, identity_digits, option_digits, Spells, IsIdentity, IsSpelledBy, AllInTurn}
use Rattle.sm_fields.proofs.Sizes.{length-digits}

pub number_spelled : (size : Size) → IsSpelledBy (Format.number size) (λ n. n < limit size) (digits size)
number_spelled size = record { only = λ n bytes s. s; spelled = λ n fits. (fits, refl) }

pub text_spelled : (most : ℕ) → IsSpelledBy (Format.text most) (λ t. length t ≤ most) with_length
text_spelled most = record { only = λ t bytes s. s; spelled = λ t fits. (fits, refl) }

pub such_that_spelled : {A : Type 0} (f : Format A) (Fits : A → Type 0) (spelling : A → List ℕ) (holds : A → Bool) → IsSpelledBy f Fits spelling
    → IsSpelledBy (Format.such_that f holds) (λ a. Fits a × (holds a ≡ true)) spelling
such_that_spelled f Fits spelling holds by = record {
  only = λ a bytes s. let t = by.only a bytes s.0 in ((t.0, s.1), t.1);
  spelled = λ a fits. (by.spelled a fits.0, fits.1);
}

pub count_spelled : (most : ℕ) → most < 2 ^ 32 → IsSpelledBy (count most) (λ n. n ≤ most) (digits bits32)
count_spelled most lt = record {
  only = λ n bytes s. (leb-true n most s.1, s.0.1);
  spelled = λ n fits. ((omega arith, refl), le-leb n most fits);
}

truth_bytes : (n : ℕ) (b : Bool) (bytes front back : List ℕ) → nat_le n 1 ≡ true → front ≡ digits bits8 n → b ≡ (n == 1) → back ≡ [] → bytes ≡ front ++ back → bytes ≡ truth_digits b
unfolding digits
truth_bytes zero b bytes front back le f is nil parts = parts ∙ rw (f, nil, is) refl
truth_bytes (suc zero) b bytes front back le f is nil parts = parts ∙ rw (f, nil, is) refl
truth_bytes (suc (suc n)) b bytes front back le f is nil parts = absurd (omega (arith, leb-true (suc (suc n)) 1 le))

truth_again : (b : Bool) → Unit {0} → Spells truth b (truth_digits b)
unfolding digits
truth_again false fits = (0, 0 ∷ [], [], ((lit< tt, refl), refl), (refl, refl), refl)
truth_again true fits = (1, 1 ∷ [], [], ((lit< tt, refl), refl), (refl, refl), refl)

pub truth_spelled : IsSpelledBy truth (λ _. Unit {0}) truth_digits
truth_spelled = record {
  only = λ b bytes s. (tt, truth_bytes s.0 b bytes s.1 s.2 s.3.1 s.3.0.1 s.4.0 s.4.1 s.5);
  spelled = truth_again;
}

identity_only : (i : Ident) (bytes : List ℕ) → Spells identity i bytes → IsIdentity i × (bytes ≡ identity_digits i)
identity_only i bytes s =
    let t = s.4 in
    let is : i ≡ record { origin = s.0; seq = t.0 } = t.4.0 in
    let whole : bytes ≡ digits bits32 s.0 ++ digits bits64 t.0 = s.5 ∙ rw (s.3.1, t.5, t.3.1, t.4.1) (ap (λ (x : List ℕ). digits bits32 s.0 ++ x) (append-nil (digits bits64 t.0))) in
    rw is ((s.3.0, t.3.0), whole)

identity_again : (i : Ident) → IsIdentity i → Spells identity i (identity_digits i)
identity_again i fits = (i.origin, digits bits32 i.origin, digits bits64 i.seq, (fits.0, refl), (i.seq, digits bits64 i.seq, [], (fits.1, refl), (refl, refl), sym (append-nil (digits bits64 i.seq))), refl)

pub identity_spelled : IsSpelledBy identity IsIdentity identity_digits
identity_spelled = record { only = identity_only; spelled = identity_again }

option_only : {A : Type 0} (f : Format A) (Fits : A → Type 0) (spelling : A → List ℕ) → IsSpelledBy f Fits spelling → (stands : Bool) (o : Option A) (bytes front back : List ℕ)
    → front ≡ truth_digits stands → Spells (where_it_stands stands f) o back → bytes ≡ front ++ back → IfSome o Fits × (bytes ≡ option_digits spelling o)
option_only f Fits spelling by false o bytes front back is s parts = rw s.0 (tt, parts ∙ rw (is, s.1) refl)
option_only f Fits spelling by true o bytes front back is s parts =
    let t = by.only s.0 s.1 s.3 in
    rw s.4.0 (t.0, parts ∙ rw (is, s.5, t.1, s.4.1) (ap (λ (x : List ℕ). 1 ∷ x) (append-nil (spelling s.0))))

option_again : {A : Type 0} (f : Format A) (Fits : A → Type 0) (spelling : A → List ℕ) → IsSpelledBy f Fits spelling → (o : Option A) → IfSome o Fits → Spells (option f) o (option_digits spelling o)
option_again f Fits spelling by None fits = (false, truth_digits false, [], truth_again false tt, (refl, refl), refl)
option_again f Fits spelling by (Some x) fits = (true, truth_digits true, spelling x, truth_again true tt, (x, spelling x, [], by.spelled x fits, (refl, refl), sym (append-nil (spelling x))), refl)

pub option_spelled : {A : Type 0} (f : Format A) (Fits : A → Type 0) (spelling : A → List ℕ) → IsSpelledBy f Fits spelling → IsSpelledBy (option f) (λ o. IfSome o Fits) (option_digits spelling)
option_spelled f Fits spelling by = record {
  only = λ o bytes s. option_only f Fits spelling by s.0 o bytes s.1 s.2 (truth_spelled.only s.0 s.1 s.3).1 s.4 s.5;
  spelled = option_again f Fits spelling by;
}

-- ---- words and heads, which have no value to speak of

eqb_same : (a : ℕ) → (a == a) ≡ true
eqb_same a = grind arith

pub word_only : (bytes : List ℕ) (b : Bool) (front : List ℕ) → Spells (word bytes) b front → (b ≡ true) × (front ≡ bytes)
unfolding word digits
word_only [] b front s = s
word_only (x ∷ bytes) b front s =
    let t = word_only bytes b s.2 s.4 in
    (t.0, s.5 ∙ rw (s.3.0.1, eqb-true s.0 x s.3.1, t.1) refl)

pub word_again : (bytes : List ℕ) → ((i : ℕ) → get_or bytes i 0 < 256) → Spells (word bytes) true bytes
unfolding word digits
word_again [] fits = (refl, refl)
word_again (x ∷ bytes) fits = (x, x ∷ [], bytes, ((fits 0, refl), eqb_same x), word_again bytes (λ i. fits (suc i)), refl)

pub head_only : (magic : List ℕ) (behind : ℕ) (b : Bool) (front : List ℕ) → Spells (head magic behind) b front → (b ≡ true) × (behind < 2 ^ 32) × (front ≡ magic ++ digits bits32 behind)
head_only magic behind b front s =
    let m = word_only magic s.0 s.1 s.3 in
    let t = s.4 in
    let is : t.0 ≡ behind = eqb-true t.0 behind t.3.1 in
    (t.4.0, omega (arith, is, t.3.0.0), s.5 ∙ rw (m.1, t.5, t.3.0.1, is, t.4.1) (ap (λ (x : List ℕ). magic ++ x) (append-nil (digits bits32 behind))))

pub head_again : (magic : List ℕ) (behind : ℕ) → ((i : ℕ) → get_or magic i 0 < 256) → behind < 2 ^ 32 → Spells (head magic behind) true (magic ++ digits bits32 behind)
head_again magic behind fits lt =
    (true, magic, digits bits32 behind, word_again magic fits, (behind, digits bits32 behind, [], ((lt, refl), eqb_same behind), (refl, refl), sym (append-nil (digits bits32 behind))), refl)

-- how many bytes stand behind a head of 12 bytes
pub behind_head : (magic bytes front back body : List ℕ) (n : ℕ) → length magic ≡ 8 → bytes ≡ front ++ back → front ≡ magic ++ digits bits32 n → back ≡ body → length bytes - 12 ≡ length body
behind_head magic bytes front back body n long parts is same =
    omega (arith, long, ap length parts, length-append front back, ap length is, length-append magic (digits bits32 n), length-digits bits32 n, ap length same)

-- ---- lists

pub in_turn_only : {A : Type 0} (next : List A → Format A) (Fits : List A → A → Type 0) (spelling : A → List ℕ) → ((before : List A) → IsSpelledBy (next before) (Fits before) spelling)
    → (before : List A) (n : ℕ) (xs : List A) (bytes : List ℕ) → Spells (in_turn next before n) xs bytes → (length xs ≡ n) × AllInTurn Fits before xs × (bytes ≡ flat_map spelling xs)
unfolding in_turn
in_turn_only next Fits spelling by before zero xs bytes s = rw s.0 (refl, tt, s.1)
in_turn_only next Fits spelling by before (suc n) xs bytes s =
    let first = (by before).only s.0 s.1 s.3 in
    let t = s.4 in
    let others = in_turn_only next Fits spelling by (before ++ s.0 ∷ []) n t.0 t.1 t.3 in
    let is : xs ≡ s.0 ∷ t.0 = t.4.0 in
    let parts : bytes ≡ spelling s.0 ++ flat_map spelling t.0 = s.5 ∙ rw (first.1, t.5, others.2, t.4.1) (ap (λ (x : List ℕ). spelling s.0 ++ x) (append-nil (flat_map spelling t.0))) in
    rw is (ap suc others.0, (first.0, others.1), parts ∙ sym (flat_map-cons spelling s.0 t.0))

pub in_turn_again : {A : Type 0} (next : List A → Format A) (Fits : List A → A → Type 0) (spelling : A → List ℕ) → ((before : List A) → IsSpelledBy (next before) (Fits before) spelling)
    → (before xs : List A) → AllInTurn Fits before xs → Spells (in_turn next before (length xs)) xs (flat_map spelling xs)
unfolding in_turn
in_turn_again next Fits spelling by before [] fits = (refl, refl)
in_turn_again next Fits spelling by before (x ∷ xs) fits = (
  x,
  spelling x,
  flat_map spelling xs,
  (by before).spelled x fits.0,
  (xs, flat_map spelling xs, [], in_turn_again next Fits spelling by (before ++ x ∷ []) xs fits.1, (refl, refl), sym (append-nil (flat_map spelling xs))),
  flat_map-cons spelling x xs,
)
