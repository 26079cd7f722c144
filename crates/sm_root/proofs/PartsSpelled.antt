-- The sizes of a root and the words of a snapshot have one spelling each.
use Rattle.std.proofs.Common.{◌≡◌, ℕ, zero, suc, ◌^◌, ◌<◌, ◌≤◌, ◌==◌, Bool, true, false, List, [], ◌∷◌, ◌++◌, length, refl, sym, ◌∙◌, arith, lit<, lit≤}
use Rattle.std.specs.Prelude.{◌&&◌, ◌||◌, nat_le, nat_lt, Option, Some, None}
use Rattle.std.specs.List.{list_all}
use Rattle.std.proofs.lemmas.Bool.{and_from, and_parts, leb-true, le-leb, or_right}
use Rattle.std.proofs.lemmas.List.{append-nil}
use Rattle.sm_base.specs.Name.{is_label, is_snapshot_name, word_byte}
use Rattle.sm_base.specs.declared.numbers.Ident.{Ident}
use Rattle.sm_base.specs.declared.numbers.Kind.{Kind}
use Rattle.sm_base.specs.declared.numbers.Kind.TheVariants.{Rw, Dp}
use Rattle.sm_base.specs.declared.limits.TheConstants.{MOST_LOGICAL, MOST_PHYSICAL, LAST_NUMBER}
use Rattle.sm_fields.specs.Format.{bits8, bits32, bits64}
use Rattle.sm_fields.specs.Grammar.{digits, with_length, Spells, IsSpelledBy}
use Rattle.sm_root.specs.declared.parts.Sizes.{Sizes}
use Rattle.sm_root.specs.declared.head.Head.{Head}
use Rattle.sm_root.specs.Condition.{IsLabel}
use Rattle.sm_root.specs.Spelling.{kind_number, label_text, words_digits, sizes_digits}
use Rattle.sm_root.specs.Layout.{kind_of, kind, label_of, label, sizes, words}

second_true : (a b : Bool) → a ≡ false → (a || b) ≡ true → b ≡ true
second_true true b h e = absurd cc
second_true false b h e = e

-- ---- the kind

kind_bytes : (n : ℕ) (k : Kind) (bytes front back : List ℕ) → nat_le n 1 ≡ true → front ≡ digits bits8 n → k ≡ kind_of n → back ≡ [] → bytes ≡ front ++ back → bytes ≡ digits bits8 (kind_number k)
kind_bytes zero k bytes front back le f is nil parts = parts ∙ rw (f, nil, is) (append-nil (digits bits8 0))
kind_bytes (suc zero) k bytes front back le f is nil parts = parts ∙ rw (f, nil, is) (append-nil (digits bits8 1))
kind_bytes (suc (suc n)) k bytes front back le f is nil parts = absurd (omega (arith, leb-true (suc (suc n)) 1 le))

kind_again : (k : Kind) → Unit {0} → Spells kind k (digits bits8 (kind_number k))
unfolding kind
kind_again Rw fits = (0, digits bits8 0, [], ((lit< tt, refl), refl), (refl, refl), sym (append-nil (digits bits8 0)))
kind_again Dp fits = (1, digits bits8 1, [], ((lit< tt, refl), refl), (refl, refl), sym (append-nil (digits bits8 1)))

kind_only : (k : Kind) (bytes : List ℕ) → Spells kind k bytes → Unit {0} × (bytes ≡ digits bits8 (kind_number k))
unfolding kind
kind_only k bytes s = (tt, kind_bytes s.0 k bytes s.1 s.2 s.3.1 s.3.0.1 s.4.0 s.4.1 s.5)

pub kind_spelled : IsSpelledBy kind (λ _. Unit {0}) (λ k. digits bits8 (kind_number k))
kind_spelled = record { only = kind_only; spelled = kind_again }

-- ---- the label

label_bytes : (t : List ℕ) (l : Option (List ℕ)) (bytes front back : List ℕ) → ((length t == 0) || is_label t) ≡ true → front ≡ with_length t → l ≡ label_of t → back ≡ [] → bytes ≡ front ++ back
    → IsLabel l × (bytes ≡ with_length (label_text l))
label_bytes [] l bytes front back holds f is nil parts = rw is (tt, parts ∙ rw (f, nil) refl)
label_bytes (b ∷ t) l bytes front back holds f is nil parts = rw is (second_true (length (b ∷ t) == 0) (is_label (b ∷ t)) (grind arith) holds, parts ∙ rw (f, nil) (append-nil (with_length (b ∷ t))))

label_only : (l : Option (List ℕ)) (bytes : List ℕ) → Spells label l bytes → IsLabel l × (bytes ≡ with_length (label_text l))
unfolding label
label_only l bytes s = label_bytes s.0 l bytes s.1 s.2 s.3.1 s.3.0.1 s.4.0 s.4.1 s.5

label_again : (l : Option (List ℕ)) → IsLabel l → Spells label l (with_length (label_text l))
unfolding label
label_again None fits = ([], 0 ∷ [], [], ((lit≤ tt, refl), refl), (refl, refl), refl)
label_again (Some []) fits = absurd cc
label_again (Some (b ∷ t)) fits =
    let tests = and_parts (nat_lt 0 (length (b ∷ t)) && nat_le (length (b ∷ t)) 31) (list_all word_byte (b ∷ t)) fits in
    let sizes = and_parts (nat_lt 0 (length (b ∷ t))) (nat_le (length (b ∷ t)) 31) tests.0 in
    (b ∷ t, with_length (b ∷ t), [], ((leb-true (length (b ∷ t)) 31 sizes.1, refl), or_right (length (b ∷ t) == 0) (is_label (b ∷ t)) fits), (refl, refl), sym (append-nil (with_length (b ∷ t))))

pub label_spelled : IsSpelledBy label IsLabel (λ l. with_length (label_text l))
label_spelled = record { only = label_only; spelled = label_again }

-- ---- the words

pub record FitsWords (w : Head) : Type 0 where
  pub name : is_snapshot_name w.name ≡ true
  pub label : IsLabel w.label
  pub time : w.time < 2 ^ 64
  pub made : w.made < 2 ^ 32

pub words_only : (ident : Ident) (w : Head) (bytes : List ℕ) → Spells (words ident) w bytes → FitsWords w × (bytes ≡ words_digits w) × (w.ident ≡ ident)
unfolding words words_digits
words_only ident w bytes s =
    let a = s.4 in
    let b = a.4 in
    let c = b.4 in
    let l = label_spelled.only a.0 a.1 a.3 in
    let tail : b.2 ≡ digits bits32 c.0 = c.5 ∙ rw (c.3.1, c.4.1) (append-nil (digits bits32 c.0)) in
    let whole : bytes ≡ with_length s.0 ++ (with_length (label_text a.0) ++ (digits bits64 b.0 ++ digits bits32 c.0)) = s.5 ∙ rw (s.3.0.1, a.5, l.1, b.5, b.3.1, tail) refl in
    rw c.4.0 (record { name = s.3.1; label = l.0; time = b.3.0; made = c.3.0 }, whole, refl)

pub words_again : (w : Head) → FitsWords w → Spells (words w.ident) w (words_digits w)
unfolding words words_digits
words_again w fits =
    let tests = and_parts (nat_lt 0 (length w.name) && nat_le (length w.name) 64) (list_all word_byte w.name) fits.name in
    let sizes = and_parts (nat_lt 0 (length w.name)) (nat_le (length w.name) 64) tests.0 in (
      w.name,
      with_length w.name,
      with_length (label_text w.label) ++ (digits bits64 w.time ++ digits bits32 w.made),
      ((leb-true (length w.name) 64 sizes.1, refl), fits.name),
      (
        w.label,
        with_length (label_text w.label),
        digits bits64 w.time ++ digits bits32 w.made,
        label_spelled.spelled w.label fits.label,
        (
          w.time,
          digits bits64 w.time,
          digits bits32 w.made,
          (fits.time, refl),
          (w.made, digits bits32 w.made, [], (fits.made, refl), (refl, refl), sym (append-nil (digits bits32 w.made))),
          refl,
        ),
        refl,
      ),
      refl,
    )

-- ---- the sizes

pub record FitsSizes (s : Sizes) : Type 0 where
  pub number : s.number.0 < 2 ^ 32
  pub family : s.family < 2 ^ 64
  pub some_blocks : 1 ≤ s.logical
  pub few_blocks : s.logical ≤ MOST_LOGICAL
  pub room : s.logical ≤ s.physical
  pub few_places : s.physical ≤ MOST_PHYSICAL
  pub counted : (1 ≤ s.next) × (s.next ≤ LAST_NUMBER)

sizes_only : (v : Sizes) (bytes : List ℕ) → Spells sizes v bytes → FitsSizes v × (bytes ≡ sizes_digits v)
unfolding sizes sizes_digits
sizes_only v bytes s =
    let a = s.4 in
    let b = a.4 in
    let c = b.4 in
    let d = c.4 in
    let e = d.4 in
    let k = kind_spelled.only a.0 a.1 a.3 in
    let logical = and_parts (nat_le 1 c.0) (nat_le c.0 MOST_LOGICAL) c.3.1 in
    let physical = and_parts (nat_le c.0 d.0) (nat_le d.0 MOST_PHYSICAL) d.3.1 in
    let next = and_parts (nat_le 1 e.0) (nat_le e.0 LAST_NUMBER) e.3.1 in
    let tail : d.2 ≡ digits bits64 e.0 = e.5 ∙ rw (e.3.0.1, e.4.1) (append-nil (digits bits64 e.0)) in
    let whole : bytes ≡ digits bits32 s.0 ++ (digits bits8 (kind_number a.0) ++ (digits bits64 b.0 ++ (digits bits32 c.0 ++ (digits bits32 d.0 ++ digits bits64 e.0)))) =
    s.5 ∙ rw (s.3.1, a.5, k.1, b.5, b.3.1, c.5, c.3.0.1, d.5, d.3.0.1, tail) refl in
    rw e.4.0 (
      record {
        number = s.3.0;
        family = b.3.0;
        some_blocks = leb-true 1 c.0 logical.0;
        few_blocks = leb-true c.0 MOST_LOGICAL logical.1;
        room = leb-true c.0 d.0 physical.0;
        few_places = leb-true d.0 MOST_PHYSICAL physical.1;
        counted = (leb-true 1 e.0 next.0, leb-true e.0 LAST_NUMBER next.1);
      },
      whole,
    )

sizes_again : (v : Sizes) → FitsSizes v → Spells sizes v (sizes_digits v)
unfolding sizes sizes_digits
sizes_again v fits =
    let logical = and_from (nat_le 1 v.logical) (nat_le v.logical MOST_LOGICAL) (le-leb 1 v.logical fits.some_blocks) (le-leb v.logical MOST_LOGICAL fits.few_blocks) in
    let physical = and_from (nat_le v.logical v.physical) (nat_le v.physical MOST_PHYSICAL) (le-leb v.logical v.physical fits.room) (le-leb v.physical MOST_PHYSICAL fits.few_places) in
    let next = and_from (nat_le 1 v.next) (nat_le v.next LAST_NUMBER) (le-leb 1 v.next fits.counted.0) (le-leb v.next LAST_NUMBER fits.counted.1) in
    let few_logical : v.logical < 2 ^ 32 = omega (arith, fits.few_blocks) in
    let few_physical : v.physical < 2 ^ 32 = omega (arith, fits.few_places) in
    let few_next : v.next < 2 ^ 64 = omega (arith, fits.counted.1) in (
      v.number.0,
      digits bits32 v.number.0,
      digits bits8 (kind_number v.kind) ++ (digits bits64 v.family ++ (digits bits32 v.logical ++ (digits bits32 v.physical ++ digits bits64 v.next))),
      (fits.number, refl),
      (
        v.kind,
        digits bits8 (kind_number v.kind),
        digits bits64 v.family ++ (digits bits32 v.logical ++ (digits bits32 v.physical ++ digits bits64 v.next)),
        kind_spelled.spelled v.kind tt,
        (
          v.family,
          digits bits64 v.family,
          digits bits32 v.logical ++ (digits bits32 v.physical ++ digits bits64 v.next),
          (fits.family, refl),
          (
            v.logical,
            digits bits32 v.logical,
            digits bits32 v.physical ++ digits bits64 v.next,
            ((few_logical, refl), logical),
            (
              v.physical,
              digits bits32 v.physical,
              digits bits64 v.next,
              ((few_physical, refl), physical),
              (v.next, digits bits64 v.next, [], ((few_next, refl), next), (refl, refl), sym (append-nil (digits bits64 v.next))),
              refl,
            ),
            refl,
          ),
          refl,
        ),
        refl,
      ),
      refl,
    )

pub sizes_spelled : IsSpelledBy sizes FitsSizes sizes_digits
sizes_spelled = record { only = sizes_only; spelled = sizes_again }
