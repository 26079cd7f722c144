-- Words parted by blanks are the words of the line.
use Rattle.std.proofs.Common.{◌≡◌, ℕ, true, not, List, [], ◌∷◌, ◌++◌, map, filter, refl, ap, ◌∙◌, append-nil}
use Rattle.std.specs.List.{list_all, slice_split}
use Rattle.std.proofs.lemmas.Bool.{and_parts, not-true}
use Rattle.sm_grammar.specs.Words.{words_of, is_blank, is_word}
use Rattle.sm_grammar.specs.Parted.{Placed, parted, all_blank, IsPlaced, AreApart, AreParted}

blank_first : (b : ℕ) (rest : List ℕ) → is_blank b ≡ true → words_of (b ∷ rest) ≡ words_of rest
unfolding words_of
blank_first b rest e = rw e refl

blanks_first : (blanks rest : List ℕ) → all_blank blanks ≡ true → words_of (blanks ++ rest) ≡ words_of rest
blanks_first [] rest e = refl
blanks_first (b ∷ bs) rest e = let a = and_parts (is_blank b) (all_blank bs) e in blank_first b (bs ++ rest) a.0 ∙ blanks_first bs rest a.1

part_first : (word rest : List ℕ) (b : ℕ) → list_all (λ c. not (is_blank c)) word ≡ true → is_blank b ≡ true → slice_split is_blank (word ++ (b ∷ rest)) ≡ word ∷ slice_split is_blank rest
part_first [] rest b solid blank = rw blank refl
part_first (c ∷ cs) rest b solid blank =
    let a = and_parts (not (is_blank c)) (list_all (λ d. not (is_blank d)) cs) solid in
    rw (not-true (is_blank c) a.0, part_first cs rest b a.1 blank) refl

part_alone : (word : List ℕ) → list_all (λ c. not (is_blank c)) word ≡ true → slice_split is_blank word ≡ word ∷ []
part_alone [] solid = refl
part_alone (c ∷ cs) solid =
    let a = and_parts (not (is_blank c)) (list_all (λ d. not (is_blank d)) cs) solid in
    rw (not-true (is_blank c) a.0, part_alone cs a.1) refl

kept : (word : List ℕ) (parts : List (List ℕ)) → is_word word ≡ true → filter is_word (word ∷ parts) ≡ word ∷ filter is_word parts
kept word parts some = rw some refl

word_first : (word rest : List ℕ) (b : ℕ) → is_word word ≡ true → list_all (λ c. not (is_blank c)) word ≡ true → is_blank b ≡ true → words_of (word ++ (b ∷ rest)) ≡ word ∷ words_of (b ∷ rest)
unfolding words_of
word_first word rest b some solid blank = ap (filter is_word) (part_first word rest b solid blank) ∙ kept word (slice_split is_blank rest) some ∙ rw blank refl

word_last : (word : List ℕ) → is_word word ≡ true → list_all (λ c. not (is_blank c)) word ≡ true → words_of (word ++ []) ≡ word ∷ []
unfolding words_of
word_last word some solid = ap (λ t. filter is_word (slice_split is_blank t)) (append-nil word) ∙ ap (filter is_word) (part_alone word solid) ∙ kept word [] some

no_words : (end : List ℕ) → all_blank end ≡ true → words_of end ≡ []
unfolding words_of
no_words [] e = refl
no_words (b ∷ bs) e = let a = and_parts (is_blank b) (all_blank bs) e in rw a.0 (no_words bs a.1)

at_end : (word end : List ℕ) → is_word word ≡ true → list_all (λ c. not (is_blank c)) word ≡ true → all_blank end ≡ true → words_of (word ++ end) ≡ word ∷ []
at_end word [] some solid e = word_last word some solid
at_end word (b ∷ bs) some solid e = word_first word bs b some solid (and_parts (is_blank b) (all_blank bs) e).0 ∙ ap (λ w. word ∷ w) (no_words (b ∷ bs) e)

apart : (word blanks rest : List ℕ) → is_word word ≡ true → list_all (λ c. not (is_blank c)) word ≡ true → is_word blanks ≡ true → all_blank blanks ≡ true → words_of (word ++ (blanks ++ rest)) ≡ word ∷ words_of (blanks ++ rest)
apart word [] rest some solid more blank = absurd (cc)
apart word (b ∷ bs) rest some solid more blank = word_first word (bs ++ rest) b some solid (and_parts (is_blank b) (all_blank bs) blank).0

behind_blanks : (p : Placed) (ps : List Placed) (end : List ℕ) → IsPlaced p → AreApart ps → all_blank end ≡ true → words_of (p.word ++ parted ps end) ≡ p.word ∷ map (λ q. q.word) ps
behind_blanks p [] end placed others blank = at_end p.word end placed.some placed.solid blank
behind_blanks p (q ∷ qs) end placed others blank =
    apart p.word q.blanks (q.word ++ parted qs end) placed.some placed.solid others.1 others.0.blank
    ∙ ap (λ w. p.word ∷ w) (blanks_first q.blanks (q.word ++ parted qs end) others.0.blank ∙ behind_blanks q qs end others.0 others.2 blank)

-- words parted by blanks are the words of the line
pub words_parted : (ps : List Placed) (end : List ℕ) → AreParted ps end → words_of (parted ps end) ≡ map (λ p. p.word) ps
words_parted [] end blank = no_words end blank
words_parted (p ∷ ps) end s = blanks_first p.blanks (p.word ++ parted ps end) s.0.blank ∙ behind_blanks p ps end s.0 s.1 s.2
