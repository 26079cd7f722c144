-- A text by its first line, and a line by its first word.
use Rattle.std.proofs.Common.{◌≡◌, ℕ, zero, suc, ◌+◌, ◌-◌, ◌<◌, ◌≤◌, ◌==◌, ◌&&◌, Bool, true, false, cond, List, [], ◌∷◌, length, take, drop, get_or, Option, Some, None, position, filter, refl, ap, ◌∙◌, sym, arith, add-one}
use borrow.Author.Tests.{lt-ltb}
use Rattle.std.specs.List.{position_from, onto_first, slice_split}
use Rattle.std.proofs.lemmas.Iterator.Adapters.{position_from-zero}
use Rattle.std.proofs.lemmas.List.Quantifiers.{position-Some}
use Rattle.sm_grammar.specs.Lines.{lines_of, without_return, begins_with_feed}
use Rattle.sm_grammar.specs.Words.{words_of, is_blank, is_word}

cond_cons : (t : Bool) (b : ℕ) (xs ys : List ℕ) → cond t (b ∷ xs) (b ∷ ys) ≡ b ∷ cond t xs ys
cond_cons true b xs ys = refl
cond_cons false b xs ys = refl

return_behind : (b c : ℕ) (bs : List ℕ) → without_return (b ∷ c ∷ bs) ≡ b ∷ without_return (c ∷ bs)
return_behind b c bs =
    let e : length (b ∷ c ∷ bs) - 1 ≡ suc (length (c ∷ bs) - 1) = omega arith in
    rw e (cond_cons (get_or (c ∷ bs) (length (c ∷ bs) - 1) 0 == 13) b (take (length (c ∷ bs) - 1) (c ∷ bs)) (c ∷ bs))

one_byte_line : (t : Bool) (b : ℕ) (rest : List (List ℕ)) → cond (t && true) ([] ∷ rest) ((b ∷ []) ∷ rest) ≡ cond t [] (b ∷ []) ∷ rest
one_byte_line true b rest = refl
one_byte_line false b rest = refl

not_both : (t : Bool) → (t && false) ≡ false
not_both true = refl
not_both false = refl

second_chosen : {A : Type 0} (t u : Bool) (x y z : A) → t ≡ false → u ≡ false → cond t x (cond u y z) ≡ z
second_chosen t u x y z first second = rw (first, second) refl

byte_first : (b : ℕ) (bs : List ℕ) → (b == 10) ≡ false → begins_with_feed bs ≡ false → lines_of (b ∷ bs) ≡ onto_first b (lines_of bs)
byte_first b bs first second =
    second_chosen (b == 10) ((b == 13) && begins_with_feed bs) ([] ∷ lines_of bs) (lines_of bs) (onto_first b (lines_of bs)) first (ap (λ t. (b == 13) && t) second ∙ not_both (b == 13))

line_at : (at : ℕ) (text : List ℕ) → at < length text → ((k : ℕ) → k < at → (get_or text k 0 == 10) ≡ false) → (get_or text at 0 == 10) ≡ true →
    lines_of text ≡ without_return (take at text) ∷ lines_of (drop (suc at) text)
line_at at [] less before here = absurd (omega arith)
line_at zero (b ∷ bs) less before here = rw here refl
line_at (suc at) (b ∷ []) less before here = absurd (omega arith)
line_at (suc zero) (b ∷ c ∷ bs) less before here =
    let first = before 0 (omega arith) in
    rw (first, here) (one_byte_line (b == 13) b (lines_of bs))
line_at (suc (suc at)) (b ∷ c ∷ bs) less before here =
    let first = before 0 (omega arith) in
    let second = before 1 (omega arith) in
    let more = line_at (suc at) (c ∷ bs) (omega arith) (λ k h. before (suc k) (omega arith)) here in
    byte_first b (c ∷ bs) first second ∙ ap (onto_first b) more ∙ ap (λ l. l ∷ lines_of (drop (suc at) bs)) (sym (return_behind b c (take at bs)))

pub line_to : (text : List ℕ) (at : ℕ) → position (λ b. b == 10) text ≡ Some at → lines_of text ≡ without_return (take at text) ∷ lines_of (drop (at + 1) text)
line_to text at e = let p = position-Some (λ b. b == 10) text at 0 e in rw add-one (line_at at text p.0 p.2 p.1)

passed_over : (t : Bool) (i : ℕ) (rest : Option ℕ) → cond t (Some i) rest ≡ None → (t ≡ false) × (rest ≡ None)
passed_over true i rest e = absurd (cc)
passed_over false i rest e = (refl, e)

no_line_end : (i : ℕ) (text : List ℕ) → position_from (λ b. b == 10) i text ≡ None → 0 < length text → lines_of text ≡ text ∷ []
no_line_end i [] h some = absurd (omega arith)
no_line_end i (b ∷ []) h some = let t = passed_over (b == 10) i None h in byte_first b [] t.0 refl
no_line_end i (b ∷ c ∷ bs) h some =
    let t = passed_over (b == 10) i (position_from (λ b. b == 10) (i + 1) (c ∷ bs)) h in
    let u = passed_over (c == 10) (i + 1) (position_from (λ b. b == 10) (i + 1 + 1) bs) t.1 in
    let more : 0 < length (c ∷ bs) = omega arith in
    byte_first b (c ∷ bs) t.0 u.0 ∙ ap (onto_first b) (no_line_end (i + 1) (c ∷ bs) t.1 more)

pub one_line : (text : List ℕ) → position (λ b. b == 10) text ≡ None → 0 < length text → lines_of text ≡ text ∷ []
one_line text e some = no_line_end 0 text (sym (position_from-zero (λ b. b == 10) text) ∙ e) some

part_at : (p : ℕ → Bool) (at : ℕ) (text : List ℕ) → at < length text → ((k : ℕ) → k < at → p (get_or text k 0) ≡ false) → p (get_or text at 0) ≡ true →
    slice_split p text ≡ take at text ∷ slice_split p (drop (suc at) text)
part_at p at [] less before here = absurd (omega arith)
part_at p zero (b ∷ bs) less before here = rw here refl
part_at p (suc at) (b ∷ bs) less before here =
    let first = before 0 (omega arith) in
    rw (first, part_at p at bs (omega arith) (λ k h. before (suc k) (omega arith)) here) refl

part_to : (text : List ℕ) (at : ℕ) → position is_blank text ≡ Some at → slice_split is_blank text ≡ take at text ∷ slice_split is_blank (drop (at + 1) text)
part_to text at e = let p = position-Some is_blank text at 0 e in rw add-one (part_at is_blank at text p.0 p.2 p.1)

one_part : (i : ℕ) (text : List ℕ) → position_from is_blank i text ≡ None → slice_split is_blank text ≡ text ∷ []
one_part i [] h = refl
one_part i (b ∷ bs) h =
    let t = passed_over (is_blank b) i (position_from is_blank (i + 1) bs) h in
    rw (t.0, one_part (i + 1) bs t.1) refl

kept : (word : List ℕ) (parts : List (List ℕ)) → 0 < length word → filter is_word (word ∷ parts) ≡ word ∷ filter is_word parts
kept [] parts some = absurd (omega arith)
kept (b ∷ bs) parts some = rw (lt-ltb 0 (length (b ∷ bs)) some) refl

left_out : (word : List ℕ) (parts : List (List ℕ)) → length word ≡ 0 → filter is_word (word ∷ parts) ≡ filter is_word parts
left_out [] parts none = refl
left_out (b ∷ bs) parts none = absurd (omega arith)

length_take_front : (at : ℕ) (text : List ℕ) → at ≤ length text → length (take at text) ≡ at
length_take_front zero text fits = refl
length_take_front (suc at) [] fits = absurd (omega arith)
length_take_front (suc at) (b ∷ bs) fits = let e = length_take_front at bs (omega arith) in omega arith

-- a word stands before a blank that is not the first byte
pub word_to : (text : List ℕ) (at : ℕ) → position is_blank text ≡ Some at → 0 < at → words_of text ≡ take at text ∷ words_of (drop (at + 1) text)
unfolding words_of
word_to text at e some =
    let p = position-Some is_blank text at 0 e in
    ap (filter is_word) (part_to text at e) ∙ kept (take at text) (slice_split is_blank (drop (at + 1) text)) (let e = length_take_front at text (omega arith) in omega arith)

-- a blank at the front is passed over
pub blank_passed : (text : List ℕ) (at : ℕ) → position is_blank text ≡ Some at → at ≡ 0 → words_of text ≡ words_of (drop (at + 1) text)
unfolding words_of
blank_passed text at e first =
    ap (filter is_word) (part_to text at e) ∙ left_out (take at text) (slice_split is_blank (drop (at + 1) text)) (rw first refl)

pub last_word : (text : List ℕ) → position is_blank text ≡ None → 0 < length text → words_of text ≡ text ∷ []
unfolding words_of
last_word text e some = ap (filter is_word) (one_part 0 text (sym (position_from-zero is_blank text) ∙ e)) ∙ kept text [] some

pub no_word : (text : List ℕ) → length text ≡ 0 → words_of text ≡ []
unfolding words_of
no_word [] e = refl
no_word (b ∷ bs) e = absurd (omega arith)
