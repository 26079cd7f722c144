-- Reading gives exactly what the grammar says: the value that is spelled, or the first fault.
use Rattle.std.proofs.Common.{◌≡◌, ℕ, ◌+◌, ◌<◌, ◌≤◌, ◌⊎◌, Bool, true, false, cond, ltb, List, [], ◌∷◌, ◌++◌, length, take, drop, Result, Ok, Err, refl, sym, ap, subst, ◌∙◌, append_assoc, length-append, arith, inl, inr}
use Rattle.std.specs.Prelude.{nat_le, ◌&&◌}
use Rattle.std.proofs.lemmas.Bool.{and_parts, cases_Bool, ltb-false, leb-true, le-leb, le-ltb, lt-ltb, cases_lt}
use Rattle.std.proofs.lemmas.List.{take_at, drop_at, take-append-drop, length-take}
use Rattle.sm_fields.specs.Format.{Format, Size}
use Rattle.sm_fields.specs.Grammar.{digits, limit, with_length, Spells, BeginsWithNone, Fault}
use Rattle.sm_fields.specs.Place.{Place, moved, IsBytes, Takes}
use Rattle.sm_fields.specs.Reading.{and_then, width, number_of, number_at, text_in, read}
use Rattle.sm_fields.proofs.Sizes.{IsBytes-drop, IsBytes-rest, length-digits, digits-number_of, number_of-digits, number_of_below, IsBytes-take}

-- the value of a step that did not fail
pub and_then_ok : {A B : Type 0} (r : Result A ℕ) (f : A → Result B ℕ) (y : B) → and_then r f ≡ Ok y → (x : A) × (r ≡ Ok x) × (f x ≡ Ok y)
and_then_ok (Ok x) f y e = (x, refl, e)
and_then_ok (Err d) f y e = absurd cc

-- which step failed
pub and_then_err : {A B : Type 0} (r : Result A ℕ) (f : A → Result B ℕ) (d : ℕ) → and_then r f ≡ Err d → (r ≡ Err d) ⊎ ((x : A) × (r ≡ Ok x) × (f x ≡ Err d))
and_then_err (Ok x) f d e = inr (x, refl, e)
and_then_err (Err k) f d e = inl cc

-- the value of a choice that did not fail
pub chosen_ok : {A : Type 0} (b : Bool) (d : ℕ) (x y : A) → cond b (Ok x) (Err d) ≡ Ok y → (b ≡ true) × (x ≡ y)
chosen_ok true d x y e = (refl, cc)
chosen_ok false d x y e = absurd cc

-- the fault of a choice that failed
pub chosen_err : {A : Type 0} (b : Bool) (d k : ℕ) (x : A) → cond b (Ok x) (Err d) ≡ Err k → (b ≡ false) × (d ≡ k)
chosen_err true d k x e = absurd cc
chosen_err false d k x e = (refl, cc)

guarded_ok : {A : Type 0} (b : Bool) (d : ℕ) (x y : A) → cond b (Err d) (Ok x) ≡ Ok y → (b ≡ false) × (x ≡ y)
guarded_ok true d x y e = absurd cc
guarded_ok false d x y e = (refl, cc)

guarded_err : {A : Type 0} (b : Bool) (d k : ℕ) (x : A) → cond b (Err d) (Ok x) ≡ Err k → (b ≡ true) × (d ≡ k)
guarded_err true d k x e = (refl, cc)
guarded_err false d k x e = absurd cc

abbrev Taken : {A : Type 0} → Format A → Place → A × Place → Type 0
Taken f p x = Takes f p x.0 x.1 × IsBytes x.1.rest

abbrev pub ok : {A : Type 0} → A → Result A ℕ
ok x = Ok x

pub ok_is : {A : Type 0} (x y : A) → ok x ≡ ok y → x ≡ y
ok_is x y e = cc

number_takes : (size : Size) (p : Place) (x : ℕ × Place) → IsBytes p.rest → number_at size p ≡ Ok x → Taken (Format.number size) p x
number_takes size p x fits e =
    let made : ℕ × Place = (number_of size (take (width size) p.rest), moved p (width size)) in
    let g = guarded_ok (ltb (length p.rest) (width size)) p.at made x e in
    let long : width size ≤ length p.rest = ltb-false _ _ g.0 in
    let len : length (take (width size) p.rest) ≡ width size = omega (arith, length-take (width size) p.rest) in
    let front = take (width size) p.rest in
    let bytes-fit = IsBytes-take (width size) p.rest fits in
    subst (Taken (Format.number size) p) g.1
    ((front, (number_of_below size front bytes-fit, sym (digits-number_of size front len bytes-fit)), sym (take-append-drop (width size) p.rest), ap (λ (n : ℕ). p.at + n) (sym len)), IsBytes-drop (width size) p.rest fits)

text_takes : (most at : ℕ) (bytes : List ℕ) (x : List ℕ × Place) → IsBytes bytes → text_in most at bytes ≡ Ok x → Taken (Format.text most) (record { at = at; rest = bytes }) x
text_takes most at [] x fits e = absurd cc
text_takes most at (len ∷ rest) x fits e =
    let made : List ℕ × Place = (take len rest, record { at = at + (1 + len); rest = drop len rest }) in
    let g = chosen_ok (nat_le len most && nat_le len (length rest)) at made x e in
    let both = and_parts (nat_le len most) (nat_le len (length rest)) g.0 in
    let small : len ≤ most = leb-true len most both.0 in
    let long : len ≤ length rest = leb-true len (length rest) both.1 in
    let is : length (take len rest) ≡ len = omega (arith, length-take len rest) in
    let spelled : len ∷ take len rest ≡ with_length (take len rest) = ap (λ (n : ℕ). n ∷ take len rest) (sym is) in
    subst (Taken (Format.text most) (record { at = at; rest = len ∷ rest })) g.1
    ((len ∷ take len rest, (omega arith, spelled), ap (λ (t : List ℕ). len ∷ t) (sym (take-append-drop len rest)), omega (arith, is)), IsBytes-drop len rest (IsBytes-rest len rest fits))

pub read_takes : {A : Type 0} (f : Format A) (p : Place) (x : A × Place) → IsBytes p.rest → read f p ≡ Ok x → Takes f p x.0 x.1 × IsBytes x.1.rest
read_takes (Format.empty a) p x fits e = subst (Taken (Format.empty a) p) (ok_is (a, p) x e) (([], (refl, refl), refl, omega arith), fits)
read_takes (Format.number size) p x fits e = number_takes size p x fits e
read_takes (Format.text most) p x fits e = text_takes most p.at p.rest x fits e
read_takes (Format.such_that f holds) p x fits e =
    let a = and_then_ok (read f p) (λ y. cond (holds y.0) (Ok y) (Err p.at)) x e in
    let g = chosen_ok (holds a.0.0) p.at a.0 x a.2 in
    let t = read_takes f p a.0 fits a.1 in
    subst (Taken (Format.such_that f holds) p) g.1 ((t.0.0, (t.0.1, g.0), t.0.2, t.0.3), t.1)
read_takes (Format.then f next) p x fits e =
    let a = and_then_ok (read f p) (λ y. read (next y.0) y.1) x e in
    let t = read_takes f p a.0 fits a.1 in
    let u = read_takes (next a.0.0) a.0.1 x t.1 a.2 in
    let whole : p.rest ≡ (t.0.0 ++ u.0.0) ++ x.1.rest = t.0.2 ∙ ap (λ (r : List ℕ). t.0.0 ++ r) u.0.2 ∙ sym (append_assoc t.0.0 u.0.0 x.1.rest) in
    ((t.0.0 ++ u.0.0, (a.0.0, t.0.0, u.0.0, t.0.1, u.0.1, refl), whole, omega (arith, length-append t.0.0 u.0.0, t.0.3, u.0.3)), u.1)

abbrev standing : ℕ → List ℕ → Place
standing at bytes = record { at = at; rest = bytes }

standing_is : (a b : ℕ) (x y : List ℕ) → a ≡ b → x ≡ y → standing a x ≡ standing b y
standing_is a b x y p q = ap (λ (n : ℕ). standing n x) p ∙ ap (λ (r : List ℕ). standing b r) q

abbrev failed : {A : Type 0} → ℕ → Result A ℕ
failed at = Err at

abbrev gives : {A : Type 0} → A → ℕ → List ℕ → Result (A × Place) ℕ
gives value at rest = Ok (value, standing at rest)

gives_is : {A : Type 0} (v w : A) (a b : ℕ) (x y : List ℕ) → v ≡ w → a ≡ b → x ≡ y → gives v a x ≡ gives w b y
gives_is v w a b x y e p q = ap (λ u. gives u a x) e ∙ ap (λ (n : ℕ). gives w n x) p ∙ ap (λ (r : List ℕ). gives w b r) q

number_again : (size : Size) (n at : ℕ) (bytes front rest : List ℕ) → n < limit size → front ≡ digits size n → bytes ≡ front ++ rest → number_at size (standing at bytes) ≡ gives n (at + length front) rest
number_again size n at bytes front rest lt spelled parts =
    let len : length front ≡ width size = ap length spelled ∙ length-digits size n in
    let long : ltb (length bytes) (width size) ≡ false = le-ltb _ _ (omega (arith, ap length parts, length-append front rest)) in
    let taken : take (width size) bytes ≡ front = ap (take (width size)) parts ∙ take_at front rest (width size) len in
    let left : drop (width size) bytes ≡ rest = ap (drop (width size)) parts ∙ drop_at front rest (width size) len in
    let value : number_of size (take (width size) bytes) ≡ n = ap (number_of size) (taken ∙ spelled) ∙ number_of-digits size n lt in
    rw long (gives_is (number_of size (take (width size) bytes)) n (at + width size) (at + length front) (drop (width size) bytes) rest value (omega (arith, len)) left)

text_again : (most at : ℕ) (value bytes front rest : List ℕ) → length value ≤ most → front ≡ with_length value → bytes ≡ front ++ rest → text_in most at bytes ≡ gives value (at + length front) rest
text_again most at value bytes front rest small spelled parts =
    let whole : bytes ≡ length value ∷ (value ++ rest) = parts ∙ ap (λ (f : List ℕ). f ++ rest) spelled in
    let fits : nat_le (length value) most ≡ true = le-leb (length value) most small in
    let long : nat_le (length value) (length (value ++ rest)) ≡ true = le-leb _ _ (omega (arith, length-append value rest)) in
    ap (text_in most at) whole
    ∙ rw (fits, long) (gives_is (take (length value) (value ++ rest)) value (at + (1 + length value)) (at + length front) (drop (length value) (value ++ rest)) rest (take_at value rest (length value) refl) (omega (arith, ap length spelled)) (drop_at value rest (length value) refl))

pub read_again : {A : Type 0} (f : Format A) (value : A) (at : ℕ) (bytes front rest : List ℕ) → Spells f value front → bytes ≡ front ++ rest → read f (standing at bytes) ≡ gives value (at + length front) rest
read_again (Format.empty a) value at bytes front rest s parts = gives_is a value at (at + length front) bytes rest (sym s.0) (omega (arith, ap length s.1)) (parts ∙ ap (λ (f : List ℕ). f ++ rest) s.1)
read_again (Format.number size) value at bytes front rest s parts = number_again size value at bytes front rest s.0 s.1 parts
read_again (Format.text most) value at bytes front rest s parts = text_again most at value bytes front rest s.0 s.1 parts
read_again (Format.such_that f holds) value at bytes front rest s parts = rw (read_again f value at bytes front rest s.0 parts, s.1) refl
read_again (Format.then f next) value at bytes front rest s parts =
    let regrouped : bytes ≡ s.1 ++ (s.2 ++ rest) = parts ∙ ap (λ (t : List ℕ). t ++ rest) s.5 ∙ append_assoc s.1 s.2 rest in
    let one = read_again f s.0 at bytes s.1 (s.2 ++ rest) s.3 regrouped in
    let two = read_again (next s.0) value (at + length s.1) (s.2 ++ rest) s.2 rest s.4 refl in
    rw (one, two) (gives_is value value ((at + length s.1) + length s.2) (at + length front) rest rest refl (omega (arith, ap length s.5, length-append s.1 s.2)) refl)

abbrev Faulty : {A : Type 0} → Format A → Place → ℕ → Type 0
Faulty f p k = (further : ℕ) × Fault f p.rest further × (k ≡ p.at + further)

number_faults : (size : Size) (p : Place) (k : ℕ) → number_at size p ≡ Err k → Faulty (Format.number size) p k
number_faults size p k e =
    let g = guarded_err (ltb (length p.rest) (width size)) p.at k (number_of size (take (width size) p.rest), moved p (width size)) e in
    let short : length p.rest < width size = grind (arith, g.0) in
    (0, (refl, λ value front rest b. omega (arith, ap length b.1, length-append front rest, ap length b.0.1, length-digits size value)), omega (arith, g.1))

err_is : {A : Type 0} (a b : ℕ) → failed {A = A} a ≡ failed {A = A} b → a ≡ b
err_is a b e = cc

text_none : (most len : ℕ) (after value front rest : List ℕ) → (nat_le len most && nat_le len (length after)) ≡ false → length value ≤ most → front ≡ with_length value → len ∷ after ≡ front ++ rest → ⊥
text_none most len after value front rest refused small spelled parts =
    let whole : len ∷ after ≡ length value ∷ (value ++ rest) = parts ∙ ap (λ (f : List ℕ). f ++ rest) spelled in
    let same : len ≡ length value = cc in
    let behind : after ≡ value ++ rest = cc in
    let fits : nat_le len most ≡ true = le-leb len most (omega (arith, same)) in
    let long : nat_le len (length after) ≡ true = le-leb _ _ (omega (arith, same, ap length behind, length-append value rest)) in
    let passed : (nat_le len most && nat_le len (length after)) ≡ true = rw (fits, long) refl in
    absurd cc

text_faults : (most at : ℕ) (bytes : List ℕ) (k : ℕ) → text_in most at bytes ≡ Err k → Faulty (Format.text most) (standing at bytes) k
text_faults most at [] k e = (0, (refl, λ value front rest b. omega (arith, ap length b.1, length-append front rest, ap length b.0.1)), omega (arith, err_is {A = List ℕ × Place} at k e))
text_faults most at (len ∷ after) k e =
    let g = chosen_err (nat_le len most && nat_le len (length after)) at k (take len after, standing (at + (1 + len)) (drop len after)) e in
    (0, (refl, λ value front rest b. text_none most len after value front rest g.0 b.0.0 b.0.1 b.1), omega (arith, g.1))

-- where reading fails is the first fault
pub read_faults : {A : Type 0} (f : Format A) (p : Place) (k : ℕ) → IsBytes p.rest → read f p ≡ Err k → (further : ℕ) × Fault f p.rest further × (k ≡ p.at + further)
read_faults (Format.empty a) p k fits e = absurd cc
read_faults (Format.number size) p k fits e = number_faults size p k e
read_faults (Format.text most) p k fits e = text_faults most p.at p.rest k e
read_faults (Format.such_that f holds) p k fits e =
    elim (and_then_err (read f p) (λ y. cond (holds y.0) (Ok y) (Err p.at)) k e) [
      | inl failed ↦ let t = read_faults f p k fits failed in (t.0, inl t.1, t.2)
      | inr a ↦
          let g = chosen_err (holds a.0.0) p.at k a.0 a.2 in
          let t = read_takes f p a.0 fits a.1 in
          (0, inr (refl, a.0.0, t.0.0, a.0.1.rest, (t.0.1, t.0.2), g.0), omega (arith, g.1))
    ]
read_faults (Format.then f next) p k fits e =
    elim (and_then_err (read f p) (λ y. read (next y.0) y.1) k e) [
      | inl failed ↦ let t = read_faults f p k fits failed in (t.0, inl t.1, t.2)
      | inr a ↦
          let t = read_takes f p a.0 fits a.1 in
          let u = read_faults (next a.0.0) a.0.1 k t.1 a.2 in
          (length t.0.0 + u.0, inr (a.0.0, t.0.0, a.0.1.rest, (t.0.1, t.0.2), u.0, u.1, refl), omega (arith, t.0.3, u.2))
    ]

number_stops : (size : Size) (bytes : List ℕ) (at : ℕ) → IsBytes bytes → BeginsWithNone (Format.number size) bytes → number_at size (standing at bytes) ≡ Err at
number_stops size bytes at fits none =
    elim (cases_lt (length bytes) (width size)) [
      | inl short ↦ rw (lt-ltb (length bytes) (width size) short) refl
      | inr long ↦
          let front = take (width size) bytes in
          let front-fits = IsBytes-take (width size) bytes fits in
          let len : length front ≡ width size = omega (arith, length-take (width size) bytes) in
          absurd (none (number_of size front) front (drop (width size) bytes) ((number_of_below size front front-fits, sym (digits-number_of size front len front-fits)), sym (take-append-drop (width size) bytes)))
    ]

text_stops : (most at : ℕ) (bytes : List ℕ) → BeginsWithNone (Format.text most) bytes → text_in most at bytes ≡ Err at
text_stops most at [] none = refl
text_stops most at (len ∷ rest) none =
    elim (cases_Bool (nat_le len most && nat_le len (length rest))) [
      | inl holds ↦
          let both = and_parts (nat_le len most) (nat_le len (length rest)) holds in
          let small = leb-true len most both.0 in
          let long = leb-true len (length rest) both.1 in
          let is : length (take len rest) ≡ len = omega (arith, length-take len rest) in
          absurd (none (take len rest) (len ∷ take len rest) (drop len rest) ((omega arith, ap (λ (n : ℕ). n ∷ take len rest) (sym is)), ap (λ (t : List ℕ). len ∷ t) (sym (take-append-drop len rest))))
      | inr fails ↦ rw fails refl
    ]

IsBytes-behind : (bytes front rest : List ℕ) → IsBytes bytes → bytes ≡ front ++ rest → IsBytes rest
IsBytes-behind bytes front rest fits parts = subst IsBytes (ap (drop (length front)) parts ∙ drop_at front rest (length front) refl) (IsBytes-drop (length front) bytes fits)

-- and at the first fault reading fails
pub faults_stop : {A : Type 0} (f : Format A) (bytes : List ℕ) (further at : ℕ) → IsBytes bytes → Fault f bytes further → read f (standing at bytes) ≡ Err (at + further)
faults_stop (Format.empty a) bytes further at fits fault = absurd fault
faults_stop (Format.number size) bytes further at fits fault = number_stops size bytes at fits fault.1 ∙ ap Err (omega (arith, fault.0))
faults_stop (Format.text most) bytes further at fits fault = text_stops most at bytes fault.1 ∙ ap Err (omega (arith, fault.0))
faults_stop (Format.such_that f holds) bytes further at fits fault =
    elim fault [
      | inl inner ↦ rw (faults_stop f bytes further at fits inner) refl
      | inr t ↦
          let one = read_again f t.1 at bytes t.2 t.3 t.4.0 t.4.1 in
          let moved-on : at ≡ at + further = omega (arith, t.0) in
          rw (one, t.5) (ap Err moved-on)
    ]
faults_stop (Format.then f next) bytes further at fits fault =
    elim fault [
      | inl inner ↦ rw (faults_stop f bytes further at fits inner) refl
      | inr t ↦
          let one = read_again f t.0 at bytes t.1 t.2 t.3.0 t.3.1 in
          let two = faults_stop (next t.0) t.2 t.4 (at + length t.1) (IsBytes-behind bytes t.1 t.2 fits t.3.1) t.5 in
          let place : (at + length t.1) + t.4 ≡ at + further = omega (arith, t.6) in
          rw (one, two) (ap Err place)
    ]
