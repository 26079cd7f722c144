-- A time is read exactly where it is spelled.
use Rattle.std.proofs.Common.{◌≡◌, ℕ, zero, suc, ◌≤◌, ◌==◌, Bool, true, false, cond, nat_le, List, [], ◌∷◌, ◌++◌, length, take, drop, Option, Some, None, IfSome, option_map, refl, sym, ap, ◌∙◌, subst, arith, take-append-drop}
use borrow.Author.Tests.{le-leb, leb-true, eqb-true}
use Rattle.sm_grammar.specs.declared.time.Moment.{Moment}
use Rattle.sm_grammar.specs.Number.{is_number, place_value, number_of}
use Rattle.sm_grammar.specs.Time.{◌>>=◌, digits, sign, moment_in, seconds_of, time_of}
use Rattle.sm_grammar.specs.TimeSpelling.{SpellsNumber, SpellsDigits, SpellsMoment, SpellsTime}
use Rattle.sm_grammar.proofs.LastSecond.{behind_test, behind_value}
use Rattle.sm_grammar.proofs.NumberSpelled.{good_number, number_parts}

-- ---- what is spelled is read

front_taken : (d rest : List ℕ) (n : ℕ) → length d ≡ n → (take n (d ++ rest) ≡ d) × (drop n (d ++ rest) ≡ rest) × (n ≤ length (d ++ rest))
front_taken [] rest zero e = (refl, refl, omega arith)
front_taken [] rest (suc n) e = absurd (omega arith)
front_taken (b ∷ bs) rest zero e = absurd (omega arith)
front_taken (b ∷ bs) rest (suc n) e = let f = front_taken bs rest n (omega arith) in (ap (λ t. b ∷ t) f.0, f.1, omega (arith, f.2))

number_read : (text : List ℕ) (n : ℕ) → SpellsNumber text n → number_of text ≡ Some n
number_read text n s = ap (λ t. cond t (Some (place_value text)) None) (good_number text n s) ∙ ap Some s.value

digits_read : (n : ℕ) (d rest : List ℕ) (v : ℕ) → SpellsDigits n d v → digits n (d ++ rest) ≡ Some (v, rest)
digits_read n d rest v s =
    let f = front_taken d rest n s.1 in
    rw (le-leb n (length (d ++ rest)) f.2, f.0, f.1, number_read d v s.0) refl

next : {A B : Type 0} (o : Option A) (f : A → Option B) (x : A) (y : B) → o ≡ Some x → f x ≡ Some y → (o >>= f) ≡ Some y
next o f x y e h = ap (λ r. r >>= f) e ∙ h

-- the text from a sign on
abbrev from_second : List ℕ → List ℕ
from_second second = 58 ∷ (second ++ (90 ∷ []))

abbrev from_minute : List ℕ → List ℕ → List ℕ
from_minute minute second = 58 ∷ (minute ++ from_second second)

abbrev from_hour : List ℕ → List ℕ → List ℕ → List ℕ
from_hour hour minute second = 84 ∷ (hour ++ from_minute minute second)

abbrev from_day : List ℕ → List ℕ → List ℕ → List ℕ → List ℕ
from_day day hour minute second = 45 ∷ (day ++ from_hour hour minute second)

abbrev from_month : List ℕ → List ℕ → List ℕ → List ℕ → List ℕ → List ℕ
from_month month day hour minute second = 45 ∷ (month ++ from_day day hour minute second)

moment_read : (m : Moment) (year month day hour minute second : List ℕ) → SpellsDigits 4 year m.year → SpellsDigits 2 month m.month → SpellsDigits 2 day m.day → SpellsDigits 2 hour m.hour → SpellsDigits 2 minute m.minute → SpellsDigits 2 second m.second →
    moment_in (year ++ from_month month day hour minute second) ≡ Some m
unfolding moment_in
moment_read m year month day hour minute second a b c d e f =
    next _ _ (m.year, from_month month day hour minute second) m (digits_read 4 year (from_month month day hour minute second) m.year a)
    (next _ _ (m.month, from_day day hour minute second) m (digits_read 2 month (from_day day hour minute second) m.month b)
    (next _ _ (m.day, from_hour hour minute second) m (digits_read 2 day (from_hour hour minute second) m.day c)
    (next _ _ (m.hour, from_minute minute second) m (digits_read 2 hour (from_minute minute second) m.hour d)
    (next _ _ (m.minute, from_second second) m (digits_read 2 minute (from_second second) m.minute e)
    (next _ _ (m.second, 90 ∷ []) m (digits_read 2 second (90 ∷ []) m.second f) refl)))))

pub time_read : (text : List ℕ) (t : ℕ) → SpellsTime text t → time_of text ≡ Some t
unfolding time_of
time_read text t (m, s, seconds) =
    ap (λ x. moment_in x >>= seconds_of) s.spelled ∙ next _ _ m t (moment_read m s.year s.month s.day s.hour s.minute s.second s.years s.months s.days s.hours s.minutes s.seconds) seconds

-- ---- what was read is spelled

front_length : (n : ℕ) (text : List ℕ) → n ≤ length text → length (take n text) ≡ n
front_length zero text fits = refl
front_length (suc n) [] fits = absurd (omega arith)
front_length (suc n) (b ∷ bs) fits = let e = front_length n bs (omega arith) in omega arith

abbrev value_or : {A : Type 0} → A → Option A → A
value_or other None = other
value_or other (Some x) = x

some_same : {A : Type 0} (x y : A) → Some x ≡ Some y → x ≡ y
some_same {A} x y e = let f : Option A → A = value_or x in ap f e

-- a number and the text behind it
abbrev and_behind : List ℕ → ℕ → (ℕ × List ℕ)
and_behind behind n = (n, behind)

mapped_pair : (o : Option ℕ) (behind : List ℕ) (v : ℕ) (rest : List ℕ) → option_map (and_behind behind) o ≡ Some (v, rest) → (o ≡ Some v) × (behind ≡ rest)
mapped_pair None behind v rest e = absurd (cc)
mapped_pair (Some w) behind v rest e =
    let both = some_same (and_behind behind w) (v, rest) e in
    (ap (λ (p : ℕ × List ℕ). Some p.0) both, ap (λ (p : ℕ × List ℕ). p.1) both)

digits_spelled : (n : ℕ) (text : List ℕ) (v : ℕ) (rest : List ℕ) → digits n text ≡ Some (v, rest) → (d : List ℕ) × (text ≡ d ++ rest) × SpellsDigits n d v
digits_spelled n text v rest e =
    let b = behind_test (nat_le n (length text)) (option_map (and_behind (drop n text)) (number_of (take n text))) (v, rest) e in
    let p = mapped_pair (number_of (take n text)) (drop n text) v rest b.1 in
    let g = behind_test (is_number (take n text)) (Some (place_value (take n text))) v p.0 in
    let same : place_value (take n text) ≡ v = some_same (place_value (take n text)) v g.1 in (
      take n text,
      sym (take-append-drop n text) ∙ ap (λ r. take n text ++ r) p.1,
      (subst (λ w. SpellsNumber (take n text) w) same (number_parts (take n text) g.0), front_length n text (leb-true n (length text) b.0)),
    )

sign_spelled : (byte : ℕ) (text rest : List ℕ) → sign byte text ≡ Some rest → text ≡ byte ∷ rest
sign_spelled byte [] rest e = absurd (cc)
sign_spelled byte (b ∷ bs) rest e =
    let t = behind_test (b == byte) (Some bs) rest e in
    let same : bs ≡ rest = some_same bs rest t.1 in
    rw (eqb-true b byte t.0, same) refl

none_left : (text : List ℕ) → (length text == 0) ≡ true → text ≡ []
none_left [] e = refl
none_left (b ∷ bs) e = let none = eqb-true (length (b ∷ bs)) 0 e in absurd (omega (arith, none))

-- what holds whatever value the first step gives
each : {A B : Type 0} (P : B → Type 0) (o : Option A) (f : A → Option B) → ((x : A) → o ≡ Some x → IfSome (f x) P) → IfSome (o >>= f) P
each P None f h = tt
each P (Some x) f h = h x refl

at_end : {B : Type 0} (P : B → Type 0) (t : Bool) (x : B) → (t ≡ true → P x) → IfSome (cond t (Some x) None) P
at_end P true x h = h refl
at_end P false x h = tt

-- a number behind a sign, and the text behind both
behind_sign : (byte : ℕ) (text rest : List ℕ) (n : ℕ) (v : ℕ × List ℕ) → sign byte text ≡ Some rest → digits n rest ≡ Some v → (d : List ℕ) × (text ≡ byte ∷ (d ++ v.1)) × SpellsDigits n d v.0
behind_sign byte text rest n v first second =
    let d = digits_spelled n rest v.0 v.1 second in
    (d.0, sign_spelled byte text rest first ∙ ap (λ r. byte ∷ r) d.1, d.2)

last_sign : (text rest : List ℕ) → sign 90 text ≡ Some rest → (length rest == 0) ≡ true → text ≡ 90 ∷ []
last_sign text rest first none = sign_spelled 90 text rest first ∙ ap (λ r. 90 ∷ r) (none_left rest none)

-- the parts of a time, each behind the one before it
parts_spelled : (text y mo d h mi s : List ℕ) (year month day hour minute second : ℕ × List ℕ) →
    text ≡ y ++ year.1 → year.1 ≡ 45 ∷ (mo ++ month.1) → month.1 ≡ 45 ∷ (d ++ day.1) → day.1 ≡ 84 ∷ (h ++ hour.1) → hour.1 ≡ 58 ∷ (mi ++ minute.1) → minute.1 ≡ 58 ∷ (s ++ second.1) → second.1 ≡ 90 ∷ [] →
    text ≡ y ++ from_month mo d h mi s
parts_spelled text y mo d h mi s year month day hour minute second a b c e f g z =
    let seconds : minute.1 ≡ from_second s = g ∙ ap (λ r. 58 ∷ (s ++ r)) z in
    let minutes : hour.1 ≡ from_minute mi s = f ∙ ap (λ r. 58 ∷ (mi ++ r)) seconds in
    let hours : day.1 ≡ from_hour h mi s = e ∙ ap (λ r. 84 ∷ (h ++ r)) minutes in
    let days : month.1 ≡ from_day d h mi s = c ∙ ap (λ r. 45 ∷ (d ++ r)) hours in
    let months : year.1 ≡ from_month mo d h mi s = b ∙ ap (λ r. 45 ∷ (mo ++ r)) days in
    a ∙ ap (λ r. y ++ r) months

put_together : (text a b c d e z : List ℕ) (year month day hour minute second : ℕ × List ℕ) →
    digits 4 text ≡ Some year → sign 45 year.1 ≡ Some a → digits 2 a ≡ Some month → sign 45 month.1 ≡ Some b → digits 2 b ≡ Some day → sign 84 day.1 ≡ Some c → digits 2 c ≡ Some hour →
    sign 58 hour.1 ≡ Some d → digits 2 d ≡ Some minute → sign 58 minute.1 ≡ Some e → digits 2 e ≡ Some second → sign 90 second.1 ≡ Some z → (length z == 0) ≡ true →
    SpellsMoment text (record { year = year.0; month = month.0; day = day.0; hour = hour.0; minute = minute.0; second = second.0 })
put_together text a b c d e z year month day hour minute second y s1 mo s2 da s3 ho s4 mi s5 se s6 none =
    let yd = digits_spelled 4 text year.0 year.1 y in
    let md = behind_sign 45 year.1 a 2 month s1 mo in
    let dd = behind_sign 45 month.1 b 2 day s2 da in
    let hd = behind_sign 84 day.1 c 2 hour s3 ho in
    let id = behind_sign 58 hour.1 d 2 minute s4 mi in
    let sd = behind_sign 58 minute.1 e 2 second s5 se in
    record {
      year = yd.0;
      month = md.0;
      day = dd.0;
      hour = hd.0;
      minute = id.0;
      second = sd.0;
      spelled = parts_spelled text yd.0 md.0 dd.0 hd.0 id.0 sd.0 year month day hour minute second yd.1 md.1 dd.1 hd.1 id.1 sd.1 (last_sign second.1 z s6 none);
      years = yd.2;
      months = md.2;
      days = dd.2;
      hours = hd.2;
      minutes = id.2;
      seconds = sd.2;
    }

each_spelled : (text : List ℕ) → IfSome (moment_in text) (SpellsMoment text)
unfolding moment_in
each_spelled text =
    let P : Moment → Type 0 = SpellsMoment text in
    each P (digits 4 text) _ (λ year y. each P (sign 45 year.1) _ (λ a s1. each P (digits 2 a) _ (λ month mo. each P (sign 45 month.1) _ (λ b s2.
    each P (digits 2 b) _ (λ day da. each P (sign 84 day.1) _ (λ c s3. each P (digits 2 c) _ (λ hour ho. each P (sign 58 hour.1) _ (λ d s4.
    each P (digits 2 d) _ (λ minute mi. each P (sign 58 minute.1) _ (λ e s5. each P (digits 2 e) _ (λ second se. each P (sign 90 second.1) _ (λ z s6.
    at_end P (length z == 0) (record { year = year.0; month = month.0; day = day.0; hour = hour.0; minute = minute.0; second = second.0 })
    (λ none. put_together text a b c d e z year month day hour minute second y s1 mo s2 da s3 ho s4 mi s5 se s6 none)))))))))))))

moment_spelled : (text : List ℕ) (m : Moment) → moment_in text ≡ Some m → SpellsMoment text m
moment_spelled text m e = subst (λ (o : Option Moment). IfSome o (SpellsMoment text)) e (each_spelled text)

pub time_spelled : (text : List ℕ) (t : ℕ) → time_of text ≡ Some t → SpellsTime text t
unfolding time_of
time_spelled text t e = let b = behind_value (moment_in text) seconds_of t e in (b.0, moment_spelled text b.0 b.1, b.2)
