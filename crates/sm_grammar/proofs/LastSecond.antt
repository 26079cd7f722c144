-- Every time of the script lies before the year 10000.
use Rattle.std.proofs.Common.{◌≡◌, inl, inr, ℕ, ◌+◌, ◌*◌, ◌≤◌, ◌&&◌, Bool, true, false, cond, nat_le, List, Option, Some, None, option_map, ℤ, pos, negsuc, unsigned_abs, refl, ap, arith}
use Rattle.std.proofs.lemmas.Int.{ints}
use Rattle.std.proofs.lemmas.Bool.{and_parts, cases_order}
use borrow.Author.Tests.{leb-true}
use borrow.Author.Differences.{up, down}
use Rattle.jiff_core.specs.Calendar.{days_in_month, day_count, days_from_civil, IsCivilDate}
use Rattle.jiff_core.proofs.CalendarLemmas.{day_count-epoch, days_from_civil-day_count, day_count_bounds, day_count-day_of_year, day_count-later_year}
use Rattle.sm_base.specs.declared.limits.TheConstants.{LAST_SECOND}
use Rattle.sm_grammar.specs.declared.time.Moment.{Moment}
use Rattle.sm_grammar.specs.Time.{◌>>=◌, is_date, day_number, is_clock, moment_in, seconds_of, time_of}

-- the value behind a test, or behind a value
pub behind_test : {A : Type 0} (t : Bool) (o : Option A) (y : A) → cond t o None ≡ Some y → (t ≡ true) × (o ≡ Some y)
behind_test true o y e = (refl, e)
behind_test false o y e = absurd (cc)

pub behind_value : {A B : Type 0} (o : Option A) (f : A → Option B) (y : B) → (o >>= f) ≡ Some y → (x : A) × (o ≡ Some x) × (f x ≡ Some y)
behind_value None f y e = absurd (cc)
behind_value (Some x) f y e = (x, refl, e)

mapped : (o : Option ℕ) (f : ℕ → ℕ) (y : ℕ) → option_map f o ≡ Some y → (x : ℕ) × (o ≡ Some x) × (f x ≡ y)
mapped None f y e = absurd (cc)
mapped (Some x) f y e = let same : f x ≡ y = cc in (x, refl, same)

civil : (y m d : ℕ) → y ≤ 9999 → is_date y m d ≡ true → IsCivilDate (pos y) m d
civil y m d small good =
    let last = days_in_month (pos y) m in
    let a = and_parts (nat_le 1 m && nat_le m 12 && nat_le 1 d) (nat_le d last) good in
    let b = and_parts (nat_le 1 m && nat_le m 12) (nat_le 1 d) a.0 in
    let c = and_parts (nat_le 1 m) (nat_le m 12) b.0 in
    ((omega (arith, ints), omega (arith, ints)), (leb-true 1 m c.0, leb-true m 12 c.1), (leb-true 1 d b.1, leb-true d last a.1))

few_days : (z : ℤ) (count : ℕ) → up z + 4371953 ≡ down z + count → 4371953 ≤ count → count ≤ 7304849 → unsigned_abs z ≤ 2932896
few_days (pos n) count is low high = omega arith
few_days (negsuc n) count is low high = omega arith

first_day : (y m d : ℕ) → 1970 ≤ y → IsCivilDate (pos y) m d → 4371953 ≤ day_count (pos y) m d
first_day y m d late date =
    let here = day_count-day_of_year (pos y) m d date.2.0 in
    elim (cases_order 1970 y) [
      | inl same ↦ omega (arith, here, day_count-epoch, ap (λ n. day_count (pos n) 1 1) same, date.2.0)
      | inr (inl less) ↦ omega (arith, here, day_count-epoch, day_count-later_year (pos 1970) (pos y) (omega (arith, ints)) (omega (arith, ints)), date.2.0)
      | inr (inr more) ↦ absurd (omega arith)
    ]

last_day : (y m d day : ℕ) → 1970 ≤ y → y ≤ 9999 → day_number y m d ≡ Some day → day ≤ 2932896
unfolding day_number
last_day y m d day late small e =
    let b = behind_test (is_date y m d) (Some (unsigned_abs (days_from_civil (pos y) m d))) day e in
    let same : unsigned_abs (days_from_civil (pos y) m d) ≡ day = cc in
    let date = civil y m d small b.0 in
    let few = few_days (days_from_civil (pos y) m d) (day_count (pos y) m d) (days_from_civil-day_count (pos y) m d) (first_day y m d late date) (day_count_bounds (pos y) m d date).1 in
    omega (arith, few, same)

last_second : (m : Moment) (t : ℕ) → seconds_of m ≡ Some t → t ≤ LAST_SECOND
unfolding seconds_of
last_second m t e =
    let b = behind_test (is_clock m) (option_map (λ day. day * 86400 + m.hour * 3600 + m.minute * 60 + m.second) (day_number m.year m.month m.day)) t e in
    let s = and_parts (nat_le 1970 m.year && nat_le m.year 9999 && nat_le m.hour 23 && nat_le m.minute 59) (nat_le m.second 59) b.0 in
    let n = and_parts (nat_le 1970 m.year && nat_le m.year 9999 && nat_le m.hour 23) (nat_le m.minute 59) s.0 in
    let h = and_parts (nat_le 1970 m.year && nat_le m.year 9999) (nat_le m.hour 23) n.0 in
    let y = and_parts (nat_le 1970 m.year) (nat_le m.year 9999) h.0 in
    let d = mapped (day_number m.year m.month m.day) (λ day. day * 86400 + m.hour * 3600 + m.minute * 60 + m.second) t b.1 in
    let few = last_day m.year m.month m.day d.0 (leb-true 1970 m.year y.0) (leb-true m.year 9999 y.1) d.1 in
    let end : LAST_SECOND ≡ 253402300799 = refl in
    omega (arith, few, d.2, leb-true m.hour 23 h.1, leb-true m.minute 59 n.1, leb-true m.second 59 s.1, end)

pub time_bound : (text : List ℕ) (t : ℕ) → time_of text ≡ Some t → t ≤ LAST_SECOND
unfolding time_of
time_bound text t e = let b = behind_value (moment_in text) seconds_of t e in last_second b.0 t b.2
