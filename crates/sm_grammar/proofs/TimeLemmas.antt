-- The calendar's dates, as a test and by their numbers.
use Rattle.std.proofs.Common.{◌≡◌, ℕ, zero, suc, ◌*◌, ◌/◌, ◌≤◌, ◌&&◌, Bool, true, false, cond, nat_le, Some, None, ℤ, pos, negsuc, ◌*ℤ◌, ◌-ℤ◌, neg_ℤ, unsigned_abs, refl, ap, ◌∙◌, arith}
use Rattle.std.proofs.lemmas.Int.{ints}
use Rattle.std.proofs.lemmas.Bool.{and_parts, and_from}
use borrow.Author.Tests.{leb-true, le-leb}
use Rattle.jiff.specs.Words.{IsDate, IsDurationNanos, days_in_month}
use Rattle.jiff_core.specs.Calendar.{days_from_civil}
use Rattle.sm_grammar.specs.Time.{is_date, day_number}

date_test : (y m d : ℕ) → IsDate (pos y) (pos m) (pos d) → is_date y m d ≡ true
date_test y m d (year, month, day) =
    let last = days_in_month (pos y) m in
    and_from _ _ (and_from _ _ (and_from _ _ (le-leb 1 m (omega (arith, ints, month.0))) (le-leb m 12 (omega (arith, ints, month.1)))) (le-leb 1 d (omega (arith, ints, day.0)))) (le-leb d last (omega (arith, ints, day.1)))

test_date : (y m d : ℕ) → y ≤ 9999 → is_date y m d ≡ true → IsDate (pos y) (pos m) (pos d)
test_date y m d small good =
    let last = days_in_month (pos y) m in
    let a = and_parts (nat_le 1 m && nat_le m 12 && nat_le 1 d) (nat_le d last) good in
    let b = and_parts (nat_le 1 m && nat_le m 12) (nat_le 1 d) a.0 in
    let c = and_parts (nat_le 1 m) (nat_le m 12) b.0 in
    let m1 = leb-true 1 m c.0 in let m2 = leb-true m 12 c.1 in let d1 = leb-true 1 d b.1 in let d2 = leb-true d last a.1 in
    ((omega (arith, ints), omega (arith, ints)), (omega (arith, ints), omega (arith, ints)), (omega (arith, ints), omega (arith, ints)))

pub first_day : (y : ℤ) (m d : ℕ) → y ≡ pos 1970 → pos m ≡ pos 1 → pos d ≡ pos 1 → days_from_civil y m d ≡ pos 0
unfolding days_from_civil
first_day y m d year month day =
    let m1 : m ≡ 1 = cc in let d1 : d ≡ 1 = cc in
    rw (year, m1, d1) (omega (arith, ints))

abs_neg : (m : ℕ) → unsigned_abs (neg_ℤ (pos m)) ≡ m
abs_neg zero = refl
abs_neg (suc m) = refl

pub whole_days : (z : ℤ) → unsigned_abs (z *ℤ pos 86400000000000) / 86400000000000 ≡ unsigned_abs z
whole_days (pos n) = omega arith
whole_days (negsuc n) =
    let whole : suc n * 86400000000000 / 86400000000000 ≡ suc n = omega arith in
    ap (λ m. m / 86400000000000) (abs_neg (suc n * 86400000000000)) ∙ whole

pub no_start : (z s : ℤ) → s ≡ pos 0 → z -ℤ s ≡ z
no_start z s e = omega (arith, ints)

-- the test and the calendar agree
pub found_day : (y m d n : ℕ) → IsDate (pos y) (pos m) (pos d) → n ≡ unsigned_abs (days_from_civil (pos y) m d) → Some n ≡ day_number y m d
unfolding day_number
found_day y m d n date is = rw (date_test y m d date, is) refl

no_date : (t : Bool) (n : ℕ) → (t ≡ true → ⊥) → None ≡ cond t (Some n) None
no_date true n none = absurd (none refl)
no_date false n none = refl

pub no_day : (y m d : ℕ) → y ≤ 9999 → (IsDate (pos y) (pos m) (pos d) → ⊥) → None ≡ day_number y m d
unfolding day_number
no_day y m d small none = no_date (is_date y m d) (unsigned_abs (days_from_civil (pos y) m d)) (λ good. none (test_date y m d small good))

pub same_day : (y : ℤ) (m d : ℕ) (year month day : ℕ) → y ≡ pos year → pos m ≡ pos month → pos d ≡ pos day → days_from_civil y m d ≡ days_from_civil (pos year) month day
same_day y m d year month day a b c = let m1 : m ≡ month = cc in let d1 : d ≡ day = cc in rw (a, m1, d1) refl

pub few_nanos : (z : ℤ) → IsDurationNanos z → unsigned_abs z ≤ 9223372036854775808999999999
few_nanos (pos n) (low, high) = omega (arith, ints)
few_nanos (negsuc n) (low, high) = omega (arith, ints)
