-- A time of the script: YYYY-MM-DDTHH:MM:SSZ, in seconds since 1970.
use Rattle.std.specs.Prelude.{ℕ, ◌+◌, ◌*◌, ◌==◌, ◌≤◌, ◌&&◌, Bool, nat_le, if◌then◌else◌, List, [], ◌∷◌, length, take, drop, Option, Some, None, option_map, pos, unsigned_abs}
use Rattle.jiff_core.specs.Calendar.{days_in_month, days_from_civil}
use Rattle.sm_grammar.specs.declared.time.Moment.{Moment}
use Rattle.sm_grammar.specs.Number.{number_of}

infixl 10 ◌>>=◌
abbrev pub ◌>>=◌ : {A B : Type 0} → Option A → (A → Option B) → Option B
None >>= f = None
(Some x) >>= f = f x

-- the number of so many digits at the front, and the text behind them
abbrev pub digits : ℕ → List ℕ → Option (ℕ × List ℕ)
digits n text = if nat_le n (length text) then option_map (λ v. (v, drop n text)) (number_of (take n text)) else None

-- the text behind this byte, where it is the first
abbrev pub sign : ℕ → List ℕ → Option (List ℕ)
sign byte [] = None
sign byte (b ∷ bs) = if b == byte then Some bs else None

-- a day of the calendar
abbrev pub is_date : ℕ → ℕ → ℕ → Bool
is_date year month day = nat_le 1 month && nat_le month 12 && nat_le 1 day && nat_le day (days_in_month (pos year) month)

-- the number of a day from 1970 on, where the calendar has it
unfoldable pub day_number : ℕ → ℕ → ℕ → Option ℕ
day_number year month day = if is_date year month day then Some (unsigned_abs (days_from_civil (pos year) month day)) else None

-- YYYY-MM-DDTHH:MM:SSZ
unfoldable pub moment_in : List ℕ → Option Moment
moment_in text = do
  year ← digits 4 text
  a ← sign 45 year.1
  month ← digits 2 a
  b ← sign 45 month.1
  day ← digits 2 b
  c ← sign 84 day.1
  hour ← digits 2 c
  d ← sign 58 hour.1
  minute ← digits 2 d
  e ← sign 58 minute.1
  second ← digits 2 e
  end ← sign 90 second.1
  if length end == 0 then Some (record { year = year.0; month = month.0; day = day.0; hour = hour.0; minute = minute.0; second = second.0 }) else None

-- years 1970 to 9999, hours to 23, minutes and seconds to 59
abbrev pub is_clock : Moment → Bool
is_clock m = nat_le 1970 m.year && nat_le m.year 9999 && nat_le m.hour 23 && nat_le m.minute 59 && nat_le m.second 59

unfoldable pub seconds_of : Moment → Option ℕ
seconds_of m =
    if is_clock m then option_map (λ day. day * 86400 + m.hour * 3600 + m.minute * 60 + m.second) (day_number m.year m.month m.day) else None

-- the seconds since 1970 that a text stands for
unfoldable pub time_of : List ℕ → Option ℕ
time_of text = moment_in text >>= seconds_of

-- as many digits as a time has
pub record IsMoment (m : Moment) : Type 0 where
  pub years : m.year ≤ 9999
  pub months : m.month ≤ 99
  pub days : m.day ≤ 99
