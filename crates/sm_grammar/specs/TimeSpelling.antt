-- How a number and a time are spelled.
use Rattle.std.specs.Prelude.{◌≡◌, ℕ, ◌<◌, ◌≤◌, ◌++◌, true, List, length, Some, codes}
use Rattle.sm_grammar.specs.declared.time.Moment.{Moment}
use Rattle.sm_grammar.specs.Number.{all_digits, place_value}
use Rattle.sm_grammar.specs.Time.{seconds_of}

-- one to ten digits stand for this number of 32 bits: zeros may stand in front
pub record SpellsNumber (text : List ℕ) (n : ℕ) : Type 0 where
  pub some : 0 < length text
  pub few : length text ≤ 10
  pub digits : all_digits text ≡ true
  pub value : place_value text ≡ n
  pub small : n ≤ 4294967295

-- so many digits stand for this number
abbrev pub SpellsDigits : ℕ → List ℕ → ℕ → Type 0
SpellsDigits count text n = SpellsNumber text n × (length text ≡ count)

-- YYYY-MM-DDTHH:MM:SSZ
pub record SpellsMoment (text : List ℕ) (m : Moment) : Type 0 where
  pub year : List ℕ
  pub month : List ℕ
  pub day : List ℕ
  pub hour : List ℕ
  pub minute : List ℕ
  pub second : List ℕ
  pub spelled : text ≡ year ++ (codes "-" ++ (month ++ (codes "-" ++ (day ++ (codes "T" ++ (hour ++ (codes ":" ++ (minute ++ (codes ":" ++ (second ++ codes "Z"))))))))))
  pub years : SpellsDigits 4 year m.year
  pub months : SpellsDigits 2 month m.month
  pub days : SpellsDigits 2 day m.day
  pub hours : SpellsDigits 2 hour m.hour
  pub minutes : SpellsDigits 2 minute m.minute
  pub seconds : SpellsDigits 2 second m.second

-- the numbers are those of a moment from 1970 on, so many seconds behind its start
abbrev pub SpellsTime : List ℕ → ℕ → Type 0
SpellsTime text t = (m : Moment) × SpellsMoment text m × (seconds_of m ≡ Some t)
