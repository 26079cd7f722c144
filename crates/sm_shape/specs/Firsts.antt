-- A table of the first item of each key.
use Rattle.std.specs.Prelude.{◌≡◌, Bool, List, Some}
use Rattle.std.specs.declared.hash.FoldHasher.{FoldHasher}
use Rattle.std.specs.declared.hash.BuildHasherDefault.{BuildHasherDefault}
use Rattle.std.specs.HashMap.{HashMap, get}
use Rattle.std.specs.Borrow.{Bor}
use Rattle.sm_defs.specs.Words.{Among}
use Rattle.sm_shape.specs.Takes.{Takes}

pub record Item (K V : Type 0) : Type 0 where
  pub key : K
  pub value : V

abbrev pub Table : Type 0 → Type 0 → Type 0
Table K V = HashMap K (Bor V) (BuildHasherDefault FoldHasher)

pub record HasItem (K V : Type 0) (items : List (Item K V)) (key : K) (value : V) : Type 0 where
  pub item : Item K V
  pub among : Among items item
  pub has_key : item.key ≡ key
  pub has_value : item.value ≡ value

-- how keys are compared, and what values of one key have to share
pub record IsFirstsOf (K V : Type 0) (same : K → K → Bool) (Near : V → V → Type 0) (firsts : Table K V) (seen : List (Item K V)) : Type 0 where
  pub kept : (x : Item K V) → Among seen x → (first : Bor V) × (get same firsts x.key ≡ Some first) × Near first.now x.value
  pub came : (key : K) (first : Bor V) → get same firsts key ≡ Some first → HasItem K V seen key first.now

abbrev pub Agree : (K V : Type 0) → (V → V → Type 0) → List (Item K V) → Type 0
Agree K V Near items = (x y : Item K V) → Among items x → Among items y → x.key ≡ y.key → Near x.value y.value

-- the test of more items
abbrev pub TakesItems : (K V : Type 0) → (K → K → Bool) → (V → V → Type 0) → Table K V → Table K V → List (Item K V) → Bool → Type 0
TakesItems K V same Near old new items agree = Takes (IsFirstsOf K V same Near) (Agree K V Near) old new items agree
