-- The steps of a loop that tests each element, whatever the test.
use Rattle.std.proofs.Common.{◌≡◌, ◌↔◌, ℕ, ◌+◌, ◌<◌, ◌≤◌, Bool, true, false, List, length, get_or, take, map}
use Rattle.std.specs.Prelude.{IsTrue}
use Rattle.std.proofs.lemmas.Bool.{both_ways}
use Rattle.sm_defs.specs.Words.{Among}
use Rattle.sm_shape.proofs.Tests.{answered_no, answered_yes}
use Rattle.sm_shape.proofs.ListWords.{among_read, each_more, each_image, image_each, whole_front}

module _ {X : Type 0} (P : X → Type 0) (xs : List X) (k : ℕ) where
  pub each_stops : (x : X) → k < length xs → x ≡ get_or xs k x → (b : Bool) → (IsTrue b ↔ P x) → b ≡ false → IsTrue false ↔ ((y : X) → Among xs y → P y)
  each_stops x lt is b test bad = answered_no (λ all. both_ways b bad (test.1 (all x (among_read xs k x lt is))))

  pub each_goes : (x : X) → k < length xs → x ≡ get_or xs k x → (b : Bool) → (IsTrue b ↔ P x) → b ≡ true
      → ((y : X) → Among (take k xs) y → P y) → (y : X) → Among (take (k + 1) xs) y → P y
  each_goes x lt is b test good before = each_more P xs k x lt is before (test.0 good)

  pub each_ends : length xs ≤ k → ((y : X) → Among (take k xs) y → P y) → IsTrue true ↔ ((y : X) → Among xs y → P y)
  each_ends end all = answered_yes (whole_front P xs k end all)

-- the same of what the elements stand for
pub each_of_images : {X Y : Type 0} (f : X → Y) (P : Y → Type 0) (xs : List X) (b : Bool)
    → (IsTrue b ↔ ((x : X) → Among xs x → P (f x))) → IsTrue b ↔ ((y : Y) → Among (map f xs) y → P y)
each_of_images f P xs b test = (λ e. each_image f P xs (test.0 e), λ all. test.1 (image_each f P xs all))

-- the steps of a loop that looks for an element
module _ {X : Type 0} (P : X → Type 0) (xs : List X) (k : ℕ) where
  pub found_one : (x : X) → k < length xs → x ≡ get_or xs k x → (b : Bool) → (IsTrue b ↔ P x) → b ≡ true → IsTrue true ↔ ((y : X) × Among xs y × P y)
  found_one x lt is b test good = answered_yes (x, among_read xs k x lt is, test.0 good)

  pub not_this : (x : X) → k < length xs → x ≡ get_or xs k x → (b : Bool) → (IsTrue b ↔ P x) → b ≡ false
      → ((y : X) → Among (take k xs) y → ¬ (P y)) → (y : X) → Among (take (k + 1) xs) y → ¬ (P y)
  not_this x lt is b test bad before = each_more (λ y. ¬ (P y)) xs k x lt is before (λ p. both_ways b bad (test.1 p))

  pub found_none : length xs ≤ k → ((y : X) → Among (take k xs) y → ¬ (P y)) → IsTrue false ↔ ((y : X) × Among xs y × P y)
  found_none end none = answered_no (λ s. whole_front (λ y. ¬ (P y)) xs k end none s.0 s.1 s.2)
