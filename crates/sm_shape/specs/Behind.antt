-- What holds of each element at its place, or beside those before it.
use Rattle.std.specs.Prelude.{ℕ, ◌<◌, List, length, take, slice_index_or}

abbrev pub EachPlace : {X : Type 0} → (ℕ → X → Type 0) → List X → Type 0
EachPlace {X} F xs = (k : ℕ) (d : X) → k < length xs → F k (slice_index_or xs k d)

abbrev pub EachBehind : {X : Type 0} → (List X → X → Type 0) → List X → Type 0
EachBehind F xs = EachPlace (λ k x. F (take k xs) x) xs
