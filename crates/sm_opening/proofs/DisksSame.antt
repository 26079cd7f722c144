-- Disks that were only looked at are as long as before, and read as before.
use Rattle.std.proofs.Common.{◌≡◌, ℕ, zero, suc, List, [], ◌∷◌, length, map, Some, slice_get, refl, ap, ◌∙◌, arith}
use mathlib.Core.Path.{fun_ext}
use Rattle.sm_disk.specs.Image.{Image}
use Rattle.sm_disk.specs.Disk.{DiskState}
use Rattle.sm_opening.specs.OnDisk.{Disks}
use Rattle.sm_opening.specs.Looked.{disks_of, seen_of, size_of, EachMoves}

abbrev Alike : {D : Type 0} → (D → D → Type 0) → List D → List D → Type 0
Alike P xs ys = (n : ℕ) (x y : _) → slice_get xs n ≡ Some x → slice_get ys n ≡ Some y → P x y

module _ {D : Type 0} (state : D → DiskState) where
  sizes_same : (xs ys : List D) → length ys ≡ length xs → Alike (λ x y. (state y).size ≡ (state x).size) xs ys → map (size_of state) ys ≡ map (size_of state) xs
  sizes_same [] [] long h = refl
  sizes_same [] (y ∷ ys) long h = absurd (cc)
  sizes_same (x ∷ xs) [] long h = absurd (cc)
  sizes_same (x ∷ xs) (y ∷ ys) long h =
      ap (λ (n : ℕ). n ∷ map (size_of state) ys) (h 0 x y refl refl) ∙ ap (λ (l : List ℕ). (state x).size ∷ l) (sizes_same xs ys (omega (arith, long)) (λ n. h (suc n)))

  seen_same : (xs ys : List D) → length ys ≡ length xs → Alike (λ x y. (state y).seen ≡ (state x).seen) xs ys → (n : ℕ) → seen_of state (slice_get ys n) ≡ seen_of state (slice_get xs n)
  seen_same [] [] long h n = refl
  seen_same [] (y ∷ ys) long h n = absurd (cc)
  seen_same (x ∷ xs) [] long h n = absurd (cc)
  seen_same (x ∷ xs) (y ∷ ys) long h zero = h 0 x y refl refl
  seen_same (x ∷ xs) (y ∷ ys) long h (suc n) = seen_same xs ys (omega (arith, long)) (λ k. h (suc k)) n

  abbrev disks : List ℕ → (ℕ → Image) → Disks
  disks sizes images = record { sizes = sizes; images = images }

  pub disks_same : (P : DiskState → DiskState → Type 0) → ((s e : DiskState) → P s e → e.size ≡ s.size) → ((s e : DiskState) → P s e → e.seen ≡ s.seen) → (olds news : List D) → EachMoves state P olds news → disks_of state news ≡ disks_of state olds
  disks_same P size seen olds news m =
      ap (λ (l : List ℕ). disks l (λ n. seen_of state (slice_get news n))) (sizes_same olds news m.as_long (λ n x y was is. size (state x) (state y) (m.each n x y was is)))
      ∙ ap (λ (f : ℕ → Image). disks (map (size_of state) olds) f) (fun_ext (λ n. seen_same olds news m.as_long (λ k x y was is. seen (state x) (state y) (m.each k x y was is)) n))
