-- Bytes that spell a value have no first fault, and a disk with a volume's root has no fault of that volume.
use Rattle.std.proofs.Common.{◌≡◌, ℕ, ◌+◌, ◌^◌, ◌<◌, ◌≤◌, List, [], ◌++◌, length, Result, Ok, refl, sym, ap, subst, ◌∙◌, inl, inr, arith, true≢false, append_assoc}
use Rattle.std.proofs.lemmas.List.{append-nil}
use Rattle.std.proofs.lemmas.Option.{same_Some, none-some}
use Rattle.sm_disk.specs.Image.{Image}
use Rattle.sm_slots.specs.Stored.{Stored, Blank, Record, BadLength, stored}
use Rattle.sm_fields.specs.Format.{Format}
use Rattle.sm_fields.specs.Grammar.{Spells, Fault, FirstFault}
use Rattle.sm_fields.specs.Place.{Place}
use Rattle.sm_fields.proofs.Exact.{ok, ok_is, read_again}
use Rattle.sm_root.specs.declared.root.Root.{Root}
use Rattle.sm_root.specs.Layout.{root_record}
use Rattle.sm_root.specs.Spelling.{spelling}
use Rattle.sm_root.proofs.RootSpelled.{record_again}
use Rattle.sm_root.proofs.Round as round
use Rattle.sm_root.proofs.Round.{spelling_short}
use Rattle.sm_catroot.specs.declared.placed.Placed.{Placed}
use Rattle.volume_store.proofs.RootRead.{record_same}
use Rattle.volume_store.specs.Held.{need}
use Rattle.volume_store.specs.Opened.{IsRootOn, IsNoRootOn}
use Rattle.sm_opening.specs.OnDisk.{Disks, Damage, image_at, LiesOn, IsVolumeOn, IsVolumeDamage}

abbrev Read : {A : Type 0} → A → ℕ → List ℕ → Result (A × Place) ℕ
Read value at rest = ok (value, record { at = at; rest = rest })

same_read : {A : Type 0} (v w : A) (a b : ℕ) (xs ys : List ℕ) → Read v a xs ≡ Read w b ys → (v ≡ w) × (xs ≡ ys)
same_read {A} v w a b xs ys e = let pair = ok_is (v, record { at = a; rest = xs }) (w, record { at = b; rest = ys }) e in (ap (λ (t : A × Place). t.0) pair, ap (λ (t : A × Place). t.1.rest) pair)

-- bytes begin with one value
begins_once : {A : Type 0} (f : Format A) (v w : A) (bytes front rest other behind : List ℕ) → Spells f v front → bytes ≡ front ++ rest → Spells f w other → bytes ≡ other ++ behind → (v ≡ w) × (rest ≡ behind)
begins_once f v w bytes front rest other behind s parts t also =
    same_read v w (0 + length front) (0 + length other) rest behind (sym (read_again f v 0 bytes front rest s parts) ∙ read_again f w 0 bytes other behind t also)

fault_apart : {A : Type 0} (f : Format A) (v : A) (bytes front rest : List ℕ) (at : ℕ) → Spells f v front → bytes ≡ front ++ rest → Fault f bytes at → ⊥
fault_apart (Format.empty a) v bytes front rest at s parts fault = fault
fault_apart (Format.number size) v bytes front rest at s parts fault = fault.1 v front rest (s, parts)
fault_apart (Format.text most) v bytes front rest at s parts fault = fault.1 v front rest (s, parts)
fault_apart (Format.such_that f holds) v bytes front rest at s parts (inl fault) = fault_apart f v bytes front rest at s.0 parts fault
fault_apart (Format.such_that f holds) v bytes front rest at s parts (inr (first, w, other, behind, begins, fails)) =
    let same = begins_once f v w bytes front rest other behind s.0 parts begins.0 begins.1 in
    true≢false (sym s.1 ∙ (ap holds same.0 ∙ fails))
fault_apart (Format.then f next) v bytes front rest at s parts (inl fault) =
    fault_apart f s.0 bytes s.1 (s.2 ++ rest) at s.3 (parts ∙ (ap (λ (t : List ℕ). t ++ rest) s.5 ∙ append_assoc s.1 s.2 rest)) fault
fault_apart (Format.then f next) v bytes front rest at s parts (inr (first, other, behind, begins, further, fault, is)) =
    let same = begins_once f s.0 first bytes s.1 (s.2 ++ rest) other behind s.3 (parts ∙ (ap (λ (t : List ℕ). t ++ rest) s.5 ∙ append_assoc s.1 s.2 rest)) begins.0 begins.1 in
    fault_apart (next s.0) v behind s.2 rest further s.4 (sym same.1) (subst (λ x. Fault (next x) behind further) (sym same.0) fault)

first_fault_apart : {A : Type 0} (f : Format A) (v : A) (bytes : List ℕ) (at : ℕ) → Spells f v bytes → FirstFault f bytes at → ⊥
first_fault_apart f v bytes at s (inl fault) = fault_apart f v bytes bytes [] at s (sym (append-nil bytes)) fault
first_fault_apart f v bytes at s (inr (w, other, behind, begins, some, is)) =
    let same = begins_once f v w bytes bytes [] other behind s (sym (append-nil bytes)) begins.0 begins.1 in
    let none : length behind ≡ 0 = sym (ap length same.1) in
    omega (arith, some, none)

-- a disk's record is a root or has a fault, and not both
pub not_both : (s x y : Stored) → (x ≡ y → ⊥) → s ≡ x → s ≡ y → ⊥
not_both s x y apart e f = apart (sym e ∙ f)

pub root_apart : (c : Image) (r : Root) (at : ℕ) → IsRootOn c r → IsNoRootOn c at → ⊥
root_apart c r at on (inl blank) = not_both (stored c) Blank (Record (spelling r)) (λ e. cc) blank.0 on.spelled
root_apart c r at on (inr (inl long)) = not_both (stored c) BadLength (Record (spelling r)) (λ e. cc) long.0 on.spelled
root_apart c r at on (inr (inr (bytes, is, fault))) =
    let same : spelling r ≡ bytes = record_same (spelling r) bytes (stored c) on.spelled is in
    let short : length (spelling r) < 2 ^ 32 = (let s = spelling_short r on.good in omega (arith, s)) in
    first_fault_apart (root_record (length (spelling r))) r (spelling r) at (record_again r (spelling r) on.good short refl)
    (subst (λ (x : List ℕ). FirstFault (root_record (length x)) x at) (sym same) fault)

module _ (d : Disks) (before : List Placed) (i : ℕ) (p : Placed) (r : Root) (on : IsVolumeOn d before i p r) where
  one_root : (x : Root) → IsRootOn (image_at d p) x → x ≡ r
  one_root x is = round.one_value x r is.good on.root.good (record_same (spelling x) (spelling r) (stored (image_at d p)) is.spelled on.root.spelled)

  same_size : (size : ℕ) → LiesOn d before p size → on.size ≡ size
  same_size size lies = same_Some on.size size (sym on.lies.is_disk ∙ lies.is_disk)

  -- where the disk has the volume it has no fault of it
  pub volume_apart : (f : Damage) → IsVolumeDamage d before i p f → ⊥
  volume_apart f (inl (inl first, e)) = on.lies.behind first
  volume_apart f (inl (inr (inl none), e)) = none-some on.size (sym none ∙ on.lies.is_disk)
  volume_apart f (inl (inr (inr (q, m, same)), e)) = on.lies.alone q m same
  volume_apart f (inr (size, lies, inl (less, e))) = let long = on.long in let same = same_size size lies in omega (arith, less, long, same)
  volume_apart f (inr (size, lies, inr (long, inl (from, none, e)))) = root_apart (image_at d p) r from on.root none
  volume_apart f (inr (size, lies, inr (long, inr (x, is, inl (less, e))))) =
      let room : need x.physical ≤ on.size = subst (λ (z : Root). need z.physical ≤ on.size) (sym (one_root x is)) on.room in
      let same = same_size size lies in omega (arith, less, room, same)
  volume_apart f (inr (size, lies, inr (long, inr (x, is, inr (room, other, e))))) = other (ap (λ (z : Root). z.number.0) (one_root x is) ∙ on.numbered)
