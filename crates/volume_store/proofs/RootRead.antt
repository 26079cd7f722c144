-- What reading a disk's root answers, and opening with it.
use Rattle.std.proofs.Common.{◌≡◌, ◌≢◌, inl, inr, ⊎_elim, ℕ, ◌<◌, ◌≤◌, List, length, refl, sym, ap, ◌∙◌, subst, arith, Result, Ok, Err, IsTrue, Vec, Global}
use Rattle.std.proofs.lemmas.Bool.{cases_order}
use Rattle.sm_base.specs.declared.numbers.VolNo.{VolNo}
use Rattle.sm_disk.specs.Image.{Image, part}
use Rattle.sm_disk.specs.Disk.{DiskState}
use Rattle.sm_fields.specs.Grammar.{FirstFault}
use Rattle.sm_root.specs.declared.fault.RootFault.{RootFault}
use Rattle.sm_root.specs.declared.fault.RootFault.TheVariants.{Bad, NoMemory}
use Rattle.sm_root.specs.declared.root.Root.{Root}
use Rattle.sm_root.specs.Answer.{OrNoMemory}
use Rattle.sm_root.specs.Condition.{IsRoot}
use Rattle.sm_root.specs.Layout.{root_record}
use Rattle.sm_root.specs.Spelling.{spelling}
use Rattle.sm_slots.specs.Stored.{Stored, Blank, Record, BadLength, stored, slot_start, slot_of}
use Rattle.volume_store.specs.declared.faults.VolumeFault.{VolumeFault}
use Rattle.volume_store.specs.declared.faults.VolumeFault.TheVariants as faults
use Rattle.volume_store.specs.declared.faults.VolumeFault.TheVariants.{DiskFault, BadRoot, DiskSmall, OtherNumber, NoMemory as OutOfMemory}
use Rattle.volume_store.specs.Held.{need}
use Rattle.volume_store.specs.Opened.{IsNoRootOn, DiffersFirst, Fails, IsOrFails, Answers, ReadsRecord, AnswersRoot, ReadsRoot, IsOpenFault, IsStateFault, least_need}

-- ---- the record

one_difference : (bytes : List ℕ) (a b : ℕ) → DiffersFirst bytes a → DiffersFirst bytes b → a ≡ b
one_difference bytes a b p q = elim (cases_order a b) [
  | inl same ↦ same
  | inr (inl less) ↦ absurd (p.differs (let w = q.within in omega (arith, less, w)) (q.same a less))
  | inr (inr more) ↦ absurd (q.differs (let w = p.within in omega (arith, more, w)) (p.same b more))
]

failed_on : (c : Image) (s : Stored) (fault : VolumeFault) → Fails fault → ReadsRecord c s (Err fault)
failed_on c Blank fault f = inr f
failed_on c BadLength fault f = λ at first. inr f
failed_on c (Record bytes) fault f = f

pub failed_read : (c : Image) (fault : VolumeFault) → Fails fault → ReadsRecord c (stored c) (Err fault)
failed_read c fault f = failed_on c (stored c) fault f

pub read_bytes : (c : Image) (v : Vec ℕ Global) → stored c ≡ Record v.items → ReadsRecord c (stored c) (Ok v)
read_bytes c v is = subst (λ (s : Stored). ReadsRecord c s (Ok v)) (sym is) refl

pub read_blank : (c : Image) (slot : ℕ) → slot ≡ slot_of c → stored c ≡ Blank → ReadsRecord c (stored c) (Err (BadRoot slot 0))
read_blank c slot at is = subst (λ (s : Stored). ReadsRecord c s (Err (BadRoot slot 0))) (sym is) (inl (ap (λ n. BadRoot n 0) at))

pub read_long : (c : Image) (slot at : ℕ) → slot ≡ slot_of c → stored c ≡ BadLength → DiffersFirst (part c (slot_start (slot_of c)) 8) at → ReadsRecord c (stored c) (Err (BadRoot slot at))
read_long c slot at here is first =
    subst (λ (s : Stored). ReadsRecord c s (Err (BadRoot slot at))) (sym is)
    (λ k also. inl (ap (λ n. BadRoot n at) here ∙ ap (λ n. BadRoot (slot_of c) n) (one_difference (part c (slot_start (slot_of c)) 8) at k first also)))

-- ---- the root

pub record_same : (xs ys : List ℕ) (s : Stored) → s ≡ Record xs → s ≡ Record ys → xs ≡ ys
record_same xs ys s e f = same (sym e ∙ f)
  where
    same : Record xs ≡ Record ys → xs ≡ ys
    same g = cc

apart_blank : (xs : List ℕ) (s : Stored) → s ≡ Blank → s ≡ Record xs → ⊥
apart_blank xs s e f = let g : Blank ≡ Record xs = sym e ∙ f in cc

apart_bad : (xs : List ℕ) (s : Stored) → s ≡ BadLength → s ≡ Record xs → ⊥
apart_bad xs s e f = let g : BadLength ≡ Record xs = sym e ∙ f in cc

-- where the record was not read
module _ (c : Image) (fault : VolumeFault) (read : ReadsRecord c (stored c) (Err fault)) where
  unread_at : (at : ℕ) → IsNoRootOn c at → IsOrFails (BadRoot (slot_of c) at) fault
  unread_at at (inl blank) = subst (λ (n : ℕ). IsOrFails (BadRoot (slot_of c) n) fault) (sym blank.1) (subst (λ (s : Stored). ReadsRecord c s (Err fault)) blank.0 read)
  unread_at at (inr (inl long)) = subst (λ (s : Stored). ReadsRecord c s (Err fault)) long.0 read at long.1
  unread_at at (inr (inr bytes)) = inr (subst (λ (s : Stored). ReadsRecord c s (Err fault)) bytes.1 read)

  pub unread : ReadsRoot c (Err fault)
  unread = record {
    bad = λ slot at is. subst (λ (n : ℕ). IsOrFails (BadRoot n at) fault) (sym is.0) (unread_at at is.1);
    root = λ r is. subst (λ (s : Stored). ReadsRecord c s (Err fault)) is.spelled read;
  }

-- what is answered where decoding answers this
abbrev answer_of : ℕ → Result Root RootFault → Result Root VolumeFault
answer_of slot (Ok r) = Ok r
answer_of slot (Err (Bad at)) = Err (BadRoot slot at)
answer_of slot (Err NoMemory) = Err OutOfMemory

root_answered : (slot : ℕ) (d : Result Root RootFault) (r : Root) → OrNoMemory d (Ok r) → AnswersRoot r (answer_of slot d)
root_answered slot (Ok x) r e = cc
root_answered slot (Err (Bad at)) r e = absurd (cc)
root_answered slot (Err NoMemory) r e = inr refl

abbrev bad_one : ℕ → Result Root RootFault
bad_one at = Err (Bad at)

bad_place : (k at : ℕ) → bad_one k ≡ bad_one at → k ≡ at
bad_place k at e = cc

fault_answered : (slot n : ℕ) (d : Result Root RootFault) (at : ℕ) → slot ≡ n → OrNoMemory d (Err (Bad at)) → Answers (BadRoot n at) (answer_of slot d)
fault_answered slot n (Ok x) at same e = absurd (cc)
fault_answered slot n (Err (Bad k)) at same e = inl (ap (λ m. BadRoot m k) same ∙ ap (λ m. BadRoot n m) (bad_place k at e))
fault_answered slot n (Err NoMemory) at same e = inr (inr refl)

-- where these bytes were read and decoded
module _ (c : Image) (slot : ℕ) (bytes : List ℕ) (d : Result Root RootFault) (here : slot ≡ slot_of c) (is : stored c ≡ Record bytes)
    (only : (r : Root) → IsRoot r → bytes ≡ spelling r → OrNoMemory d (Ok r))
    (fault : (at : ℕ) → FirstFault (root_record (length bytes)) bytes at → OrNoMemory d (Err (Bad at))) where
  bad_at : (n at : ℕ) → n ≡ slot_of c → IsNoRootOn c at → Answers (BadRoot n at) (answer_of slot d)
  bad_at n at same (inl blank) = absurd (apart_blank bytes (stored c) blank.0 is)
  bad_at n at same (inr (inl long)) = absurd (apart_bad bytes (stored c) long.0 is)
  bad_at n at same (inr (inr found)) =
      fault_answered slot n d at (here ∙ sym same) (fault at (subst (λ (bs : List ℕ). FirstFault (root_record (length bs)) bs at) (record_same found.0 bytes (stored c) found.1 is) found.2))

  pub decoded : ReadsRoot c (answer_of slot d)
  decoded = record {
    bad = λ n at b. bad_at n at b.0 b.1;
    root = λ r on. root_answered slot d r (only r on.good (record_same bytes (spelling r) (stored c) is on.spelled));
  }

-- ---- the faults of a disk

module _ (s : DiskState) (number : VolNo) (told : IsTrue s.told) (long : least_need ≤ s.size) where
  -- where no root was read
  pub not_read : (answer : VolumeFault) → ReadsRoot s.seen (Err answer) → (fault : VolumeFault) → IsOpenFault s number fault → fault ≢ DiskFault → fault ≢ OutOfMemory → IsOrFails fault answer
  not_read answer read DiskFault is other free = absurd (other refl)
  not_read answer read OutOfMemory is other free = absurd (free refl)
  not_read answer read (BadRoot slot at) is other free = read.bad slot at (is.1 told)
  not_read answer read (DiskSmall n len) is other free = ⊎_elim
      (λ small. absurd (let lt = small.0 in omega (arith, lt, long)))
      (λ larger. let found = larger.2 told in inr (read.root found.0 found.1)) is.1
  not_read answer read (OtherNumber found) is other free = let there = is.2 told in inr (read.root there.0 there.1)
  not_read answer read faults.ReadOnly is other free = absurd is
  not_read answer read faults.BadBlock is other free = absurd is
  not_read answer read faults.NoSpace is other free = absurd is
  not_read answer read faults.NoSnapshot is other free = absurd is
  not_read answer read faults.NameTaken is other free = absurd is
  not_read answer read faults.SnapFull is other free = absurd is

  -- a root that was read is that of the disk
  module _ (r : Root) (read : ReadsRoot s.seen (Ok r)) where
    -- where it is that of the volume
    pub no_fault : r.number ≡ number → need r.physical ≤ s.size → (fault : VolumeFault) → IsOpenFault s number fault → fault ≢ DiskFault → fault ≢ OutOfMemory → ⊥
    no_fault numbered room DiskFault is other free = other refl
    no_fault numbered room OutOfMemory is other free = free refl
    no_fault numbered room (BadRoot slot at) is other free = read.bad slot at (is.1 told)
    no_fault numbered room (DiskSmall n len) is other free = ⊎_elim
        (λ small. let lt = small.0 in omega (arith, lt, long))
        (λ larger. let found = larger.2 told in
        let same : need r.physical ≡ n = ap (λ (x : Root). need x.physical) (read.root found.0 found.1) ∙ sym found.2 in
        let above = larger.1 in omega (arith, same, above, room)) is.1
    no_fault numbered room (OtherNumber found) is other free =
        let there = is.2 told in
        is.1 (there.3 ∙ ap (λ (x : Root). x.number.0) (sym (read.root there.0 there.1)) ∙ ap (λ (n : VolNo). n.0) numbered)
    no_fault numbered room faults.ReadOnly is other free = is
    no_fault numbered room faults.BadBlock is other free = is
    no_fault numbered room faults.NoSpace is other free = is
    no_fault numbered room faults.NoSnapshot is other free = is
    no_fault numbered room faults.NameTaken is other free = is
    no_fault numbered room faults.SnapFull is other free = is

    -- where it needs a longer disk
    pub needs_more : s.size < need r.physical → (fault : VolumeFault) → IsOpenFault s number fault → fault ≢ DiskFault → fault ≢ OutOfMemory → fault ≡ DiskSmall (need r.physical) s.size
    needs_more short DiskFault is other free = absurd (other refl)
    needs_more short OutOfMemory is other free = absurd (free refl)
    needs_more short (BadRoot slot at) is other free = absurd (read.bad slot at (is.1 told))
    needs_more short (DiskSmall n len) is other free = ⊎_elim
        (λ small. absurd (let lt = small.0 in omega (arith, lt, long)))
        (λ larger. let found = larger.2 told in
        let same : n ≡ need r.physical = found.2 ∙ sym (ap (λ (x : Root). need x.physical) (read.root found.0 found.1)) in
        ap (λ k. DiskSmall k len) same ∙ ap (λ k. DiskSmall (need r.physical) k) is.0) is.1
    needs_more short (OtherNumber found) is other free =
        let there = is.2 told in
        let same : need r.physical ≡ need there.0.physical = ap (λ (x : Root). need x.physical) (read.root there.0 there.1) in
        let room = there.2 in absurd (omega (arith, same, room, short))
    needs_more short faults.ReadOnly is other free = absurd is
    needs_more short faults.BadBlock is other free = absurd is
    needs_more short faults.NoSpace is other free = absurd is
    needs_more short faults.NoSnapshot is other free = absurd is
    needs_more short faults.NameTaken is other free = absurd is
    needs_more short faults.SnapFull is other free = absurd is

    -- where it is that of another volume
    pub other_one : need r.physical ≤ s.size → (fault : VolumeFault) → IsOpenFault s number fault → fault ≢ DiskFault → fault ≢ OutOfMemory → fault ≡ OtherNumber r.number.0
    other_one room DiskFault is other free = absurd (other refl)
    other_one room OutOfMemory is other free = absurd (free refl)
    other_one room (BadRoot slot at) is other free = absurd (read.bad slot at (is.1 told))
    other_one room (DiskSmall n len) is other free = ⊎_elim
        (λ small. absurd (let lt = small.0 in omega (arith, lt, long)))
        (λ larger. let found = larger.2 told in
        let same : need r.physical ≡ n = ap (λ (x : Root). need x.physical) (read.root found.0 found.1) ∙ sym found.2 in
        let above = larger.1 in absurd (omega (arith, same, above, room))) is.1
    other_one room (OtherNumber found) is other free =
        let there = is.2 told in
        ap (λ k. OtherNumber k) (there.3 ∙ ap (λ (x : Root). x.number.0) (sym (read.root there.0 there.1)))
    other_one room faults.ReadOnly is other free = absurd is
    other_one room faults.BadBlock is other free = absurd is
    other_one room faults.NoSpace is other free = absurd is
    other_one room faults.NoSnapshot is other free = absurd is
    other_one room faults.NameTaken is other free = absurd is
    other_one room faults.SnapFull is other free = absurd is

    -- what the test of it answers
    pub not_its_root : (answer : VolumeFault) → IsStateFault r number s.size answer → (fault : VolumeFault) → IsOpenFault s number fault → fault ≢ DiskFault → fault ≢ OutOfMemory → IsOrFails fault answer
    not_its_root (DiskSmall n len) a fault is other free =
        inl (ap (λ k. DiskSmall k len) a.1 ∙ ap (λ k. DiskSmall (need r.physical) k) a.2 ∙ sym (needs_more (let lt = a.0 in let e = a.1 in omega (arith, lt, e)) fault is other free))
    not_its_root (OtherNumber found) a fault is other free = inl (ap (λ k. OtherNumber k) a.1 ∙ sym (other_one a.0 fault is other free))
    not_its_root DiskFault a fault is other free = absurd a
    not_its_root OutOfMemory a fault is other free = absurd a
    not_its_root (BadRoot slot at) a fault is other free = absurd a
    not_its_root faults.ReadOnly a fault is other free = absurd a
    not_its_root faults.BadBlock a fault is other free = absurd a
    not_its_root faults.NoSpace a fault is other free = absurd a
    not_its_root faults.NoSnapshot a fault is other free = absurd a
    not_its_root faults.NameTaken a fault is other free = absurd a
    not_its_root faults.SnapFull a fault is other free = absurd a
