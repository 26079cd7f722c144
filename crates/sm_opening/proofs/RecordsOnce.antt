-- A slot spells one catalogue or root, or breaks at one byte, and never both.
use Rattle.std.proofs.Common.{◌≡◌, inl, inr, ℕ, zero, suc, ◌+◌, ◌<◌, List, length, get_or, Bool, true, false, cond, leb, refl, sym, ◌∙◌, subst, arith, Result, Ok, Err}
use Rattle.std.proofs.lemmas.Bool.{cases_order}
use Rattle.std.specs.Int.{from_be_bytes, w32}
use Rattle.sm_disk.specs.Image.{Image, part}
use Rattle.sm_fields.specs.Place.{IsBytes}
use Rattle.sm_fields.specs.Reading.{whole}
use Rattle.sm_fields.specs.Grammar.{FirstFault}
use Rattle.sm_fields.proofs.Whole.{whole_stops}
use Rattle.sm_slots.specs.Stored.{Stored, Blank, Record, BadLength, stored, stored_at, is_blank, slot_len, slot_of, slot_start}
use Rattle.sm_register.specs.Opened as register
use Rattle.sm_register.specs.Opened.{NoneAt}
use Rattle.sm_root.specs.declared.root.Root.{Root}
use Rattle.sm_root.specs.Layout.{root_record}
use Rattle.sm_root.specs.Spelling as roots
use Rattle.sm_root.proofs.Round as round
use Rattle.sm_catroot.specs.declared.TheConstants.{MAGIC}
use Rattle.sm_catroot.specs.Catalog.{Catalog}
use Rattle.sm_catroot.specs.Condition.{again}
use Rattle.sm_catroot.specs.Layout.{catalog_record}
use Rattle.sm_catroot.specs.Kept.{ShowsCatalog, BreaksCatalog}
use Rattle.sm_catroot.proofs.Decoded.{one_value, written_is_read}
use Rattle.volume_store.proofs.RootRead.{record_same}
use Rattle.sm_opening.proofs.NoFault.{not_both}
use Rattle.volume_store.specs.Opened.{DiffersFirst, IsRootOn, IsNoRootOn}

-- ---- bytes

abbrev pub HoldsBytes : Image → Type 0
HoldsBytes c = (place : ℕ) → c place < 256

byte_in : (c : Image) → HoldsBytes c → (at n i : ℕ) → get_or (part c at n) i 0 < 256
unfolding part
byte_in c small at zero i = omega (arith)
byte_in c small at (suc n) zero = small at
byte_in c small at (suc n) (suc i) = byte_in c small (suc at) n i

spelled_there : (c : Image) (at n : ℕ) (blank fits : Bool) (bytes : List ℕ) → cond blank Blank (cond fits (Record (part c at n)) BadLength) ≡ Record bytes → part c at n ≡ bytes
spelled_there c at n true fits bytes e = absurd (cc)
spelled_there c at n false false bytes e = absurd (cc)
spelled_there c at n false true bytes e = cc

pub are_bytes : (c : Image) → HoldsBytes c → (bytes : List ℕ) → stored c ≡ Record bytes → IsBytes bytes
unfolding stored_at
are_bytes c small bytes is =
    let at = slot_start (slot_of c) in
    let n = 12 + from_be_bytes w32 (part c (at + 8) 4) in
    subst IsBytes (spelled_there c at n (is_blank (part c at 8)) (leb n slot_len) bytes is) (byte_in c small at n)

-- bytes of a record are those of a spelled one
abbrev AreRead : Stored → Type 0
AreRead s = (bytes : List ℕ) → s ≡ Record bytes → IsBytes bytes

-- ---- the catalogue

pub one_catalog : (s : Stored) (j k : Catalog) → again j ≡ j → again k ≡ k → ShowsCatalog j s → ShowsCatalog k s → j ≡ k
one_catalog Blank j k a b p q = p ∙ sym q
one_catalog (Record bytes) j k a b p q = sym a ∙ one_value j k p.0 q.0 (sym p.1 ∙ q.1) ∙ b
one_catalog BadLength j k a b p q = absurd p

no_both : {A : Type 0} (r : Result A ℕ) (x : A) (at : ℕ) → r ≡ Ok x → r ≡ Err at → ⊥
no_both r x at e f = let g : Ok x ≡ Err at = sym e ∙ f in cc

one_stop : {A : Type 0} (r : Result A ℕ) (a b : ℕ) → r ≡ Err a → r ≡ Err b → a ≡ b
one_stop {A} r a b e f = same (sym e ∙ f)
  where
    stop : ℕ → Result A ℕ
    stop n = Err n

    same : stop a ≡ stop b → a ≡ b
    same g = cc

shown_apart : (s : Stored) → AreRead s → (k : Catalog) (front : List ℕ) (from : ℕ) → ShowsCatalog k s → NoneAt BreaksCatalog MAGIC front s from → ⊥
shown_apart Blank fits k front from p q = q
shown_apart (Record bytes) fits k front from p q =
    no_both (whole (catalog_record (length bytes)) bytes) (again k) from
    (subst (λ (x : List ℕ). whole (catalog_record (length x)) x ≡ Ok (again k)) (sym p.1) (written_is_read k p.0))
    (whole_stops (catalog_record (length bytes)) bytes from (fits bytes refl) q)
shown_apart BadLength fits k front from p q = p

pub catalog_apart : (c : Image) → HoldsBytes c → (k : Catalog) (from : ℕ) → ShowsCatalog k (stored c) → NoneAt BreaksCatalog MAGIC (part c (slot_start (slot_of c)) 8) (stored c) from → ⊥
catalog_apart c small k from = shown_apart (stored c) (are_bytes c small) k (part c (slot_start (slot_of c)) 8) from

one_difference : (magic bytes : List ℕ) (a b : ℕ) → register.DiffersFirst magic bytes a → register.DiffersFirst magic bytes b → a ≡ b
one_difference magic bytes a b p q = elim (cases_order a b) [
  | inl same ↦ same
  | inr (inl less) ↦ absurd (p.differs (let w = q.within in omega (arith, less, w)) (q.same a less))
  | inr (inr more) ↦ absurd (q.differs (let w = p.within in omega (arith, more, w)) (p.same b more))
]

broken_once : (s : Stored) → AreRead s → (front : List ℕ) (a b : ℕ) → NoneAt BreaksCatalog MAGIC front s a → NoneAt BreaksCatalog MAGIC front s b → a ≡ b
broken_once Blank fits front a b p q = absurd p
broken_once (Record bytes) fits front a b p q =
    one_stop (whole (catalog_record (length bytes)) bytes) a b
    (whole_stops (catalog_record (length bytes)) bytes a (fits bytes refl) p) (whole_stops (catalog_record (length bytes)) bytes b (fits bytes refl) q)
broken_once BadLength fits front a b p q = one_difference MAGIC front a b p q

pub one_break : (c : Image) → HoldsBytes c → (a b : ℕ) → NoneAt BreaksCatalog MAGIC (part c (slot_start (slot_of c)) 8) (stored c) a → NoneAt BreaksCatalog MAGIC (part c (slot_start (slot_of c)) 8) (stored c) b → a ≡ b
one_break c small a b = broken_once (stored c) (are_bytes c small) (part c (slot_start (slot_of c)) 8) a b

-- ---- a root

pub one_root : (c : Image) (r s : Root) → IsRootOn c r → IsRootOn c s → r ≡ s
one_root c r s a b = round.one_value r s a.good b.good (record_same (roots.spelling r) (roots.spelling s) (stored c) a.spelled b.spelled)

blank_record : (xs : List ℕ) → Blank ≡ Record xs → ⊥
blank_record xs e = cc

long_record : (xs : List ℕ) → BadLength ≡ Record xs → ⊥
long_record xs e = cc

blank_long : Blank ≡ BadLength → ⊥
blank_long e = cc

module _ (c : Image) (small : HoldsBytes c) where
  stops : (bytes : List ℕ) (at : ℕ) → stored c ≡ Record bytes → FirstFault (root_record (length bytes)) bytes at → whole (root_record (length bytes)) bytes ≡ Err at
  stops bytes at is fault = whole_stops (root_record (length bytes)) bytes at (are_bytes c small bytes is) fault

  first_differs : (a b : ℕ) → DiffersFirst (part c (slot_start (slot_of c)) 8) a → DiffersFirst (part c (slot_start (slot_of c)) 8) b → a ≡ b
  first_differs a b p q = elim (cases_order a b) [
    | inl same ↦ same
    | inr (inl less) ↦ absurd (p.differs (let w = q.within in omega (arith, less, w)) (q.same a less))
    | inr (inr more) ↦ absurd (q.differs (let w = p.within in omega (arith, more, w)) (p.same b more))
  ]

  pub one_no_root : (a b : ℕ) → IsNoRootOn c a → IsNoRootOn c b → a ≡ b
  one_no_root a b (inl p) (inl q) = p.1 ∙ sym q.1
  one_no_root a b (inl p) (inr (inl q)) = absurd (not_both (stored c) Blank BadLength blank_long p.0 q.0)
  one_no_root a b (inl p) (inr (inr (ys, q, g))) = absurd (not_both (stored c) Blank (Record ys) (blank_record ys) p.0 q)
  one_no_root a b (inr (inl p)) (inl q) = absurd (not_both (stored c) Blank BadLength blank_long q.0 p.0)
  one_no_root a b (inr (inl p)) (inr (inl q)) = first_differs a b p.1 q.1
  one_no_root a b (inr (inl p)) (inr (inr (ys, q, g))) = absurd (not_both (stored c) BadLength (Record ys) (long_record ys) p.0 q)
  one_no_root a b (inr (inr (xs, p, f))) (inl q) = absurd (not_both (stored c) Blank (Record xs) (blank_record xs) q.0 p)
  one_no_root a b (inr (inr (xs, p, f))) (inr (inl q)) = absurd (not_both (stored c) BadLength (Record xs) (long_record xs) q.0 p)
  one_no_root a b (inr (inr (xs, p, f))) (inr (inr (ys, q, g))) =
      let same = record_same ys xs (stored c) q p in
      one_stop (whole (root_record (length xs)) xs) a b (stops xs a p f)
      (subst (λ (x : List ℕ). whole (root_record (length x)) x ≡ Err b) same (stops ys b q g))
