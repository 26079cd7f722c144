-- What one more restart makes of what is known of a node that is down.
use Rattle.std.proofs.Common.{◌≡◌, ◌≢◌, inl, inr, ℕ, ◌-◌, ◌<◌, List, refl, sym, ◌∙◌, ap, subst, Some, None, arith}
use Rattle.std.specs.Prelude.{slice_get, Option}
use Rattle.std.proofs.lemmas.Bool.{cases_eq}
use Rattle.sm_base.specs.declared.numbers.Side.{Side}
use Rattle.sm_base.specs.declared.numbers.Side.TheVariants.{Before, After}
use Rattle.sm_disk.specs.Image.{Image}
use Rattle.sm_disk.specs.Disk.{DiskState, GoesOn}
use Rattle.sm_disk.proofs.Moments.{at_end}
use Rattle.sm_slots.specs.Stored.{slot_of}
use Rattle.sm_seats.specs.Seats.{Left}
use Rattle.sm_model.specs.World.{Deed}
use Rattle.sm_register.specs.Turned.{Turns, joined}
use Rattle.sm_catroot.specs.Catalog.{Catalog}
use Rattle.sm_node.specs.Pending.{later}
use Rattle.sm_node.specs.Halved.{FoundBy, world_at}
use Rattle.sm_seats.proofs.Lists.{one_value}

-- ---- slots

slot_less : (c : Image) → slot_of c < 2
slot_less c = grind arith

pub other_slot : (c : Image) (slot : ℕ) → slot < 2 → slot_of c ≢ slot → slot_of c ≡ 1 - slot
other_slot c slot lt ne = let less = slot_less c in grind (arith, less, lt)

-- ---- sides

pub found_step : {A : Type 0} (s r : Side) (told told' : Type 0) (slot selected selected' : ℕ) (o o' : Option A) → (told' → told) → FoundBy s slot told selected o → Turns r told selected o selected' o' → FoundBy (joined s r) slot told' selected' o'
found_step Before Before told told' slot selected selected' o o' f found turns = λ t. turns.0 (f t) ∙ found (f t)
found_step Before After told told' slot selected selected' o o' f found turns = (turns.1, λ t. turns.2 (f t) ∙ ap (λ (k : ℕ). 1 - k) (found (f t)))
found_step After Before told told' slot selected selected' o o' f found turns = (turns.1 found.0, λ t. turns.0 (f t) ∙ found.1 (f t))
found_step After After told told' slot selected selected' o o' f found turns = absurd (turns.0 found.0)

pub no_side : {A : Type 0} (r : Side) (told : Type 0) (selected selected' : ℕ) (o o' : Option A) → o ≡ None → Turns r told selected o selected' o' → r ≡ Before
no_side Before told selected selected' o o' e turns = refl
no_side After told selected selected' o o' e turns = absurd (turns.0 e)

pub stays_none : {A : Type 0} (r : Side) (told : Type 0) (selected selected' : ℕ) (o o' : Option A) → Turns r told selected o selected' o' → o ≡ None → o' ≡ None
stays_none Before told selected selected' o o' turns e = turns.1 e
stays_none After told selected selected' o o' turns e = turns.1

pub joined_before : (s r : Side) → r ≡ Before → joined s r ≡ s
joined_before Before r e = e
joined_before After r e = refl

pub world_before : (s r : Side) (d : Deed) → r ≡ Before → world_at (joined s r) d ≡ world_at s d
world_before s r d e = ap (λ (t : Side). world_at t d) (joined_before s r e)

pub world_after : (s : Side) (d : Deed) → world_at (joined s After) d ≡ d.new
world_after Before d = refl
world_after After d = refl

-- ---- the catalogue ahead

pub later_same : (o o' : Option Catalog) (h h' : Catalog) → ((k : Catalog) → o' ≡ Some k → o ≡ Some k) → (o' ≡ None → ⊥) → later o h ≡ later o' h'
later_same o None h h' from ne = absurd (ne refl)
later_same o (Some k) h h' from ne = ap (λ (p : Option Catalog). later p h) (from k refl)

pub later_none : (o : Option Catalog) (h : Catalog) → o ≡ None → later o h ≡ h
later_none None h e = refl
later_none (Some k) h e = absurd (cc)

pub later_some : (o : Option Catalog) (h k : Catalog) → o ≡ Some k → later o h ≡ k
later_some None h k e = absurd (cc)
later_some (Some j) h k e = cc

-- ---- images

-- two lists of disks of which one has another disk at one seat
abbrev pub DiffersAt : {D : Type 0} → ℕ → D → D → List D → List D → Type 0
DiffersAt k x y olds news = (slice_get olds k ≡ Some x) × (slice_get news k ≡ Some y) × ((d : ℕ) → d ≢ k → slice_get news d ≡ slice_get olds d)

-- what a restart may leave of all disks after that of one was restarted, one could leave before
pub left_back : {D : Type 0} (state : D → DiskState) (k : ℕ) (x y : D) (olds news : List D) (images : ℕ → Image) → DiffersAt k x y olds news → GoesOn (state x) (state y) (state x).may_leave → Left state news images → Left state olds images
left_back state k x y olds news images differ goes left = λ d b f. elim (cases_eq d k) [
  | inl same ↦
      let is : x ≡ b = one_value (slice_get olds k) x b differ.0 (subst (λ (j : ℕ). slice_get olds j ≡ Some b) same f) in
      let may : (state y).may_leave (images d) = subst (λ (j : ℕ). (state y).may_leave (images j)) (sym same) (left k y differ.1) in
      subst (λ (z : _). (state z).may_leave (images d)) is (at_end (state x) (state y) (state x).may_leave goes (λ c m. m) (images d) may)
  | inr ne ↦ left d b (differ.2 d ne ∙ f)
]
