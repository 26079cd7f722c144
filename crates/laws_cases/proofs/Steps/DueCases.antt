-- What holds where a kind of step is due.
use Rattle.std.proofs.Common.{◌≡◌, not, Bool, true, false, cond, List, [], ◌∷◌, Option, Some, None, refl, subst, ◌<◌, ℕ, length, ltb-true}
use Rattle.std.proofs.lemmas.Bool.{and_parts, not-true}
use Rattle.std.proofs.lemmas.Option.{same_Some}
use Rattle.sm_base.specs.declared.numbers.Ident.{Ident}
use Rattle.sm_base.specs.declared.refusal.Reason.{Reason}
use Rattle.sm_defs.specs.Volume.{Snapshot, has}
use Rattle.sm_defs.specs.World.{Up}
use Rattle.sm_model.specs.Running.{Running}
use Rattle.sm_model.specs.Steps.{snapshot_of, cost, all_landed, at_checkpoint}
use Rattle.sm_model.specs.Due.{StepKind, revert, finish, settle, prepare, prune, publish, checkpoint, ship, is_unpruned, kind_at_source, kind_for, kind_finishing, reserved_leg, lacks_reserved, kind_reverting, is_reverting, kind_due, reason_if, tidy_due}

-- the first leg is ahead, and the source has it as leg
pub record Ahead (x : Running) (leg : Snapshot) : Type 0 where
  pub i : Ident
  pub later : List Ident
  pub legs : x.transfer.legs ≡ i ∷ later
  pub lacks : has x.destination.snapshots i ≡ false
  pub source : snapshot_of x.source.snapshots (Some i) ≡ Some leg
  pub stays : is_reverting x ≡ false
  pub made : lacks_reserved x ≡ false

pub data IsDue (x : Running) : StepKind → Type 0 where
  due_revert : (base : Snapshot) → is_reverting x ≡ true → snapshot_of x.destination.snapshots x.relation.base ≡ Some base → IsDue x (revert base)
  due_finish : (base : Ident) → x.transfer.legs ≡ [] → x.relation.base ≡ Some base → IsDue x (finish base)
  due_settle : (i : Ident) (later : List Ident) → x.transfer.legs ≡ i ∷ later → has x.destination.snapshots i ≡ true → IsDue x (settle i later)
  due_prepare : x.transfer.reserved ≡ true → has x.source.snapshots (reserved_leg x) ≡ false → IsDue x (prepare (reserved_leg x))
  due_prune : (leg : Snapshot) → Ahead x leg → is_unpruned x ≡ true → IsDue x prune
  due_publish : (leg : Snapshot) → Ahead x leg → is_unpruned x ≡ false → all_landed x (cost x leg) ≡ true → IsDue x (publish leg)
  due_checkpoint : (leg : Snapshot) → Ahead x leg → is_unpruned x ≡ false → all_landed x (cost x leg) ≡ false → at_checkpoint x (cost x leg) ≡ true → IsDue x checkpoint
  due_ship : (leg : Snapshot) → Ahead x leg → is_unpruned x ≡ false → all_landed x (cost x leg) ≡ false → at_checkpoint x (cost x leg) ≡ false → IsDue x (ship leg)

of_leg : (x : Running) (leg : Snapshot) → Ahead x leg → (u l c : Bool) → is_unpruned x ≡ u → all_landed x (cost x leg) ≡ l → at_checkpoint x (cost x leg) ≡ c →
    IsDue x (cond u prune (cond l (publish leg) (cond c checkpoint (ship leg))))
of_leg x leg a true l c d e f = due_prune leg a d
of_leg x leg a false true c d e f = due_publish leg a d e
of_leg x leg a false false true d e f = due_checkpoint leg a d e f
of_leg x leg a false false false d e f = due_ship leg a d e f

of_source : (x : Running) (kind : StepKind) → is_reverting x ≡ false → (i : Ident) (later : List Ident) (o : Option Snapshot) → x.transfer.legs ≡ i ∷ later → has x.destination.snapshots i ≡ false → lacks_reserved x ≡ false →
    snapshot_of x.source.snapshots (Some i) ≡ o → kind_at_source x o ≡ Some kind → IsDue x kind
of_source x kind n i later None e h z f g = absurd (cc)
of_source x kind n i later (Some leg) e h z f g = subst (IsDue x) (same_Some _ kind g)
    (of_leg x leg (record { i = i; later = later; legs = e; lacks = h; source = f; stays = n; made = z }) (is_unpruned x) (all_landed x (cost x leg)) (at_checkpoint x (cost x leg)) refl refl refl)

of_first : (x : Running) (kind : StepKind) → is_reverting x ≡ false → (i : Ident) (later : List Ident) (b l : Bool) → x.transfer.legs ≡ i ∷ later → has x.destination.snapshots i ≡ b → lacks_reserved x ≡ l →
    cond b (Some (settle i later)) (cond l (Some (prepare (reserved_leg x))) (kind_at_source x (snapshot_of x.source.snapshots (Some i)))) ≡ Some kind → IsDue x kind
of_first x kind n i later true l e h f g = subst (IsDue x) (same_Some _ kind g) (due_settle i later e h)
of_first x kind n i later false true e h f g =
    let p = and_parts x.transfer.reserved (not (has x.source.snapshots (reserved_leg x))) f in subst (IsDue x) (same_Some _ kind g) (due_prepare p.0 (not-true _ p.1))
of_first x kind n i later false false e h f g = of_source x kind n i later _ e h f refl g

of_finishing : (x : Running) (kind : StepKind) → x.transfer.legs ≡ [] → (o : Option Ident) → x.relation.base ≡ o → kind_finishing o ≡ Some kind → IsDue x kind
of_finishing x kind e None f g = absurd (cc)
of_finishing x kind e (Some base) f g = subst (IsDue x) (same_Some _ kind g) (due_finish base e f)

of_legs : (x : Running) (kind : StepKind) → is_reverting x ≡ false → (is : List Ident) → x.transfer.legs ≡ is → kind_for x is ≡ Some kind → IsDue x kind
of_legs x kind n [] e g = of_finishing x kind e x.relation.base refl g
of_legs x kind n (i ∷ is) e g = of_first x kind n i is (has x.destination.snapshots i) (lacks_reserved x) e refl refl g

of_revert : (x : Running) (kind : StepKind) → is_reverting x ≡ true → (o : Option Snapshot) → snapshot_of x.destination.snapshots x.relation.base ≡ o → kind_reverting o ≡ Some kind → IsDue x kind
of_revert x kind a None e g = absurd (cc)
of_revert x kind a (Some base) e g = subst (IsDue x) (same_Some _ kind g) (due_revert base a e)

of_kind : (x : Running) (kind : StepKind) (b : Bool) → is_reverting x ≡ b → cond b (kind_reverting (snapshot_of x.destination.snapshots x.relation.base)) (kind_for x x.transfer.legs) ≡ Some kind → IsDue x kind
of_kind x kind true e g = of_revert x kind e _ refl g
of_kind x kind false e g = of_legs x kind e x.transfer.legs refl g

pub kind_is_due : (x : Running) (kind : StepKind) → kind_due x ≡ Some kind → IsDue x kind
kind_is_due x kind g = of_kind x kind (is_reverting x) refl g

-- a reason that does not hold
pub no_reason : (b : Bool) (reason : Reason) (o : Option Reason) → reason_if b reason o ≡ None → (b ≡ false) × (o ≡ None)
no_reason true reason o e = absurd (cc)
no_reason false reason o e = (refl, e)

-- a volume that is due to be tidied stands
pub tidy_within : (w : Up) (n : ℕ) → tidy_due w n ≡ true → n < length w.volumes
tidy_within w n d = ltb-true _ _ (and_parts _ _ (and_parts _ _ d).0).0
