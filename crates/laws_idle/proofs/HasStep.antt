-- A running transfer of a sound world has a step due.
use Rattle.std.proofs.Common.{◌≡◌, ℕ, Bool, true, false, cond, List, [], ◌∷◌, Option, Some, None, refl, sym, ap, subst, inl}
use Rattle.std.proofs.lemmas.Bool.{and_parts}
use Rattle.sm_base.specs.declared.numbers.Ident.{Ident}
use Rattle.sm_base.specs.declared.numbers.TransferKind.{TransferKind}
use Rattle.sm_base.specs.declared.numbers.TransferKind.TheVariants.{Initialize, Update, Resync}
use Rattle.sm_defs.specs.Words.{Among}
use Rattle.sm_defs.specs.Volume.{has, is_rw}
use Rattle.sm_defs.specs.Relationship.{is_resync}
use Rattle.sm_defs.specs.World.{Up}
use Rattle.sm_model.specs.Sound.{SoundUp}
use Rattle.sm_model.specs.Running.{Running, IsRunning}
use Rattle.sm_model.specs.Steps.{snapshot_of}
use Rattle.sm_model.specs.Due.{StepKind, revert, finish, settle, prepare, kind_due, kind_for, kind_for_leg, kind_at_source, kind_finishing, kind_reverting, reserved_leg, lacks_reserved, is_reverting}
use Rattle.laws_idle.specs.Idling.{EndsAtBase}
use Rattle.laws_cases.proofs.Steps.Parties.{relation_stands}
use Rattle.sm_model.proofs.Found.{found_one}
use Rattle.laws_cases.proofs.Steps.LegsThere.{leg_there}

is_resync_is : (kind : TransferKind) → is_resync kind ≡ true → kind ≡ Resync
is_resync_is Initialize e = absurd (cc)
is_resync_is Update e = absurd (cc)
is_resync_is Resync e = refl

-- the base of a resync is on the destination
reverting : (w : Up) (k : ℕ) (x : Running) → SoundUp w → IsRunning w k x → is_reverting x ≡ true → (o : Option Ident) → x.relation.base ≡ o → (kind : StepKind) × (kind_reverting (snapshot_of x.destination.snapshots o) ≡ Some kind)
reverting w k x s r b None e =
    let resync = is_resync_is x.transfer.kind (and_parts (is_resync x.transfer.kind) (is_rw x.destination.kind) b).0 in
    absurd ((s.transfers_stand x.relation x.transfer (relation_stands w k x r) r.transfer).resync resync e)
reverting w k x s r b (Some i) e =
    let d = s.crossed.relations x.relation (relation_stands w k x r) in let t = s.crossed.transfers x.relation x.transfer (relation_stands w k x r) r.transfer in
    let (base, f) = found_one x.destination.snapshots i (subst (λ v. has v.snapshots i ≡ true) (sym (ap (λ y. y.destination) r.is)) (d.base_at_destination i e t.at_destination)) in
    (revert base, ap kind_reverting f)

finishing : (w : Up) (k : ℕ) (x : Running) → EndsAtBase w → IsRunning w k x → x.transfer.legs ≡ [] → (o : Option Ident) → x.relation.base ≡ o → (kind : StepKind) × (kind_finishing o ≡ Some kind)
finishing w k x s r e None f = absurd (s x.relation x.transfer (relation_stands w k x r) r.transfer f e)
finishing w k x s r e (Some base) f = (finish base, refl)

sending : (w : Up) (k : ℕ) (x : Running) (i : Ident) (later : List Ident) (b l : Bool) → SoundUp w → IsRunning w k x → x.transfer.legs ≡ i ∷ later → has x.destination.snapshots i ≡ b → lacks_reserved x ≡ l →
    (kind : StepKind) × (cond b (Some (settle i later)) (cond l (Some (prepare (reserved_leg x))) (kind_at_source x (snapshot_of x.source.snapshots (Some i)))) ≡ Some kind)
sending w k x i later true l s r e f g = (settle i later, refl)
sending w k x i later false true s r e f g = (prepare (reserved_leg x), refl)
sending w k x i later false false s r e f g =
    let (leg, h) = found_one x.source.snapshots i (leg_there w k x i s r (subst (λ is. Among is i) (sym e) (inl refl)) g) in
    (kind_for_leg x leg, ap (kind_at_source x) h)

of_legs : (w : Up) (k : ℕ) (x : Running) (is : List Ident) → SoundUp w → EndsAtBase w → IsRunning w k x → x.transfer.legs ≡ is → (kind : StepKind) × (kind_for x is ≡ Some kind)
of_legs w k x [] s n r e = finishing w k x n r e x.relation.base refl
of_legs w k x (i ∷ is) s n r e = sending w k x i is (has x.destination.snapshots i) (lacks_reserved x) s r e refl refl

of_all : (w : Up) (k : ℕ) (x : Running) (b : Bool) → SoundUp w → EndsAtBase w → IsRunning w k x → is_reverting x ≡ b →
    (kind : StepKind) × (cond b (kind_reverting (snapshot_of x.destination.snapshots x.relation.base)) (kind_for x x.transfer.legs) ≡ Some kind)
of_all w k x true s n r e = reverting w k x s r e x.relation.base refl
of_all w k x false s n r e = of_legs w k x x.transfer.legs s n r refl

pub has_step : (w : Up) (k : ℕ) (x : Running) → SoundUp w → EndsAtBase w → IsRunning w k x → (kind : StepKind) × (kind_due x ≡ Some kind)
has_step w k x s n r = of_all w k x (is_reverting x) s n r refl
