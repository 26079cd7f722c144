-- What the start of a transfer is answered, by its tests.
use Rattle.std.proofs.Common.{◌≡◌, ℕ, ◌==◌, true, false, List, length, Some, Result, Ok, Err, refl, sym, ap, ◌∙◌}
use Rattle.sm_base.specs.declared.numbers.Ident.{Ident}
use Rattle.sm_base.specs.declared.numbers.TransferKind.{TransferKind}
use Rattle.sm_base.specs.declared.numbers.TransferKind.TheVariants.{Resync}
use Rattle.sm_base.specs.declared.refusal.What.TheVariants.{Transfers}
use Rattle.sm_base.specs.declared.refusal.Refusal.{Refusal}
use Rattle.sm_base.specs.declared.refusal.Refusal.TheVariants as refusals
use Rattle.sm_model.specs.declared.reply.Reply.TheVariants as replies
use Rattle.sm_base.specs.declared.limits.TheConstants.{LAST_NUMBER}
use Rattle.sm_defs.specs.Volume.{Snapshot}
use Rattle.sm_defs.specs.Relationship.{Relationship}
use Rattle.sm_defs.specs.Legs.{Legs}
use Rattle.sm_defs.specs.Edges.{is_empty}
use Rattle.sm_defs.specs.World.{Up, volume_at, policy_at}
use Rattle.sm_model.specs.Answers.{and_then, refused_if, told, whether◌then◌otherwise◌}
use Rattle.sm_model.specs.OfTransfers as model

-- these are the legs of the next transfer
abbrev pub AreLegs : Up → Relationship → Legs → Type 0
AreLegs w r ls = ls ≡ model.next_legs w r r.base (volume_at w r.destination).snapshots

abbrev pub room : Up → Relationship → Legs → Type 0
room w r ls = model.room_for (policy_at w r.policy) (volume_at w r.destination).snapshots (model.of_idents ls.idents (volume_at w r.source).snapshots) ≡ Ok tt

pub no_room : (w : Up) (k : ℕ) (r : Relationship) (kind : TransferKind) (ls : Legs) (refusal : Refusal) → AreLegs w r ls →
    model.room_for (policy_at w r.policy) (volume_at w r.destination).snapshots (model.of_idents ls.idents (volume_at w r.source).snapshots) ≡ Err refusal → model.start_it w k r kind ≡ Err refusal
unfolding and_then
no_room w k r kind ls refusal e h = ap (model.start_of w k r kind) (sym e) ∙ rw h refl

pub no_leg : (w : Up) (k : ℕ) (r : Relationship) (kind : TransferKind) (ls : Legs) → AreLegs w r ls → room w r ls → is_empty ls.idents ≡ true →
    model.start_it w k r kind ≡ Ok (record { reply = told replies.Nothing; world = w })
unfolding and_then whether◌then◌otherwise◌
no_leg w k r kind ls e h n = ap (model.start_of w k r kind) (sym e) ∙ rw (h, n) refl

pub no_number : (w : Up) (k : ℕ) (r : Relationship) (kind : TransferKind) (ls : Legs) → AreLegs w r ls → room w r ls → is_empty ls.idents ≡ false → (w.next_transfer == LAST_NUMBER) ≡ true →
    model.start_it w k r kind ≡ Err (refusals.Full Transfers)
unfolding and_then refused_if whether◌then◌otherwise◌
no_number w k r kind ls e h n f = ap (model.start_of w k r kind) (sym e) ∙ rw (h, n, f) refl

pub begun : (w : Up) (k : ℕ) (r : Relationship) (kind : TransferKind) (ls : Legs) → AreLegs w r ls → room w r ls → is_empty ls.idents ≡ false → (w.next_transfer == LAST_NUMBER) ≡ false →
    model.start_it w k r kind ≡ Ok (record { reply = told (replies.Started w.next_transfer (length ls.idents)); world = model.with_next_transfer w k (model.with_transfer r (model.new_transfer w.next_transfer kind ls)) })
unfolding and_then refused_if whether◌then◌otherwise◌
begun w k r kind ls e h n f = ap (model.start_of w k r kind) (sym e) ∙ rw (h, n, f) refl

-- ---- from a common snapshot

abbrev pub AreNext : Up → Relationship → Ident → List Snapshot → Legs → Type 0
AreNext w r base left ls = ls ≡ model.next_legs w r (Some base) left

abbrev pub room_test : Up → Relationship → List Snapshot → Legs → Result (Unit {0}) Refusal
room_test w r left ls = model.room_for (policy_at w r.policy) left (model.of_idents ls.idents (volume_at w r.source).snapshots)

pub no_room_again : (w : Up) (k : ℕ) (r : Relationship) (base : Ident) (left : List Snapshot) (ls : Legs) (refusal : Refusal) → AreNext w r base left ls → room_test w r left ls ≡ Err refusal →
    model.resync_from w k r base left ≡ Err refusal
unfolding and_then
no_room_again w k r base left ls refusal e h = ap (model.resync_with w k r base left) (sym e) ∙ rw h refl

pub no_number_again : (w : Up) (k : ℕ) (r : Relationship) (base : Ident) (left : List Snapshot) (ls : Legs) → AreNext w r base left ls → room_test w r left ls ≡ Ok tt → (w.next_transfer == LAST_NUMBER) ≡ true →
    model.resync_from w k r base left ≡ Err (refusals.Full Transfers)
unfolding and_then refused_if
no_number_again w k r base left ls e h f = ap (model.resync_with w k r base left) (sym e) ∙ rw (h, f) refl

pub begun_again : (w : Up) (k : ℕ) (r : Relationship) (base : Ident) (left : List Snapshot) (ls : Legs) → AreNext w r base left ls → room_test w r left ls ≡ Ok tt → (w.next_transfer == LAST_NUMBER) ≡ false →
    model.resync_from w k r base left ≡
    Ok (record { reply = told (replies.Resyncing w.next_transfer base (length ls.idents)); world = model.with_next_transfer w k (model.resynced r base (model.new_transfer w.next_transfer Resync ls)) })
unfolding and_then refused_if
begun_again w k r base left ls e h f = ap (model.resync_with w k r base left) (sym e) ∙ rw (h, f) refl
