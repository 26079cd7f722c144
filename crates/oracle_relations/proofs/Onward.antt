-- Where all tests of an event are passed.
use Rattle.std.proofs.Common.{◌≡◌, ℕ, ◌&&◌, Bool, true, false, not, List, Option, Some, None, Result, Ok, is_some, IfOk, refl, sym, subst}
use Rattle.std.specs.Option.{option_map}
use Rattle.sm_base.specs.declared.numbers.Ident.{Ident}
use Rattle.sm_base.specs.declared.numbers.TransferKind.TheVariants.{Initialize, Update}
use Rattle.sm_model.specs.declared.reply.Reply.{Reply}
use Rattle.sm_defs.specs.Volume.{Snapshot, is_rw, ident_of}
use Rattle.sm_defs.specs.Relationship.{Transfer}
use Rattle.sm_defs.specs.Edges.{is_empty, runs, upstream}
use Rattle.sm_defs.specs.Common.{common}
use Rattle.sm_defs.specs.World.{Up, volume_at, relation_at, policy_at}
use Rattle.sm_defs.specs.May.{refused}
use Rattle.sm_model.specs.Answers.{Answer, and_then, allowed, some_or}
use Rattle.sm_model.specs.OfTransfers as model
use Rattle.oracle_world.specs.declared.values.PlainFault.{PlainFault}
use Rattle.oracle_relations.specs.declared.target.PlainTarget.{PlainTarget}
use Rattle.oracle_volumes.specs.Answering.{Answers}
use Rattle.oracle_relations.specs.Targets.{IsTarget, IsOfOne}
use Rattle.sm_defs.specs.Progress as progress
use Rattle.sm_defs.specs.May as may

-- what answers the last call answers the event
pub onward : (old new : Up) (a b : Answer) (r : Result Reply PlainFault) → a ≡ b → IfOk r (λ reply. Answers old b reply new) → IfOk r (λ reply. Answers old a reply new)
onward old new a b r e h = subst (λ (x : Answer). IfOk r (λ reply. Answers old x reply new)) (sym e) h

pub initialized : (w : Up) (path : List ℕ) (t : PlainTarget) → IsTarget w path t → is_rw (volume_at w t.destination).kind ≡ false → is_empty (volume_at w t.destination).snapshots ≡ true →
    (relation_at w t.relation).quiesced ≡ false → runs (relation_at w t.relation) ≡ false →
    model.initialize w path ≡ model.resume_or_start w t.relation (relation_at w t.relation) Initialize (relation_at w t.relation).transfer
unfolding and_then allowed refused
initialized w path t h a b c d = rw (h.named, a, b, c, d) refl

pub updated : (w : Up) (path : List ℕ) (t : PlainTarget) → IsTarget w path t → is_rw (volume_at w t.destination).kind ≡ false → may.is_uninitialized (volume_at w t.destination) (relation_at w t.relation) ≡ false →
    (relation_at w t.relation).quiesced ≡ false → runs (relation_at w t.relation) ≡ false → model.has_other_layout w (relation_at w t.relation) ≡ false →
    model.update w path ≡ model.resume_or_start w t.relation (relation_at w t.relation) Update (relation_at w t.relation).transfer
unfolding and_then allowed refused
updated w path t h a b c d e = rw (h.named, a, b, c, d, e) refl

pub aborted : (w : Up) (path : List ℕ) (hard : Bool) (t : PlainTarget) (u : Transfer) → IsTarget w path t → (relation_at w t.relation).transfer ≡ Some u → (not hard && is_some u.stopped) ≡ false →
    model.abort w path hard ≡ model.abort_settled w t.relation hard (progress.settled_if_there (volume_at w t.destination).snapshots (relation_at w t.relation) u u.legs) u
unfolding and_then allowed refused some_or
aborted w path hard t u h a b = rw (h.named, a, b) refl

pub resynced : (w : Up) (path : List ℕ) (t : PlainTarget) (i : Ident) (left : List Snapshot) → IsTarget w path t → is_rw (volume_at w t.destination).kind ≡ true → runs (relation_at w t.relation) ≡ false →
    model.has_other_layout w (relation_at w t.relation) ≡ false →
    upstream (model.other_edges w (relation_at w t.relation)) (relation_at w t.relation).destination (relation_at w t.relation).source ≡ false →
    IsOfOne (common (volume_at w (relation_at w t.relation).source).snapshots (volume_at w t.destination).snapshots) (Some i) →
    model.held_downstream (model.held_after w (relation_at w t.relation) i (volume_at w t.destination).snapshots) ≡ Ok tt →
    left ≡ model.as_reverted (policy_at w (relation_at w t.relation).policy) i (volume_at w t.destination).snapshots →
    model.resync w path ≡ model.resync_from w t.relation (relation_at w t.relation) i left
unfolding and_then allowed refused some_or
resynced w path t i left h a b c d (s, e, k) f g = rw (h.named, a, b, c, d, e, k, f, ← g) refl

pub of_one : (o : Option Snapshot) (i : Option Ident) → i ≡ option_map ident_of o → IsOfOne o i
of_one None i e = rw e refl
of_one (Some s) i e = rw e (s, refl, refl)
