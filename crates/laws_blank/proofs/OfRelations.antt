-- Events on relationships, where blocks are read as zeros.
use Rattle.std.proofs.Common.{◌≡◌, ℕ, ◌||◌, ◌&&◌, not, Bool, List, None, refl, ap}
use Rattle.std.specs.Prelude.{is_some, is_none}
use Rattle.sm_base.specs.declared.refusal.Refusal.TheVariants as refusals
use Rattle.sm_base.specs.declared.refusal.What.TheVariants.{Relations}
use Rattle.sm_model.specs.declared.reply.Reply.TheVariants as replies
use Rattle.sm_defs.specs.Volume.{Volume, is_rw}
use Rattle.sm_defs.specs.Operations.{writable}
use Rattle.sm_defs.specs.May.{refused, may_break, may_initialize, may_update}
use Rattle.sm_defs.specs.Relationship.{Relationship}
use Rattle.sm_defs.specs.Edges.{runs}
use Rattle.sm_defs.specs.World.{Up, with_relation}
use Rattle.sm_model.specs.Answers.{told, Target, target_named, allowed, relno}
use Rattle.sm_model.specs.OfRelations.{with_new_relation, closes, relate, quiesced_as, set_quiesced, break_off, with_halves, without_destination, without_source, delete, release}
use Rattle.sm_shape.specs.Blanked.{zeroed_snapshot, zeroed_volume, blanked}
use Rattle.laws_blank.specs.Blanking.{blanked_reached, blanked_answer}
use Rattle.laws_blank.proofs.Mapped.{on, empty_mapped}
use Rattle.laws_blank.proofs.Results.{changed, finds, passes, tested, ends}
use Rattle.laws_blank.proofs.Zeroed.{edges_blanked}
use Rattle.laws_blank.proofs.OfVolumes.{volume_named_blanked, done_with}

abbrev pub zeroed_target : Target → Target
zeroed_target t = record { destination = on zeroed_volume t.destination; relation = t.relation }

pub target_named_blanked : (w : Up) (path : List ℕ) → target_named (blanked w) path ≡ changed zeroed_target (target_named w path)
unfolding target_named
target_named_blanked w path = finds zeroed_target (on zeroed_volume) _ _ _ _ (volume_named_blanked w path) (λ v. passes zeroed_target _ _ _ _ refl (λ r. refl))

-- ---- what may be done: a destination's bytes do not count

may_break_zeroed : {R : Type 0} (writable uninitialized transferring : R) (v : Volume) (r : Relationship) →
    may_break writable uninitialized transferring (zeroed_volume v) r ≡ may_break writable uninitialized transferring v r
may_break_zeroed writable uninitialized transferring v r =
    ap (λ (e : Bool). refused writable (is_rw v.kind) (refused uninitialized e (refused transferring (is_some r.transfer) None))) (empty_mapped zeroed_snapshot v.snapshots)

pub may_initialize_zeroed : {R : Type 0} (writable initialized quiesced transferring : R) (v : Volume) (r : Relationship) →
    may_initialize writable initialized quiesced transferring (zeroed_volume v) r ≡ may_initialize writable initialized quiesced transferring v r
may_initialize_zeroed writable initialized quiesced transferring v r =
    ap (λ (e : Bool). refused writable (is_rw v.kind) (refused initialized (not e) (refused quiesced r.quiesced (refused transferring (runs r) None)))) (empty_mapped zeroed_snapshot v.snapshots)

pub may_update_zeroed : {R : Type 0} (writable uninitialized quiesced transferring other_layout : R) (differ : Bool) (v : Volume) (r : Relationship) →
    may_update writable uninitialized quiesced transferring other_layout differ (zeroed_volume v) r ≡ may_update writable uninitialized quiesced transferring other_layout differ v r
may_update_zeroed writable uninitialized quiesced transferring other_layout differ v r =
    ap (λ (e : Bool). refused writable (is_rw v.kind) (refused uninitialized (e || (is_none r.base && is_none r.transfer)) (refused quiesced r.quiesced (refused transferring (runs r) (refused other_layout differ None)))))
    (empty_mapped zeroed_snapshot v.snapshots)

-- ---- events

pub relate_blanked : (w : Up) (source destination policy : List ℕ) → relate (blanked w) source destination policy ≡ blanked_answer (relate w source destination policy)
relate_blanked w source destination policy =
    finds blanked_reached (on zeroed_volume) _ _ _ _ (volume_named_blanked w source) (λ s.
    finds blanked_reached (on zeroed_volume) _ _ _ _ (volume_named_blanked w destination) (λ d.
    passes blanked_reached _ _ _ _ refl (λ p.
    passes blanked_reached _ _ _ _ refl (λ _.
    tested refusals.SizeMismatch _ _ _ _ refl
    (tested refusals.Cycle _ _ _ _ (ap (λ es. closes es s.at d.at) (edges_blanked w))
    (tested (refusals.Full Relations) _ _ _ _ refl
    (ends (told (replies.Related (relno w.next_relation))) (told (replies.Related (relno w.next_relation))) (with_new_relation w s.at d.at p.at) (with_new_relation (blanked w) s.at d.at p.at) refl refl)))))))

pub set_quiesced_blanked : (w : Up) (destination : List ℕ) (flag : Bool) → set_quiesced (blanked w) destination flag ≡ blanked_answer (set_quiesced w destination flag)
set_quiesced_blanked w destination flag =
    finds blanked_reached zeroed_target _ _ _ _ (target_named_blanked w destination) (λ t.
    ends (told replies.Done) (told replies.Done) (with_relation w t.relation.at (quiesced_as flag t.relation.item)) (with_relation (blanked w) t.relation.at (quiesced_as flag t.relation.item)) refl refl)

pub break_off_blanked : (w : Up) (destination : List ℕ) → break_off (blanked w) destination ≡ blanked_answer (break_off w destination)
break_off_blanked w destination =
    finds blanked_reached zeroed_target _ _ _ _ (target_named_blanked w destination) (λ t.
    passes blanked_reached _ _ _ _ (ap allowed (may_break_zeroed refusals.Writable refusals.Uninitialized refusals.Transferring t.destination.item t.relation.item)) (λ _.
    done_with w t.destination.at (writable t.destination.item) _ (told replies.Done) refl))

pub delete_blanked : (w : Up) (destination : List ℕ) → delete (blanked w) destination ≡ blanked_answer (delete w destination)
delete_blanked w destination =
    finds blanked_reached zeroed_target _ _ _ _ (target_named_blanked w destination) (λ t.
    passes blanked_reached _ _ _ _ refl (λ _.
    ends (told replies.Done) (told replies.Done) (with_halves w t.relation.at (without_destination t.relation.item)) (with_halves (blanked w) t.relation.at (without_destination t.relation.item)) refl refl))

pub release_blanked : (w : Up) (source destination : List ℕ) → release (blanked w) source destination ≡ blanked_answer (release w source destination)
release_blanked w source destination =
    finds blanked_reached (on zeroed_volume) _ _ _ _ (volume_named_blanked w source) (λ s.
    finds blanked_reached (on zeroed_volume) _ _ _ _ (volume_named_blanked w destination) (λ d.
    passes blanked_reached _ _ _ _ refl (λ r.
    passes blanked_reached _ _ _ _ refl (λ _.
    ends (told replies.Done) (told replies.Done) (with_halves w r.at (without_source r.item)) (with_halves (blanked w) r.at (without_source r.item)) refl refl))))
