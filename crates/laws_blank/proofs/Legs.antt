-- What a transfer sends, and what its list has room for, where blocks are read as zeros.
use Rattle.std.proofs.Common.{◌≡◌, ℕ, ◌++◌, ◌==◌, not, cond, Bool, true, false, List, [], ◌∷◌, Option, None, Some, refl, ap, ◌∙◌}
use Rattle.std.specs.List.{filter, find}
use mathlib.Core.Path.{fun_ext}
use Rattle.sm_base.specs.declared.numbers.Ident.{Ident}
use Rattle.sm_base.specs.declared.numbers.Kind.{Kind}
use Rattle.sm_base.specs.declared.numbers.Kind.TheVariants.{Rw, Dp}
use Rattle.sm_defs.specs.Words.{same_ident, has_ident, or_else}
use Rattle.sm_defs.specs.Volume.{Volume, Snapshot, idents, has, past}
use Rattle.sm_defs.specs.Relationship.{Policy, Relationship, is_mirror, sends_all}
use Rattle.sm_defs.specs.Classes.{has_class}
use Rattle.sm_defs.specs.Retention.{keep_reached}
use Rattle.sm_defs.specs.Legs.{Legs, after_base, candidates, only_newest, made_ident, mirror_legs, vault_legs, legs}
use Rattle.sm_defs.specs.World.{Up, volume_at, policy_at}
use Rattle.sm_model.specs.OfTransfers.{next_legs, of_idents, room_for, refused_rule, as_reverted, needed_otherwise, Holding, holding, first_held, held_after}
use Rattle.sm_shape.specs.Blanked.{zeroed_snapshot, blanked}
use Rattle.laws_blank.proofs.Mapped.{one_or_other, filter_mapped, after_mapped, up_to_mapped}
use Rattle.laws_blank.proofs.Zeroed.{zeroed_list, zeroed_has, zeroed_idents, zeroed_labels, at_blanked, needed_at_source_blanked, needed_for_blanked}

-- ---- legs

after_base_zeroed : (base : Option Ident) (ss : List Snapshot) → after_base base (zeroed_list ss) ≡ zeroed_list (after_base base ss)
after_base_zeroed None ss = refl
after_base_zeroed (Some i) ss = after_mapped zeroed_snapshot (λ s. same_ident s.ident i) ss

candidates_zeroed : (base : Option Ident) (source destination : List Snapshot) → candidates base (zeroed_list source) (zeroed_list destination) ≡ zeroed_list (candidates base source destination)
candidates_zeroed base source destination =
    (λ t. filter (λ s. not (fun_ext (zeroed_has destination) t s.ident)) (after_base_zeroed base source t))
    ∙ filter_mapped zeroed_snapshot (λ s. not (has destination s.ident)) (after_base base source)

newest_zeroed : (ss : List Snapshot) → only_newest (zeroed_list ss) ≡ zeroed_list (only_newest ss)
newest_zeroed [] = refl
newest_zeroed (s ∷ []) = refl
newest_zeroed (s ∷ newer ∷ others) = newest_zeroed (newer ∷ others)

mirror_legs_zeroed : (all : Bool) (kind : Kind) (made : Ident) (ss : List Snapshot) → mirror_legs all kind made (zeroed_list ss) ≡ mirror_legs all kind made ss
mirror_legs_zeroed true Rw made ss = ap (λ (is : List Ident). let ls : Legs = record { idents = is ++ made ∷ []; reserved = true } in ls) (zeroed_idents ss)
mirror_legs_zeroed false Rw made ss = refl
mirror_legs_zeroed true Dp made ss = ap (λ (is : List Ident). let ls : Legs = record { idents = is; reserved = false } in ls) (zeroed_idents ss)
mirror_legs_zeroed false Dp made ss =
    ap (λ (is : List Ident). let ls : Legs = record { idents = is; reserved = false } in ls) (ap idents (newest_zeroed ss) ∙ zeroed_idents (only_newest ss))

vault_legs_zeroed : (p : Policy) (ss : List Snapshot) → vault_legs p (zeroed_list ss) ≡ vault_legs p ss
vault_legs_zeroed p ss =
    ap (λ (is : List Ident). let ls : Legs = record { idents = is; reserved = false } in ls)
    (ap idents (filter_mapped zeroed_snapshot (has_class p) ss) ∙ zeroed_idents (filter (has_class p) ss))

legs_zeroed : (transfer : ℕ) (p : Policy) (base : Option Ident) (number : ℕ) (kind : Kind) (source there : List Snapshot) →
    legs transfer p base (record { number = number; kind = kind; snapshots = zeroed_list source }) (zeroed_list there) ≡ legs transfer p base (record { number = number; kind = kind; snapshots = source }) there
legs_zeroed transfer p base number kind source there =
    let sent : List Snapshot = candidates base source there in
    ap (λ (ss : List Snapshot). cond (is_mirror p.kind) (mirror_legs (sends_all p) kind (made_ident number transfer) ss) (vault_legs p ss)) (candidates_zeroed base source there)
    ∙ (λ t. cond (is_mirror p.kind) (mirror_legs_zeroed (sends_all p) kind (made_ident number transfer) sent t) (vault_legs_zeroed p sent t))

pub next_legs_blanked : (w : Up) (r : Relationship) (base : Option Ident) (there : List Snapshot) → next_legs (blanked w) r base (zeroed_list there) ≡ next_legs w r base there
next_legs_blanked w r base there =
    let source : Volume = volume_at w r.source in
    ap (λ (v : Volume). legs w.next_transfer (policy_at w r.policy) base (record { number = r.source; kind = v.kind; snapshots = v.snapshots }) (zeroed_list there)) (at_blanked w r.source)
    ∙ legs_zeroed w.next_transfer (policy_at w r.policy) base r.source source.kind source.snapshots there

-- ---- room

pub room_blanked : (w : Up) (p : Policy) (source : ℕ) (there : List Snapshot) (is : List Ident) →
    room_for p (zeroed_list there) (of_idents is (volume_at (blanked w) source).snapshots) ≡ room_for p there (of_idents is (volume_at w source).snapshots)
room_blanked w p source there is =
    let ss : List Snapshot = (volume_at w source).snapshots in
    ap (λ (v : Volume). room_for p (zeroed_list there) (of_idents is v.snapshots)) (at_blanked w source)
    ∙ (ap (room_for p (zeroed_list there)) (filter_mapped zeroed_snapshot (λ s. has_ident is s.ident) ss)
    ∙ (λ t. refused_rule (cond (is_mirror p.kind) None (keep_reached p.rules (zeroed_labels there t) (zeroed_labels (of_idents is ss) t)))))

-- ---- a resync

pub reverted_zeroed : (p : Policy) (i : Ident) (ss : List Snapshot) → as_reverted p i (zeroed_list ss) ≡ zeroed_list (as_reverted p i ss)
reverted_zeroed p i ss =
    ap (λ (us : List Snapshot). cond (is_mirror p.kind) us (zeroed_list ss)) (up_to_mapped zeroed_snapshot (λ s. same_ident s.ident i) ss)
    ∙ one_or_other zeroed_snapshot (is_mirror p.kind) _ ss

pub first_held_zeroed : (who : Ident → Option Relationship) (ss : List Snapshot) → first_held who (zeroed_list ss) ≡ first_held who ss
first_held_zeroed who [] = refl
first_held_zeroed who (s ∷ ss) = ap (or_else (holding s.ident (who s.ident))) (first_held_zeroed who ss)

needed_otherwise_blanked : (w : Up) → needed_otherwise (blanked w) ≡ needed_otherwise w
needed_otherwise_blanked w = λ t v i r q. cond (q.number == r.number) (needed_at_source_blanked w t v i q) (needed_for_blanked w t v i q)

pub held_after_blanked : (w : Up) (r : Relationship) (c : Ident) (there : List Snapshot) → held_after (blanked w) r c (zeroed_list there) ≡ held_after w r c there
held_after_blanked w r c there =
    let who : Ident → Option Relationship = λ i. find (needed_otherwise w r.destination i r) w.relations in
    (λ t. cond (is_mirror (policy_at w r.policy).kind) (first_held (λ i. find (needed_otherwise_blanked w t r.destination i r) w.relations) (past c (zeroed_list there))) None)
    ∙ ap (λ (h : Option Holding). cond (is_mirror (policy_at w r.policy).kind) h None)
    (ap (first_held who) (after_mapped zeroed_snapshot (λ s. same_ident s.ident c) there) ∙ first_held_zeroed who (past c there))
