-- The steps are those of the definitions.
use Rattle.std.proofs.Common.{◌≡◌, ◌||◌, ℕ, Bool, true, false, not, cond, List, [], ◌∷◌, Option, Some, None, Ok, refl, sym, ◌∙◌, ap, ap₂}
use Rattle.std.specs.List.{filter, list_any}
use Rattle.sm_base.specs.declared.numbers.Ident.{Ident}
use Rattle.sm_base.specs.declared.refusal.Reason.{Reason}
use Rattle.sm_defs.specs.Operations.{with_snapshot}
use Rattle.sm_defs.specs.Relationship.{Relationship}
use Rattle.sm_defs.specs.Volume.{Volume, Snapshot, without}
use Rattle.sm_defs.specs.World.{Up, with_relation, with_volume}
use Rattle.sm_disk.specs.Disk.{DiskState}
use Rattle.sm_volume.specs.Mounted.{Mounted}
use Rattle.sm_volume.specs.Shown.{placed}
use Rattle.sm_model.specs.declared.reply.Reply.TheVariants as replies
use Rattle.sm_model.specs.Answers.{volno}
use Rattle.sm_model.specs.Due.{unless, dropped, goes, is_tidied, prune_reason, prepare_reason, reserved_leg}
use Rattle.sm_model.specs.Running.{Running}
use Rattle.sm_model.specs.Steps.{Effect, interrupts, number_of, prepared_snapshot, with_destination, with_progress}
use Rattle.sm_publish.specs.Committing.{committed}
use Rattle.sm_publish.specs.Dropping.{Drops}
use Rattle.sm_publish.specs.Settling.{settled_by}
use Rattle.sm_publish.specs.Defined.{TidiesAsDefined, PrunesAsDefined, PruneStopsAsDefined, PreparesAsDefined, PrepareStopsAsDefined, SettlesAsDefined, FinishesAsDefined}

goes_on : (w : Up) (k : ℕ) (x : Running) (reason : Option Reason) (e : Effect) → reason ≡ None → unless w k x reason e ≡ e
unfolding unless
goes_on w k x reason e is = ap (λ (o : Option Reason). unless w k x o e) is

stops : (w : Up) (k : ℕ) (x : Running) (reason : Option Reason) (r : Reason) (e : Effect) → reason ≡ Some r → unless w k x reason e ≡ interrupts w k x r
unfolding unless
stops w k x reason r e is = ap (λ (o : Option Reason). unless w k x o e) is

-- where nothing goes, all is left
all_left : (test : Snapshot → Bool) (ss : List Snapshot) → list_any test ss ≡ false → filter (λ s. not (test s)) ss ≡ ss
all_left test [] e = refl
all_left test (s ∷ ss) e = go (test s) refl (all_left test ss) e
  where
    go : (b : Bool) → test s ≡ b → (list_any test ss ≡ false → filter (λ s. not (test s)) ss ≡ ss) → (b || list_any test ss) ≡ false → cond (not (test s)) (s ∷ filter (λ s. not (test s)) ss) (filter (λ s. not (test s)) ss) ≡ s ∷ ss
    go true f later e = absurd (cc)
    go false f later e = ap (λ (c : Bool). cond (not c) (s ∷ filter (λ s. not (test s)) ss) (filter (λ s. not (test s)) ss)) f ∙ ap (λ (xs : List Snapshot). s ∷ xs) (later e)

-- the volume behind a step that is done
volume_by : {D : Type 0} (commits : Bool) (next : Volume) (old new : Mounted D) → new ≡ committed commits old next new.disk → (commits ≡ false → next ≡ old.volume) → new.volume ≡ next
volume_by true next old new is same = ap (λ (m : Mounted _). m.volume) is
volume_by false next old new is same = ap (λ (m : Mounted _). m.volume) is ∙ sym (same refl)

module _ {D : Type 0} (state : D → DiskState) where
  volume_dropped : (test : Snapshot → Bool) (reason : Option Reason) (n : ℕ) (old new : Mounted D) → Drops state test reason (Ok n) old new → new.volume ≡ without test old.volume
  volume_dropped test reason n old new is =
      volume_by (list_any test old.volume.snapshots) (without test old.volume) old new is.done.2 (λ none.
      ap (λ (ss : List Snapshot). let v : Volume = record old.volume { snapshots = ss } in v) (all_left test old.volume.snapshots none))

  pub tidies : TidiesAsDefined state
  tidies = λ w path disk n old new here is.
      let test = is_tidied w old.number.0 in
      ap (λ (v : Volume). let e : Effect = record { reply = replies.Tidied (volno old.number.0) (dropped v.snapshots (without test v).snapshots); world = with_volume w old.number.0 (without test v) } in e) here
      ∙ ap₂ (λ (m : ℕ) (v : Volume). let e : Effect = record { reply = replies.Tidied (volno old.number.0) m; world = with_volume w old.number.0 (placed path disk v) } in e) (sym is.done.1) (sym (volume_dropped test None n old new is))

  pub prunes : PrunesAsDefined state
  prunes = λ w k x path disk n old new here is.
      let test = goes w x in
      let pruned_by : ℕ → Volume → Effect = λ m v. record { reply = replies.Pruned (number_of x) m; world = with_progress (with_destination w x v) k x (let t = x.transfer in record t { pruned = true }) } in
      goes_on w k x (prune_reason w x) (pruned_by (dropped x.destination.snapshots (without test x.destination).snapshots) (without test x.destination)) is.done.0
      ∙ (ap (λ (v : Volume). pruned_by (dropped v.snapshots (without test v).snapshots) (without test v)) here
      ∙ ap₂ (λ (m : ℕ) (v : Volume). pruned_by m (placed path disk v)) (sym is.done.1) (sym (volume_dropped test (prune_reason w x) n old new is)))

  pub prune_stops : PruneStopsAsDefined state
  prune_stops = λ w k x reason old new is. stops w k x (prune_reason w x) reason _ (is.stopped reason refl).0

  pub prepares : PreparesAsDefined state
  prepares = λ w k x path disk i old new here is.
      let prepared_by : Volume → Effect = λ v. record { reply = replies.Prepared (number_of x) i; world = with_volume w x.relation.source v } in
      goes_on w k x (prepare_reason x) (prepared_by (with_snapshot x.source (prepared_snapshot w x i))) is.done.0
      ∙ (ap (λ (v : Volume). prepared_by (with_snapshot v (prepared_snapshot w x i))) here
      ∙ ap (λ (v : Volume). prepared_by (placed path disk v))
      (ap (λ (j : Ident). with_snapshot old.volume (prepared_snapshot w x j)) is.done.1 ∙ sym (volume_by true (with_snapshot old.volume (prepared_snapshot w x (reserved_leg x))) old new is.done.2 (λ e. absurd (cc)))))

  pub prepare_stops : PrepareStopsAsDefined state
  prepare_stops = λ w k x i reason old new is. stops w k x (prepare_reason x) reason _ (is.stopped reason refl).0

pub settles : SettlesAsDefined
settles = λ w k x i later old new of stands legs is.
    ap (λ (r : Relationship). let e : Effect = record { reply = replies.Settled (number_of x) i false; world = with_relation w k r } in e) (sym (is x of stands ∙ ap (settled_by x) legs))

pub finishes : FinishesAsDefined
finishes = λ w k x base old new of stands legs is.
    ap (λ (r : Relationship). let e : Effect = record { reply = replies.Settled (number_of x) base true; world = with_relation w k r } in e) (sym (is x of stands ∙ ap (settled_by x) legs))
