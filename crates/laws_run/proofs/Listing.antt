-- Each event is refused only as listed.
use Rattle.std.proofs.Common.{◌≡◌, inl, inr, ℕ, Bool, true, false, List, [], ◌∷◌, Option, Some, None, Err, refl}
use Rattle.std.proofs.lemmas.Bool.{ltb-true}
use Rattle.std.proofs.lemmas.Option.{same_Some}
use Rattle.sm_base.specs.declared.numbers.DiskNo.{DiskNo}
use Rattle.sm_base.specs.declared.numbers.Kind.{Kind}
use Rattle.sm_base.specs.declared.numbers.PolicyKind.{PolicyKind}
use Rattle.sm_base.specs.declared.numbers.TransferKind.{TransferKind}
use Rattle.sm_base.specs.declared.refusal.Refusal.{Refusal}
use Rattle.sm_base.specs.declared.refusal.Refusal.TheVariants as refusals
use Rattle.sm_base.specs.declared.refusal.What.TheVariants.{Transfers}
use Rattle.sm_defs.specs.Words.{Among, Found}
use Rattle.sm_defs.specs.Image.{Image}
use Rattle.sm_defs.specs.Volume.{Volume}
use Rattle.sm_defs.specs.Relationship.{Rule, Relationship, Transfer}
use Rattle.sm_defs.specs.Legs.{Legs}
use Rattle.sm_defs.specs.World.{Up}
use Rattle.sm_model.specs.declared.event.Event.{Event}
use Rattle.sm_model.specs.declared.event.Event.TheVariants as events
use Rattle.sm_model.specs.Answers.{Answer, Target, target_named, relno, whether◌then◌otherwise◌}
use Rattle.sm_model.specs.Answer.{answer}
use Rattle.sm_model.specs.OfVolumes as volumes
use Rattle.sm_model.specs.OfPolicies as policies
use Rattle.sm_model.specs.OfRelations as relations
use Rattle.sm_model.specs.OfTransfers as transfers
use Rattle.sm_model.specs.OfReport as reports
use Rattle.laws_run.specs.Listed.{LacksName, IsHeld, IsHeldDownstream, IsDestination, IsKeepReached, IsListed}
use Rattle.laws_run.proofs.Walk.{OfErr, past, with_found, with_ok, granted, from_err, passing, passed}
use Rattle.sm_defs.specs.Volume as lists

-- ---- parts of answers

either : (Q : Refusal → Type 0) (b : Bool) (x y : Answer) → OfErr Q x → OfErr Q y → OfErr Q (whether b then x otherwise y)
unfolding whether◌then◌otherwise◌
either Q true x y h k = h
either Q false x y h k = k

targeted : (w : Up) (path : List ℕ) → OfErr {A = Target} (λ r. Among (refusals.NoVolume path ∷ refusals.NoRelation path ∷ []) r) (target_named w path)
unfolding target_named
targeted w path = with_found _ _ _ _ (inl refl) (λ q _. with_found _ _ _ _ (inr (inl refl)) (λ r _. granted _ _))

untargeted : (w : Up) (path : List ℕ) (r : Refusal) → target_named w path ≡ Err r → Among (refusals.NoVolume path ∷ refusals.NoRelation path ∷ []) r
untargeted w path r e =
    from_err {A = Target} (λ r. Among (refusals.NoVolume path ∷ refusals.NoRelation path ∷ []) r) (target_named w path) r (targeted w path) e

of_two : {a b r : Refusal} {X : Type 0} → Among (a ∷ b ∷ []) r → (r ≡ a → X) → (r ≡ b → X) → X
of_two (inl e) f g = f e
of_two (inr (inl e)) f g = g e
of_two (inr (inr m)) f g = absurd m

of_held : (o : Option Relationship) (r : Refusal) → volumes.held o ≡ Err r → IsHeld r
unfolding volumes.held
of_held None r e = absurd (cc)
of_held (Some q) r e = (relno q.number, cc)

of_already : (o : Option (Found Relationship)) (r : Refusal) → relations.already o ≡ Err r → IsDestination r
unfolding relations.already
of_already None r e = absurd (cc)
of_already (Some q) r e = (relno q.item.number, cc)

of_downstream : (o : Option transfers.Holding) (r : Refusal) → transfers.held_downstream o ≡ Err r → IsHeldDownstream r
unfolding transfers.held_downstream
of_downstream None r e = absurd (cc)
of_downstream (Some h) r e = (h.ident, relno h.relation.number, cc)

of_full_rule : (o : Option Rule) (r : Refusal) → transfers.refused_rule o ≡ Err r → IsKeepReached r
unfolding transfers.refused_rule
of_full_rule None r e = absurd (cc)
of_full_rule (Some rule) r e = (rule.label, cc)

lacks : (name : List ℕ) (v : Volume) → OfErr {A = Image} (LacksName (Some name)) (volumes.image_named v (Some name))
unfolding volumes.image_named
lacks name v = with_found _ _ _ _ (name, refl, refl) (λ s _. granted _ _)

unnamed : (v : Volume) (name : Option (List ℕ)) → OfErr {A = Image} (LacksName name) (volumes.image_named v name)
unfolding volumes.image_named
unnamed v None = granted _ _
unnamed v (Some name) = lacks name v

-- ---- answers on volumes

Meets : Event → Answer → Type 0
Meets e a = OfErr (IsListed e) a

of_create : (w : Up) (path : List ℕ) (disk : DiskNo) (kind : Kind) (logical physical : ℕ) → Meets (events.CreateVolume path disk kind logical physical) (volumes.create_volume w path disk kind logical physical)
unfolding Meets IsListed
of_create w path disk kind logical physical =
    past _ _ _ _ (λ _. inl (inl refl)) (λ _.
    past _ _ _ _ (λ _. inl (inr (inl refl))) (λ _.
    with_found _ _ _ _ (inl (inr (inl refl))) (λ len _.
    past _ _ _ _ (λ _. inl (inr (inr (inl refl)))) (λ _.
    past _ _ _ _ (λ _. inl (inr (inr (inr (inl refl))))) (λ _.
    past _ _ _ _ (λ e. inr (len, ltb-true len (lists.length_needed physical) e, refl)) (λ _.
    granted _ _))))))

of_write : (w : Up) (path : List ℕ) (block fill : ℕ) → Meets (events.Write path block fill) (volumes.write w path block fill)
unfolding Meets IsListed
of_write w path block fill =
    with_found _ _ _ _ (inl refl) (λ v _.
    past _ _ _ _ (λ _. inr (inl refl)) (λ _.
    past _ _ _ _ (λ _. inr (inr (inl refl))) (λ _.
    past _ _ _ _ (λ _. inr (inr (inr (inl refl)))) (λ _.
    granted _ _))))

of_snap : (w : Up) (path name : List ℕ) (label : Option (List ℕ)) → Meets (events.Snap path name label) (volumes.snap w path name label)
unfolding Meets IsListed
of_snap w path name label =
    with_found _ _ _ _ (inl refl) (λ v _.
    past _ _ _ _ (λ _. inr (inl refl)) (λ _.
    past _ _ _ _ (λ _. inr (inr (inl refl))) (λ _.
    past _ _ _ _ (λ _. inr (inr (inr (inl refl)))) (λ _.
    granted _ _))))

of_unsnap : (w : Up) (path name : List ℕ) → Meets (events.Unsnap path name) (volumes.unsnap w path name)
unfolding Meets IsListed
of_unsnap w path name =
    with_found _ _ _ _ (inl (inl refl)) (λ v _.
    with_found _ _ _ _ (inl (inr (inl refl))) (λ s _.
    past _ _ _ _ (λ _. inl (inr (inr (inl refl)))) (λ _.
    with_ok _ _ _ (λ r e. inr (of_held _ r e)) (λ _ _.
    granted _ _))))

of_cp : (w : Up) (path : List ℕ) → Meets (events.Cp path) (volumes.cp w path)
unfolding Meets IsListed
of_cp w path = with_found _ _ _ _ (inl refl) (λ v _. past _ _ _ _ (λ _. inr (inl refl)) (λ _. granted _ _))

of_read : (w : Up) (path : List ℕ) (name : Option (List ℕ)) (place : ℕ) → Meets (events.Read path name place) (volumes.read w path name place)
unfolding Meets IsListed
of_read w path name place =
    with_found _ _ _ _ (inl (inl refl)) (λ v _.
    with_ok _ _ _ (λ r e. inr (from_err (LacksName name) (volumes.image_named v.item name) r (unnamed v.item name) e)) (λ image _.
    past _ _ _ _ (λ _. inl (inr (inl refl))) (λ _.
    granted _ _)))

of_listing : (w : Up) (path : List ℕ) → Meets (events.ShowSnaps path) (reports.show_snapshots w path)
unfolding Meets IsListed
of_listing w path = with_found _ _ _ _ refl (λ v _. granted _ _)

-- ---- answers on policies and the clock

of_policy : (w : Up) (name : List ℕ) (kind : PolicyKind) → Meets (events.CreatePolicy name kind) (policies.create_policy w name kind)
unfolding Meets IsListed
of_policy w name kind = past _ _ _ _ (λ _. inl refl) (λ _. past _ _ _ _ (λ _. inr (inl refl)) (λ _. granted _ _))

of_rule : (w : Up) (name label : List ℕ) (keep : ℕ) (preserve : Bool) → Meets (events.AddRule name label keep preserve) (policies.add_rule w name label keep preserve)
unfolding Meets IsListed
of_rule w name label keep preserve =
    with_found _ _ _ _ (inl refl) (λ p _.
    past _ _ _ _ (λ _. inr (inl refl)) (λ _.
    past _ _ _ _ (λ _. inr (inr (inl refl))) (λ _.
    past _ _ _ _ (λ _. inr (inr (inr (inl refl)))) (λ _.
    past _ _ _ _ (λ _. inr (inr (inr (inr (inl refl))))) (λ _.
    granted _ _)))))

of_clock : (w : Up) (time : ℕ) → Meets (events.Clock time) (policies.set_clock w time)
unfolding Meets IsListed
of_clock w time = past _ _ _ _ (λ e. (w.clock, ltb-true time w.clock e, refl)) (λ _. granted _ _)

-- ---- answers on relationships

of_relate : (w : Up) (source destination policy : List ℕ) → Meets (events.Relate source destination policy) (relations.relate w source destination policy)
unfolding Meets IsListed
of_relate w source destination policy =
    with_found _ _ _ _ (inl (inl refl)) (λ s _.
    with_found _ _ _ _ (inl (inr (inl refl))) (λ d _.
    with_found _ _ _ _ (inl (inr (inr (inl refl)))) (λ p _.
    with_ok _ _ _ (λ r e. inr (of_already _ r e)) (λ _ _.
    past _ _ _ _ (λ _. inl (inr (inr (inr (inl refl))))) (λ _.
    past _ _ _ _ (λ _. inl (inr (inr (inr (inr (inl refl)))))) (λ _.
    past _ _ _ _ (λ _. inl (inr (inr (inr (inr (inr (inl refl))))))) (λ _.
    granted _ _)))))))

of_quiesce : (w : Up) (destination : List ℕ) → Meets (events.Quiesce destination) (relations.set_quiesced w destination true)
unfolding Meets IsListed
of_quiesce w destination = with_ok _ _ _ (untargeted w destination) (λ t _. granted _ _)

of_resume : (w : Up) (destination : List ℕ) → Meets (events.Resume destination) (relations.set_quiesced w destination false)
unfolding Meets IsListed
of_resume w destination = with_ok _ _ _ (untargeted w destination) (λ t _. granted _ _)

of_break : (w : Up) (destination : List ℕ) → Meets (events.Break destination) (relations.break_off w destination)
unfolding Meets IsListed
of_break w destination =
    with_ok _ _ _ (λ r e. of_two (untargeted w destination r e) (λ h. inl h) (λ h. inr (inl h))) (λ t _.
    passing _ _ _ _ _ (λ _. inr (inr (inl refl))) (λ _.
    passing _ _ _ _ _ (λ _. inr (inr (inr (inl refl)))) (λ _.
    passed _ _ _ _ (λ _. inr (inr (inr (inr (inl refl))))) (λ _.
    granted _ _))))

of_delete : (w : Up) (destination : List ℕ) → Meets (events.Delete destination) (relations.delete w destination)
unfolding Meets IsListed
of_delete w destination =
    with_ok _ _ _ (λ r e. of_two (untargeted w destination r e) (λ h. inl h) (λ h. inr (inl h))) (λ t _. passed _ _ _ _ (λ _. inr (inr (inl refl))) (λ _. granted _ _))

of_release : (w : Up) (source destination : List ℕ) → Meets (events.Release source destination) (relations.release w source destination)
unfolding Meets IsListed
of_release w source destination =
    with_found _ _ _ _ (inl refl) (λ s _.
    with_found _ _ _ _ (inr (inl refl)) (λ d _.
    with_found _ _ _ _ (inr (inr (inl refl))) (λ r _.
    passing _ _ _ _ _ (λ _. inr (inr (inr (inl refl)))) (λ _.
    passed _ _ _ _ (λ _. inr (inr (inr (inr (inl refl))))) (λ _.
    granted _ _)))))

-- ---- answers on transfers

module _ (Q : Refusal → Type 0) (full : Q (refusals.Full Transfers)) (kept : (r : Refusal) → IsKeepReached r → Q r) where
  of_start : (w : Up) (at : ℕ) (r : Relationship) (kind : TransferKind) (ls : Legs) → OfErr Q (transfers.start_of w at r kind ls)
  of_start w at r kind ls =
      with_ok _ _ _ (λ r e. kept r (of_full_rule _ r e)) (λ _ _.
      either _ _ _ _ (granted _ _) (past _ _ _ _ (λ _. full) (λ _. granted _ _)))

  of_resuming : (w : Up) (at : ℕ) (r : Relationship) (kind : TransferKind) (t : Option Transfer) → OfErr Q (transfers.resume_or_start w at r kind t)
  unfolding transfers.resume_or_start
  of_resuming w at r kind (Some t) = granted _ _
  of_resuming w at r kind None = of_start w at r kind (transfers.next_legs w r r.base _)

of_initialize : (w : Up) (destination : List ℕ) → Meets (events.Initialize destination) (transfers.initialize w destination)
unfolding Meets IsListed
of_initialize w destination =
    with_ok _ _ _ (λ r e. inl (of_two (untargeted w destination r e) (λ h. inl h) (λ h. inr (inl h)))) (λ t _.
    passing _ _ _ _ _ (λ _. inl (inr (inr (inl refl)))) (λ _.
    passing _ _ _ _ _ (λ _. inl (inr (inr (inr (inl refl))))) (λ _.
    passing _ _ _ _ _ (λ _. inl (inr (inr (inr (inr (inl refl)))))) (λ _.
    passed _ _ _ _ (λ _. inl (inr (inr (inr (inr (inr (inl refl))))))) (λ _.
    of_resuming _ (inl (inr (inr (inr (inr (inr (inr (inl refl)))))))) (λ r h. inr h) w _ _ _ t.relation.item.transfer)))))

of_update : (w : Up) (destination : List ℕ) → Meets (events.Update destination) (transfers.update w destination)
unfolding Meets IsListed
of_update w destination =
    with_ok _ _ _ (λ r e. inl (of_two (untargeted w destination r e) (λ h. inl h) (λ h. inr (inl h)))) (λ t _.
    passing _ _ _ _ _ (λ _. inl (inr (inr (inl refl)))) (λ _.
    passing _ _ _ _ _ (λ _. inl (inr (inr (inr (inl refl))))) (λ _.
    passing _ _ _ _ _ (λ _. inl (inr (inr (inr (inr (inl refl)))))) (λ _.
    passing _ _ _ _ _ (λ _. inl (inr (inr (inr (inr (inr (inl refl))))))) (λ _.
    passed _ _ _ _ (λ _. inl (inr (inr (inr (inr (inr (inr (inl refl)))))))) (λ _.
    of_resuming _ (inl (inr (inr (inr (inr (inr (inr (inr (inl refl))))))))) (λ r h. inr h) w _ _ _ t.relation.item.transfer))))))

of_abort : (w : Up) (destination : List ℕ) (hard : Bool) → Meets (events.Abort destination hard) (transfers.abort w destination hard)
unfolding Meets IsListed
of_abort w destination hard =
    with_ok _ _ _ (λ r e. of_two (untargeted w destination r e) (λ h. inl h) (λ h. inr (inl h))) (λ d _.
    with_found _ _ _ _ (inr (inr (inl refl))) (λ t _.
    passed _ _ _ _ (λ _. inr (inr (inl refl))) (λ _.
    either _ _ _ _ (granted _ _) (granted _ _))))

of_resync : (w : Up) (destination : List ℕ) → Meets (events.Resync destination) (transfers.resync w destination)
unfolding Meets IsListed
of_resync w destination =
    with_ok _ _ _ (λ r e. inl (of_two (untargeted w destination r e) (λ h. inl h) (λ h. inr (inl h)))) (λ d _.
    passing _ _ _ _ _ (λ _. inl (inr (inr (inl refl)))) (λ _.
    passing _ _ _ _ _ (λ _. inl (inr (inr (inr (inl refl))))) (λ _.
    passing _ _ _ _ _ (λ _. inl (inr (inr (inr (inr (inl refl)))))) (λ _.
    passed _ _ _ _ (λ _. inl (inr (inr (inr (inr (inr (inl refl))))))) (λ _.
    with_found _ _ _ _ (inl (inr (inr (inr (inr (inr (inr (inl refl)))))))) (λ c _.
    with_ok _ _ _ (λ r e. inr (inl (of_downstream _ r e))) (λ _ _.
    with_ok _ _ _ (λ r e. inr (inr (of_full_rule _ r e))) (λ _ _.
    past _ _ _ _ (λ _. inl (inr (inr (inr (inr (inr (inr (inr (inl refl))))))))) (λ _.
    granted _ _)))))))))

-- ---- all answers

MeetsOrNone : Event → Option Answer → Type 0
MeetsOrNone e (Some a) = Meets e a
MeetsOrNone e None = Unit {0}

of_all : (w : Up) (e : Event) → MeetsOrNone e (answer w e)
unfolding answer MeetsOrNone Meets
of_all w (events.CreateVolume path disk kind logical physical) = of_create w path disk kind logical physical
of_all w events.ShowVolumes = granted _ _
of_all w (events.Write path block fill) = of_write w path block fill
of_all w (events.Snap path name label) = of_snap w path name label
of_all w (events.Unsnap path name) = of_unsnap w path name
of_all w (events.ShowSnaps path) = of_listing w path
of_all w (events.CreatePolicy name kind) = of_policy w name kind
of_all w (events.AddRule name label keep preserve) = of_rule w name label keep preserve
of_all w events.ShowPolicies = granted _ _
of_all w (events.Relate source destination policy) = of_relate w source destination policy
of_all w (events.Initialize destination) = of_initialize w destination
of_all w (events.Update destination) = of_update w destination
of_all w (events.Quiesce destination) = of_quiesce w destination
of_all w (events.Resume destination) = of_resume w destination
of_all w (events.Abort destination hard) = of_abort w destination hard
of_all w (events.Break destination) = of_break w destination
of_all w (events.Resync destination) = of_resync w destination
of_all w (events.Delete destination) = of_delete w destination
of_all w (events.Release source destination) = of_release w source destination
of_all w events.ShowRelations = granted _ _
of_all w (events.Clock time) = of_clock w time
of_all w (events.Cp path) = of_cp w path
of_all w (events.Read path name block) = of_read w path name block
of_all w (events.Work shown) = tt
of_all w events.Restart = tt
of_all w events.Head = granted _ _
of_all w (events.VolumeLine volume) = granted _ _
of_all w (events.Digest volume place) = granted _ _
of_all w (events.RelationLine relation) = granted _ _

listed_from : (e : Event) (o : Option Answer) (r : Refusal) → o ≡ Some (Err r) → MeetsOrNone e o → IsListed e r
unfolding MeetsOrNone Meets
listed_from e (Some a) r i h = from_err (IsListed e) a r h (same_Some a (Err r) i)
listed_from e None r i h = absurd (cc)

-- what is refused is listed
pub refusal_listed : (w : Up) (e : Event) (r : Refusal) → answer w e ≡ Some (Err r) → IsListed e r
refusal_listed w e r i = listed_from e (answer w e) r i (of_all w e)
