-- Copies in one family still have the same numbers after each step, so after each deed.
use Rattle.std.proofs.Common.{◌≡◌, ◌≢◌, ◌⊎◌, ◌==◌, ◌+◌, ◌&&◌, ℕ, zero, suc, Bool, true, false, not, cond, List, [], ◌∷◌, Some, refl, sym, ◌∙◌, ap, subst, inl, inr, true≢false, eq-eqb, eqb-true, arith}
use Rattle.std.specs.Prelude.{slice_get}
use Rattle.std.proofs.lemmas.Bool.{cases_eq, ne_eqb, or_parts}
use Rattle.std.proofs.lemmas.Option.{same_Some, slice_get_within, get_or_from_slice_get}
use Rattle.sm_base.specs.declared.numbers.Ident.{Ident}
use Rattle.sm_model.specs.declared.event.Event.{Event}
use Rattle.sm_model.specs.declared.event.Event.TheVariants as events
use Rattle.sm_defs.specs.Words.{Among, KeysDiffer}
use Rattle.sm_defs.specs.Edges.{is_empty}
use Rattle.sm_defs.specs.Image.{tags}
use Rattle.sm_defs.specs.Missing.{vault_landing}
use Rattle.sm_defs.specs.Thinned.{Thinned}
use Rattle.sm_defs.specs.Volume.{Volume, Snapshot, ident_of, has, free_tags, no_volume, without}
use Rattle.sm_defs.specs.Relationship.{is_mirror}
use Rattle.sm_defs.specs.World.{Up, volume_at, with_volume}
use Rattle.sm_model.specs.World.{Deed}
use Rattle.sm_defs.specs.Operations.{with_snapshot}
use Rattle.sm_model.specs.Answer.{answer}
use Rattle.sm_model.specs.Running.{Running, IsRunning}
use Rattle.sm_model.specs.Steps.{Effect, with_destination, reverted, prepared_snapshot, bases, arrived, is_elsewhere, published}
use Rattle.sm_model.specs.Due.{StepKind, IsEffect, IsStep, by_transfer, by_tidy, reserved_leg, has_other_family, goes, is_tidied}
use Rattle.sm_model.specs.LegalRun.{IsDeed}
use Rattle.sm_model.specs.FamiliesAgree.{FamiliesAgree}
use Rattle.sm_model.specs.Sound.{SoundUp}
use Rattle.laws_cases.proofs.Answers.Walk.{going}
use Rattle.laws_cases.proofs.Answers.OfAnswer.{of_answer}
use Rattle.laws_cases.proofs.Answers.Deeds.{of_done}
use Rattle.laws_cases.proofs.Needed.Leaving.{same_member}
use Rattle.laws_cases.proofs.Steps.Parties.{relation_stands, source_stands, destination_stands, snapshot_is, lacked}
use Rattle.laws_cases.proofs.Steps.DueCases.{Ahead, IsDue, due_revert, due_finish, due_settle, due_prepare, due_prune, due_publish, due_checkpoint, due_ship, kind_is_due, no_reason, tidy_within}
use Rattle.laws_cases.proofs.Steps.Landing.{reverted_thins}
use Rattle.laws_copies.proofs.Brings.{reserved_fresh}
use Rattle.laws_copies.proofs.StepTags.{published_among}
use Rattle.laws_families.proofs.BlocksStay.{answered_agree, thinned_in_family, one_in_family, families_come, families_fresh}
use Rattle.sm_defs.specs.Made.{family_of_transfer}
use Rattle.sm_defs.proofs.Thinned.{filter_thins, thinned_among}
use Rattle.sm_defs.proofs.Members.{among_get_or, among_set, among_place}

-- ---- a volume that was changed

-- it agrees with each that stood in its family, and has no identity twice
agree_set : (w : Up) (i : ℕ) (u : Volume) → FamiliesAgree w → ((s t : Snapshot) → Among u.snapshots s → Among u.snapshots t → s.ident ≡ t.ident → s ≡ t) →
    ((v : Volume) (s t : Snapshot) → Among w.volumes v → Among u.snapshots s → Among v.snapshots t → v.family ≡ u.family → s.ident ≡ t.ident → tags s.image ≡ tags t.image) → FamiliesAgree (with_volume w i u)
agree_set w i u k one h x y s t (a, m) (b, n) f e = go (among_set w.volumes i u x a) (among_set w.volumes i u y b)
  where
    go : (x ≡ u) ⊎ Among w.volumes x → (y ≡ u) ⊎ Among w.volumes y → tags s.image ≡ tags t.image
    go (inl p) (inl q) = ap (λ z. tags z.image) (one s t (subst (λ z. Among z.snapshots s) p m) (subst (λ z. Among z.snapshots t) q n) e)
    go (inl p) (inr c) = h y s t c (subst (λ z. Among z.snapshots s) p m) n (sym f ∙ ap (λ z. z.family) p) e
    go (inr c) (inl q) = sym (h x t s c (subst (λ z. Among z.snapshots t) q n) m (f ∙ ap (λ z. z.family) q) (sym e))
    go (inr c) (inr d) = k x y s t (c, m) (d, n) f e

not_all : (a b c : Bool) → (not a && b && c) ≡ false → a ≡ false → b ≡ true → c ≡ false
not_all true b c e f g = absurd (true≢false f)
not_all false false c e f g = absurd (true≢false (sym g))
not_all false true c e f g = e

-- no volume but the own one has the family and the identity
elsewhere_none : (vs : List Volume) (place own family n : ℕ) (i : Ident) (v : Volume) → is_elsewhere vs place own family i ≡ false → slice_get vs n ≡ Some v → place + n ≢ own → v.family ≡ family → has v.snapshots i ≡ false
elsewhere_none [] place own family n i v e g d f = absurd (cc)
elsewhere_none (z ∷ vs) place own family zero i v e g d f =
    let q = or_parts (not (place == own) && (z.family == family) && has z.snapshots i) (is_elsewhere vs (suc place) own family i) e in
    let same : z ≡ v = same_Some z v g in
    subst (λ y. has y.snapshots i ≡ false) same (not_all (place == own) (z.family == family) (has z.snapshots i) q.0 (ne_eqb place own (λ h. d (omega arith))) (eq-eqb z.family family (ap (λ y. y.family) same ∙ f)))
elsewhere_none (z ∷ vs) place own family (suc n) i v e g d f =
    elsewhere_none vs (suc place) own family n i v (or_parts (not (place == own) && (z.family == family) && has z.snapshots i) (is_elsewhere vs (suc place) own family i) e).1 g (λ h. d (omega arith)) f

-- ---- steps

abbrev By : Effect → Type 0
By e = FamiliesAgree e.world

-- what a transfer's own family says, of a destination
record OwnFamily (w : Up) (x : Running) : Type 0 where
  apart : x.destination.family ≢ family_of_transfer x.transfer.number → (v : Volume) → Among w.volumes v → v.family ≢ family_of_transfer x.transfer.number
  alone : x.destination.family ≡ family_of_transfer x.transfer.number → (i : Ident) → Among x.transfer.legs i → has x.destination.snapshots i ≡ false →
      (n : ℕ) (v : Volume) → slice_get w.volumes n ≡ Some v → n ≢ x.relation.destination → v.family ≡ family_of_transfer x.transfer.number → has v.snapshots i ≡ false

module _ (w : Up) (k : ℕ) (x : Running) (s : SoundUp w) (r : IsRunning w k x) where
  there : Among w.volumes x.destination
  there = destination_stands w k x r s.crossed

  differ : KeysDiffer ident_of x.destination.snapshots
  differ = (s.tags_fit x.destination there).idents_differ

  at_x : volume_at w x.relation.destination ≡ x.destination
  at_x = sym (ap (λ y. y.destination) r.is)

  own : is_mirror x.policy.kind ≡ false → OwnFamily w x
  own m =
      let (a, b) = s.families_stand.transfers x.relation x.transfer (relation_stands w k x r) r.transfer (subst (λ y. is_mirror y.policy.kind ≡ false) r.is m) in record {
        apart = λ n. a (λ e. n (sym (ap (λ y. y.family) at_x) ∙ e));
        alone = λ e i j l n v g d f.
            let at : volume_at w n ≡ v = get_or_from_slice_get w.volumes n v no_volume g in
            subst (λ y. has y.snapshots i ≡ false) at ((b (ap (λ y. y.family) at_x ∙ e)).legs_alone i n j (subst (λ y. has y.snapshots i ≡ false) (sym at_x) l)
            (slice_get_within w.volumes n v g) d (ap (λ y. y.family) at ∙ f));
      }

  thinned : (u : Volume) → Thinned u.snapshots x.destination.snapshots → u.family ≡ x.destination.family → FamiliesAgree (with_destination w x u)
  thinned u t e = families_come w (with_destination w x u) (thinned_in_family w x.relation.destination x.destination u there e t) s.families_agree

  -- the family may become the transfer's own
  reverts : (base : Snapshot) → FamiliesAgree (with_destination w x (reverted x base))
  reverts base = agree_set w x.relation.destination (reverted x base) s.families_agree one (λ v a b m n o f e. s.families_agree x.destination v a b (there, thinned_among thins a n) (m, o) (sym (old (is_mirror x.policy.kind) refl v m f)) e)
    where
      thins : Thinned (reverted x base).snapshots x.destination.snapshots
      thins = reverted_thins x.policy base.ident x.destination.snapshots

      one : (a b : Snapshot) → Among (reverted x base).snapshots a → Among (reverted x base).snapshots b → a.ident ≡ b.ident → a ≡ b
      one a b m n e = same_member ident_of x.destination.snapshots a b differ (thinned_among thins a m) (thinned_among thins b n) e

      -- no other volume has the new family
      old : (c : Bool) → is_mirror x.policy.kind ≡ c → (v : Volume) → Among w.volumes v → v.family ≡ cond c x.destination.family (family_of_transfer x.transfer.number) → v.family ≡ x.destination.family
      old true h v m f = f
      old false h v m f = go (cases_eq x.destination.family (family_of_transfer x.transfer.number))
        where
          go : (x.destination.family ≡ family_of_transfer x.transfer.number) ⊎ (x.destination.family ≢ family_of_transfer x.transfer.number) → v.family ≡ x.destination.family
          go (inl e) = f ∙ sym e
          go (inr n) = absurd ((own h).apart n v m f)

  prepares : x.transfer.reserved ≡ true → has x.source.snapshots (reserved_leg x) ≡ false → FamiliesAgree (with_volume w x.relation.source (with_snapshot x.source (prepared_snapshot w x (reserved_leg x))))
  prepares a f = families_fresh w (with_volume w x.relation.source (with_snapshot x.source (prepared_snapshot w x (reserved_leg x)))) (prepared_snapshot w x (reserved_leg x)) (one_in_family w x.relation.source x.source (with_snapshot x.source (prepared_snapshot w x (reserved_leg x))) (prepared_snapshot w x (reserved_leg x))
      (source_stands w k x r s.crossed) refl refl) (reserved_fresh w k x s r a f) s.families_agree

  -- ---- Publish

  module _ (leg : Snapshot) (a : Ahead x leg) where
    is : Among x.source.snapshots leg × (leg.ident ≡ a.i)
    is = snapshot_is x.source.snapshots a.i leg a.source

    one : (p q : Snapshot) → Among (published w x leg).snapshots p → Among (published w x leg).snapshots q → p.ident ≡ q.ident → p ≡ q
    one p q m n e = go (published_among w x leg p m) (published_among w x leg q n)
      where
        new : (t : Snapshot) → Among x.destination.snapshots t → ¬ (t.ident ≡ leg.ident)
        new t m e = lacked x.destination.snapshots a.i t a.lacks m (e ∙ is.1)

        go : Among x.destination.snapshots p ⊎ (p ≡ arrived x leg) → Among x.destination.snapshots q ⊎ (q ≡ arrived x leg) → p ≡ q
        go (inl c) (inl d) = same_member ident_of x.destination.snapshots p q differ c d e
        go (inl c) (inr d) = absurd (new p c (e ∙ ap (λ y. y.ident) d))
        go (inr c) (inl d) = absurd (new q d (sym e ∙ ap (λ y. y.ident) c))
        go (inr c) (inr d) = c ∙ sym d

    -- of a mirror that goes on, the two volumes are of one family, or nothing stood at the destination
    one_family : is_mirror x.policy.kind ≡ true → has_other_family x ≡ false → (t : Snapshot) → Among x.destination.snapshots t → x.source.family ≡ x.destination.family
    one_family m o t n = by (is_mirror x.policy.kind) (is_empty x.destination.snapshots) (x.source.family == x.destination.family) refl m (filled_by x.destination.snapshots t n) o
      where
        filled_by : (ss : List Snapshot) (t : Snapshot) → Among ss t → is_empty ss ≡ false
        filled_by [] t n = absurd n
        filled_by (z ∷ zs) t n = refl

        by : (m e f : Bool) → (x.source.family == x.destination.family) ≡ f → m ≡ true → e ≡ false → (m && not e && not f) ≡ false → x.source.family ≡ x.destination.family
        by true false true g m e h = eqb-true x.source.family x.destination.family g
        by true false false g m e h = absurd (cc)
        by true true f g m e h = absurd (true≢false e)
        by false e f g m i h = absurd (true≢false (sym m))

    -- the leg lands with numbers of its own, where nobody else of the family has it
    vault_new : is_mirror x.policy.kind ≡ false → (c : Bool) → is_elsewhere w.volumes 0 x.relation.destination x.destination.family leg.ident ≡ c → (v : Volume) → Among w.volumes v → v.family ≡ cond c (family_of_transfer x.transfer.number) x.destination.family →
        has v.snapshots a.i ≡ false
    vault_new m c e v n f = at (cases_eq (among_place w.volumes v n).0 x.relation.destination)
      where
        place : ℕ
        place = (among_place w.volumes v n).0

        stands : slice_get w.volumes place ≡ Some v
        stands = (among_place w.volumes v n).1

        first : Among x.transfer.legs a.i
        first = subst (λ is. Among is a.i) (sym a.legs) (inl refl)

        by : (c : Bool) → is_elsewhere w.volumes 0 x.relation.destination x.destination.family leg.ident ≡ c → v.family ≡ cond c (family_of_transfer x.transfer.number) x.destination.family → place ≢ x.relation.destination → has v.snapshots a.i ≡ false
        by false e f d = subst (λ j. has v.snapshots j ≡ false) is.1 (elsewhere_none w.volumes 0 x.relation.destination x.destination.family place leg.ident v e stands (λ h. d (omega arith)) f)
        by true e f d = go (cases_eq x.destination.family (family_of_transfer x.transfer.number))
          where
            go : (x.destination.family ≡ family_of_transfer x.transfer.number) ⊎ (x.destination.family ≢ family_of_transfer x.transfer.number) → has v.snapshots a.i ≡ false
            go (inl h) = (own m).alone h a.i first a.lacks place v stands d f
            go (inr h) = absurd ((own m).apart h v n f)

        at : (place ≡ x.relation.destination) ⊎ (place ≢ x.relation.destination) → has v.snapshots a.i ≡ false
        at (inl h) = subst (λ y. has y.snapshots a.i ≡ false) (sym at_x ∙ (ap (volume_at w) (sym h) ∙ get_or_from_slice_get w.volumes place v no_volume stands)) a.lacks
        at (inr h) = by c e f h

    -- what stood there stays in a family of the same volumes
    vault_old : is_mirror x.policy.kind ≡ false → (c : Bool) → (v : Volume) → Among w.volumes v → v.family ≡ cond c (family_of_transfer x.transfer.number) x.destination.family → v.family ≡ x.destination.family
    vault_old m false v n f = f
    vault_old m true v n f = go (cases_eq x.destination.family (family_of_transfer x.transfer.number))
      where
        go : (x.destination.family ≡ family_of_transfer x.transfer.number) ⊎ (x.destination.family ≢ family_of_transfer x.transfer.number) → v.family ≡ x.destination.family
        go (inl e) = f ∙ sym e
        go (inr d) = absurd ((own m).apart d v n f)

    publishes : has_other_family x ≡ false → FamiliesAgree (with_destination w x (published w x leg))
    publishes o = agree_set w x.relation.destination (published w x leg) s.families_agree one (λ v p q m n l f e. by (is_mirror x.policy.kind) refl v p q m l f e (published_among w x leg p n))
      where
        by : (b : Bool) → is_mirror x.policy.kind ≡ b → (v : Volume) (p q : Snapshot) → Among w.volumes v → Among v.snapshots q →
            v.family ≡ cond b x.source.family (cond (is_elsewhere w.volumes 0 x.relation.destination x.destination.family leg.ident) (family_of_transfer x.transfer.number) x.destination.family) → p.ident ≡ q.ident →
            Among x.destination.snapshots p ⊎ (p ≡ arrived x leg) → tags p.image ≡ tags q.image
        by true h v p q m l f e (inl n) = s.families_agree x.destination v p q (there, n) (m, l) (sym (one_family h o p n) ∙ sym f) e
        by true h v p q m l f e (inr n) =
            ap (λ y. tags y.image) n ∙ (ap (λ b. tags (cond b leg.image (vault_landing leg.image (bases x) (free_tags x.destination)))) h ∙
            s.families_agree x.source v leg q (source_stands w k x r s.crossed, is.0) (m, l) (sym f) (sym (ap (λ y. y.ident) n) ∙ e))
        by false h v p q m l f e (inl n) = s.families_agree x.destination v p q (there, n) (m, l) (sym (vault_old h (is_elsewhere w.volumes 0 x.relation.destination x.destination.family leg.ident) v m f)) e
        by false h v p q m l f e (inr n) = absurd (lacked v.snapshots a.i q (vault_new h (is_elsewhere w.volumes 0 x.relation.destination x.destination.family leg.ident) refl v m f) l (sym e ∙ (ap (λ y. y.ident) n ∙ is.1)))

of_effect : (w : Up) (k : ℕ) (x : Running) (kind : StepKind) (e : Effect) → SoundUp w → IsRunning w k x → IsDue x kind → IsEffect w k x kind e → By e
of_effect w k x kind e s r (due_revert base a f) i = subst By (sym i) (going By w k x _ _ (λ _. s.families_agree) (λ _. reverts w k x s r base))
of_effect w k x kind e s r (due_finish base a f) i = subst By (sym i) s.families_agree
of_effect w k x kind e s r (due_settle j later a f) i = subst By (sym i) s.families_agree
of_effect w k x kind e s r (due_prepare a f) i = subst By (sym i) (going By w k x _ _ (λ _. s.families_agree) (λ _. prepares w k x s r a f))
of_effect w k x kind e s r (due_prune leg a b) i = subst By (sym i) (going By w k x _ _ (λ _. s.families_agree)
    (λ _. thinned w k x s r (without (goes w x) x.destination) (filter_thins (λ t. not (goes w x t)) x.destination.snapshots) refl))
of_effect w k x kind e s r (due_publish leg a b c) i = subst By (sym i) (going By w k x _ _ (λ _. s.families_agree) (λ o. publishes w k x s r leg a (no_reason _ _ _ (no_reason _ _ _ o).1).0))
of_effect w k x kind e s r (due_checkpoint leg a b c d) i = subst By (sym i) s.families_agree
of_effect w k x kind e s r (due_ship leg a b c d) (n, m, i) = subst By (sym i) (going By w k x _ _ (λ _. s.families_agree) (λ _. s.families_agree))

of_step : (w : Up) (e : Effect) → SoundUp w → IsStep w e → By e
of_step w e s (by_transfer k x kind r d i) = of_effect w k x kind e s r (kind_is_due x kind d) i
of_step w e s (by_tidy n d i) = subst By (sym i) (families_come w (with_volume w n (without (is_tidied w n) (volume_at w n))) (thinned_in_family w n (volume_at w n) (without (is_tidied w n) (volume_at w n)) (among_get_or w.volumes n no_volume (tidy_within w n d)) refl
    (filter_thins (λ t. not (is_tidied w n t)) (volume_at w n).snapshots)) s.families_agree)

pub deeds_keep_family_blocks : (e : Event) (d : Deed) → SoundUp d.old → IsDeed e d → FamiliesAgree d.new
unfolding IsDeed
deeds_keep_family_blocks (events.Work shown) d s i = of_step d.old _ s i
deeds_keep_family_blocks e d s i = let a = of_done e (answer d.old e) d (of_answer d.old e) i in answered_agree d.old d.new e a.tells s a.is
