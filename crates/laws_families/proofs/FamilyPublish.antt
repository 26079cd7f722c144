-- Vaults' own families where a vault goes back, and where a leg is published.
use Rattle.std.proofs.Common.{◌≡◌, ◌≢◌, ◌⊎◌, ℕ, Bool, true, false, cond, List, [], ◌∷◌, ◌++◌, Option, Some, None, refl, sym, ◌∙◌, ap, subst, inl, inr, true≢false}
use Rattle.std.proofs.lemmas.Bool.{cases_eq}
use Rattle.sm_base.specs.declared.numbers.Ident.{Ident}
use Rattle.sm_base.specs.declared.numbers.Kind.TheVariants.{Rw}
use Rattle.sm_defs.specs.Classes.{class_of}
use Rattle.sm_defs.specs.Needed.{needed}
use Rattle.sm_defs.specs.Retention.{retained}
use Rattle.sm_defs.specs.Words.{Among}
use Rattle.sm_defs.specs.Volume.{Volume, Snapshot, has}
use Rattle.sm_defs.specs.Relationship.{Relationship, Transfer, is_mirror}
use Rattle.sm_defs.specs.World.{Up, volume_at}
use Rattle.sm_model.specs.Running.{Running, IsRunning}
use Rattle.sm_model.specs.Steps.{with_destination, reverted, snapshot_of, is_elsewhere, arrived, published, list_published}
use Rattle.sm_model.specs.Due.{has_other_family}
use Rattle.sm_model.specs.TransfersStand.{later}
use Rattle.sm_model.specs.FamiliesStand.{IsBaseOrFirst, InOwnFamily, FamilyStands}
use Rattle.sm_model.specs.Sound.{SoundUp}
use Rattle.sm_model.proofs.Families.{base_or_first}
use Rattle.laws_transfer.proofs.Lists.{has_from_copy}
use Rattle.laws_cases.specs.Needs.{KeepsNeeded}
use Rattle.laws_cases.proofs.Steps.Parties.{source_stands, destination_stands, snapshot_is}
use Rattle.laws_cases.proofs.Steps.DueCases.{Ahead}
use Rattle.laws_copies.proofs.StepTags.{published_among, dp_there}
use Rattle.laws_families.proofs.FamilyParts.{Took, family_volume}
use Rattle.laws_families.proofs.FamilyAnswers.{AllStand}
use Rattle.laws_families.proofs.FamilyTakes.{family_taken, lacks_by, filled_has, based, other_number}
use Rattle.laws_cases.proofs.Steps.RunningTransfers.{here, crossed, transfer, at_x, source_x, policy_x, not_vault, mirrors_none, own_here, same_family}
use Rattle.sm_defs.specs.Made.{family_of_transfer}
use Rattle.sm_defs.proofs.Members.{among_right}

first_of_legs : (q : Relationship) (is : List Ident) (i : Ident) (later : List Ident) → is ≡ i ∷ later → IsBaseOrFirst q is i
first_of_legs q is i later e = subst (λ ks. IsBaseOrFirst q ks i) (sym e) (inr refl)

module _ (w : Up) (k : ℕ) (x : Running) (s : SoundUp w) (r : IsRunning w k x) where
  -- the destination takes its transfer's own family, or keeps the one that it had
  own_volume : (u : Volume) → KeepsNeeded w (with_destination w x u) → is_mirror x.policy.kind ≡ false → (u.family ≡ x.destination.family) ⊎ (u.family ≡ family_of_transfer x.transfer.number) →
      ((j : Ident) → Among x.transfer.legs j → has u.snapshots j ≡ false → has x.destination.snapshots j ≡ false) → (j : Ident) → IsBaseOrFirst x.relation x.transfer.legs j → has (volume_at w x.relation.source).snapshots j ≡ true →
      FamilyStands (with_destination w x u) x.relation x.transfer
  own_volume u n vault f legs j b h = go f (cases_eq x.destination.family (family_of_transfer x.transfer.number))
    where
      keeps : u.family ≡ x.destination.family → FamilyStands (with_destination w x u) x.relation x.transfer
      keeps e = family_volume w x.relation.destination x.destination u s (at_x w k x s r) (crossed w k x s r).destination n x.relation x.transfer (here w k x s r) r.transfer (λ _ _. record { family = e; legs = legs }) (λ _ d. absurd (d refl))

      go : (u.family ≡ x.destination.family) ⊎ (u.family ≡ family_of_transfer x.transfer.number) → (x.destination.family ≡ family_of_transfer x.transfer.number) ⊎ (x.destination.family ≢ family_of_transfer x.transfer.number) → FamilyStands (with_destination w x u) x.relation x.transfer
      go (inl e) c = keeps e
      go (inr e) (inl c) = keeps (e ∙ sym c)
      go (inr e) (inr c) = family_taken w x.relation.destination u s x.relation x.transfer (here w k x s r) r.transfer (policy_x w k x s r ∙ vault) refl e (λ g. c (ap (λ y. y.family) (sym (at_x w k x s r)) ∙ g)) j b h

  -- so do all vaults
  all_own : (u : Volume) → KeepsNeeded w (with_destination w x u) → is_mirror x.policy.kind ≡ false → (u.family ≡ x.destination.family) ⊎ (u.family ≡ family_of_transfer x.transfer.number) →
      ((j : Ident) → Among x.transfer.legs j → has u.snapshots j ≡ false → has x.destination.snapshots j ≡ false) → (j : Ident) → IsBaseOrFirst x.relation x.transfer.legs j → has (volume_at w x.relation.source).snapshots j ≡ true →
      ((q : Relationship) (t : Transfer) → Among w.relations q → q.transfer ≡ Some t → x.relation.destination ≢ q.destination → u.family ≡ x.destination.family → u.family ≡ family_of_transfer t.number → Took w x.relation.destination x.destination u q t) →
      AllStand (with_destination w x u)
  all_own u n vault f legs j b h others q t m e v = go (cases_eq x.relation.destination q.destination)
    where
      took : x.relation.destination ≢ q.destination → (u.family ≡ x.destination.family) ⊎ (u.family ≡ family_of_transfer x.transfer.number) → u.family ≡ family_of_transfer t.number → Took w x.relation.destination x.destination u q t
      took d (inl g) i = others q t m e d g i
      took d (inr g) i = absurd (other_number w k x s r q t m e d (sym g ∙ i))

      own : (q ≡ x.relation) × (t ≡ x.transfer) → FamilyStands (with_destination w x u) q t
      own (a, c) = subst (λ p. FamilyStands (with_destination w x u) p t) (sym a) (subst (FamilyStands (with_destination w x u) x.relation) (sym c) (own_volume u n vault f legs j b h))

      go : (x.relation.destination ≡ q.destination) ⊎ (x.relation.destination ≢ q.destination) → ((volume_at (with_destination w x u) q.destination).family ≢ family_of_transfer t.number → (y : Volume) → Among (with_destination w x u).volumes y → y.family ≢ family_of_transfer t.number)
          × ((volume_at (with_destination w x u) q.destination).family ≡ family_of_transfer t.number → InOwnFamily (with_destination w x u) q t)
      go (inl d) = own (own_here w k x s r q t m e d) v
      go (inr d) = family_volume w x.relation.destination x.destination u s (at_x w k x s r) (crossed w k x s r).destination n q t m e (λ _ c. absurd (d c)) (λ _ c g. took c f g) v

  on_source : (i : Ident) → x.relation.base ≡ Some i → has (volume_at w x.relation.source).snapshots i ≡ true
  on_source i e = (crossed w k x s r).base_at_source i e (transfer w k x s r).at_source

  pub reverts_vault : (base : Snapshot) → snapshot_of x.destination.snapshots x.relation.base ≡ Some base → is_mirror x.policy.kind ≡ false → x.destination.kind ≡ Rw → KeepsNeeded w (with_destination w x (reverted x base)) → AllStand (with_destination w x (reverted x base))
  reverts_vault base f vault writable n = all_own (reverted x base) n vault (inr (ap (λ b. cond b x.destination.family (family_of_transfer x.transfer.number)) vault))
      (λ j l _. none_there j l) base.ident (base_or_first x.relation x.transfer.legs base.ident (based w k x s r base f)) (on_source base.ident (based w k x s r base f))
      (λ q t m e d g i. absurd (other_number w k x s r q t m e d (ap (λ b. cond b x.destination.family (family_of_transfer x.transfer.number)) (sym vault) ∙ i)))
    where
      none_there : (j : Ident) → Among x.transfer.legs j → has x.destination.snapshots j ≡ false
      none_there j l = subst (λ y. has y.snapshots j ≡ false) (at_x w k x s r) (((s.transfers_stand x.relation x.transfer (here w k x s r) r.transfer).writable (ap (λ y. y.kind) (at_x w k x s r) ∙ writable)).3 j l)

  -- ---- Publish

  leg_there : (leg : Snapshot) → Ahead x leg → Among x.source.snapshots leg × ((i : Ident) → i ≡ leg.ident → has (volume_at w x.relation.source).snapshots i ≡ true)
  leg_there leg a = let p = (snapshot_is x.source.snapshots a.i leg a.source).0 in
      (p, λ i e. subst (λ y. has y.snapshots i ≡ true) (sym (source_x w k x s r)) (has_from_copy x.source.snapshots i (leg, p, sym e)))

  -- no leg is at the destination yet
  none_yet : (leg : Snapshot) → Ahead x leg → (j : Ident) → Among x.transfer.legs j → has x.destination.snapshots j ≡ false
  none_yet leg a j l = go (subst (λ is. Among is j) a.legs l)
    where
      go : (j ≡ a.i) ⊎ Among a.later j → has x.destination.snapshots j ≡ false
      go (inl e) = subst (λ y. has x.destination.snapshots y ≡ false) (sym e) a.lacks
      go (inr m) = subst (λ y. has y.snapshots j ≡ false) (at_x w k x s r) ((s.transfers_stand x.relation x.transfer (here w k x s r) r.transfer).ahead j (subst (λ is. Among (later is) j) (sym a.legs) m))

  pub publishes_vault : (leg : Snapshot) → Ahead x leg → is_mirror x.policy.kind ≡ false → KeepsNeeded w (with_destination w x (published w x leg)) → AllStand (with_destination w x (published w x leg))
  publishes_vault leg a vault n = all_own (published w x leg) n vault (family (is_mirror x.policy.kind) (is_elsewhere w.volumes 0 x.relation.destination x.destination.family leg.ident) vault)
      (λ j l _. none_yet leg a j l) a.i (first_of_legs x.relation x.transfer.legs a.i a.later a.legs) ((leg_there leg a).1 a.i (sym (snapshot_is x.source.snapshots a.i leg a.source).1))
      (λ q t m e d g i. let o : x.destination.family ≡ family_of_transfer t.number = sym g ∙ i in record {
        someone = (x.destination, destination_stands w k x r s.crossed, o);
        from = inl o;
        legs = λ own. absurd (idle own q t m e d o);
        dp = λ own. absurd (idle own q t m e d o);
      })
    where
      family : (b c : Bool) → b ≡ false → (cond b x.source.family (cond c (family_of_transfer x.transfer.number) x.destination.family) ≡ x.destination.family) ⊎ (cond b x.source.family (cond c (family_of_transfer x.transfer.number) x.destination.family) ≡ family_of_transfer x.transfer.number)
      family true c e = absurd (cc)
      family false true e = inr refl
      family false false e = inl refl

      -- a vault to a read-only volume of another's family has no transfer
      idle : {q : Relationship} {t : Transfer} → InOwnFamily w q t → (p : Relationship) (u : Transfer) → Among w.relations p → p.transfer ≡ Some u → x.relation.destination ≢ q.destination → x.destination.family ≡ family_of_transfer t.number → ⊥
      idle own p u m e d o =
          let both = (own.others x.relation.destination (crossed w k x s r).destination d (ap (λ y. y.family) (at_x w k x s r) ∙ o) (ap (λ y. y.kind) (at_x w k x s r) ∙ dp_there w k x s r a.stays x.destination.kind refl)).1 x.relation (here w k x s r)
          ((transfer w k x s r).at_destination, refl, policy_x w k x s r ∙ vault) in
          let g : ◌≡◌ {A = Option Transfer} None (Some x.transfer) = sym both.1 ∙ r.transfer in cc

  pub publishes_mirror : (leg : Snapshot) → Ahead x leg → is_mirror x.policy.kind ≡ true → has_other_family x ≡ false → KeepsNeeded w (with_destination w x (published w x leg)) → AllStand (with_destination w x (published w x leg))
  publishes_mirror leg a mirror other n q t m e = family_volume w x.relation.destination x.destination (published w x leg) s (at_x w k x s r) (crossed w k x s r).destination n q t m e
      (λ v d. absurd (mirrors_none w k x s r mirror q t m e v d))
      (λ v d g. let f = sources g in record {
        someone = (x.source, source_stands w k x r s.crossed, f);
        from = from f (same_family w k x s r mirror other);
        legs = λ o j l h. lacks_by x.destination.snapshots (list_published w x (arrived x leg)) j (λ y z i. old o d f j l h y i (published_among w x leg y z)) (before o d f j l h (same_family w k x s r mirror other));
        dp = λ o z. (some (is_mirror x.policy.kind) mirror, λ p c y. absurd (not_vault w k x s r mirror p c y.0 y.1 y.2));
      })
    where
      sources : {F : ℕ} → (published w x leg).family ≡ F → x.source.family ≡ F
      sources g = ap (λ b. cond b x.source.family (cond (is_elsewhere w.volumes 0 x.relation.destination x.destination.family leg.ident) (family_of_transfer x.transfer.number) x.destination.family)) (sym mirror) ∙ g

      from : x.source.family ≡ family_of_transfer t.number → (x.destination.snapshots ≡ []) ⊎ (x.source.family ≡ x.destination.family) → (x.destination.family ≡ family_of_transfer t.number) ⊎ (x.destination.snapshots ≡ [])
      from f (inl z) = inr z
      from f (inr z) = inl (sym z ∙ f)

      before : InOwnFamily w q t → x.relation.destination ≢ q.destination → x.source.family ≡ family_of_transfer t.number → (j : Ident) → Among t.legs j → has (volume_at w q.destination).snapshots j ≡ false → (x.destination.snapshots ≡ []) ⊎ (x.source.family ≡ x.destination.family) → has x.destination.snapshots j ≡ false
      before o d f j l h (inl z) = subst (λ ss. has ss j ≡ false) (sym z) refl
      before o d f j l h (inr z) = subst (λ y. has y.snapshots j ≡ false) (at_x w k x s r) (o.legs_alone j x.relation.destination l h (crossed w k x s r).destination d (ap (λ y. y.family) (at_x w k x s r) ∙ (sym z ∙ f)))

      -- the source is of the family too, or is the vault, and has what comes
      not_leg : InOwnFamily w q t → x.source.family ≡ family_of_transfer t.number → (j : Ident) → Among t.legs j → has (volume_at w q.destination).snapshots j ≡ false → has (volume_at w x.relation.source).snapshots j ≡ true → (x.relation.source ≡ q.destination) ⊎ (x.relation.source ≢ q.destination) → ⊥
      not_leg o f j l h z (inl c) = true≢false (sym (subst (λ i. has (volume_at w i).snapshots j ≡ true) c z) ∙ h)
      not_leg o f j l h z (inr c) = true≢false (sym z ∙ o.legs_alone j x.relation.source l h (crossed w k x s r).source c (ap (λ y. y.family) (source_x w k x s r) ∙ f))

      old : InOwnFamily w q t → x.relation.destination ≢ q.destination → x.source.family ≡ family_of_transfer t.number → (j : Ident) → Among t.legs j → has (volume_at w q.destination).snapshots j ≡ false → (y : Snapshot) → y.ident ≡ j → Among x.destination.snapshots y ⊎ (y ≡ arrived x leg) → has x.destination.snapshots j ≡ true
      old o d f j l h y i (inl z) = has_from_copy x.destination.snapshots j (y, z, i)
      old o d f j l h y i (inr z) = absurd (not_leg o f j l h ((leg_there leg a).1 j (sym i ∙ ap (λ p. p.ident) z)) (cases_eq x.relation.source q.destination))

      some : (b : Bool) → b ≡ true → cond b (x.destination.snapshots ++ arrived x leg ∷ []) (retained x.policy.rules (class_of x.policy) (needed w x.relation.destination) (x.destination.snapshots ++ arrived x leg ∷ [])) ≢ []
      some true e = filled_has _ leg.ident (has_from_copy (x.destination.snapshots ++ arrived x leg ∷ []) leg.ident (arrived x leg, among_right x.destination.snapshots (arrived x leg ∷ []) (arrived x leg) (inl refl), refl))
      some false e = absurd (true≢false (sym e))
