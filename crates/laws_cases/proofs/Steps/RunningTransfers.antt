-- A running transfer of a sound world: its relationship, its volumes, its policy, and that no other relationship ends at its destination.
use Rattle.std.proofs.Common.{◌≡◌, true, ◌⊎◌, ℕ, Bool, false, List, [], ◌∷◌, Some, refl, sym, ◌∙◌, ap, inl, inr, true≢false, ◌==◌, ◌&&◌, not, eqb-true}
use Rattle.std.proofs.lemmas.Option.{same_Some}
use Rattle.sm_defs.specs.Words.{Among}
use Rattle.sm_defs.specs.Relationship.{Relationship, Transfer, is_mirror}
use Rattle.sm_defs.specs.World.{Up, volume_at, policy_at}
use Rattle.sm_defs.specs.Volume.{Snapshot}
use Rattle.sm_defs.specs.Edges.{is_empty}
use Rattle.sm_defs.proofs.Members.{filter_among}
use Rattle.sm_model.specs.Crossed.{destination_of, with_destination_half, CrossedRelation, CrossedTransfer}
use Rattle.sm_model.specs.Sound.{SoundUp}
use Rattle.sm_model.specs.Running.{Running, IsRunning}
use Rattle.sm_model.specs.Due.{has_other_family}
use Rattle.laws_cases.proofs.Needed.Leaving.{same_member}
use Rattle.laws_cases.proofs.Steps.Parties.{relation_stands}

-- no two relationships with destination halves end at one volume
pub one_destination : (w : Up) (r q : Relationship) → SoundUp w → Among w.relations r → Among w.relations q → r.destination_half ≡ true → q.destination_half ≡ true → r.destination ≡ q.destination → r ≡ q
one_destination w r q s m n h k = same_member destination_of (with_destination_half w.relations) r q s.crossed.destinations_differ (filter_among (λ p. p.destination_half) w.relations r m h) (filter_among (λ p. p.destination_half) w.relations q n k)

module _ (w : Up) (k : ℕ) (x : Running) (s : SoundUp w) (r : IsRunning w k x) where
  pub here : Among w.relations x.relation
  here = relation_stands w k x r

  pub crossed : CrossedRelation w x.relation
  crossed = s.crossed.relations x.relation here

  pub transfer : CrossedTransfer w x.relation x.transfer
  transfer = s.crossed.transfers x.relation x.transfer here r.transfer

  pub at_x : volume_at w x.relation.destination ≡ x.destination
  at_x = sym (ap (λ y. y.destination) r.is)

  pub source_x : volume_at w x.relation.source ≡ x.source
  source_x = sym (ap (λ y. y.source) r.is)

  pub policy_x : is_mirror (policy_at w x.relation.policy).kind ≡ is_mirror x.policy.kind
  policy_x = ap (λ y. is_mirror y.policy.kind) (sym r.is)

  -- what ends at the destination is the relationship
  pub only_here : (q : Relationship) → Among w.relations q → q.destination_half ≡ true → q.destination ≡ x.relation.destination → q ≡ x.relation
  only_here q m h d = one_destination w q x.relation s m here h transfer.at_destination d

  -- so a vault that ends there is no mirror
  pub not_vault : is_mirror x.policy.kind ≡ true → (q : Relationship) → Among w.relations q → q.destination_half ≡ true → q.destination ≡ x.relation.destination → is_mirror (policy_at w q.policy).kind ≡ false → ⊥
  not_vault mirror q m h d v = true≢false (sym mirror ∙ (sym policy_x ∙ (ap (λ y. is_mirror (policy_at w y.policy).kind) (sym (only_here q m h d)) ∙ v)))

  pub mirrors_none : is_mirror x.policy.kind ≡ true → (q : Relationship) (t : Transfer) → Among w.relations q → q.transfer ≡ Some t → is_mirror (policy_at w q.policy).kind ≡ false → x.relation.destination ≡ q.destination → ⊥
  mirrors_none mirror q t m e v d = not_vault mirror q m (s.crossed.transfers q t m e).at_destination (sym d) v

  -- the one vault of the destination takes its own family
  pub own_here : (q : Relationship) (t : Transfer) → Among w.relations q → q.transfer ≡ Some t → x.relation.destination ≡ q.destination → (q ≡ x.relation) × (t ≡ x.transfer)
  own_here q t m e d = let same = only_here q m (s.crossed.transfers q t m e).at_destination (sym d) in (same, same_Some t x.transfer (sym e ∙ (ap (λ y. y.transfer) same ∙ r.transfer)))

  -- a mirror publishes over an empty destination or one of the source's family
  pub same_family : is_mirror x.policy.kind ≡ true → has_other_family x ≡ false → (x.destination.snapshots ≡ []) ⊎ (x.source.family ≡ x.destination.family)
  same_family m o = go (is_mirror x.policy.kind) x.destination.snapshots (x.source.family == x.destination.family) refl m o
    where
      go : (b : Bool) (ss : List Snapshot) (f : Bool) → (x.source.family == x.destination.family) ≡ f → b ≡ true → (b && not (is_empty ss) && not f) ≡ false → (ss ≡ []) ⊎ (x.source.family ≡ x.destination.family)
      go b [] f g e h = inl refl
      go true (y ∷ ys) true g e h = inr (eqb-true x.source.family x.destination.family g)
      go true (y ∷ ys) false g e h = absurd (cc)
      go false (y ∷ ys) f g e h = absurd (true≢false (sym e))
