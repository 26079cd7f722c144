-- Where the legs of a transfer are: each on the source but a reserved one that was not made.
use Rattle.std.proofs.Common.{◌≡◌, ◌⊎◌, Bool, true, false, Some, refl, sym, ◌∙◌, subst, inl, inr, true≢false, ℕ, ◌&&◌, not, ap}
use Rattle.sm_base.specs.declared.numbers.Ident.{Ident}
use Rattle.sm_defs.specs.Words.{Among}
use Rattle.sm_defs.specs.Volume.{has, no_volume}
use Rattle.sm_defs.specs.Relationship.{Relationship, Transfer, is_mirror}
use Rattle.sm_defs.specs.Legs.{made_ident}
use Rattle.sm_defs.specs.World.{Up, volume_at, policy_at}
use Rattle.sm_defs.proofs.Members.{among_get_or}
use Rattle.sm_model.specs.Crossed.{IsReservedLeg}
use Rattle.sm_model.specs.Sound.{SoundUp}
use Rattle.sm_model.specs.Running.{Running, IsRunning}
use Rattle.sm_model.specs.Due.{reserved_leg, lacks_reserved}
use Rattle.laws_cases.proofs.Steps.Parties.{relation_stands}

-- a leg that the destination has is on the source
pub leg_on_both : (w : Up) (r : Relationship) (t : Transfer) (i : Ident) → SoundUp w → Among w.relations r → r.transfer ≡ Some t → Among t.legs i → has (volume_at w r.destination).snapshots i ≡ true → has (volume_at w r.source).snapshots i ≡ true
leg_on_both w r t i s m e l h = go ((s.crossed.transfers r t m e).legs_at_source i l)
  where
    made : (b : Bool) → has (volume_at w r.source).snapshots (made_ident r.source t.number) ≡ b → t.reserved ≡ true → i ≡ made_ident r.source t.number → has (volume_at w r.source).snapshots i ≡ true
    made true g z f = subst (λ j. has (volume_at w r.source).snapshots j ≡ true) (sym f) g
    made false g z f = absurd (true≢false (sym (subst (λ j. has (volume_at w r.destination).snapshots j ≡ true) f h) ∙
        s.numbers_stand.unmade r t m e z g (volume_at w r.destination) (among_get_or w.volumes r.destination no_volume (s.crossed.relations r m).destination)))

    go : (has (volume_at w r.source).snapshots i ≡ true) ⊎ IsReservedLeg r t i → has (volume_at w r.source).snapshots i ≡ true
    go (inl g) = g
    go (inr (z, f)) = made (has (volume_at w r.source).snapshots (made_ident r.source t.number)) refl z f

-- a leg of a vault is on its source
pub vault_leg : (w : Up) (r : Relationship) (t : Transfer) (j : Ident) → SoundUp w → Among w.relations r → r.transfer ≡ Some t → is_mirror (policy_at w r.policy).kind ≡ false → Among t.legs j → has (volume_at w r.source).snapshots j ≡ true
vault_leg w r t j s m e vault l = go ((s.crossed.transfers r t m e).legs_at_source j l)
  where
    go : (has (volume_at w r.source).snapshots j ≡ true) ⊎ IsReservedLeg r t j → has (volume_at w r.source).snapshots j ≡ true
    go (inl h) = h
    go (inr (z, h)) = absurd (true≢false (sym z ∙ (s.legs_kept r t m e vault).unreserved))

not_lacking : (a b : Bool) → (a && not b) ≡ false → a ≡ true → b ≡ true
not_lacking true true e f = refl
not_lacking true false e f = absurd (cc)
not_lacking false b e f = absurd (cc)

-- a leg is on the source, but for a reserved one
pub leg_there : (w : Up) (k : ℕ) (x : Running) (i : Ident) → SoundUp w → IsRunning w k x → Among x.transfer.legs i → lacks_reserved x ≡ false → has x.source.snapshots i ≡ true
leg_there w k x i s r m e = go ((s.crossed.transfers x.relation x.transfer (relation_stands w k x r) r.transfer).legs_at_source i m)
  where
    go : (has (Rattle.sm_defs.specs.World.volume_at w x.relation.source).snapshots i ≡ true) ⊎ IsReservedLeg x.relation x.transfer i → has x.source.snapshots i ≡ true
    go (inl h) = subst (λ v. has v.snapshots i ≡ true) (sym (ap (λ y. y.source) r.is)) h
    go (inr (z, f)) = subst (λ j. has x.source.snapshots j ≡ true) (sym f) (not_lacking x.transfer.reserved (has x.source.snapshots (reserved_leg x)) e z)
