-- What landed of a leg without a gap is within it.
use Rattle.std.proofs.Common.{◌≡◌, ◌<◌, ◌≤◌, ◌^◌, ◌⊎◌, ℕ, false, List, [], ◌∷◌, Some, refl, ap, sym, subst, ◌∙◌, inl, inr, arith}
use Rattle.sm_base.specs.declared.numbers.Ident.{Ident}
use Rattle.sm_defs.specs.Words.{Among}
use Rattle.sm_defs.specs.Volume.{Snapshot, has, image_of, no_volume}
use Rattle.sm_defs.specs.Relationship.{Relationship, Transfer}
use Rattle.sm_defs.specs.World.{Up, volume_at}
use Rattle.sm_model.specs.LegsFit.{FirstFits, FirstLegFits}
use Rattle.sm_model.specs.Running.{running_in}
use Rattle.sm_model.specs.Steps.{cost}
use Rattle.sm_model.specs.Sound.{SoundUp}
use Rattle.laws_cases.proofs.Steps.Parties.{snapshot_is}
use Rattle.sm_model.proofs.Found.{found_one}
use Rattle.laws_cases.proofs.Steps.Costs.{cost_at_most, prefix_at_most}
use Rattle.sm_defs.specs.Progress.{landed_prefix}
use Rattle.sm_defs.proofs.Members.{among_get_or, among_map}

-- a leg on the source costs at most as many blocks as a volume may have
pub leg_costs : (w : Up) (r : Relationship) (t : Transfer) (leg : Snapshot) → SoundUp w → Among w.relations r → Among (volume_at w r.source).snapshots leg → cost (running_in w r t) leg < 2 ^ 32
leg_costs w r t leg s m k =
    let f = s.formed.volumes (volume_at w r.source) (among_get_or w.volumes r.source no_volume (s.crossed.relations r m).source) in
    let long = f.long leg.image (inr (inr (among_map image_of (volume_at w r.source).snapshots leg k))) in let few = f.few_blocks in
    let most = cost_at_most (running_in w r t) leg in omega (arith, long, few, most)

-- a first leg that the destination lacks, of which something landed, costs as much at least
pub prefix_within : (w : Up) (r : Relationship) (t : Transfer) (i : Ident) (is : List Ident) → SoundUp w → Among w.relations r → r.transfer ≡ Some t → t.legs ≡ i ∷ is → has (volume_at w r.destination).snapshots i ≡ false →
    (landed_prefix t.landed ≡ 0) ⊎ ((leg : Snapshot) × Among (volume_at w r.source).snapshots leg × (landed_prefix t.landed ≤ cost (running_in w r t) leg))
prefix_within w r t i is s m e l f = go t.landed refl
  where
    under_way : ¬ (t.landed ≡ []) → FirstLegFits (running_in w r t) i
    under_way n = subst (FirstFits (running_in w r t)) l (s.legs_fit r t m e).first f (inr n)

    leg_of : FirstLegFits (running_in w r t) i → (leg : Snapshot) × Among (volume_at w r.source).snapshots leg × (landed_prefix t.landed ≤ cost (running_in w r t) leg)
    leg_of h = let (leg, q) = found_one (volume_at w r.source).snapshots i h.there in
        (leg, (snapshot_is (volume_at w r.source).snapshots i leg q).0, prefix_at_most t.landed (cost (running_in w r t) leg) (λ k n. h.landed leg k q n))

    go : (ks : List ℕ) → t.landed ≡ ks → (landed_prefix t.landed ≡ 0) ⊎ ((leg : Snapshot) × Among (volume_at w r.source).snapshots leg × (landed_prefix t.landed ≤ cost (running_in w r t) leg))
    go [] n = inl (ap landed_prefix n)
    go (k ∷ ks) n = inr (leg_of (under_way (λ z. let q : k ∷ ks ≡ [] = sym n ∙ z in cc)))

pub prefix_near_leg : (w : Up) (r : Relationship) (t : Transfer) (i : Ident) (is : List Ident) → SoundUp w → Among w.relations r → r.transfer ≡ Some t → t.legs ≡ i ∷ is → has (volume_at w r.destination).snapshots i ≡ false →
    landed_prefix t.landed < 2 ^ 32
prefix_near_leg w r t i is s m e l f = go (prefix_within w r t i is s m e l f)
  where
    go : (landed_prefix t.landed ≡ 0) ⊎ ((leg : Snapshot) × Among (volume_at w r.source).snapshots leg × (landed_prefix t.landed ≤ cost (running_in w r t) leg)) → landed_prefix t.landed < 2 ^ 32
    go (inl z) = omega (arith, z)
    go (inr (leg, k, b)) = let c = leg_costs w r t leg s m k in omega (arith, b, c)
