-- What a first leg costs, and what was shipped of it.
use Rattle.std.proofs.Common.{◌≡◌, ◌↔◌, ℕ, ◌<◌, ◌≤◌, false, List, ◌∷◌, map, sym, ap, subst, ◌∙◌}
use Rattle.std.specs.Prelude.{Some}
use Rattle.sm_base.specs.declared.numbers.Ident.{Ident}
use Rattle.sm_defs.specs.Volume.{Snapshot, has, free}
use Rattle.sm_defs.specs.Relationship.{is_mirror}
use Rattle.sm_model.specs.Running.{Running}
use Rattle.sm_model.specs.Steps.{snapshot_of, cost}
use Rattle.sm_model.specs.LegsFit.{FirstLegFits, FirstFits}
use Rattle.sm_model.specs.declared.world.WorldSnapshot.{WorldSnapshot}
use Rattle.sm_shape.specs.Blank.{blank_snapshot}
use Rattle.sm_shape.proofs.ListWords.{all_among, among_all}
use Rattle.sm_fit.specs.Shipped.{IsThere, IsBelow, IsWithin, IsToFit}
use Rattle.sm_model.proofs.Found.{found_one}

-- the source has the leg, so many blocks are to be shipped, and they have room
pub record Bounded (x : Running) (ss : List WorldSnapshot) (i : Ident) (n : ℕ) : Type 0 where
  pub there : IsThere ss i
  pub within : IsWithin x.transfer n
  pub room : is_mirror x.policy.kind ≡ false → n ≤ free x.destination

-- what the leg costs, if the source has it
abbrev pub Costs : Running → Ident → ℕ → Type 0
Costs x i n = (leg : Snapshot) → snapshot_of x.source.snapshots (Some i) ≡ Some leg → cost x leg ≡ n

module _ (x : Running) (ss : List WorldSnapshot) (source : map blank_snapshot ss ≡ x.source.snapshots) (i : Ident) (n : ℕ) (costs : Costs x i n) where
  pub bounded_fits : Bounded x ss i n → FirstLegFits x i
  bounded_fits b = record {
    there = ap (λ l. has l i) (sym source) ∙ b.there;
    checkpoint = λ leg e. subst (λ m. x.transfer.checkpoint ≤ m) (sym (costs leg e)) b.within.checkpoint;
    landed = λ leg k e a. subst (λ m. k < m) (sym (costs leg e)) (all_among (IsBelow n) x.transfer.landed b.within.landed k a);
    room = λ leg e vault. subst (λ m. m ≤ free x.destination) (sym (costs leg e)) (b.room vault);
  }

  pub fits_bounded : FirstLegFits x i → Bounded x ss i n
  fits_bounded f =
      let leg = found_one x.source.snapshots i f.there in
      let is = costs leg.0 leg.1 in
      record {
        there = ap (λ l. has l i) source ∙ f.there;
        within = record {
          checkpoint = subst (λ m. x.transfer.checkpoint ≤ m) is (f.checkpoint leg.0 leg.1);
          landed = among_all (IsBelow n) x.transfer.landed (λ k a. subst (λ m. k < m) is (f.landed leg.0 k leg.1 a));
        };
        room = λ vault. subst (λ m. m ≤ free x.destination) is (f.room leg.0 leg.1 vault);
      }

-- the first of legs, if it has to fit
module _ (x : Running) (ds : List WorldSnapshot) (destination : map blank_snapshot ds ≡ x.destination.snapshots) (i : Ident) (is : List Ident) {P : Type 0} (leg : P ↔ FirstLegFits x i) where
  pub first_fit : (IsToFit x.transfer ds i → P) ↔ FirstFits x (i ∷ is)
  first_fit = (
    λ f lacks way. leg.0 (f (record { lacks = ap (λ l. has l i) destination ∙ lacks; under_way = way })),
    λ f to. leg.1 (f (ap (λ l. has l i) (sym destination) ∙ to.lacks) to.under_way),
  )
