-- A vault's own family where one volume changed, or where policies or relationships did.
use Rattle.std.proofs.Common.{◌≡◌, ◌≢◌, ◌⊎◌, ◌<◌, ℕ, true, false, List, [], ◌∷◌, length, Some, None, refl, sym, ◌∙◌, ap, subst, inl, inr}
use Rattle.std.specs.Prelude.{slice_set}
use Rattle.std.proofs.lemmas.Bool.{cases_eq}
use Rattle.sm_base.specs.declared.numbers.Ident.{Ident}
use Rattle.sm_base.specs.declared.numbers.Kind.TheVariants.{Dp}
use Rattle.sm_defs.specs.Words.{Among}
use Rattle.sm_defs.specs.Needed.{needed}
use Rattle.sm_defs.specs.Volume.{Volume, has, no_volume}
use Rattle.sm_defs.specs.Relationship.{Relationship, Transfer, is_mirror}
use Rattle.sm_defs.specs.World.{Up, volume_at, policy_at, with_volume}
use Rattle.sm_model.specs.FamiliesStand.{IsBaseOrFirst, IsVaultTo, InOwnFamily, FamilyStands}
use Rattle.sm_model.specs.Sound.{SoundUp}
use Rattle.laws_cases.specs.Needs.{KeepsNeeded}
use Rattle.laws_cases.proofs.Needed.Needs.{set_cases}
use Rattle.laws_cases.proofs.Needed.NeededHere.{base_at_source, leg_at_source}
use Rattle.sm_defs.specs.Made.{family_of_transfer}
use Rattle.sm_defs.proofs.Members.{among_set}
use Rattle.std.proofs.lemmas.List.{length-set}

-- it has no base and no transfer
abbrev pub IsIdle : Relationship → Type 0
IsIdle q = (q.base ≡ None) × (q.transfer ≡ None)

-- of a volume that has the transfer's family now, and is not its destination
pub record Took (w : Up) (i : ℕ) (v u : Volume) (r : Relationship) (t : Transfer) : Type 0 where
  pub someone : (y : Volume) × Among w.volumes y × (y.family ≡ family_of_transfer t.number)
  pub from : (v.family ≡ family_of_transfer t.number) ⊎ (v.snapshots ≡ [])
  pub legs : InOwnFamily w r t → (j : Ident) → Among t.legs j → has (volume_at w r.destination).snapshots j ≡ false → has u.snapshots j ≡ false
  pub dp : InOwnFamily w r t → u.kind ≡ Dp → (u.snapshots ≢ []) × ((q : Relationship) → Among w.relations q → IsVaultTo w i q → IsIdle q)

-- of its destination
pub record AtOwn (v u : Volume) (t : Transfer) : Type 0 where
  pub family : u.family ≡ v.family
  pub legs : (j : Ident) → Among t.legs j → has u.snapshots j ≡ false → has v.snapshots j ≡ false

base_or_first_needed : (w : Up) (r : Relationship) (t : Transfer) (j : Ident) → SoundUp w → Among w.relations r → r.transfer ≡ Some t → IsBaseOrFirst r t.legs j → needed w r.source j ≡ true
base_or_first_needed w r t j s m e b = go t.legs refl b
  where
    half : r.source_half ≡ true
    half = (s.crossed.transfers r t m e).at_source

    go : (is : List Ident) → t.legs ≡ is → IsBaseOrFirst r is j → needed w r.source j ≡ true
    go [] l b = base_at_source w r j m half b
    go (i ∷ is) l (inl b) = base_at_source w r j m half b
    go (i ∷ is) l (inr b) = leg_at_source w r t j m half e (subst (λ ks. Among ks j) (sym l) (inl b))

pub family_volume : (w : Up) (i : ℕ) (v u : Volume) → SoundUp w → volume_at w i ≡ v → i < length w.volumes → KeepsNeeded w (with_volume w i u) → (r : Relationship) (t : Transfer) → Among w.relations r → r.transfer ≡ Some t →
    (is_mirror (policy_at w r.policy).kind ≡ false → i ≡ r.destination → AtOwn v u t) → (is_mirror (policy_at w r.policy).kind ≡ false → i ≢ r.destination → u.family ≡ family_of_transfer t.number → Took w i v u r t) → FamilyStands (with_volume w i u) r t
family_volume w i v u s a within keeps r t m e at_own took vault = (nobody, standing)
  where
    old : ((volume_at w r.destination).family ≢ family_of_transfer t.number → (y : Volume) → Among w.volumes y → y.family ≢ family_of_transfer t.number) × ((volume_at w r.destination).family ≡ family_of_transfer t.number → InOwnFamily w r t)
    old = s.families_stand.transfers r t m e vault

    there : (n : ℕ) → n ≡ i → volume_at w n ≡ v
    there n d = ap (volume_at w) d ∙ a

    own_family : (volume_at (with_volume w i u) r.destination).family ≡ (volume_at w r.destination).family
    own_family = go (set_cases w.volumes i r.destination u no_volume)
      where
        go : (volume_at (with_volume w i u) r.destination ≡ volume_at w r.destination) ⊎ ((r.destination ≡ i) × (volume_at (with_volume w i u) r.destination ≡ u)) → (volume_at (with_volume w i u) r.destination).family ≡ (volume_at w r.destination).family
        go (inl f) = ap (λ y. y.family) f
        go (inr (d, f)) = ap (λ y. y.family) f ∙ ((at_own vault (sym d)).family ∙ ap (λ y. y.family) (sym (there r.destination d)))

    took_from : u.family ≡ family_of_transfer t.number → (i ≡ r.destination) ⊎ ¬ (i ≡ r.destination) → ((volume_at w r.destination).family ≡ family_of_transfer t.number) ⊎ ((y : Volume) × Among w.volumes y × (y.family ≡ family_of_transfer t.number))
    took_from f (inl d) = inl (ap (λ n. (volume_at w n).family) (sym d) ∙ (ap (λ y. y.family) a ∙ (sym (at_own vault d).family ∙ f)))
    took_from f (inr n) = inr (took vault n f).someone

    nobody : (volume_at (with_volume w i u) r.destination).family ≢ family_of_transfer t.number → (y : Volume) → Among (slice_set w.volumes i u) y → y.family ≢ family_of_transfer t.number
    nobody n y k f = go (among_set w.volumes i u y k)
      where
        not_old : (volume_at w r.destination).family ≢ family_of_transfer t.number
        not_old g = n (own_family ∙ g)

        by : ((volume_at w r.destination).family ≡ family_of_transfer t.number) ⊎ ((z : Volume) × Among w.volumes z × (z.family ≡ family_of_transfer t.number)) → ⊥
        by (inl g) = not_old g
        by (inr (z, l, g)) = old.0 not_old z l g

        go : (y ≡ u) ⊎ Among w.volumes y → ⊥
        go (inl g) = by (took_from (ap (λ z. z.family) (sym g) ∙ f) (cases_eq i r.destination))
        go (inr l) = old.0 not_old y l f

    standing : (volume_at (with_volume w i u) r.destination).family ≡ family_of_transfer t.number → InOwnFamily (with_volume w i u) r t
    standing f = record { source_elsewhere = source_elsewhere; source_has = source_has; legs_alone = legs_alone; others = others }
      where
        o : InOwnFamily w r t
        o = old.1 (sym own_family ∙ f)

        not_own : (n : ℕ) → n ≢ r.destination → n ≡ i → i ≢ r.destination
        not_own n h d g = h (d ∙ g)

        nothing_there : v.snapshots ≡ [] → r.source ≡ i → ⊥
        nothing_there g d = let (j, b, h) = o.source_has in let k : has [] j ≡ true = subst (λ ss. has ss j ≡ true) (ap (λ y. y.snapshots) (there r.source d) ∙ g) h in cc

        source_elsewhere : (volume_at (with_volume w i u) r.source).family ≢ family_of_transfer t.number
        source_elsewhere g = go (set_cases w.volumes i r.source u no_volume)
          where
            by : r.source ≡ i → (v.family ≡ family_of_transfer t.number) ⊎ (v.snapshots ≡ []) → ⊥
            by d (inl h) = o.source_elsewhere (ap (λ y. y.family) (there r.source d) ∙ h)
            by d (inr h) = nothing_there h d

            go : (volume_at (with_volume w i u) r.source ≡ volume_at w r.source) ⊎ ((r.source ≡ i) × (volume_at (with_volume w i u) r.source ≡ u)) → ⊥
            go (inl h) = o.source_elsewhere (ap (λ y. y.family) (sym h) ∙ g)
            go (inr (d, h)) = by d (took vault (not_own r.source (s.crossed.relations r m).apart d) (ap (λ y. y.family) (sym h) ∙ g)).from

        source_has : (j : Ident) × IsBaseOrFirst r t.legs j × (has (volume_at (with_volume w i u) r.source).snapshots j ≡ true)
        source_has = let (j, b, h) = o.source_has in (j, b, keeps r.source j h (base_or_first_needed w r t j s m e b))

        own_lacks : (j : Ident) → Among t.legs j → has (volume_at (with_volume w i u) r.destination).snapshots j ≡ false → has (volume_at w r.destination).snapshots j ≡ false
        own_lacks j l h = go (set_cases w.volumes i r.destination u no_volume)
          where
            go : (volume_at (with_volume w i u) r.destination ≡ volume_at w r.destination) ⊎ ((r.destination ≡ i) × (volume_at (with_volume w i u) r.destination ≡ u)) → has (volume_at w r.destination).snapshots j ≡ false
            go (inl g) = subst (λ y. has y.snapshots j ≡ false) g h
            go (inr (d, g)) = subst (λ y. has y.snapshots j ≡ false) (sym (there r.destination d)) ((at_own vault (sym d)).legs j l (subst (λ y. has y.snapshots j ≡ false) g h))

        legs_alone : (j : Ident) (n : ℕ) → Among t.legs j → has (volume_at (with_volume w i u) r.destination).snapshots j ≡ false → n < length (slice_set w.volumes i u) → n ≢ r.destination →
            (volume_at (with_volume w i u) n).family ≡ family_of_transfer t.number → has (volume_at (with_volume w i u) n).snapshots j ≡ false
        legs_alone j n l h k d g = go (set_cases w.volumes i n u no_volume)
          where
            go : (volume_at (with_volume w i u) n ≡ volume_at w n) ⊎ ((n ≡ i) × (volume_at (with_volume w i u) n ≡ u)) → has (volume_at (with_volume w i u) n).snapshots j ≡ false
            go (inl q) = subst (λ y. has y.snapshots j ≡ false) (sym q) (o.legs_alone j n l (own_lacks j l h) (rw (sym (length-set w.volumes i u)) k) d (ap (λ y. y.family) (sym q) ∙ g))
            go (inr (p, q)) = subst (λ y. has y.snapshots j ≡ false) (sym q) ((took vault (not_own n d p) (ap (λ y. y.family) (sym q) ∙ g)).legs o j l (own_lacks j l h))

        others : (n : ℕ) → n < length (slice_set w.volumes i u) → n ≢ r.destination → (volume_at (with_volume w i u) n).family ≡ family_of_transfer t.number → (volume_at (with_volume w i u) n).kind ≡ Dp →
            ((volume_at (with_volume w i u) n).snapshots ≢ []) × ((q : Relationship) → Among w.relations q → IsVaultTo (with_volume w i u) n q → IsIdle q)
        others n k d g dp = go (set_cases w.volumes i n u no_volume)
          where
            go : (volume_at (with_volume w i u) n ≡ volume_at w n) ⊎ ((n ≡ i) × (volume_at (with_volume w i u) n ≡ u)) →
                ((volume_at (with_volume w i u) n).snapshots ≢ []) × ((q : Relationship) → Among w.relations q → IsVaultTo (with_volume w i u) n q → IsIdle q)
            go (inl q) = let x = o.others n (rw (sym (length-set w.volumes i u)) k) d (ap (λ y. y.family) (sym q) ∙ g) (ap (λ y. y.kind) (sym q) ∙ dp) in (subst (λ y. y.snapshots ≢ []) (sym q) x.0, x.1)
            go (inr (p, q)) = let x = (took vault (not_own n d p) (ap (λ y. y.family) (sym q) ∙ g)).dp o (ap (λ y. y.kind) (sym q) ∙ dp) in
                (subst (λ y. y.snapshots ≢ []) (sym q) x.0, λ z l h. x.1 z l (h.0, h.1 ∙ p, h.2))
