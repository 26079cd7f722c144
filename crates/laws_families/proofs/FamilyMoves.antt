-- A vault's own family after policies, relationships or the number of volumes changed.
use Rattle.std.proofs.Common.{◌≡◌, ◌≢◌, ◌⊎◌, ◌≤◌, ◌<◌, ℕ, zero, suc, true, false, List, [], ◌∷◌, ◌++◌, length, Some, refl, sym, ◌∙◌, ap, subst, inl, inr, arith}
use Rattle.std.specs.Prelude.{slice_index_or}
use Rattle.sm_base.specs.declared.numbers.Ident.{Ident}
use Rattle.sm_base.specs.declared.numbers.Kind.TheVariants.{Dp}
use Rattle.sm_defs.specs.Words.{Among}
use Rattle.sm_defs.specs.Volume.{Volume, has, no_volume}
use Rattle.sm_defs.specs.Relationship.{Policy, Relationship, Transfer, is_mirror}
use Rattle.sm_defs.specs.World.{Up, volume_at, policy_at, no_policy}
use Rattle.sm_model.specs.OfVolumes.{with_new_volume}
use Rattle.sm_model.specs.Crossed.{CrossedRelation}
use Rattle.sm_model.specs.FamiliesStand.{IsFamily, IsBaseOrFirst, IsVaultTo, FamilyStands}
use Rattle.sm_model.specs.Sound.{SoundUp}
use Rattle.laws_cases.proofs.Needed.Needs.{push_within, within_or_beyond}
use Rattle.laws_families.proofs.FamilyParts.{IsIdle}
use Rattle.sm_defs.specs.Made.{family_of_transfer}
use Rattle.sm_defs.proofs.Members.{among_append, among_get_or}

-- ---- policies keep their kinds

pub family_policies : (w : Up) (c : ℕ) (ps : List Policy) → SoundUp w → ((k : ℕ) → k < length w.policies → (slice_index_or ps k no_policy).kind ≡ (policy_at w k).kind) → (r : Relationship) (t : Transfer) → Among w.relations r → r.transfer ≡ Some t →
    FamilyStands (record w { clock = c; policies = ps }) r t
family_policies w c ps s kinds r t m e vault =
    let h = s.families_stand.transfers r t m e (sym (kind r m) ∙ vault) in (
      h.0,
      λ f. let o = h.1 f in record {
        source_elsewhere = o.source_elsewhere;
        source_has = o.source_has;
        legs_alone = o.legs_alone;
        others = λ n l d g dp. let x = o.others n l d g dp in (x.0, λ q k z. x.1 q k (z.0, z.1, sym (kind q k) ∙ z.2));
      },
    )
  where
    kind : (q : Relationship) → Among w.relations q → is_mirror (slice_index_or ps q.policy no_policy).kind ≡ is_mirror (policy_at w q.policy).kind
    kind q k = ap is_mirror (kinds q.policy (s.crossed.relations q k).policy)

-- ---- a volume came, whose family is its own number

pub family_created : (w : Up) (v : Volume) → SoundUp w → v.family ≡ length w.volumes → (r : Relationship) (t : Transfer) → Among w.relations r → r.transfer ≡ Some t → FamilyStands (with_new_volume w v) r t
family_created w v s f r t m e vault =
    let h = s.families_stand.transfers r t m e vault in (
      λ n y k. nobody n y (among_append w.volumes (v ∷ []) y k),
      λ g. let o = h.1 (ap (λ y. y.family) (sym (at r.destination c.destination)) ∙ g) in record {
        source_elsewhere = λ q. o.source_elsewhere (ap (λ y. y.family) (sym (at r.source c.source)) ∙ q);
        source_has = let (j, b, q) = o.source_has in (j, b, subst (λ y. has y.snapshots j ≡ true) (sym (at r.source c.source)) q);
        legs_alone = λ j n l q k d z. let a = within n k z in
            subst (λ y. has y.snapshots j ≡ false) (sym (at n a)) (o.legs_alone j n l (subst (λ y. has y.snapshots j ≡ false) (at r.destination c.destination) q) a d (ap (λ y. y.family) (sym (at n a)) ∙ z));
        others = λ n k d z dp. let a = within n k z in let x = o.others n a d (ap (λ y. y.family) (sym (at n a)) ∙ z) (ap (λ y. y.kind) (sym (at n a)) ∙ dp) in
            (subst (λ y. y.snapshots ≢ []) (sym (at n a)) x.0, x.1);
      },
    )
  where
    c : CrossedRelation w r
    c = s.crossed.relations r m

    at : (n : ℕ) → n < length w.volumes → volume_at (with_new_volume w v) n ≡ volume_at w n
    at n l = push_within w.volumes v no_volume n l

    other : v.family ≢ family_of_transfer t.number
    other g = let few = s.formed.few in let one = (s.crossed.transfers r t m e).counts in let i : length w.volumes ≡ family_of_transfer t.number = sym f ∙ g in omega (arith, few, one, i)

    last : (vs : List Volume) (n : ℕ) → n < length (vs ++ v ∷ []) → length vs ≤ n → slice_index_or (vs ++ v ∷ []) n no_volume ≡ v
    last [] zero k l = refl
    last [] (suc n) k l = absurd (omega arith)
    last (y ∷ vs) zero k l = absurd (omega arith)
    last (y ∷ vs) (suc n) k l = last vs n (omega arith) (omega arith)

    within : (n : ℕ) → n < length (w.volumes ++ v ∷ []) → (volume_at (with_new_volume w v) n).family ≡ family_of_transfer t.number → n < length w.volumes
    within n k z = go (within_or_beyond n (length w.volumes))
      where
        go : (n < length w.volumes) ⊎ (length w.volumes ≤ n) → n < length w.volumes
        go (inl l) = l
        go (inr l) = absurd (other (ap (λ y. y.family) (sym (last w.volumes n k l)) ∙ z))

    nobody : (volume_at (with_new_volume w v) r.destination).family ≢ family_of_transfer t.number → (y : Volume) → Among w.volumes y ⊎ Among (v ∷ []) y → y.family ≢ family_of_transfer t.number
    nobody n y (inl k) = (s.families_stand.transfers r t m e vault).0 (λ g. n (ap (λ z. z.family) (at r.destination c.destination) ∙ g)) y k
    nobody n y (inr (inl k)) = λ g. other (ap (λ z. z.family) (sym k) ∙ g)
    nobody n y (inr (inr k)) = absurd k

-- ---- relationships changed

-- each vault to a read-only volume with snapshots, where none had a base or a transfer, has none
abbrev pub IdleStay : Up → List Relationship → Type 0
IdleStay w rs = (n : ℕ) → n < length w.volumes → (volume_at w n).kind ≡ Dp → (volume_at w n).snapshots ≢ [] → ((q : Relationship) → Among w.relations q → IsVaultTo w n q → IsIdle q) → (q : Relationship) → Among rs q → IsVaultTo w n q → IsIdle q

pub family_list : (w : Up) (a b : ℕ) (rs : List Relationship) (r : Relationship) (t : Transfer) → IdleStay w rs → FamilyStands w r t → FamilyStands (record w { next_relation = a; next_transfer = b; relations = rs }) r t
family_list w a b rs r t idle h vault = let (nobody, standing) = h vault in (
  nobody,
  λ f. let o = standing f in record {
    source_elsewhere = o.source_elsewhere;
    source_has = o.source_has;
    legs_alone = o.legs_alone;
    others = λ n l d g dp. let x = o.others n l d g dp in (x.0, idle n l dp x.0 x.1);
  },
)

-- the transfer goes on with some of its legs, of which the base or the first is on the source
pub family_on : (w : Up) (r q : Relationship) (t u : Transfer) → q.source ≡ r.source → q.destination ≡ r.destination → q.policy ≡ r.policy → u.number ≡ t.number → ((j : Ident) → Among u.legs j → Among t.legs j) →
    ((j : Ident) → IsBaseOrFirst r t.legs j → has (volume_at w r.source).snapshots j ≡ true → (i : Ident) × IsBaseOrFirst q u.legs i × (has (volume_at w r.source).snapshots i ≡ true)) → FamilyStands w r t → FamilyStands w q u
family_on w r q t u es ed ep en fewer first h vault =
    let (nobody, standing) = h (ap (λ k. is_mirror (policy_at w k).kind) (sym ep) ∙ vault) in (
      λ n y k f. nobody (λ g. n (ap (λ k. (volume_at w k).family) ed ∙ (g ∙ sym same))) y k (f ∙ same),
      λ f. let o = standing (ap (λ k. (volume_at w k).family) (sym ed) ∙ (f ∙ same)) in record {
        source_elsewhere = λ g. o.source_elsewhere (ap (λ k. (volume_at w k).family) (sym es) ∙ (g ∙ same));
        source_has = let (j, b, z) = o.source_has in let (i, x, y) = first j b z in (i, x, subst (λ k. has (volume_at w k).snapshots i ≡ true) (sym es) y);
        legs_alone = λ j n l z k d g. o.legs_alone j n (fewer j l) (subst (λ k. has (volume_at w k).snapshots j ≡ false) ed z) k (λ x. d (x ∙ sym ed)) (g ∙ same);
        others = λ n k d g dp. o.others n k (λ x. d (x ∙ sym ed)) (g ∙ same) dp;
      },
    )
  where
    same : family_of_transfer u.number ≡ family_of_transfer t.number
    same = ap family_of_transfer en

-- nobody has the family of the next transfer
pub next_family : (w : Up) (y : Volume) → SoundUp w → Among w.volumes y → y.family ≢ family_of_transfer w.next_transfer
next_family w y s m f = go (s.families_stand.given y m)
  where
    go : IsFamily w y.family → ⊥
    go (inl l) = let few = s.formed.few in let one = s.formed.transfers_counted.0 in omega (arith, l, few, one, f)
    go (inr (n, g, l)) = let i : family_of_transfer n ≡ family_of_transfer w.next_transfer = sym g ∙ f in omega (arith, l, i)

pub family_new : (w : Up) (q : Relationship) (u : Transfer) → SoundUp w → q.destination < length w.volumes → u.number ≡ w.next_transfer → FamilyStands w q u
family_new w q u s l n vault = (λ _ y m f. next_family w y s m (f ∙ ap family_of_transfer n), λ f. absurd (next_family w (volume_at w q.destination) s (among_get_or w.volumes q.destination no_volume l) (f ∙ ap family_of_transfer n)))
