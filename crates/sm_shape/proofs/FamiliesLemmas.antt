-- Copies of the world of maps, as the definitions speak of them.
use Rattle.std.proofs.Common.{◌≡◌, ℕ, List, [], ◌∷◌, map, refl, sym, ap, ap₂, subst, ◌∙◌, inl, inr}
use Rattle.std.specs.List.{flat_map}
use Rattle.sm_base.specs.declared.numbers.Ident.{Ident}
use Rattle.sm_defs.specs.Words.{Among}
use Rattle.sm_defs.specs.Image.{tags}
use Rattle.sm_defs.specs.Volume.{Volume, Snapshot}
use Rattle.sm_model.specs.Standing.{Stands}
use Rattle.sm_model.specs.FamiliesAgree.{FamiliesAgree}
use Rattle.sm_model.specs.declared.world.World.{World}
use Rattle.sm_model.specs.declared.world.WorldVolume.{WorldVolume}
use Rattle.sm_model.specs.declared.world.WorldSnapshot.{WorldSnapshot}
use Rattle.sm_shape.specs.declared.families.CopyKey.{CopyKey}
use Rattle.sm_shape.specs.Blank.{blank, blank_volume, blank_snapshot, blank_image}
use Rattle.sm_shape.specs.Copies.{Equal, copies_of, one_copy, copy_of, Alike, named_copy, one_named, named_of}
use Rattle.sm_shape.specs.Firsts.{Item, Agree}
use Rattle.sm_shape.specs.Shape.{IsNamedCopy, CopiesNamed}
use Rattle.sm_defs.proofs.Members.{among_map, from_map, among_flat, from_flat}

pub tags_blank : (ns : List ℕ) → tags (blank_image ns) ≡ ns
tags_blank [] = refl
tags_blank (n ∷ ns) = ap (λ l. n ∷ l) (tags_blank ns)

-- a snapshot of the world of maps, where it stands
pub record Standing (vs : List WorldVolume) (v : Volume) (s : Snapshot) : Type 0 where
  pub volume : WorldVolume
  pub among : Among vs volume
  pub snapshot : WorldSnapshot
  pub inside : Among volume.snapshots.items snapshot
  pub volume_is : v ≡ blank_volume volume
  pub snapshot_is : s ≡ blank_snapshot snapshot

pub stands_from : (vs : List WorldVolume) (v : Volume) (s : Snapshot) → Among (map blank_volume vs) v → Among v.snapshots s → Standing vs v s
stands_from vs v s a b =
    let f = from_map blank_volume vs v a in
    let inside : Among (blank_volume f.0).snapshots s = subst (λ (x : Volume). Among x.snapshots s) f.2 b in
    let g = from_map blank_snapshot f.0.snapshots.items s inside in
    record { volume = f.0; among = f.1; snapshot = g.0; inside = g.1; volume_is = f.2; snapshot_is = g.2 }

abbrev key_of : ℕ → Ident → CopyKey
key_of family ident = record { family = family; ident = ident }

record IsCopyIn (vs : List WorldVolume) (x : Item CopyKey (List ℕ)) : Type 0 where
  volume : WorldVolume
  among : Among vs volume
  snapshot : WorldSnapshot
  inside : Among volume.snapshots.items snapshot
  is : x ≡ copy_of volume.family snapshot

came : (vs : List WorldVolume) (x : Item CopyKey (List ℕ)) → Among (flat_map copies_of vs) x → IsCopyIn vs x
came vs x a =
    let p = from_flat copies_of vs x a in
    let q = from_flat (one_copy p.0.family) p.0.snapshots.items x p.2 in
    record { volume = p.0; among = p.1; snapshot = q.0; inside = q.1; is = elim q.2 [ inl same ↦ same | inr none ↦ absurd none ] }

copy_among : (vs : List WorldVolume) (v : WorldVolume) (s : WorldSnapshot) → Among vs v → Among v.snapshots.items s → Among (flat_map copies_of vs) (copy_of v.family s)
copy_among vs v s a b = among_flat copies_of vs v (copy_of v.family s) a (among_flat (one_copy v.family) v.snapshots.items s (copy_of v.family s) b (inl refl))

pub families_agree_of : (w : World) → Agree CopyKey (List ℕ) Equal (flat_map copies_of w.volumes.items) → FamiliesAgree (blank w)
families_agree_of w agree v u s t vs ut family ident =
    let x = stands_from w.volumes.items v s vs.0 vs.1 in
    let y = stands_from w.volumes.items u t ut.0 ut.1 in
    let f : x.volume.family ≡ y.volume.family = ap (λ (z : Volume). z.family) (sym x.volume_is) ∙ family ∙ ap (λ (z : Volume). z.family) y.volume_is in
    let i : x.snapshot.ident ≡ y.snapshot.ident = ap (λ (z : Snapshot). z.ident) (sym x.snapshot_is) ∙ ident ∙ ap (λ (z : Snapshot). z.ident) y.snapshot_is in
    let equal = agree (copy_of x.volume.family x.snapshot) (copy_of y.volume.family y.snapshot) (copy_among _ x.volume x.snapshot x.among x.inside) (copy_among _ y.volume y.snapshot y.among y.inside) (keys f i) in
    ap (λ (z : Snapshot). tags z.image) x.snapshot_is ∙ tags_blank x.snapshot.map.items ∙ equal ∙ sym (tags_blank y.snapshot.map.items) ∙ ap (λ (z : Snapshot). tags z.image) (sym y.snapshot_is)
  where
    keys : {f g : ℕ} {i j : Ident} → f ≡ g → i ≡ j → key_of f i ≡ key_of g j
    keys e h = ap₂ key_of e h

pub of_families_agree : (w : World) → FamiliesAgree (blank w) → Agree CopyKey (List ℕ) Equal (flat_map copies_of w.volumes.items)
of_families_agree w agree x y a b same =
    let p = came w.volumes.items x a in
    let q = came w.volumes.items y b in
    let family : p.volume.family ≡ q.volume.family = ap (λ (c : Item CopyKey (List ℕ)). c.key.family) (sym p.is) ∙ ap (λ (k : CopyKey). k.family) same ∙ ap (λ (c : Item CopyKey (List ℕ)). c.key.family) q.is in
    let ident : p.snapshot.ident ≡ q.snapshot.ident = ap (λ (c : Item CopyKey (List ℕ)). c.key.ident) (sym p.is) ∙ ap (λ (k : CopyKey). k.ident) same ∙ ap (λ (c : Item CopyKey (List ℕ)). c.key.ident) q.is in
    let equal = agree (blank_volume p.volume) (blank_volume q.volume) (blank_snapshot p.snapshot) (blank_snapshot q.snapshot) (stands p) (stands q) family ident in
    ap (λ (c : Item CopyKey (List ℕ)). c.value) p.is ∙ sym (tags_blank p.snapshot.map.items) ∙ equal ∙ tags_blank q.snapshot.map.items ∙ ap (λ (c : Item CopyKey (List ℕ)). c.value) (sym q.is)
  where
    stands : {x : Item CopyKey (List ℕ)} (p : IsCopyIn w.volumes.items x) → Stands (blank w) (blank_volume p.volume) (blank_snapshot p.snapshot)
    stands p = (among_map blank_volume w.volumes.items p.volume p.among, among_map blank_snapshot p.volume.snapshots.items p.snapshot p.inside)

-- ---- by what is told of them

record IsNamedIn (vs : List WorldVolume) (x : Item Ident WorldSnapshot) : Type 0 where
  volume : WorldVolume
  among : Among vs volume
  snapshot : WorldSnapshot
  inside : Among volume.snapshots.items snapshot
  is : x ≡ named_copy snapshot

named_in : (vs : List WorldVolume) (x : Item Ident WorldSnapshot) → Among (flat_map named_of vs) x → IsNamedIn vs x
named_in vs x a =
    let p = from_flat named_of vs x a in
    let q = from_flat one_named p.0.snapshots.items x p.2 in
    record { volume = p.0; among = p.1; snapshot = q.0; inside = q.1; is = elim q.2 [ inl same ↦ same | inr none ↦ absurd none ] }

named_among : (vs : List WorldVolume) (v : WorldVolume) (s : WorldSnapshot) → Among vs v → Among v.snapshots.items s → Among (flat_map named_of vs) (named_copy s)
named_among vs v s a b = among_flat named_of vs v (named_copy s) a (among_flat one_named v.snapshots.items s (named_copy s) b (inl refl))

pub copies_named_of : (w : World) → Agree Ident WorldSnapshot Alike (flat_map named_of w.volumes.items) → CopiesNamed (blank w)
copies_named_of w agree v u s t vs ut ident =
    let x = stands_from w.volumes.items v s vs.0 vs.1 in
    let y = stands_from w.volumes.items u t ut.0 ut.1 in
    let i : x.snapshot.ident ≡ y.snapshot.ident = ap (λ (z : Snapshot). z.ident) (sym x.snapshot_is) ∙ ident ∙ ap (λ (z : Snapshot). z.ident) y.snapshot_is in
    let alike = agree (named_copy x.snapshot) (named_copy y.snapshot) (named_among _ x.volume x.snapshot x.among x.inside) (named_among _ y.volume y.snapshot y.among y.inside) i in
    subst (λ z. IsNamedCopy z t) (sym x.snapshot_is) (subst (IsNamedCopy (blank_snapshot x.snapshot)) (sym y.snapshot_is) alike)

pub of_copies_named : (w : World) → CopiesNamed (blank w) → Agree Ident WorldSnapshot Alike (flat_map named_of w.volumes.items)
of_copies_named w named x y a b same =
    let p = named_in w.volumes.items x a in
    let q = named_in w.volumes.items y b in
    let ident : p.snapshot.ident ≡ q.snapshot.ident = ap (λ (c : Item Ident WorldSnapshot). c.key) (sym p.is) ∙ same ∙ ap (λ (c : Item Ident WorldSnapshot). c.key) q.is in
    let alike = named (blank_volume p.volume) (blank_volume q.volume) (blank_snapshot p.snapshot) (blank_snapshot q.snapshot) (stands p) (stands q) ident in
    subst (λ (c : Item Ident WorldSnapshot). Alike c.value y.value) (sym p.is) (subst (λ (c : Item Ident WorldSnapshot). Alike p.snapshot c.value) (sym q.is) alike)
  where
    stands : {x : Item Ident WorldSnapshot} (p : IsNamedIn w.volumes.items x) → Stands (blank w) (blank_volume p.volume) (blank_snapshot p.snapshot)
    stands p = (among_map blank_volume w.volumes.items p.volume p.among, among_map blank_snapshot p.volume.snapshots.items p.snapshot p.inside)
