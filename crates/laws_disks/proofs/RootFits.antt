-- What a disk keeps of a formed volume is a root.
use Rattle.std.proofs.Common.{◌≡◌, ℕ, zero, suc, ◌^◌, ◌<◌, ◌≤◌, List, [], ◌∷◌, length, get_or, map, refl, sym, ap, subst, ◌∙◌, inl, inr, arith}
use Rattle.std.proofs.lemmas.List.{length-map}
use Rattle.std.specs.Prelude.{Option, Some, None, slice_get}
use Rattle.std.specs.List.{AllByRecursion}
use Rattle.sm_defs.specs.Places.{StandsAt}
use Rattle.sm_defs.specs.Words.{Among, KeysDiffer}
use Rattle.sm_defs.specs.Image.{Block, tags}
use Rattle.sm_defs.specs.Volume as defs
use Rattle.sm_defs.specs.Volume.{Volume, Snapshot, images_of, image_of}
use Rattle.sm_defs.proofs.Members.{among_map, from_map}
use Rattle.sm_fields.specs.Grammar.{IsIdentity}
use Rattle.sm_model.specs.InRange as in_range
use Rattle.sm_model.specs.Standing.{Stored}
use Rattle.sm_model.specs.Formed.{FormedVolume}
use Rattle.sm_model.specs.TagsFit.{TagsFitIn}
use Rattle.sm_root.specs.declared.root.RootSnapshot.{RootSnapshot}
use Rattle.sm_root.specs.Condition.{ident_of, map_of, IsLabel, IsSnapshot, IsRoot}
use Rattle.sm_volume.specs.Seen.{kept_snapshot, root_of}

-- the numbers that the record's fields have room for
pub record FitsFields (i : ℕ) (v : Volume) : Type 0 where
  pub number : i < 2 ^ 32
  pub family : v.family < 2 ^ 64
  pub idents : (s : Snapshot) → Among v.snapshots s → IsIdentity s.ident
  pub makers : (s : Snapshot) → Among v.snapshots s → s.maker < 2 ^ 32

is_label_of : (label : Option (List ℕ)) → in_range.IsLabel label → IsLabel label
is_label_of None is = tt
is_label_of (Some label) is = is

pub record TagAt (image : List Block) (p n : ℕ) : Type 0 where
  pub block : Block
  pub there : slice_get image p ≡ Some block
  pub tag : block.tag ≡ n

tag_at : (image : List Block) (p n : ℕ) → p < length (tags image) → get_or (tags image) p 0 ≡ n → TagAt image p n
tag_at [] p n lt here = absurd (omega arith)
tag_at (b ∷ image) zero n lt here = record { block = b; there = refl; tag = here }
tag_at (b ∷ image) (suc p) n lt here = let t = tag_at image p n (omega arith) here in record { block = t.block; there = t.there; tag = t.tag }

kept_differ_one : (s : Snapshot) (ss : List Snapshot) → AllByRecursion (λ (t : Snapshot). ¬ (defs.ident_of t ≡ defs.ident_of s)) ss → AllByRecursion (λ (t : RootSnapshot). ¬ (ident_of t ≡ ident_of (kept_snapshot s))) (map kept_snapshot ss)
kept_differ_one s [] apart = tt
kept_differ_one s (t ∷ ss) apart = (apart.0, kept_differ_one s ss apart.1)

kept_differ : (ss : List Snapshot) → KeysDiffer defs.ident_of ss → KeysDiffer ident_of (map kept_snapshot ss)
kept_differ [] apart = tt
kept_differ (s ∷ ss) apart = (kept_differ_one s ss apart.0, kept_differ ss apart.1)

module _ (i : ℕ) (v : Volume) (formed : FormedVolume v) (fits : TagsFitIn v) (fields : FitsFields i v) where
  snapshot_fits : (s : Snapshot) → Among v.snapshots s → IsSnapshot v.logical (kept_snapshot s)
  snapshot_fits s among =
      let is = formed.snapshots s among in record {
        ident = fields.idents s among;
        name = is.name;
        label = is_label_of s.label is.label;
        time = is.time;
        made = fields.makers s among;
        long = length-map s.image (λ (b : Block). b.tag) ∙ formed.long s.image (inr (inr (among_map image_of v.snapshots s among)));
      }

  each_snapshot : (r : RootSnapshot) → Among (map kept_snapshot v.snapshots) r → IsSnapshot v.logical r
  each_snapshot r among = let s = from_map kept_snapshot v.snapshots r among in subst (IsSnapshot v.logical) (sym s.2) (snapshot_fits s.0 s.1)

  the_maps : List (List ℕ)
  the_maps = tags v.stable ∷ map map_of (map kept_snapshot v.snapshots)

  image_with : (m : List ℕ) → Among the_maps m → (image : List Block) × Among (images_of v) image × (m ≡ tags image)
  unfolding the_maps
  image_with m (inl same) = (v.stable, inr (inl refl), same)
  image_with m (inr later) =
      let r = from_map map_of (map kept_snapshot v.snapshots) m later in
      let s = from_map kept_snapshot v.snapshots r.0 r.1 in
      (s.0.image, inr (inr (among_map image_of v.snapshots s.0 s.1)), r.2 ∙ ap map_of s.2)

  pub record StoredAt (number p : ℕ) : Type 0 where
    pub block : Block
    pub is : Stored v p block
    pub tag : block.tag ≡ number

  stored_at : (number p : ℕ) → StandsAt the_maps number p → StoredAt number p
  stored_at number p stands =
      let from = image_with stands.in_map stands.is_map in
      let lt : p < length (tags from.0) = subst (λ (m : List ℕ). p < length m) from.2 stands.in_range in
      let t = tag_at from.0 p number lt (subst (λ (m : List ℕ). get_or m p 0 ≡ number) from.2 stands.here) in
      record { block = t.block; is = (from.0, from.1, t.there); tag = t.tag }

  pub root_fits : IsRoot (root_of (record { 0 = i }) v)
  unfolding the_maps
  root_fits = record {
    number = fields.number;
    family = fields.family;
    some_blocks = formed.some_blocks;
    few_blocks = formed.few_blocks;
    room = formed.room;
    few_places = formed.few_places;
    counted = formed.counted;
    long = length-map v.stable (λ (b : Block). b.tag) ∙ formed.long v.stable (inr (inl refl));
    few = few_kept;
    snapshots = each_snapshot;
    at_most = λ number p stands. let s = stored_at number p stands in subst (λ (n : ℕ). n ≤ v.physical) s.tag (fits.in_range p s.block s.is);
    one_place = λ number p q nz here there.
        let s = stored_at number p here in
        let t = stored_at number q there in
        (fits.one_place p q s.block t.block s.is t.is (s.tag ∙ sym t.tag) (λ zero. nz (sym s.tag ∙ zero))).0;
    idents_differ = kept_differ v.snapshots fits.idents_differ;
  }
    where
      few_kept : length (map kept_snapshot v.snapshots) ≤ 255
      few_kept = let few = formed.few in omega (arith, length-map v.snapshots kept_snapshot, few)
