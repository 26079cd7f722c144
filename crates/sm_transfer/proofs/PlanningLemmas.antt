-- What a volume's root and its free numbers say of a leg's plan.
use Rattle.std.proofs.Common.{◌≡◌, ℕ, zero, suc, ◌<◌, ◌≤◌, Bool, true, false, not, cond, List, [], ◌∷◌, ◌++◌, length, map, replicate, Option, Some, None, refl, sym, ◌∙◌, ap, subst, arith}
use Rattle.std.specs.Prelude.{nat_lt, option_map, slice_index}
use Rattle.std.specs.List.{find, flat_map}
use Rattle.std.proofs.lemmas.Bool.Decides.{nat_tests}
use Rattle.std.proofs.lemmas.List.{length-replicate}
use Rattle.sm_base.specs.declared.numbers.Ident.{Ident}
use Rattle.sm_base.specs.declared.numbers.VolNo.{VolNo}
use Rattle.sm_base.specs.declared.refusal.Reason.TheVariants as reasons
use Rattle.sm_bits.specs.Places.{size}
use Rattle.sm_defs.specs.Words.{same_ident}
use Rattle.sm_defs.specs.Image.{Image, stands, tags, distinct}
use Rattle.sm_defs.specs.Volume.{Volume, Snapshot, images_of, used, free, free_tags}
use Rattle.sm_defs.proofs.Searches.{find_is}
use Rattle.sm_root.specs.declared.root.Root.{Root}
use Rattle.sm_root.specs.declared.root.RootSnapshot.{RootSnapshot}
use Rattle.sm_root.specs.Condition.{IsRoot}
use Rattle.sm_select.specs.Planned.{members}
use Rattle.sm_select.specs.PlanLaws.{HasTags}
use Rattle.sm_select.proofs.PlanLemmas.{free_is}
use Rattle.sm_model.specs.Steps.{snapshot_of, image_or_none}
use Rattle.volume_store.specs.Maps.{AreMapsOf, AreFree}
use Rattle.volume_store.proofs.Used.{used_and_free}
use Rattle.sm_volume.specs.Numbers.{AreFreeOn}
use Rattle.sm_volume.specs.Seen.{kept_snapshot, root_of}
use Rattle.sm_volume.proofs.SeenLemmas.{in_maps}
use Rattle.sm_transfer.specs.Beginning.{found_in, numbers_or_holes, base_numbers, room_reason}

-- ---- snapshots of a root

pub find_kept : (i : Ident) (ss : List Snapshot) → find (λ (t : RootSnapshot). same_ident t.ident i) (map kept_snapshot ss) ≡ option_map kept_snapshot (find (λ (t : Snapshot). same_ident t.ident i) ss)
find_kept i [] = refl
find_kept i (s ∷ ss) = by (same_ident s.ident i) (find_kept i ss)
  where
    by : (b : Bool) → find (λ (t : RootSnapshot). same_ident t.ident i) (map kept_snapshot ss) ≡ option_map kept_snapshot (find (λ (t : Snapshot). same_ident t.ident i) ss)
        → cond b (Some (kept_snapshot s)) (find (λ (t : RootSnapshot). same_ident t.ident i) (map kept_snapshot ss)) ≡ option_map kept_snapshot (cond b (Some s) (find (λ (t : Snapshot). same_ident t.ident i) ss))
    by true e = refl
    by false e = e

found_kept : (ss : List Snapshot) (base : Option Ident) → found_in (map kept_snapshot ss) base ≡ option_map kept_snapshot (snapshot_of ss base)
found_kept ss None = refl
found_kept ss (Some i) = find_kept i ss

no_number : (n place : ℕ) → slice_index (replicate n 0) place ≡ 0
no_number zero place = refl
no_number (suc n) zero = refl
no_number (suc n) (suc place) = no_number n place

tags_or_holes : (logical : ℕ) (o : Option Snapshot) → HasTags (numbers_or_holes logical (option_map kept_snapshot o)) (image_or_none o)
tags_or_holes logical None = λ place. no_number logical place
tags_or_holes logical (Some s) = λ place. refl

-- the root's numbers of the base are those of its image
pub base_tags : (number : VolNo) (v : Volume) (base : Option Ident) → HasTags (base_numbers (root_of number v) base) (image_or_none (snapshot_of v.snapshots base))
base_tags number v base = subst (λ (o : Option RootSnapshot). HasTags (numbers_or_holes v.logical o) (image_or_none (snapshot_of v.snapshots base))) (sym (found_kept v.snapshots base)) (tags_or_holes v.logical (snapshot_of v.snapshots base))

long_or_holes : (root : Root) (o : Option RootSnapshot) → ((s : RootSnapshot) → o ≡ Some s → length s.map ≡ root.logical) → length (numbers_or_holes root.logical o) ≡ root.logical
long_or_holes root None each = length-replicate root.logical 0
long_or_holes root (Some s) each = each s refl

long_found : (root : Root) (base : Option Ident) → IsRoot root → (s : RootSnapshot) → found_in root.snapshots base ≡ Some s → length s.map ≡ root.logical
long_found root None is s e = absurd (cc)
long_found root (Some i) is s e = (is.snapshots s (find_is (λ (t : RootSnapshot). same_ident t.ident i) root.snapshots s e).0).long

pub base_long : (root : Root) (base : Option Ident) → IsRoot root → length (base_numbers root base) ≡ root.logical
base_long root base is = long_or_holes root (found_in root.snapshots base) (long_found root base is)

-- ---- free numbers

pub flat_tags : (images : List Image) → flat_map tags images ≡ flat_map (λ (numbers : List ℕ). numbers) (map tags images)
flat_tags [] = refl
flat_tags (image ∷ images) = ap (λ ts. tags image ++ ts) (flat_tags images)

pub free_members : (space : List Bool) (v : Volume) → AreFreeOn space v → members space ≡ free_tags v
free_members space v are = free_is space v are.long are.hole are.each

pub free_size : (space : List Bool) (v : Volume) → AreMapsOf v.logical v.physical (map tags (images_of v)) → AreFreeOn space v → size space ≡ free v
free_size space v maps are =
    let all = used_and_free v.logical v.physical (map tags (images_of v)) space maps on_maps in
    let same : distinct (flat_map (λ (numbers : List ℕ). numbers) (map tags (images_of v))) ≡ used v = ap distinct (sym (flat_tags (images_of v))) in
    omega (arith, all, same)
  where
    on_maps : AreFree space v.physical (map tags (images_of v))
    on_maps = record {
      long = are.long;
      hole = are.hole;
      each = λ n one within. are.each n one within ∙ ap not (ap (stands n) (flat_tags (images_of v)) ∙ in_maps n (map tags (images_of v)));
    }

-- ---- why there is no room

pub room_enough : (need left : ℕ) → need ≤ left → room_reason need left ≡ None
room_enough need left le = let a : nat_lt left need ≡ false = grind (arith, nat_tests) in rw a refl

pub room_lacking : (need left : ℕ) → left < need → room_reason need left ≡ Some (reasons.NoSpace need left)
room_lacking need left less = let a : nat_lt left need ≡ true = grind (arith, nat_tests) in rw a refl
