-- The plans, in the words of images and volumes.
use Rattle.std.proofs.Common.{◌≡◌, ℕ, zero, suc, ◌+◌, ◌<◌, ◌≤◌, Bool, true, false, cond, not, List, [], ◌∷◌, length, take, map, refl, sym, ◌∙◌, ap, ap₂, subst, arith}
use Rattle.std.specs.Prelude.{slice_index, ◌==◌, ◌&&◌}
use Rattle.std.specs.List.{filter, All}
use Rattle.std.proofs.lemmas.List.{length-map}
use Rattle.std.proofs.lemmas.List.Elements.{All-head, All-tail}
use Rattle.sm_bits.specs.Places.{has}
use Rattle.sm_defs.specs.Image.{Image, stands, tags, hole}
use Rattle.sm_defs.specs.Volume.{Volume, Snapshot, tags_of, free_tags, numbers}
use Rattle.sm_defs.specs.Missing.{Bases, is_missing_tag, ascending, is_missing_at, first_tag, first_block, first_number, rest, missing_from, landed_from, vault_cost, missing_places, moved}
use Rattle.sm_select.specs.Planned.{Planned, members, members_from, is_lacking, lacking, vault_plan, paired, arranged, kept_number, missing_count, twice}
use Rattle.sm_select.specs.PlanLaws.{HasNumbersOf, HasTags, IsMirrorPlan, IsVaultPlan, MirrorPlans, VaultPlans, number_at, from_number, to_number}

-- ---- mirrors

-- what is lacking of numbers that are places of the set
lacking_is : (have : List Bool) (destination : List Snapshot) → HasNumbersOf have destination → (ts : List ℕ) → All (λ t. t < length have) ts → lacking have ts ≡ filter (is_missing_tag destination) ts
lacking_is have destination are [] within = refl
lacking_is have destination are (t ∷ ts) within =
    rw (same t (All-head (λ u. u < length have) t ts within)) (ap (λ us. cond (is_missing_tag destination t) (t ∷ us) us) (lacking_is have destination are ts (All-tail (λ u. u < length have) t ts within)))
  where
    same : (u : ℕ) → u < length have → is_lacking have u ≡ is_missing_tag destination u
    same zero less = refl
    same (suc u) less = ap (λ b. not (suc u == 0) && not b) (are (suc u) (omega arith) less)

pub mirror_plans : MirrorPlans
mirror_plans leg have destination within are = record {
  missing = ap (λ ns. map twice (ascending ns)) same;
  lands = refl;
  cost = length-map (ascending (lacking have (tags leg))) twice ∙ ap (λ ns. length (ascending ns)) same;
}
  where
    same : lacking have (tags leg) ≡ filter (is_missing_tag destination) (tags leg)
    same = lacking_is have destination are (tags leg) within

-- what is told of the numbers alone
pub mirror_planned : (have : List Bool) (target : List ℕ) (pairs : List (ℕ × ℕ)) (arrived : List ℕ) → pairs ≡ map twice (ascending (lacking have target)) → arrived ≡ target → All (λ t. t < length have) target
    → (leg : Image) (there : List Snapshot) → tags leg ≡ target → HasNumbersOf have there → IsMirrorPlan leg there (record { pairs = pairs; map = arrived })
mirror_planned have target pairs arrived paired lands within leg there same are =
    let plan = mirror_plans leg have there (subst (All (λ t. t < length have)) (sym same) within) are in
    let e : pairs ≡ map twice (ascending (lacking have (tags leg))) = paired ∙ ap (λ ts. map twice (ascending (lacking have ts))) (sym same) in record {
      missing = e ∙ plan.missing;
      lands = lands ∙ sym same;
      cost = ap length e ∙ plan.cost;
    }

-- ---- vaults

first_place : (ns : List ℕ) → first_number ns ≡ slice_index ns 0
first_place [] = refl
first_place (n ∷ ns) = refl

first_of_tags : (b : Image) → slice_index (tags b) 0 ≡ first_tag b
first_of_tags [] = refl
first_of_tags (x ∷ xs) = refl

first_of_blocks : (b : Image) → slice_index (tags b) 0 ≡ (first_block b).tag
unfolding hole
first_of_blocks [] = refl
first_of_blocks (x ∷ xs) = refl

first_is : (ns : List ℕ) (b : Image) → HasTags ns b → first_number ns ≡ first_tag b
first_is ns b are = first_place ns ∙ are 0 ∙ first_of_tags b

first_there : (ns : List ℕ) (b : Image) → HasTags ns b → first_number ns ≡ (first_block b).tag
first_there ns b are = first_place ns ∙ are 0 ∙ first_of_blocks b

rest_has : (ns : List ℕ) (b : Image) → HasTags ns b → HasTags (rest ns) (rest b)
rest_has ns b are place = of_numbers ns ∙ are (suc place) ∙ sym (of_tags b)
  where
    of_numbers : (ns : List ℕ) → slice_index (rest ns) place ≡ slice_index ns (suc place)
    of_numbers [] = refl
    of_numbers (n ∷ ns) = refl

    of_tags : (b : Image) → slice_index (tags (rest b)) place ≡ slice_index (tags b) (suc place)
    of_tags [] = refl
    of_tags (x ∷ xs) = refl

kept_is : (t : ℕ) (ns : List ℕ) (d : Image) → HasTags ns d → kept_number t (first_number ns) ≡ (cond (t == 0) hole (first_block d)).tag
unfolding hole
kept_is t ns d are = by (t == 0)
  where
    by : (b : Bool) → cond b 0 (first_number ns) ≡ (cond b hole (first_block d)).tag
    by true = refl
    by false = first_there ns d are

arranged_is : (leg : Image) (ss : List ℕ) (source : Image) (ds : List ℕ) (destination : Image) (free : List ℕ) → HasTags ss source → HasTags ds destination
    → arranged (tags leg) ss ds free ≡ tags (landed_from leg source destination free)
arranged_is [] ss source ds destination free from there = refl
arranged_is (b ∷ bs) ss source ds destination free from there =
    rw (first_is ss source from)
    (by (is_missing_at b.tag (first_tag source))
    (arranged_is bs (rest ss) (rest source) (rest ds) (rest destination) (rest free) (rest_has ss source from) (rest_has ds destination there))
    (arranged_is bs (rest ss) (rest source) (rest ds) (rest destination) free (rest_has ss source from) (rest_has ds destination there)))
  where
    by : (m : Bool)
        → arranged (tags bs) (rest ss) (rest ds) (rest free) ≡ tags (landed_from bs (rest source) (rest destination) (rest free))
        → arranged (tags bs) (rest ss) (rest ds) free ≡ tags (landed_from bs (rest source) (rest destination) free)
        → cond m (first_number free ∷ arranged (tags bs) (rest ss) (rest ds) (rest free)) (kept_number b.tag (first_number ds) ∷ arranged (tags bs) (rest ss) (rest ds) free)
        ≡ tags (cond m (moved b (first_number free) ∷ landed_from bs (rest source) (rest destination) (rest free)) (cond (b.tag == 0) hole (first_block destination) ∷ landed_from bs (rest source) (rest destination) free))
    by true taken same = ap (λ ns. first_number free ∷ ns) taken
    by false taken same = ap₂ (λ n ns. n ∷ ns) (kept_is b.tag ds destination there) same

count_is : (at : ℕ) (leg : Image) (ss : List ℕ) (source : Image) → HasTags ss source → missing_count (tags leg) ss ≡ length (missing_from at leg source)
count_is at [] ss source from = refl
count_is at (b ∷ bs) ss source from = rw (first_is ss source from) (by (is_missing_at b.tag (first_tag source)) (count_is (suc at) bs (rest ss) (rest source) (rest_has ss source from)))
  where
    by : (m : Bool) → missing_count (tags bs) (rest ss) ≡ length (missing_from (suc at) bs (rest source))
        → cond m 1 0 + missing_count (tags bs) (rest ss) ≡ length (cond m (at ∷ missing_from (suc at) bs (rest source)) (missing_from (suc at) bs (rest source)))
    by true h = omega (arith, h)
    by false h = omega (arith, h)

from_is : (f : ℕ → ℕ) (at : ℕ) (leg : Image) (ss : List ℕ) (source : Image) (free : List ℕ) → HasTags ss source → ((i : ℕ) → i < length leg → f (at + i) ≡ slice_index (tags leg) i)
    → map from_number (paired (tags leg) ss free) ≡ map f (missing_from at leg source)
from_is f at [] ss source free from same = refl
from_is f at (b ∷ bs) ss source free from same =
    rw (first_is ss source from)
    (by (is_missing_at b.tag (first_tag source)) (from_is f (suc at) bs (rest ss) (rest source) (rest free) (rest_has ss source from) there) (from_is f (suc at) bs (rest ss) (rest source) free (rest_has ss source from) there))
  where
    here : f at ≡ b.tag
    here = ap f (let e : at ≡ at + 0 = omega arith in e) ∙ same 0 (omega arith)

    there : (i : ℕ) → i < length bs → f (suc at + i) ≡ slice_index (tags bs) i
    there i less = ap f (let e : suc at + i ≡ at + suc i = omega arith in e) ∙ same (suc i) (omega arith)

    by : (m : Bool)
        → map from_number (paired (tags bs) (rest ss) (rest free)) ≡ map f (missing_from (suc at) bs (rest source))
        → map from_number (paired (tags bs) (rest ss) free) ≡ map f (missing_from (suc at) bs (rest source))
        → map from_number (cond m ((b.tag, first_number free) ∷ paired (tags bs) (rest ss) (rest free)) (paired (tags bs) (rest ss) free))
        ≡ map f (cond m (at ∷ missing_from (suc at) bs (rest source)) (missing_from (suc at) bs (rest source)))
    by true taken same = ap₂ (λ n ns. n ∷ ns) (sym here) taken
    by false taken same = same

to_is : (ts source free : List ℕ) → missing_count ts source ≤ length free → map to_number (paired ts source free) ≡ take (missing_count ts source) free
to_is [] source free le = refl
to_is (t ∷ ts) source free le = by (is_missing_at t (first_number source)) free le (λ g. to_is ts (rest source) g)
  where
    by : (m : Bool) (free : List ℕ) → cond m 1 0 + missing_count ts (rest source) ≤ length free
        → ((g : List ℕ) → missing_count ts (rest source) ≤ length g → map to_number (paired ts (rest source) g) ≡ take (missing_count ts (rest source)) g)
        → map to_number (cond m ((t, first_number free) ∷ paired ts (rest source) (rest free)) (paired ts (rest source) free)) ≡ take (cond m 1 0 + missing_count ts (rest source)) free
    by true [] le h = absurd (omega (arith, le))
    by true (f ∷ fs) le h =
        ap (λ ns. f ∷ ns) (h fs (omega (arith, le)))
        ∙ ap (λ (n : ℕ). take n (f ∷ fs)) (let e : suc (missing_count ts (rest source)) ≡ 1 + missing_count ts (rest source) = omega arith in e)
    by false free le h = h free (omega (arith, le)) ∙ ap (λ (n : ℕ). take n free) (let e : missing_count ts (rest source) ≡ 0 + missing_count ts (rest source) = omega arith in e)

pub vault_plans : VaultPlans
vault_plans leg bases source destination free from there =
    let count = count_is 0 leg source bases.at_source from in
    let sent = from_is (number_at leg) 0 leg source bases.at_source free from (λ i less. ap (number_at leg) (let e : 0 + i ≡ i = omega arith in e)) in (
      record {
        from = sent;
        to = λ enough. to_is (tags leg) source free (omega (arith, count, enough)) ∙ ap (λ (n : ℕ). take n free) count;
        lands = arranged_is leg source bases.at_source destination bases.at_destination free from there;
        cost = sym (length-map (paired (tags leg) source free) from_number) ∙ ap length sent ∙ length-map (missing_places leg bases) (number_at leg);
      },
      count,
    )

-- what is told of the numbers alone
pub cost_of : (target source : List ℕ) (leg : Image) (bases : Bases) → tags leg ≡ target → HasTags source bases.at_source → missing_count target source ≡ vault_cost leg bases
cost_of target source leg bases same from = ap (λ ts. missing_count ts source) (sym same) ∙ count_is 0 leg source bases.at_source from

pub vault_planned : (target source destination free : List ℕ) (plan : Planned) → plan ≡ vault_plan target source destination free → (leg : Image) (bases : Bases) (v : Volume) → tags leg ≡ target
    → HasTags source bases.at_source → HasTags destination bases.at_destination → free ≡ free_tags v → IsVaultPlan leg bases (free_tags v) plan
vault_planned target source destination free plan is leg bases v same from there left =
    subst (IsVaultPlan leg bases (free_tags v)) (sym (is ∙ ap₂ (λ ts fs. vault_plan ts source destination fs) (sym same) left)) (vault_plans leg bases source destination (free_tags v) from there).0

-- ---- the free numbers of a volume

members_are : (p : ℕ → Bool) (k : ℕ) (bs : List Bool) → ((i : ℕ) → i < length bs → has bs i ≡ p (k + i)) → members_from k bs ≡ filter p (numbers k (length bs))
members_are p k [] same = refl
members_are p k (b ∷ bs) same = rw (here) (ap (λ ns. cond (p k) (k ∷ ns) ns) (members_are p (suc k) bs there))
  where
    here : b ≡ p k
    here = same 0 (omega arith) ∙ ap p (let e : k + 0 ≡ k = omega arith in e)

    there : (i : ℕ) → i < length bs → has bs i ≡ p (suc k + i)
    there i less = same (suc i) (omega arith) ∙ ap p (let e : k + suc i ≡ suc k + i = omega arith in e)

-- the members of a set that has the numbers that no image of the volume uses, and not the hole
pub free_is : (space : List Bool) (v : Volume) → length space ≡ v.physical + 1 → has space 0 ≡ false → ((n : ℕ) → 1 ≤ n → n ≤ v.physical → has space n ≡ not (stands n (tags_of v)))
    → members space ≡ free_tags v
free_is [] v long none each = absurd (omega (arith, long))
free_is (b ∷ bs) v long none each =
    let e : length bs ≡ v.physical = omega (arith, long) in
    let first : b ≡ false = none in
    rw first (members_are (λ t. not (stands t (tags_of v))) 1 bs
    (λ i less. ap (has (b ∷ bs)) (let f : suc i ≡ 1 + i = omega arith in f) ∙ each (1 + i) (omega arith) (omega arith))
    ∙ ap (λ n. filter (λ t. not (stands t (tags_of v))) (numbers 1 n)) e)
