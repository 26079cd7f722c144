-- The form of volumes and policies, as the definitions speak of it.
use Rattle.std.proofs.Common.{◌≡◌, ◌↔◌, ℕ, zero, suc, ◌<◌, List, [], ◌∷◌, ◌++◌, length, get_or, take, replicate, refl, sym, ap, subst, ◌∙◌, inl, inr, arith, append-nil, append_assoc}
use Rattle.std.proofs.lemmas.List.{length-map, length-replicate}
use Rattle.sm_base.specs.declared.numbers.PolicyKind.{PolicyKind}
use Rattle.sm_base.specs.declared.numbers.PolicyKind.TheVariants.{AsyncMirror, Vault}
use Rattle.sm_defs.specs.Words.{Among}
use Rattle.sm_defs.specs.Image.{Block, Image}
use Rattle.sm_defs.specs.Volume.{images_of}
use Rattle.sm_defs.specs.Relationship.{Rule, Policy}
use Rattle.sm_defs.specs.Rules.{first_rules}
use Rattle.sm_defs.proofs.Members.{among_map, from_map, among_flat, from_flat}
use Rattle.sm_model.specs.Formed.{FormedSnapshot, FormedVolume, FormedRule, FormedPolicy, AreAdded}
use Rattle.sm_model.specs.declared.world.WorldVolume.{WorldVolume}
use Rattle.sm_shape.specs.Blank.{zeros, blank_block, blank_image, blank_snapshot, blank_volume}
use Rattle.sm_shape.specs.Marks.{one_map, maps_of}
use Rattle.sm_shape.specs.Forms.{SnapshotForm, VolumeForm, RuleAdded, AddedFrom, RulesForm, PolicyForm}
use Rattle.sm_shape.proofs.ListWords.{all_among, among_all, each_image}
use Rattle.sm_shape.proofs.TagsLemmas.{images_are, stored_stands}
use Rattle.sm_shape.proofs.PlacesLemmas.{hole_is}

pub long_zeros : length zeros ≡ 4096
unfolding zeros
long_zeros = length-replicate {A = ℕ} 4096 0

among_same : (n x y : ℕ) → Among (replicate n x) y → y ≡ x
among_same zero x y a = absurd a
among_same (suc n) x y (inl same) = same
among_same (suc n) x y (inr later) = among_same n x y later

pub zero_byte : (y : ℕ) → Among zeros y → y ≡ 0
unfolding zeros
zero_byte y a = among_same 4096 0 y a

module _ (v : WorldVolume) where
  map_long : VolumeForm v → (m : List ℕ) → Among (maps_of v) m → length m ≡ v.logical
  map_long f m (inl same) = ap (λ (x : List ℕ). length x) same ∙ f.active
  map_long f m (inr (inl same)) = ap (λ (x : List ℕ). length x) same ∙ f.stable
  map_long f m (inr (inr later)) =
      let t = from_flat one_map v.snapshots.items m later in
      let is : m ≡ t.0.map.items = elim t.2 [ inl same ↦ same | inr none ↦ absurd none ] in
      ap (λ (x : List ℕ). length x) is ∙ (all_among (SnapshotForm v.logical) v.snapshots.items f.snapshots t.0 t.1).long

  image_long : VolumeForm v → (image : Image) → Among (images_of (blank_volume v)) image → length image ≡ v.logical
  image_long f image a =
      let t = from_map blank_image (maps_of v) image (subst (λ l. Among l image) (images_are v) a) in
      ap (λ (i : Image). length i) t.2 ∙ length-map t.0 blank_block ∙ map_long f t.0 t.1

  long_map : FormedVolume (blank_volume v) → (m : List ℕ) → Among (maps_of v) m → length m ≡ v.logical
  long_map f m a =
      sym (length-map m blank_block) ∙ f.long (blank_image m) (subst (λ l. Among l (blank_image m)) (sym (images_are v)) (among_map blank_image (maps_of v) m a))

  pub volume_formed : VolumeForm v ↔ FormedVolume (blank_volume v)
  volume_formed = (
    λ f. record {
      path = f.path;
      disk = f.disk;
      long = image_long f;
      whole = λ p b st. ap (λ (x : Block). length x.bytes) (stored_stands v p b st).is ∙ long_zeros;
      bytes = λ p b st byte a.
          let zero_is = zero_byte byte (subst (λ (x : Block). Among x.bytes byte) (stored_stands v p b st).is a) in
          omega (arith, zero_is);
      holes = λ p b st none. (stored_stands v p b st).is ∙ ap blank_block none ∙ sym hole_is;
      some_blocks = f.sizes.some_blocks;
      few_blocks = f.sizes.few_blocks;
      room = f.sizes.room;
      few_places = f.sizes.few_places;
      few = omega (arith, f.few, length-map v.snapshots.items blank_snapshot);
      counted = (f.counts, f.counted);
      snapshots = each_image blank_snapshot FormedSnapshot v.snapshots.items (λ s a. (all_among (SnapshotForm v.logical) v.snapshots.items f.snapshots s a).formed);
    },
    λ f. record {
      path = f.path;
      disk = f.disk;
      sizes = record { some_blocks = f.some_blocks; few_blocks = f.few_blocks; room = f.room; few_places = f.few_places };
      active = long_map f v.active.items (inl refl);
      stable = long_map f v.stable.items (inr (inl refl));
      few = omega (arith, f.few, length-map v.snapshots.items blank_snapshot);
      counts = f.counted.0;
      counted = f.counted.1;
      snapshots = among_all (SnapshotForm v.logical) v.snapshots.items (λ s a. record {
        formed = f.snapshots (blank_snapshot s) (among_map blank_snapshot v.snapshots.items s a);
        long = long_map f s.map.items (inr (inr (among_flat one_map v.snapshots.items s s.map.items a (inl refl))));
      });
    },
  )

-- rules that are added one after the other
abbrev AddedBehind : PolicyKind → List Rule → List Rule → Type 0
AddedBehind kind before rs = (k : ℕ) (d : Rule) → k < length rs → RuleAdded kind (before ++ take k rs) (get_or rs k d)

added : (kind : PolicyKind) (before rs : List Rule) → AddedBehind kind before rs → AreAdded kind before rs
added kind before [] f = tt
added kind before (r ∷ rs) f =
    let first : RuleAdded kind before r = subst (λ l. RuleAdded kind l r) (append-nil before) (f 0 r (omega arith)) in (
      first.right,
      first.keep,
      first.new,
      added kind (before ++ r ∷ []) rs (λ k d lt. subst (λ l. RuleAdded kind l (get_or rs k d)) (sym (append_assoc before (r ∷ []) (take k rs))) (f (suc k) d (omega arith))),
    )

to_added : (kind : PolicyKind) (before rs : List Rule) → AreAdded kind before rs → AddedBehind kind before rs
to_added kind before [] h k d lt = absurd (omega arith)
to_added kind before (r ∷ rs) h zero d lt = subst (λ l. RuleAdded kind l r) (sym (append-nil before)) (record { right = h.0; keep = h.1; new = h.2 })
to_added kind before (r ∷ rs) h (suc k) d lt = subst (λ l. RuleAdded kind l (get_or rs k d)) (append_assoc before (r ∷ []) (take k rs)) (to_added kind (before ++ r ∷ []) rs h.3 k d (omega arith))

abbrev AreAllAdded : PolicyKind → List Rule → Type 0
AreAllAdded kind rules = (more : List Rule) × (rules ≡ first_rules kind ++ more) × AreAdded kind (first_rules kind) more

mirror_added : (rules : List Rule) → RulesForm AsyncMirror rules → AreAllAdded AsyncMirror rules
mirror_added [] f = absurd f.0
mirror_added (r ∷ rs) f =
    (rs, ap (λ l. l ++ rs) (sym f.0), subst (λ l. AreAdded AsyncMirror l rs) (sym f.0) (added AsyncMirror (r ∷ []) rs (λ k d lt. f.1 (suc k) d (omega arith) (omega arith))))

from_mirror : (rules more : List Rule) → rules ≡ first_rules AsyncMirror ++ more → AreAdded AsyncMirror (first_rules AsyncMirror) more → RulesForm AsyncMirror rules
from_mirror rules more e h = subst (RulesForm AsyncMirror) (sym e) (refl, places)
  where
    places : AddedFrom AsyncMirror 1 (first_rules AsyncMirror ++ more)
    places zero d lt from = absurd (omega arith)
    places (suc k) d lt from = to_added AsyncMirror (first_rules AsyncMirror) more h k d (omega arith)

all_added : (kind : PolicyKind) (rules : List Rule) → RulesForm kind rules → AreAllAdded kind rules
all_added AsyncMirror rules f = mirror_added rules f
all_added Vault rules f = (rules, refl, added Vault [] rules (λ k d lt. f k d lt (omega arith)))

rules_form : (kind : PolicyKind) (rules : List Rule) → AreAllAdded kind rules → RulesForm kind rules
rules_form AsyncMirror rules h = from_mirror rules h.0 h.1 h.2
rules_form Vault rules h = subst (RulesForm Vault) (sym h.1) (λ k d lt from. to_added Vault [] h.0 h.2 k d lt)

pub policy_formed : (p : Policy) → PolicyForm p ↔ FormedPolicy p
policy_formed p = (
  λ f. record { name = f.name; added = all_added p.kind p.rules f.added; rules = all_among FormedRule p.rules f.rules; few = f.few },
  λ f. record { name = f.name; few = f.few; rules = among_all FormedRule p.rules f.rules; added = rules_form p.kind p.rules f.added },
)
