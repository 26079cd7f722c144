-- A world is formed where its volumes, policies and relationships are, each beside those before it.
use Rattle.std.proofs.Common.{◌≡◌, ℕ, ◌<◌, List, [], ◌∷◌, length, get_or, take, map, subst, arith}
use Rattle.std.proofs.lemmas.List.{length-map}
use Rattle.sm_defs.specs.Words.{Among, KeysDiffer}
use Rattle.sm_defs.specs.Relationship.{Policy, Relationship}
use Rattle.sm_defs.proofs.Members.{among_get_or, among_map, each_among, among_each}
use Rattle.sm_model.specs.Formed.{Formed, FormedVolume, FormedPolicy, FormedRelation, path_of, disk_of, policy_name, NumbersAscend}
use Rattle.sm_model.specs.declared.world.World.{World}
use Rattle.sm_model.specs.declared.world.WorldVolume.{WorldVolume}
use Rattle.sm_shape.specs.Blank.{blank, blank_volume}
use Rattle.sm_shape.specs.Behind.{EachBehind}
use Rattle.sm_shape.specs.Forms.{IsOther, VolumeFitsBehind, IsOtherPolicy, PolicyFitsBehind, IsBefore, RelationFitsBehind, CountsForm, CountersForm}
use Rattle.sm_shape.proofs.ListWords.{all_among, among_all, among_index, each_image}
use Rattle.sm_shape.proofs.CrossingLaw.{Apart, new_apart, apart_new}
use Rattle.sm_shape.proofs.Behind.{keys_of_apart, apart_of_keys}
use Rattle.sm_shape.proofs.FormLemmas.{volume_formed, policy_formed}

-- what each is beside those before it, each is
pub each_of : {X : Type 0} (F : List X → X → Type 0) (P : X → Type 0) (xs : List X) → ((before : List X) (x : X) → F before x → P x) → EachBehind F xs → (x : X) → Among xs x → P x
each_of F P xs part all x a = let t = among_index xs x x a in subst P t.is (part (take t.at xs) (get_or xs t.at x) (all t.at x t.in_range))

-- pairs of elements, by any one of them
apart_of : {X : Type 0} (R : X → X → Type 0) (xs : List X) → ((k : ℕ) (d : X) → k < length xs → (q : X) → Among (take k xs) q → R q (get_or xs k d)) → Apart R xs
apart_of R [] f = tt
apart_of R (x ∷ xs) f = new_apart R (x ∷ xs) x (λ k lt q a. f k x lt q a)

-- keys of what the elements stand for
mapped_apart : {X Y K : Type 0} (g : X → Y) (key : Y → K) (xs : List X) → Apart (λ x y. ¬ (key (g y) ≡ key (g x))) xs → KeysDiffer key (map g xs)
mapped_apart g key [] d = tt
mapped_apart g key (x ∷ xs) d = (each_among (λ y. ¬ (key y ≡ key (g x))) (map g xs) (each_image g (λ y. ¬ (key y ≡ key (g x))) xs (λ y a. d.0 y a)), mapped_apart g key xs d.1)

apart_mapped : {X Y K : Type 0} (g : X → Y) (key : Y → K) (xs : List X) → KeysDiffer key (map g xs) → Apart (λ x y. ¬ (key (g y) ≡ key (g x))) xs
apart_mapped g key [] d = tt
apart_mapped {X} g key (x ∷ xs) d = (there, apart_mapped g key xs d.1)
  where
    there : (y : X) → Among xs y → ¬ (key (g y) ≡ key (g x))
    there y a = among_each (λ z. ¬ (key z ≡ key (g x))) (map g xs) (g y) d.0 (among_map g xs y a)

ascend : (rs : List Relationship) → Apart (λ q r. q.number < r.number) rs → NumbersAscend rs
ascend [] d = tt
ascend (r ∷ rs) d = (each_among (λ q. r.number < q.number) rs d.0, ascend rs d.1)

ascending : (rs : List Relationship) → NumbersAscend rs → Apart (λ q r. q.number < r.number) rs
ascending [] d = tt
ascending (r ∷ rs) d = (λ y a. among_each (λ q. r.number < q.number) rs y d.0 a, ascending rs d.1)

module _ (w : World) where
  abbrev vs : List WorldVolume
  vs = w.volumes.items

  abbrev ps : List Policy
  ps = w.policies.items

  abbrev rs : List Relationship
  rs = w.relations.items

  pub record Parts : Type 0 where
    pub counts : CountsForm (length vs) (length ps) (length rs)
    pub counters : CountersForm w.next_relation w.next_transfer w.clock
    pub volumes : EachBehind VolumeFitsBehind vs
    pub policies : EachBehind PolicyFitsBehind ps
    pub relations : EachBehind RelationFitsBehind rs

  pub formed_of : Parts → Formed (blank w)
  formed_of f = record {
    volumes = each_image blank_volume FormedVolume vs (each_of VolumeFitsBehind (λ v. FormedVolume (blank_volume v)) vs (λ before v h. (volume_formed v).0 h.form) f.volumes);
    few = omega (arith, f.counts.few_volumes, length-map vs blank_volume);
    paths_differ = mapped_apart blank_volume path_of vs (apart_of (λ (x y : WorldVolume). ¬ (y.path ≡ x.path)) vs (λ k d lt q a. (all_among (IsOther (get_or vs k d)) (take k vs) (f.volumes k d lt).others q a).path));
    disks_differ = mapped_apart blank_volume disk_of vs (apart_of (λ (x y : WorldVolume). ¬ (y.disk.0 ≡ x.disk.0)) vs (λ k d lt q a. (all_among (IsOther (get_or vs k d)) (take k vs) (f.volumes k d lt).others q a).disk));
    policies = each_of PolicyFitsBehind FormedPolicy ps (λ before p h. (policy_formed p).0 h.form) f.policies;
    few_policies = f.counts.few_policies;
    names_differ = keys_of_apart policy_name ps (apart_of (λ (x y : Policy). ¬ (y.name ≡ x.name)) ps (λ k d lt q a. all_among (IsOtherPolicy (get_or ps k d)) (take k ps) (f.policies k d lt).others q a));
    relations = each_of RelationFitsBehind FormedRelation rs (λ before r h. h.form) f.relations;
    few_relations = f.counts.few_relations;
    ascending = ascend rs (apart_of (λ (q r : Relationship). q.number < r.number) rs (λ k d lt q a. all_among (IsBefore (get_or rs k d)) (take k rs) (f.relations k d lt).others q a));
    relations_counted = (f.counters.relations, f.counters.relations_left);
    transfers_counted = (f.counters.transfers, f.counters.transfers_left);
    clock = f.counters.clock_runs;
  }

  pub counts_of : Formed (blank w) → CountsForm (length vs) (length ps) (length rs)
  counts_of f = record { few_volumes = omega (arith, f.few, length-map vs blank_volume); few_policies = f.few_policies; few_relations = f.few_relations }

  pub counters_of : Formed (blank w) → CountersForm w.next_relation w.next_transfer w.clock
  counters_of f = record {
    relations = f.relations_counted.0;
    relations_left = f.relations_counted.1;
    transfers = f.transfers_counted.0;
    transfers_left = f.transfers_counted.1;
    clock_runs = f.clock;
  }

  pub volumes_of : Formed (blank w) → EachBehind VolumeFitsBehind vs
  volumes_of f k d lt = record {
    form = (volume_formed (get_or vs k d)).1 (f.volumes (blank_volume (get_or vs k d)) (among_map blank_volume vs (get_or vs k d) (among_get_or vs k d lt)));
    others = among_all (IsOther (get_or vs k d)) (take k vs) (λ q a. record {
      path = apart_new (λ (x y : WorldVolume). ¬ (y.path ≡ x.path)) vs d (apart_mapped blank_volume path_of vs f.paths_differ) k lt q a;
      disk = apart_new (λ (x y : WorldVolume). ¬ (y.disk.0 ≡ x.disk.0)) vs d (apart_mapped blank_volume disk_of vs f.disks_differ) k lt q a;
    });
  }

  pub policies_of : Formed (blank w) → EachBehind PolicyFitsBehind ps
  policies_of f k d lt = record {
    form = (policy_formed (get_or ps k d)).1 (f.policies (get_or ps k d) (among_get_or ps k d lt));
    others = among_all (IsOtherPolicy (get_or ps k d)) (take k ps) (λ q a. apart_new (λ (x y : Policy). ¬ (y.name ≡ x.name)) ps d (apart_of_keys policy_name ps f.names_differ) k lt q a);
  }

  pub relations_of : Formed (blank w) → EachBehind RelationFitsBehind rs
  relations_of f k d lt = record {
    form = f.relations (get_or rs k d) (among_get_or rs k d lt);
    others = among_all (IsBefore (get_or rs k d)) (take k rs) (λ q a. apart_new (λ (q r : Relationship). q.number < r.number) rs d (ascending rs f.ascending) k lt q a);
  }
