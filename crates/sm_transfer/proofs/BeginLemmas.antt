-- How a leg begins, of what is given.
use Rattle.std.proofs.Common.{◌≡◌, ◌≢◌, ℕ, ◌<◌, ◌≤◌, Bool, true, false, not, cond, List, [], ◌∷◌, length, map, Option, Some, None, Err, inl, inr, refl, sym, ◌∙◌, ap, subst, arith}
use Rattle.std.specs.Prelude.{nat_lt, ◌&&◌, slice_index, slice_index_or, option_map}
use Rattle.std.specs.List.{find}
use Rattle.std.proofs.lemmas.Bool.{cases_eq, cases_lt, cases_Bool}
use Rattle.std.proofs.lemmas.Bool.Decides.{nat_tests}
use Rattle.std.proofs.lemmas.List.{get_or_default, length-map}
use Rattle.sm_base.specs.declared.numbers.Ident.{Ident}
use Rattle.sm_base.specs.declared.numbers.PolicyKind.{PolicyKind}
use Rattle.sm_base.specs.declared.numbers.VolNo.{VolNo}
use Rattle.sm_base.specs.declared.refusal.Reason.{Reason}
use Rattle.sm_base.specs.declared.refusal.Reason.TheVariants as reasons
use Rattle.sm_defs.specs.Words.{Among, same_ident}
use Rattle.sm_defs.specs.Image.{tags, tag_of}
use Rattle.sm_defs.specs.Edges.{is_empty}
use Rattle.sm_defs.specs.Missing.{Bases, mirror_cost, vault_cost, vault_landing}
use Rattle.sm_defs.specs.Relationship.{Relationship, Transfer, is_mirror}
use Rattle.sm_defs.specs.Volume.{Volume, Snapshot, images_of, image_of, free, free_tags}
use Rattle.sm_defs.proofs.Members.{among_map}
use Rattle.sm_defs.proofs.Searches.{find_is}
use Rattle.sm_root.specs.declared.root.Root.{Root}
use Rattle.sm_root.specs.declared.root.RootSnapshot.{RootSnapshot}
use Rattle.sm_relation.specs.declared.relation.Relation.{Relation}
use Rattle.sm_relation.specs.declared.relation.Standing.{Standing}
use Rattle.sm_relation.specs.Shown.{transfer_of}
use Rattle.sm_select.specs.Planned.{Planned}
use Rattle.sm_model.specs.Running.{Running}
use Rattle.sm_model.specs.Steps.{cost, bases}
use Rattle.sm_model.specs.Due.{reason_if, ship_reason}
use Rattle.laws_cases.proofs.Steps.Costs.{cost_at_most}
use Rattle.volume_store.specs.Maps.{AreMapsOf}
use Rattle.sm_volume.specs.Seen.{kept_snapshot, root_of}
use Rattle.sm_transfer.specs.declared.fault.StepFault.{StepFault}
use Rattle.sm_transfer.specs.declared.fault.StepFault.TheVariants.{Stopped, DiskFault, NoMemory}
use Rattle.sm_transfer.specs.Sending.{Sending, begun}
use Rattle.sm_transfer.specs.Beginning.{MayBegin, CanBegin, bases_of, IsPlanOf, IsLegPlan, GoesOrStops, IsBegun, room_reason, leg_reason}
use Rattle.sm_transfer.proofs.PlanningLemmas.{find_kept, room_enough}

some_of : {X Y : Type 0} (f : X → Y) (o : Option X) (y : Y) → option_map f o ≡ Some y → (x : X) × (o ≡ Some x) × (f x ≡ y)
some_of f None y e = absurd (cc)
some_of f (Some x) y e = (x, refl, cc)

-- ---- in the words of the definitions

-- a plan by kinds is the plan of the leg
pub plan_is : (x : Running) (leg : Snapshot) (plan : Planned) → IsPlanOf x.policy.kind leg.image (bases x) x.destination plan → leg_reason x.policy.kind leg.image (bases x) x.destination ≡ None → IsLegPlan x leg plan
plan_is x leg plan is room = elim (cases_Bool (is_mirror x.policy.kind)) [
  | inl mirror ↦ let p = is.0 mirror in record {
    is_plan = is;
    costs = p.cost ∙ sym (ap (λ (b : Bool). cond b (mirror_cost leg.image x.destination.snapshots) (vault_cost leg.image (bases x))) mirror);
    lands = p.lands ∙ ap tags (sym (ap (λ (b : Bool). cond b leg.image (vault_landing leg.image (bases x) (free_tags x.destination))) mirror));
    room = λ other. let f : true ≡ false = sym mirror ∙ other in absurd (cc);
  }
  | inr vault ↦ let p = (is.1 vault).vault in
      let costs : cost x leg ≡ vault_cost leg.image (bases x) = ap (λ (b : Bool). cond b (mirror_cost leg.image x.destination.snapshots) (vault_cost leg.image (bases x))) vault in
      record {
        is_plan = is;
        costs = p.cost ∙ sym costs;
        lands = p.lands ∙ ap tags (sym (ap (λ (b : Bool). cond b leg.image (vault_landing leg.image (bases x) (free_tags x.destination))) vault));
        room = λ other. let h = enough (vault_cost leg.image (bases x)) (free x.destination) (sym (ap (λ (b : Bool). cond b None (room_reason (vault_cost leg.image (bases x)) (free x.destination))) vault) ∙ room) in omega (arith, h, costs);
      }
]
  where
    enough : (need left : ℕ) → room_reason need left ≡ None → need ≤ left
    enough need left e = elim (cases_lt left need) [
      | inl less ↦ let a : nat_lt left need ≡ true = grind (arith, nat_tests) in let f : room_reason need left ≡ Some (reasons.NoSpace need left) = rw a refl in absurd (cc)
      | inr le ↦ le
    ]

not_empty : {X : Type 0} (xs : List X) → is_empty xs ≡ false → xs ≢ []
not_empty [] e = λ f. cc
not_empty (x ∷ xs) e = λ f. cc

-- the reason for which a leg does not begin is that of its first Ship
pub reason_is : (x : Running) (leg : Snapshot) → MayBegin x leg → leg_reason x.policy.kind leg.image (bases x) x.destination ≡ ship_reason x (cost x leg)
reason_is x leg may = elim (cases_Bool (is_mirror x.policy.kind)) [
  | inl mirror ↦
      ap (λ (b : Bool). cond b None (room_reason (vault_cost leg.image (bases x)) (free x.destination))) mirror
      ∙ sym (ap (λ (b : Bool). reason_if (not b && is_empty x.transfer.landed && nat_lt (free x.destination) (cost x leg)) (reasons.NoSpace (cost x leg) (free x.destination)) None) mirror)
  | inr vault ↦
      let costs : vault_cost leg.image (bases x) ≡ cost x leg = sym (ap (λ (b : Bool). cond b (mirror_cost leg.image x.destination.snapshots) (vault_cost leg.image (bases x))) vault) in
      ap (λ (b : Bool). cond b None (room_reason (vault_cost leg.image (bases x)) (free x.destination))) vault
      ∙ ap (λ (n : ℕ). room_reason n (free x.destination)) costs
      ∙ by (is_empty x.transfer.landed) refl vault
      ∙ sym (ap (λ (b : Bool). reason_if (not b && is_empty x.transfer.landed && nat_lt (free x.destination) (cost x leg)) (reasons.NoSpace (cost x leg) (free x.destination)) None) vault)
]
  where
    by : (b : Bool) → is_empty x.transfer.landed ≡ b → is_mirror x.policy.kind ≡ false
        → room_reason (cost x leg) (free x.destination) ≡ reason_if (true && is_empty x.transfer.landed && nat_lt (free x.destination) (cost x leg)) (reasons.NoSpace (cost x leg) (free x.destination)) None
    by true e vault = sym (ap (λ (b : Bool). reason_if (b && nat_lt (free x.destination) (cost x leg)) (reasons.NoSpace (cost x leg) (free x.destination)) None) e)
    by false e vault =
        room_enough (cost x leg) (free x.destination) ((may.fits (inr (not_empty x.transfer.landed e))).room leg may.leg_is vault)
        ∙ sym (ap (λ (b : Bool). reason_if (b && nat_lt (free x.destination) (cost x leg)) (reasons.NoSpace (cost x leg) (free x.destination)) None) e)

-- the checkpoint is within the leg
pub checkpoint_within : (x : Running) (leg : Snapshot) → MayBegin x leg → x.transfer.checkpoint ≤ cost x leg
checkpoint_within x leg may = elim (cases_eq x.transfer.checkpoint 0) [
  | inl none ↦ omega arith
  | inr some ↦ (may.fits (inl some)).checkpoint leg may.leg_is
]

-- a fault is told for the same reason
pub told_again : {A B : Type 0} (P : A → Type 0) (Q : B → Type 0) (r r' : Option Reason) (fault : StepFault) → r ≡ r' → GoesOrStops P r (Err fault) → GoesOrStops Q r' (Err fault)
told_again P Q r r' (Stopped q) same h = sym same ∙ h
told_again P Q r r' (DiskFault v) same h = absurd h
told_again P Q r r' NoMemory same h = tt

pub begun_is : (x : Running) (leg : Snapshot) (plan : Planned) (t : Sending) (n : ℕ) → t ≡ begun plan n → n ≡ x.transfer.checkpoint → IsLegPlan x leg plan → IsBegun x leg t
begun_is x leg plan t n is from planned = subst (IsBegun x leg) (sym is) (record { planned = planned; runs = ap (begun plan) from })

-- ---- of what is given

module _ (kind : PolicyKind) (relation : Relation) (s d : Volume) (x : Running) (leg : Snapshot) (can : CanBegin kind relation s d x leg) where
  standing : (t : Standing) × (relation.transfer ≡ Some t) × (transfer_of x.transfer.landed x.transfer.pruned t ≡ x.transfer)
  standing = some_of (transfer_of x.transfer.landed x.transfer.pruned) relation.transfer x.transfer (sym (ap (λ (r : Relationship). r.transfer) can.0.of_relation) ∙ can.0.transfer)

  pub first_leg : (t : Standing) × (relation.transfer ≡ Some t) × (t.legs ≡ can.1.first ∷ can.1.later) × (t.checkpoint ≡ x.transfer.checkpoint)
  first_leg = (standing.0, standing.1, ap (λ (t : Transfer). t.legs) standing.2 ∙ can.1.legs, ap (λ (t : Transfer). t.checkpoint) standing.2)

  found : find (λ (t : Snapshot). same_ident t.ident can.1.first) s.snapshots ≡ Some leg
  found = ap (λ (v : Volume). find (λ (t : Snapshot). same_ident t.ident can.1.first) v.snapshots) (sym can.0.of_source) ∙ can.1.leg_is

  pub found_kept : find (λ (t : RootSnapshot). same_ident t.ident can.1.first) (map kept_snapshot s.snapshots) ≡ Some (kept_snapshot leg)
  found_kept = find_kept can.1.first s.snapshots ∙ ap (option_map kept_snapshot) found

  -- what the code finds first, and where
  pub first_told : (i : Ident) (n : ℕ) → ((t : Standing) (j : Ident) (later : List Ident) → relation.transfer ≡ Some t → t.legs ≡ j ∷ later → (i ≡ j) × (n ≡ t.checkpoint))
      → (i ≡ can.1.first) × (n ≡ x.transfer.checkpoint)
  first_told i n told = let f = first_leg in let h = told f.0 can.1.first can.1.later f.1 f.2 in (h.0, h.1 ∙ f.3)

  pub found_root : (i : Ident) (root : Root) (number : VolNo) → i ≡ can.1.first → root ≡ root_of number s → find (λ (t : RootSnapshot). same_ident t.ident i) root.snapshots ≡ Some (kept_snapshot leg)
  found_root i root number first is =
      ap (λ (r : Root). find (λ (t : RootSnapshot). same_ident t.ident i) r.snapshots) is
      ∙ ap (λ (j : Ident). find (λ (t : RootSnapshot). same_ident t.ident j) (map kept_snapshot s.snapshots)) first ∙ found_kept

  pub leg_in_source : Among (images_of s) leg.image
  leg_in_source = inr (inr (among_map image_of s.snapshots leg (find_is (λ (t : Snapshot). same_ident t.ident can.1.first) s.snapshots leg found).0))

  in_source : Among (map tags (images_of s)) (tags leg.image)
  in_source = among_map tags (images_of s) leg.image leg_in_source

  pub leg_long : AreMapsOf s.logical s.physical (map tags (images_of s)) → length (tags leg.image) ≡ s.logical
  leg_long maps = maps.long (tags leg.image) in_source

  pub same_logical : s.logical ≡ d.logical
  same_logical = sym (ap (λ (v : Volume). v.logical) can.0.of_source) ∙ can.1.logical ∙ ap (λ (v : Volume). v.logical) can.0.of_destination

  pub leg_within : AreMapsOf s.logical s.physical (map tags (images_of s)) → is_mirror kind ≡ true → (k e : ℕ) → k < length (tags leg.image) → slice_index_or (tags leg.image) k e ≤ d.physical
  leg_within maps mirror k e less =
      let here : slice_index (tags leg.image) k ≤ s.physical = maps.within (tags leg.image) in_source k in
      let same : s.physical ≡ d.physical = sym (ap (λ (v : Volume). v.physical) can.0.of_source) ∙ can.1.physical (ap is_mirror can.0.policy ∙ mirror) ∙ ap (λ (v : Volume). v.physical) can.0.of_destination in
      let any : slice_index_or (tags leg.image) k e ≡ slice_index (tags leg.image) k = get_or_default (tags leg.image) k e 0 less in
      omega (arith, here, same, any)

  bases_same : bases_of relation.base s d ≡ bases x
  bases_same = sym (ap (λ (b : Option Ident). bases_of b x.source x.destination) (ap (λ (r : Relationship). r.base) can.0.of_relation)
      ∙ ap (λ (v : Volume). bases_of relation.base v x.destination) can.0.of_source ∙ ap (λ (v : Volume). bases_of relation.base s v) can.0.of_destination)

  pub plan_same : (plan : Planned) → IsPlanOf kind leg.image (bases_of relation.base s d) d plan → IsPlanOf x.policy.kind leg.image (bases x) x.destination plan
  plan_same plan is =
      subst (λ (k : PolicyKind). IsPlanOf k leg.image (bases x) x.destination plan) (sym can.0.policy)
      (subst (λ (b : Bases). IsPlanOf kind leg.image b x.destination plan) bases_same
      (subst (λ (v : Volume). IsPlanOf kind leg.image (bases_of relation.base s d) v plan) (sym can.0.of_destination) is))

  pub reason_same : leg_reason kind leg.image (bases_of relation.base s d) d ≡ leg_reason x.policy.kind leg.image (bases x) x.destination
  reason_same =
      ap (λ (v : Volume). leg_reason kind leg.image (bases_of relation.base s d) v) (sym can.0.of_destination)
      ∙ ap (λ (b : Bases). leg_reason kind leg.image b x.destination) bases_same
      ∙ ap (λ (k : PolicyKind). leg_reason k leg.image (bases x) x.destination) (sym can.0.policy)

  pub cost_short : (n : ℕ) → AreMapsOf s.logical s.physical (map tags (images_of s)) → n ≡ cost x leg → n ≤ s.logical
  cost_short n maps e = let a = cost_at_most x leg in let b = length-map leg.image tag_of in let h = leg_long maps in omega (arith, a, b, h, e)
