-- The snapshot that a transfer makes, as its source takes it.
use Rattle.std.proofs.Common.{◌≡◌, ◌==◌, ◌&&◌, ◌||◌, ◌+◌, ◌*◌, ℕ, not, List, Bool, true, false, Option, Some, None, Result, option_map, length, refl, sym, ◌∙◌, ap, ap₂, subst, arith}
use Rattle.std.specs.Prelude.{if◌then◌else◌}
use Rattle.std.proofs.lemmas.Bool.Decides.{nat_tests}
use Rattle.std.proofs.lemmas.List.{length-map}
use Rattle.sm_base.specs.declared.limits.TheConstants.{LAST_NUMBER, MOST_SNAPSHOTS}
use Rattle.sm_base.specs.declared.numbers.Ident.{Ident}
use Rattle.sm_base.specs.declared.numbers.VolNo.{VolNo}
use Rattle.sm_base.specs.declared.refusal.Reason.{Reason}
use Rattle.sm_base.specs.declared.refusal.Reason.TheVariants as reasons
use Rattle.sm_defs.specs.Legs.{made_ident}
use Rattle.sm_defs.specs.Made.{made_name}
use Rattle.sm_defs.specs.Operations.{has_name, is_full, with_snapshot}
use Rattle.sm_defs.specs.Relationship.{Relationship, Transfer}
use Rattle.sm_defs.specs.Volume.{Volume, Snapshot, is_rw}
use Rattle.sm_defs.specs.World.{Up}
use Rattle.sm_defs.proofs.Bridges.{snapped_made}
use Rattle.sm_disk.specs.Disk.{DiskState}
use Rattle.sm_root.specs.declared.head.Head.{Head}
use Rattle.sm_root.specs.declared.root.Root.{Root}
use Rattle.sm_relation.specs.declared.relation.Relation.{Relation}
use Rattle.sm_relation.specs.declared.relation.Standing.{Standing}
use Rattle.sm_relation.specs.Shown.{transfer_of}
use Rattle.volume_store.specs.declared.faults.VolumeFault.{VolumeFault}
use Rattle.volume_store.specs.declared.faults.VolumeFault.TheVariants as faults
use Rattle.volume_store.specs.Refusals.{Refuses}
use Rattle.sm_volume.specs.Assigned.{snapped}
use Rattle.sm_volume.specs.Commits.{Commits}
use Rattle.sm_volume.specs.Mounted.{Mounted}
use Rattle.sm_volume.specs.Refusals.{snapshot_refusal}
use Rattle.sm_volume.specs.Seen.{kept_snapshot, root_of}
use Rattle.sm_model.specs.Due.{prepare_reason, reason_if, reserved_leg}
use Rattle.sm_model.specs.Running.{Running}
use Rattle.sm_model.specs.Steps.{prepared_snapshot}
use Rattle.sm_transfer.specs.declared.fault.StepFault.{StepFault}
use Rattle.sm_publish.specs.Committing.{StepsTo, answered}
use Rattle.sm_publish.specs.Preparing.{IsPrepareOf}
use Rattle.sm_publish.proofs.CommitLemmas.{by_commit}

abbrev pub reason_of : Volume → Option Reason
reason_of v = reason_if (not (is_rw v.kind)) reasons.SourceReadOnly (reason_if (length v.snapshots == MOST_SNAPSHOTS) reasons.SnapFull None)

pub by_root : (n : VolNo) (v : Volume) (r : Root) → r ≡ root_of n v →
    reason_if (not (is_rw r.kind)) reasons.SourceReadOnly (reason_if (length r.snapshots == MOST_SNAPSHOTS) reasons.SnapFull None) ≡ reason_of v
by_root n v r e =
    ap (λ (q : Root). reason_if (not (is_rw q.kind)) reasons.SourceReadOnly (reason_if (length q.snapshots == MOST_SNAPSHOTS) reasons.SnapFull None)) e
    ∙ ap (λ (k : ℕ). reason_if (not (is_rw v.kind)) reasons.SourceReadOnly (reason_if (k == MOST_SNAPSHOTS) reasons.SnapFull None)) (length-map v.snapshots kept_snapshot)

-- ---- nothing refuses the snapshot

writable : (b : Bool) (o : Option Reason) → reason_if (not b) reasons.SourceReadOnly o ≡ None → (b ≡ true) × (o ≡ None)
writable true o e = (refl, e)
writable false o e = absurd (cc)

with_room : (b : Bool) → reason_if b reasons.SnapFull None ≡ None → b ≡ false
with_room true e = absurd (cc)
with_room false e = refl

odd : (seq t next : ℕ) → seq ≡ 2 * t + 1 → (seq == 2 * next) ≡ false
odd seq t next e = grind (arith, nat_tests, e)

pub none_refused : (v : Volume) (i : Ident) (name : List ℕ) (t : ℕ) → i.seq ≡ 2 * t + 1 → has_name v.snapshots name ≡ false → reason_of v ≡ None → snapshot_refusal v i name ≡ None
none_refused v i name t seq unnamed none =
    let (rw_kind, later) = writable (is_rw v.kind) (reason_if (length v.snapshots == MOST_SNAPSHOTS) reasons.SnapFull None) none in
    let room = with_room (length v.snapshots == MOST_SNAPSHOTS) later in
    let full : is_full v i ≡ false = ap₂ (λ (a b : Bool). a || (b && (v.next == LAST_NUMBER))) room (odd i.seq t v.next seq) in
    ap (λ (b : Bool). if b then (if has_name v.snapshots name then Some faults.NameTaken else if is_full v i then Some faults.SnapFull else None) else Some faults.ReadOnly) rw_kind
    ∙ (ap (λ (b : Bool). if b then Some faults.NameTaken else if is_full v i then Some faults.SnapFull else None) unnamed ∙ ap (λ (b : Bool). if b then Some faults.SnapFull else None) full)

-- ---- the step of the definitions

abbrev number_or : Option Transfer → ℕ
number_or None = 0
number_or (Some t) = t.number

module _ (w : Up) (x : Running) (relation : Relation) (time : ℕ) (v : Volume) (t : Standing) (is : IsPrepareOf w x relation time v) (stands : relation.transfer ≡ Some t) where
  same_number : x.transfer.number ≡ t.number
  same_number =
      let here : x.relation.transfer ≡ Some (transfer_of x.transfer.landed x.transfer.pruned t) = ap (λ (r : Relationship). r.transfer) is.of_relation ∙ ap (option_map (transfer_of x.transfer.landed x.transfer.pruned)) stands in
      let both : Some x.transfer ≡ Some (transfer_of x.transfer.landed x.transfer.pruned t) = sym is.of_transfer ∙ here in
      ap number_or both

  same_source : x.relation.source ≡ relation.source.0
  same_source = ap (λ (r : Relationship). r.source) is.of_relation

  same_relation : x.relation.number ≡ relation.number.0
  same_relation = ap (λ (r : Relationship). r.number) is.of_relation

  pub is_reserved : made_ident relation.source.0 t.number ≡ reserved_leg x
  is_reserved = sym (ap₂ made_ident same_source same_number)

  pub same_reason : reason_of v ≡ prepare_reason x
  same_reason = sym (ap reason_of is.of_source)

  is_prepared : (let s : Snapshot = record { ident = made_ident relation.source.0 t.number; name = made_name relation.number.0 t.number; label = None; time = time; maker = relation.number.0; image = v.active } in s) ≡ prepared_snapshot w x (reserved_leg x)
  is_prepared =
      let image = ap (λ (u : Volume). u.active) is.of_source in
      rw (same_number, same_source, same_relation, is.of_time, image) refl

  module _ (ident : Ident) (name : List ℕ) (of_ident : ident ≡ made_ident relation.source.0 t.number) (of_name : name ≡ made_name relation.number.0 t.number) where
    abbrev head : Head
    head = record { ident = ident; name = name; label = None; time = time; made = relation.number.0 }

    abbrev taken : Snapshot
    taken = record { ident = ident; name = name; label = None; time = time; maker = relation.number.0; image = v.active }

    is_taken : taken ≡ prepared_snapshot w x (reserved_leg x)
    is_taken = ap₂ (λ (i : Ident) (n : List ℕ). let s : Snapshot = record { ident = i; name = n; label = None; time = time; maker = relation.number.0; image = v.active } in s) of_ident of_name ∙ is_prepared

    is_next : snapped v head ≡ with_snapshot v (prepared_snapshot w x (reserved_leg x))
    is_next = snapped_made v taken t.number (ap (λ (i : Ident). i.seq) of_ident) ∙ ap (with_snapshot v) is_taken

    module _ {D : Type 0} (state : D → DiskState) (old new : Mounted D) (r : Result (Unit {0}) VolumeFault) where
      pub prepares : reason_of v ≡ None → Refuses None r → Commits state old (snapped v head) r new → (result : Result Ident StepFault) → result ≡ answered old.number ident r →
          StepsTo state true (prepare_reason x) (reserved_leg x) (with_snapshot v (prepared_snapshot w x (reserved_leg x))) result old new
      prepares none allows made result is_result =
          subst (λ (q : Result Ident StepFault). StepsTo state true (prepare_reason x) (reserved_leg x) (with_snapshot v (prepared_snapshot w x (reserved_leg x))) q old new)
          (sym (is_result ∙ ap (λ (i : Ident). answered old.number i r) (of_ident ∙ is_reserved)))
          (by_commit state true (prepare_reason x) (reserved_leg x) (with_snapshot v (prepared_snapshot w x (reserved_leg x))) old new (sym same_reason ∙ none) refl r allows
          (subst (λ (u : Volume). Commits state old u r new) is_next made))
