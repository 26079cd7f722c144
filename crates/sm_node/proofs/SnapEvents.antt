-- A client's snapshot, its deletion, and a read, as events of a node.
use Rattle.std.proofs.Common.{◌≡◌, ℕ, List, [], ◌∷◌, false, sym, subst, Option, Some, Ok, Result}
use Rattle.std.specs.Prelude.{slice_get}
use Rattle.sm_base.specs.declared.numbers.DiskNo.{DiskNo}
use Rattle.sm_base.specs.declared.numbers.Ident.{Ident}
use Rattle.sm_defs.specs.Volume.{has}
use Rattle.sm_defs.specs.Operations.{removed}
use Rattle.sm_disk.specs.Disk.{DiskState}
use Rattle.sm_model.specs.declared.reply.Reply.{Reply}
use Rattle.sm_model.specs.declared.reply.Reply.TheVariants as replies
use Rattle.sm_model.specs.OfVolumes as answers
use Rattle.sm_volume.specs.Mounted.{Mounted}
use Rattle.sm_volume.specs.Assigned.{snapped}
use Rattle.sm_volume.specs.Refusals.{snapshot_refusal, remove_refusal}
use Rattle.sm_node.specs.declared.fault.NodeFault.{NodeFault}
use Rattle.sm_node.specs.declared.named.Named.{Named}
use Rattle.sm_node.specs.Seats.{Seated}
use Rattle.sm_node.specs.Nodes.{Node, placed, world_of, IsNode}
use Rattle.sm_node.specs.Parts.{StandsUp}
use Rattle.sm_node.specs.Moves.{MovesOne, IsCommitCall, Matches}
use Rattle.sm_node.specs.Acts.{Acts}
use Rattle.sm_node.specs.Naming.{IsNamedAt}
use Rattle.sm_node.specs.Snapping.{IdentsAreNew}
use Rattle.sm_node.specs.Removing.{removal}
use Rattle.sm_seats.proofs.Lists.{one_value}
use Rattle.sm_node.proofs.Worlds.{placed_there}
use Rattle.sm_node.proofs.SnapMatching.{snap_matches, unsnap_matches}
use Rattle.sm_node.proofs.SeatCommits.{call_acts}
use Rattle.sm_node.proofs.KeptLemmas.{moved_keeps}
use Rattle.sm_node.proofs.VolumeCalls.{commits_number}

-- a call of a client's snapshot of this identity
abbrev pub IsSnapCall : {D : Type 0} → (D → DiskState) → Ident → DiskNo → List ℕ → Option (List ℕ) → ℕ → Result Reply NodeFault → Mounted D → Mounted D → Type 0
IsSnapCall state ident disk name label time R =
    IsCommitCall state (replies.Snapped ident) disk (λ v. snapshot_refusal v ident name) (λ v. snapped v (record { ident = ident; name = name; label = label; time = time; made = 0 })) R

-- and of its deletion
abbrev pub IsRemoveCall : {D : Type 0} → (D → DiskState) → Ident → DiskNo → Result Reply NodeFault → Mounted D → Mounted D → Type 0
IsRemoveCall state ident disk R = IsCommitCall state replies.Done disk (λ v. remove_refusal v (ident ∷ [])) (λ v. removed v (ident ∷ [])) R

-- the identity is new on the volume
pub ident_is_new : {D : Type 0} (n : Node D) (path : List ℕ) (f : Named) → IsNamedAt n path f → IdentsAreNew (world_of n) → (s : Seated D) → slice_get n.seats f.at ≡ Some s → has s.volume.volume.snapshots (answers.client_ident f.at s.volume.volume) ≡ false
ident_is_new n path f is new s there = new f.at (placed is.place s.volume) (placed_there n.root.held.volumes n.seats f.at is.place s is.is_place there)

module _ {D : Type 0} (state : D → DiskState) (n : Node D) (h : StandsUp state n) (path : List ℕ) (f : Named) (is : IsNamedAt n path f) (R : Result Reply NodeFault) (news : List (Seated D)) where
  pub snap_acts : (name : List ℕ) (label : Option (List ℕ)) (ident : Ident) (time : ℕ) → time ≡ n.root.held.clock → ((s : Seated D) → slice_get n.seats f.at ≡ Some s → ident ≡ answers.client_ident f.at s.volume.volume)
      → MovesOne state f.at (IsSnapCall state ident f.disk name label time R) n.seats news → Acts state (answers.snap (world_of n) path name label) n R (record n { seats = news })
  snap_acts name label ident time clock own moves =
      let s = is.seat in
      let here = answers.client_ident f.at s.volume.volume in
      let a = answers.snap (world_of n) path name label in
      let call = subst (λ (t : ℕ). MovesOne state f.at (IsSnapCall state here f.disk name label t R) n.seats news) clock
      (subst (λ (i : Ident). MovesOne state f.at (IsSnapCall state i f.disk name label time R) n.seats news) (own s is.is_seat) moves) in
      call_acts state n h f.at is.place is.is_place f.disk is.lies R news (replies.Snapped here) (λ v. snapshot_refusal v here name) (λ v. snapped v (record { ident = here; name = name; label = label; time = n.root.held.clock; made = 0 })) a
      (λ t was. subst (λ (x : Seated D). Matches (world_of n) f.at is.place a (snapshot_refusal x.volume.volume here name) (replies.Snapped here) (snapped x.volume.volume (record { ident = here; name = name; label = label; time = n.root.held.clock; made = 0 })))
      (one_value (slice_get n.seats f.at) s t is.is_seat was) (snap_matches (world_of n) path name label f.at is.place s.volume is.names))
      call

  pub snap_keeps : (name : List ℕ) (label : Option (List ℕ)) (ident : Ident) (time : ℕ) → MovesOne state f.at (IsSnapCall state ident f.disk name label time R) n.seats news → IsNode state (record n { seats = news })
  snap_keeps name label ident time moves = moved_keeps state n h.node f.at (IsSnapCall state ident f.disk name label time R) news
      (λ m k d. (commits_number state m k (snapped m.volume (record { ident = ident; name = name; label = label; time = time; made = 0 })) d.0 d.3, d.3.any_moment.size)) moves

  pub unsnap_acts : (name : List ℕ) (ident : Ident) → removal (world_of n) f.at (placed is.place is.seat.volume) name ≡ Ok ident → MovesOne state f.at (IsRemoveCall state ident f.disk R) n.seats news → Acts state (answers.unsnap (world_of n) path name) n R (record n { seats = news })
  unsnap_acts name ident free moves =
      let s = is.seat in
      let a = answers.unsnap (world_of n) path name in
      call_acts state n h f.at is.place is.is_place f.disk is.lies R news replies.Done (λ v. remove_refusal v (ident ∷ [])) (λ v. removed v (ident ∷ [])) a
      (λ t was. subst (λ (x : Seated D). Matches (world_of n) f.at is.place a (remove_refusal x.volume.volume (ident ∷ [])) replies.Done (removed x.volume.volume (ident ∷ [])))
      (one_value (slice_get n.seats f.at) s t is.is_seat was) (unsnap_matches (world_of n) path name f.at is.place s.volume ident is.names free))
      moves

  pub unsnap_keeps : (ident : Ident) → MovesOne state f.at (IsRemoveCall state ident f.disk R) n.seats news → IsNode state (record n { seats = news })
  unsnap_keeps ident moves = moved_keeps state n h.node f.at (IsRemoveCall state ident f.disk R) news (λ m k d. (commits_number state m k (removed m.volume (ident ∷ [])) d.0 d.3, d.3.any_moment.size)) moves

-- the node's parts are the node
pub removed_by : {D : Type 0} (state : D → DiskState) (now : Node D) (n : Node D) → now ≡ n → StandsUp state now → (path : List ℕ) (f : Named) (is : IsNamedAt now path f) (name : List ℕ) (ident : Ident) → removal (world_of now) f.at (placed is.place is.seat.volume) name ≡ Ok ident
    → (R : Result Reply NodeFault) (news items : List (Seated D)) → MovesOne state f.at (IsRemoveCall state ident f.disk R) n.seats news → items ≡ news → Acts state (answers.unsnap (world_of now) path name) now R (record n { seats = items })
removed_by {D} state now n view h path f is name ident free R news items moves same =
    let P : Node D → Type 0 = λ x. MovesOne state f.at (IsRemoveCall state ident f.disk R) x.seats news → Acts state (answers.unsnap (world_of now) path name) now R (record x { seats = items }) in
    subst P view (λ did. subst (λ (seats : List (Seated D)). Acts state (answers.unsnap (world_of now) path name) now R (record now { seats = seats })) (sym same) (unsnap_acts state now h path f is R news name ident free did)) moves

pub snapped_by : {D : Type 0} (state : D → DiskState) (now : Node D) (n : Node D) → now ≡ n → StandsUp state now → (path : List ℕ) (f : Named) (is : IsNamedAt now path f) (name copy : List ℕ) (label same_label : Option (List ℕ)) → copy ≡ name → same_label ≡ label
    → (ident : Ident) (time : ℕ) → time ≡ now.root.held.clock → ((s : Seated D) → slice_get n.seats f.at ≡ Some s → ident ≡ answers.client_ident f.at s.volume.volume)
    → (R : Result Reply NodeFault) (news items : List (Seated D)) → MovesOne state f.at (IsSnapCall state ident f.disk copy same_label time R) n.seats news → items ≡ news → Acts state (answers.snap (world_of now) path name label) now R (record n { seats = items })
snapped_by {D} state now n view h path f is name copy label same_label copied kept ident time clock own R news items moves same =
    let P : Node D → Type 0 = λ x. ((s : Seated D) → slice_get x.seats f.at ≡ Some s → ident ≡ answers.client_ident f.at s.volume.volume) → MovesOne state f.at (IsSnapCall state ident f.disk copy same_label time R) x.seats news
    → Acts state (answers.snap (world_of now) path name label) now R (record x { seats = items }) in
    subst P view (λ owns did.
    let named = subst (λ (t : List ℕ). MovesOne state f.at (IsSnapCall state ident f.disk t same_label time R) now.seats news) copied did in
    let labelled = subst (λ (l : Option (List ℕ)). MovesOne state f.at (IsSnapCall state ident f.disk name l time R) now.seats news) kept named in
    subst (λ (seats : List (Seated D)). Acts state (answers.snap (world_of now) path name label) now R (record now { seats = seats })) (sym same) (snap_acts state now h path f is R news name label ident time clock owns labelled)) own moves
