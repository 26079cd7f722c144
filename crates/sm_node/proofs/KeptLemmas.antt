-- A node stays one where a volume moved.
use Rattle.std.proofs.Common.{◌≡◌, inl, inr, ℕ, ◌≤◌, List, ◌∷◌, length, map, refl, sym, ◌∙◌, ap, subst, Some, Result, Ok, Err}
use Rattle.std.specs.Prelude.{slice_get, slice_set}
use Rattle.std.proofs.lemmas.Bool.{cases_eq}
use Rattle.std.proofs.lemmas.List.{length-set}
use Rattle.std.proofs.lemmas.Option.{slice_get_within}
use Rattle.sm_base.specs.declared.limits.TheConstants.{MOST_VOLUMES}
use Rattle.sm_defs.specs.Words.{Among, KeysDiffer}
use Rattle.sm_disk.specs.Disk.{DiskState}
use Rattle.sm_model.specs.Answers.{volno}
use Rattle.volume_store.specs.declared.faults.VolumeFault.{VolumeFault}
use Rattle.sm_volume.specs.Mounted.{Mounted}
use Rattle.sm_volume.specs.Kept.{IsKept}
use Rattle.sm_node.specs.Seats.{Seated, moved, disk_number, device, IsAtSeat}
use Rattle.sm_node.specs.Nodes.{Node, IsNode, IsLaidOut, LieOn, numbers}
use Rattle.sm_node.specs.Moves.{MovesOne}
use Rattle.sm_node.specs.Reading.{Reads}
use Rattle.sm_node.proofs.VolumeCalls.{is_fault}
use Rattle.sm_seats.proofs.Lists.{one_value}
use Rattle.sm_node.proofs.Lists.{get_set_other, get_set_same, keys_set}

pub reads_number : {D A : Type 0} (state : D → DiskState) (m n : Mounted D) (r : Result A VolumeFault) → Reads state r m n → n.number ≡ m.number
reads_number state m n (Ok x) c = ap (λ (y : Mounted _). y.number) c.ok
reads_number state m n (Err f) c = elim (is_fault f) [
  | inl e ↦ ap (λ (x : Mounted _). x.number) (c.fault (ap Err e))
  | inr ne ↦ ap (λ (x : Mounted _). x.number) (c.unchanged f refl ne)
]

laid_out : {D : Type 0} (seats news : List (Seated D)) (spares : List _) (lengths : List ℕ) → map disk_number news ≡ map disk_number seats → IsLaidOut seats spares lengths → IsLaidOut news spares lengths
laid_out seats news spares lengths same is =
    let numbered : numbers seats ≡ numbers news = ap (λ ns. 0 ∷ ns) (sym same) in
    record {
      as_many = is.as_many;
      apart = subst (KeysDiffer (λ (k : ℕ). k)) numbered is.apart;
      within = λ k a. is.within k (subst (λ ns. Among ns k) (sym numbered) a);
      taken = λ k a. is.taken k (subst (λ ns. Among ns k) (sym numbered) a);
      left = λ k e. subst (λ ns. Among ns k) numbered (is.left k e);
    }

module _ {D : Type 0} (state : D → DiskState) (n : Node D) (is : IsNode state n) where
  same_numbers : (at : ℕ) (s : Seated D) (m : Mounted D) → slice_get n.seats at ≡ Some s → map disk_number (slice_set n.seats at (moved s m)) ≡ map disk_number n.seats
  same_numbers at s m was = keys_set disk_number n.seats at s (moved s m) was refl

  pub node_set : (at : ℕ) (s : Seated D) (m : Mounted D) → slice_get n.seats at ≡ Some s → IsKept state m → m.number ≡ s.volume.number → (state m.disk).size ≡ (state (device s)).size → IsNode state (record n { seats = slice_set n.seats at (moved s m) })
  node_set at s m was kept same size = record {
    as_many = subst (λ (l : ℕ). length n.root.held.volumes ≤ l) (sym (length-set n.seats at (moved s m))) is.as_many;
    few = subst (λ (l : ℕ). l ≤ MOST_VOLUMES) (sym (length-set n.seats at (moved s m))) is.few;
    seated = λ i x e. elim (cases_eq i at) [
      | inl here ↦
          let e' : slice_get (slice_set n.seats at (moved s m)) at ≡ Some x = subst (λ (j : ℕ). slice_get (slice_set n.seats at (moved s m)) j ≡ Some x) here e in
          let is_x : moved s m ≡ x = one_value (slice_get (slice_set n.seats at (moved s m)) at) (moved s m) x (get_set_same n.seats at (moved s m) (slice_get_within n.seats at s was)) e' in
          subst (λ (y : Seated D). IsAtSeat state i y) is_x (record { kept = kept; numbered = same ∙ (is.seated at s was).numbered ∙ ap volno (sym here) })
      | inr ne ↦ is.seated i x (sym (get_set_other n.seats at i (moved s m) ne) ∙ e)
    ];
    laid_out = laid_out n.seats (slice_set n.seats at (moved s m)) n.spares n.lengths (same_numbers at s m was) is.laid_out;
    placed = subst (LieOn n.root.held.volumes) (sym (same_numbers at s m was)) is.placed;
    placed_after = λ k e. subst (LieOn k.volumes) (sym (same_numbers at s m was)) (is.placed_after k e);
    long = record {
      root = is.long.root;
      seats = λ i x e. elim (cases_eq i at) [
        | inl here ↦
            let e' : slice_get (slice_set n.seats at (moved s m)) at ≡ Some x = subst (λ (j : ℕ). slice_get (slice_set n.seats at (moved s m)) j ≡ Some x) here e in
            let is_x : moved s m ≡ x = one_value (slice_get (slice_set n.seats at (moved s m)) at) (moved s m) x (get_set_same n.seats at (moved s m) (slice_get_within n.seats at s was)) e' in
            subst (λ (y : Seated D). slice_get n.lengths y.disk ≡ Some (state (device y)).size) is_x (is.long.seats at s was ∙ ap Some (sym size))
        | inr ne ↦ is.long.seats i x (sym (get_set_other n.seats at i (moved s m) ne) ∙ e)
      ];
      spares = is.long.spares;
    };
  }

  -- one volume moved, and kept its number and its disk's length
  pub moved_keeps : (at : ℕ) (P : Mounted D → Mounted D → Type 0) (news : List (Seated D)) → ((m k : Mounted D) → P m k → (k.number ≡ m.number) × ((state k.disk).size ≡ (state m.disk).size)) → MovesOne state at P n.seats news → IsNode state (record n { seats = news })
  moved_keeps at P news same moves =
      subst (λ (seats : List (Seated D)). IsNode state (record n { seats = seats })) (sym moves.is)
      (let stays = same moves.old.volume moves.new moves.did in node_set at moves.old moves.new moves.was moves.kept stays.0 stays.1)
