-- Disks that are put to their places.
use Rattle.std.proofs.Common.{◌≡◌, ℕ, zero, suc, ◌<◌, List, [], ◌∷◌, length, map, Some, None, inl, inr, refl, sym, ◌∙◌, ap, subst, arith}
use Rattle.std.specs.Prelude.{slice_get, slice_set, Option}
use Rattle.std.proofs.lemmas.Bool.{cases_eq}
use Rattle.std.proofs.lemmas.List.{length-map, length-set}
use Rattle.sm_defs.specs.Words.{Among, KeysDiffer}
use Rattle.sm_defs.proofs.Members.{among_each}
use Rattle.sm_node.specs.Seats.{Seated, disk_number, device}
use Rattle.sm_node.specs.Nodes.{Node, numbers, IsLaidOut}
use Rattle.sm_node.specs.Parts.{devices}
use Rattle.sm_node.specs.HandedBack.{all_put, AreInPlaces}
use Rattle.sm_node.proofs.Lists.{get_set_other, get_set_same, mapped_at}

module _ {D : Type 0} where
  put_length : (xs : List (Option D)) (ns : List ℕ) (ds : List D) → length (all_put xs ns ds) ≡ length xs
  put_length xs [] ds = refl
  put_length xs (n ∷ ns) [] = refl
  put_length xs (n ∷ ns) (d ∷ ds) = put_length (slice_set xs n (Some d)) ns ds ∙ length-set xs n (Some d)

  put_other : (xs : List (Option D)) (ns : List ℕ) (ds : List D) (m : ℕ) → ¬ Among ns m → slice_get (all_put xs ns ds) m ≡ slice_get xs m
  put_other xs [] ds m absent = refl
  put_other xs (n ∷ ns) [] m absent = refl
  put_other xs (n ∷ ns) (d ∷ ds) m absent = put_other (slice_set xs n (Some d)) ns ds m (λ a. absent (inr a)) ∙ get_set_other xs n m (Some d) (λ e. absent (inl e))

  within_set : (xs : List (Option D)) (n : ℕ) (ns : List ℕ) (o : Option D) → ((k : ℕ) → Among (n ∷ ns) k → k < length xs) → (k : ℕ) → Among ns k → k < length (slice_set xs n o)
  within_set xs n ns o within k a = subst (λ (l : ℕ). k < l) (sym (length-set xs n o)) (within k (inr a))

  put_at : (xs : List (Option D)) (ns : List ℕ) (ds : List D) → KeysDiffer (λ (n : ℕ). n) ns → ((k : ℕ) → Among ns k → k < length xs) → (i n : ℕ) (d : D) → slice_get ns i ≡ Some n → slice_get ds i ≡ Some d
      → slice_get (all_put xs ns ds) n ≡ Some (Some d)
  put_at xs [] ds apart within i n d e f = absurd (cc)
  put_at xs (m ∷ ns) [] apart within i n d e f = absurd (cc)
  put_at xs (m ∷ ns) (c ∷ ds) apart within zero n d e f =
      let same_n : m ≡ n = cc in
      let same_d : c ≡ d = cc in
      let at_m : slice_get (all_put (slice_set xs m (Some c)) ns ds) m ≡ Some (Some c) =
      put_other (slice_set xs m (Some c)) ns ds m (λ a. among_each (λ (x : ℕ). ¬ (x ≡ m)) ns m apart.0 a refl) ∙ get_set_same xs m (Some c) (within m (inl refl)) in
      subst (λ (k : ℕ). slice_get (all_put (slice_set xs m (Some c)) ns ds) k ≡ Some (Some d)) same_n (at_m ∙ ap (λ (x : D). Some (Some x)) same_d)
  put_at xs (m ∷ ns) (c ∷ ds) apart within (suc i) n d e f = put_at (slice_set xs m (Some c)) ns ds apart.1 (within_set xs m ns (Some c) within) i n d e f

  -- a place that is left empty was so before, and no disk was put there
  put_none : (xs : List (Option D)) (ns : List ℕ) (ds : List D) → length ns ≡ length ds → ((k : ℕ) → Among ns k → k < length xs) → (m : ℕ) → slice_get (all_put xs ns ds) m ≡ Some None
      → (¬ Among ns m) × (slice_get xs m ≡ Some None)
  put_none xs [] ds long within m e = (λ a. absurd a, e)
  put_none xs (n ∷ ns) [] long within m e = absurd (omega (arith, long))
  put_none xs (n ∷ ns) (d ∷ ds) long within m e =
      let rest = put_none (slice_set xs n (Some d)) ns ds (omega (arith, long)) (within_set xs n ns (Some d) within) m e in
      elim (cases_eq m n) [
        | inl same ↦
            let here : slice_get (slice_set xs n (Some d)) m ≡ Some (Some d) = subst (λ (k : ℕ). slice_get (slice_set xs n (Some d)) k ≡ Some (Some d)) (sym same) (get_set_same xs n (Some d) (within n (inl refl))) in
            let bad : Some (Some d) ≡ Some None = sym here ∙ rest.1 in
            absurd (cc)
        | inr ne ↦ (λ a. elim a [ inl same ↦ ne same | inr later ↦ rest.0 later ], sym (get_set_other xs n m (Some d) ne) ∙ rest.1)
      ]

  put_full : (xs : List (Option D)) (ns : List ℕ) (ds : List D) → length ns ≡ length ds → ((k : ℕ) → Among ns k → k < length xs) → ((k : ℕ) → slice_get xs k ≡ Some None → Among ns k)
      → (m : ℕ) (o : Option D) → slice_get (all_put xs ns ds) m ≡ Some o → (d : D) × (o ≡ Some d)
  put_full xs ns ds long within left m (Some d) e = (d, refl)
  put_full xs ns ds long within left m None e =
      let none = put_none xs ns ds long within m e in
      absurd (none.0 (left m none.1))

  as_many_seats : (root : D) (seats : List (Seated D)) → length (numbers seats) ≡ length (root ∷ map device seats)
  as_many_seats root seats = ap suc (length-map seats disk_number ∙ sym (length-map seats device))

  -- of a node's disks
  module _ (n : Node D) (out : IsLaidOut n.seats n.spares n.lengths) where
    pub places_full : (m : ℕ) (o : Option D) → slice_get (all_put n.spares (numbers n.seats) (devices n)) m ≡ Some o → (d : D) × (o ≡ Some d)
    places_full = put_full n.spares (numbers n.seats) (devices n) (as_many_seats n.root.disk n.seats) out.within out.left

    at_place : (disks : List D) → map Some disks ≡ all_put n.spares (numbers n.seats) (devices n) → (k : ℕ) (d : D) → slice_get (all_put n.spares (numbers n.seats) (devices n)) k ≡ Some (Some d) → slice_get disks k ≡ Some d
    at_place disks are k d e =
        let there = mapped_at Some disks k (Some d) (ap (λ (places : List (Option D)). slice_get places k) are ∙ e) in
        there.1 ∙ there.2

    pub in_places : (disks : List D) → map Some disks ≡ all_put n.spares (numbers n.seats) (devices n) → AreInPlaces n disks
    in_places disks are = record {
      as_many = sym (length-map disks Some) ∙ ap length are ∙ put_length n.spares (numbers n.seats) (devices n);
      seats = λ seat number d e f. at_place disks are number d (put_at n.spares (numbers n.seats) (devices n) out.apart out.within seat number d e f);
      spares = λ number d e. at_place disks are number d
          (put_other n.spares (numbers n.seats) (devices n) number (λ a. let taken = out.taken number a in let bad : Some (Some d) ≡ Some None = sym e ∙ taken in absurd (cc)) ∙ e);
    }
