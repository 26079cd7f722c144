-- The volume behind those of the catalogue is taken off.
use Rattle.std.proofs.Common.{◌≡◌, ◌≢◌, ℕ, zero, suc, ◌<◌, ◌≤◌, List, [], ◌∷◌, ◌++◌, length, map, refl, sym, ◌∙◌, ap, subst, Some, None, inl, inr, length-append, arith}
use Rattle.std.specs.Prelude.{slice_get, slice_set, Option}
use Rattle.std.proofs.lemmas.List.{length-set, map_push}
use Rattle.std.proofs.lemmas.Bool.{cases_eq}
use Rattle.std.proofs.lemmas.Option.{same_Some}
use Rattle.sm_defs.specs.Words.{Among, KeysDiffer}
use Rattle.sm_defs.proofs.Members.{among_left, among_last, among_push, each_among, among_each}
use Rattle.sm_disk.specs.Disk.{DiskState}
use Rattle.sm_catroot.specs.declared.placed.Placed.{Placed}
use Rattle.sm_node.specs.Seats.{Seated, disk_number, device}
use Rattle.sm_node.specs.Nodes.{Node, numbers, LieOn, AreAsLong, IsLaidOut, IsNode}
use Rattle.sm_base.specs.declared.numbers.DiskNo.{DiskNo}
use Rattle.sm_node.specs.Turning.{TakesLast, IsTrimmed}
use Rattle.sm_node.proofs.Lists.{get_set_other, get_set_same}

pub get_front : {X : Type 0} (xs : List X) (y : X) (i : ℕ) (x : X) → slice_get xs i ≡ Some x → slice_get (xs ++ y ∷ []) i ≡ Some x
get_front [] y i x e = absurd (cc)
get_front (z ∷ xs) y zero x e = e
get_front (z ∷ xs) y (suc i) x e = get_front xs y i x e

pub get_last : {X : Type 0} (xs : List X) (y : X) → slice_get (xs ++ y ∷ []) (length xs) ≡ Some y
get_last [] y = refl
get_last (x ∷ xs) y = get_last xs y

differ_front : (ns : List ℕ) (k : ℕ) → KeysDiffer (λ (n : ℕ). n) (ns ++ k ∷ []) → KeysDiffer (λ (n : ℕ). n) ns
differ_front [] k h = tt
differ_front (n ∷ ns) k h = (each_among (λ (m : ℕ). ¬ (m ≡ n)) ns (λ m a. among_each (λ (x : ℕ). ¬ (x ≡ n)) (ns ++ k ∷ []) m h.0 (among_left ns (k ∷ []) m a)), differ_front ns k h.1)

differ_last : (ns : List ℕ) (k m : ℕ) → KeysDiffer (λ (n : ℕ). n) (ns ++ k ∷ []) → Among ns m → m ≢ k
differ_last [] k m h a = absurd a
differ_last (n ∷ ns) k m h (inl e) = λ f. among_each (λ (x : ℕ). ¬ (x ≡ n)) (ns ++ k ∷ []) k h.0 (among_last ns k) (sym f ∙ e)
differ_last (n ∷ ns) k m h (inr a) = differ_last ns k m h.1 a

module _ {D : Type 0} (front : List (Seated D)) (last : Seated D) where
  all_numbers : numbers (front ++ last ∷ []) ≡ numbers front ++ last.disk ∷ []
  all_numbers = ap (λ (ns : List ℕ). 0 ∷ ns) (map_push disk_number front last)

  cut_laid_out : (spares : List (Option D)) (lengths : List ℕ) (d : D) → IsLaidOut (front ++ last ∷ []) spares lengths → IsLaidOut front (slice_set spares last.disk (Some d)) lengths
  cut_laid_out spares lengths d is =
      let apart = subst (λ (ns : List ℕ). KeysDiffer (λ (n : ℕ). n) ns) all_numbers is.apart in
      let there : (n : ℕ) → Among (numbers front) n → Among (numbers (front ++ last ∷ [])) n = λ n a. subst (λ (ns : List ℕ). Among ns n) (sym all_numbers) (among_left (numbers front) (last.disk ∷ []) n a) in
      let at_last : last.disk < length spares = is.within last.disk (subst (λ (ns : List ℕ). Among ns last.disk) (sym all_numbers) (among_last (numbers front) last.disk)) in
      record {
        as_many = length-set spares last.disk (Some d) ∙ is.as_many;
        apart = differ_front (numbers front) last.disk apart;
        within = λ n a. let lt = is.within n (there n a) in let long = length-set spares last.disk (Some d) in omega (arith, lt, long);
        taken = λ n a. get_set_other spares last.disk n (Some d) (differ_last (numbers front) last.disk n apart a) ∙ is.taken n (there n a);
        left = λ n e. elim (cases_eq n last.disk) [
          | inl same ↦
              let here : slice_get (slice_set spares last.disk (Some d)) last.disk ≡ Some None = subst (λ (j : ℕ). slice_get (slice_set spares last.disk (Some d)) j ≡ Some None) same e in
              absurd (let g = sym (get_set_same spares last.disk (Some d) at_last) ∙ here in cc)
          | inr ne ↦ elim (among_push (numbers front) last.disk n (subst (λ (ns : List ℕ). Among ns n) all_numbers (is.left n (sym (get_set_other spares last.disk n (Some d) ne) ∙ e)))) [
            | inl a ↦ a
            | inr same ↦ absurd (ne same)
          ]
        ];
      }

  module _ (state : D → DiskState) (n : Node D) (is : IsNode state n) (seats : n.seats ≡ front ++ last ∷ []) where
    -- the number of its disk has a place
    pub last_within : last.disk < length n.spares
    last_within = is.laid_out.within last.disk (subst (λ (ss : List (Seated D)). Among (numbers ss) last.disk) (sym seats) (subst (λ (ns : List ℕ). Among ns last.disk) (sym all_numbers) (among_last (numbers front) last.disk)))

    front_at : (i : ℕ) (s : Seated D) → slice_get front i ≡ Some s → slice_get n.seats i ≡ Some s
    front_at i s e = ap (λ (ss : List (Seated D)). slice_get ss i) seats ∙ get_front front last i s e

    -- a place of those in front is one of all
    front_numbers : (ps : List Placed) → LieOn ps (map disk_number n.seats) → LieOn ps (map disk_number front)
    front_numbers ps lie = λ i p disk e f. lie i p disk e (ap (λ (ss : List (Seated D)). slice_get (map disk_number ss) i) seats ∙ ap (λ (ks : List ℕ). slice_get ks i) (map_push disk_number front last) ∙ get_front (map disk_number front) last.disk i disk f)

    cut_long : AreAsLong state (record n { seats = front; spares = slice_set n.spares last.disk (Some (device last)) })
    cut_long = record {
      root = is.long.root;
      seats = λ i s e. is.long.seats i s (front_at i s e);
      spares = λ k x e. elim (cases_eq k last.disk) [
        | inl same ↦
            let here : slice_get (slice_set n.spares last.disk (Some (device last))) last.disk ≡ Some (Some x) = subst (λ (j : ℕ). slice_get (slice_set n.spares last.disk (Some (device last))) j ≡ Some (Some x)) same e in
            let there = get_set_same n.spares last.disk (Some (device last)) last_within in
            let found : device last ≡ x = same_Some (device last) x (same_Some (Some (device last)) (Some x) (sym there ∙ here)) in
            ap (λ (j : ℕ). slice_get n.lengths j) same
            ∙ is.long.seats (length front) last (ap (λ (ss : List (Seated D)). slice_get ss (length front)) seats ∙ get_last front last)
            ∙ ap (λ (y : D). Some (state y).size) found
        | inr ne ↦ is.long.spares k x (sym (get_set_other n.spares last.disk k (Some (device last)) ne) ∙ e)
      ];
    }

    pub cut_node : length front ≡ length n.root.held.volumes → IsNode state (record n { seats = front; spares = slice_set n.spares last.disk (Some (device last)) })
    cut_node long = record {
      as_many = omega (arith, long);
      few = let le = is.few in let all = ap length seats ∙ length-append front (last ∷ []) in omega (arith, le, all);
      seated = λ i s e. is.seated i s (front_at i s e);
      laid_out = cut_laid_out n.spares n.lengths (device last) (subst (λ (ss : List (Seated D)). IsLaidOut ss n.spares n.lengths) seats is.laid_out);
      placed = front_numbers n.root.held.volumes is.placed;
      placed_after = λ k e. front_numbers k.volumes (is.placed_after k e);
      long = cut_long;
    }

-- one volume is behind those of the catalogue
module _ {D : Type 0} (n : Node D) (disk : DiskNo) (found : D) (front : List (Seated D)) (taken : TakesLast n.seats disk found front) where
  as_taken : (P : Node D → Type 0) → P (record n { seats = front; spares = slice_set n.spares taken.last.disk (Some (device taken.last)) }) → P (record n { seats = front; spares = slice_set n.spares disk.0 (Some found) })
  as_taken P h =
      subst (λ (k : ℕ). P (record n { seats = front; spares = slice_set n.spares k (Some found) })) (sym taken.named)
      (subst (λ (d : D). P (record n { seats = front; spares = slice_set n.spares taken.last.disk (Some d) })) (sym taken.found_is) h)

  pub taken_within : (state : D → DiskState) → IsNode state n → disk.0 < length n.spares
  taken_within state is = subst (λ (k : ℕ). k < length n.spares) (sym taken.named) (last_within front taken.last state n is taken.is)

  one_behind : length n.root.held.volumes < length n.seats → length n.seats ≤ suc (length n.root.held.volumes) → length front ≡ length n.root.held.volumes
  one_behind less long = let all = ap length taken.is ∙ length-append front (taken.last ∷ []) in omega (arith, less, long, all)

  pub taken_node : (state : D → DiskState) → IsNode state n → length n.root.held.volumes < length n.seats → length n.seats ≤ suc (length n.root.held.volumes) → IsNode state (record n { seats = front; spares = slice_set n.spares disk.0 (Some found) })
  taken_node state is less long = as_taken (λ (x : Node D). IsNode state x) (cut_node front taken.last state n is taken.is (one_behind less long))

  pub taken_trims : length n.root.held.volumes < length n.seats → length n.seats ≤ suc (length n.root.held.volumes) → IsTrimmed n (record n { seats = front; spares = slice_set n.spares disk.0 (Some found) })
  taken_trims less long = as_taken (λ (x : Node D). IsTrimmed n x) (IsTrimmed.cut front taken.last taken.is (one_behind less long))
