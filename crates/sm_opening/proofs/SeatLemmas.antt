-- Disks that are taken to their places, one after the other.
use Rattle.std.proofs.Common.{◌≡◌, ◌≢◌, ℕ, zero, suc, ◌+◌, ◌<◌, ◌≤◌, List, [], ◌∷◌, ◌++◌, length, map, Option, Some, None, slice_get, slice_set, refl, sym, ap, subst, ◌∙◌, inl, inr, arith}
use Rattle.std.specs.Prelude.{◌⊎◌, ◌==◌, ◌&&◌, not, nat_lt, take, true, false}
use Rattle.std.specs.List.{list_any}
use Rattle.std.specs.Option.{option_map}
use Rattle.std.proofs.lemmas.Bool.{cases_lt, cases_eq, cases_Bool, and_parts, not-true, eqb-true, true≢false}
use Rattle.std.proofs.lemmas.Bool.Decides.{nat_tests}
use Rattle.std.proofs.lemmas.List.{length-set, length-map, length-append}
use Rattle.std.proofs.lemmas.Option.{same_Some, none-some, slice_get_within, slice_get_cases, slice_get-map}
use Rattle.sm_base.specs.declared.limits.TheConstants.{MOST_VOLUMES}
use Rattle.sm_defs.specs.Words.{Among, KeysDiffer}
use Rattle.sm_defs.proofs.Members.{from_map, among_place, get_among, any_among, among_any, among_map, each_among}
use Rattle.sm_seats.proofs.Lists.{some_at, one_value, last_or}
use Rattle.sm_node.proofs.Lists.{mapped_at, mapped_to}
use Rattle.sm_disk.specs.Disk.{DiskState, IsSynced}
use Rattle.sm_register.specs.Opened.{FoundValue}
use Rattle.sm_register.specs.Registered.{Registered, registered}
use Rattle.sm_catroot.specs.declared.placed.Placed.{Placed}
use Rattle.sm_catroot.specs.Catalog.{Catalog}
use Rattle.volume_store.specs.Opened.{FoundMaps}
use Rattle.sm_volume.specs.Kept.{IsKept}
use Rattle.sm_node.specs.Seats.{Seated, disk_number, device, AreAtSeats, IsAtSeat}
use Rattle.sm_node.specs.Nodes.{IsNode, IsLaidOut, LieOn, numbers}
use Rattle.sm_opening.specs.Looked.{size_of}
use Rattle.sm_opening.specs.Finding.{LieApart, AreVolumesFound}
use Rattle.sm_opening.specs.Syncing.{AreSynced}
use Rattle.sm_opening.specs.Seating.{IsSeatFrom, IsSeatOf, IsReady, AreReady, AreSeated, IsMadeOf}
use Rattle.sm_opening.proofs.LookLemmas.{get_set_same}
use Rattle.sm_opening.proofs.SyncLemmas.{lies_below}

-- ---- places

set_other : {X : Type 0} (xs : List X) (i : ℕ) (y : X) (n : ℕ) (x : X) → n ≢ i → slice_get xs n ≡ Some x → slice_get (slice_set xs i y) n ≡ Some x
set_other [] i y n x other is = is
set_other (z ∷ xs) zero y zero x other is = absurd (other refl)
set_other (z ∷ xs) zero y (suc n) x other is = is
set_other (z ∷ xs) (suc i) y zero x other is = is
set_other (z ∷ xs) (suc i) y (suc n) x other is = set_other xs i y n x (λ same. other (ap suc same)) is

front_at : {X : Type 0} (xs : List X) (k j : ℕ) (x : X) → j < k → slice_get xs j ≡ Some x → slice_get (take k xs) j ≡ Some x
front_at xs zero j x lt is = absurd (omega (arith, lt))
front_at [] (suc k) j x lt is = is
front_at (y ∷ xs) (suc k) zero x lt is = is
front_at (y ∷ xs) (suc k) (suc j) x lt is = front_at xs k j x (omega (arith, lt)) is

-- the next of a list that is gone through
pub next_at : {X : Type 0} (xs ys all : List X) (x : X) → xs ++ x ∷ ys ≡ all → (length xs < length all) × (slice_get all (length xs) ≡ Some x)
next_at {X} xs ys all x e = (subst (λ (l : List X). length xs < length l) e (omega (arith, length-append xs (x ∷ ys))), subst (λ (l : List X). slice_get l (length xs) ≡ Some x) e (at xs))
  where
    at : (zs : List X) → slice_get (zs ++ x ∷ ys) (length zs) ≡ Some x
    at [] = refl
    at (z ∷ zs) = at zs

disks_differ : {D : Type 0} (xs : List (Seated D)) → ((j k : ℕ) (a b : Seated D) → j < k → slice_get xs j ≡ Some a → slice_get xs k ≡ Some b → b.disk ≢ a.disk) → KeysDiffer (λ (n : ℕ). n) (map disk_number xs)
disks_differ [] h = tt
disks_differ {D} (x ∷ xs) h = (each_among (λ (m : ℕ). ¬ (m ≡ x.disk)) (map disk_number xs) other, disks_differ xs (λ j k a b lt at_j at_k. h (suc j) (suc k) a b (omega (arith, lt)) at_j at_k))
  where
    other : (m : ℕ) → Among (map disk_number xs) m → ¬ (m ≡ x.disk)
    other m a =
        let (s, member, e) = from_map disk_number xs m a in
        let (k, is) = among_place xs s member in
        λ same. h 0 (suc k) x s (omega arith) refl is (sym e ∙ same)

-- ---- disks that lie apart

module _ (n : ℕ) (ps : List Placed) (apart : LieApart n ps) where
  behind : (k : ℕ) (p : Placed) → slice_get ps k ≡ Some p → p.disk.0 ≢ 0
  behind k p is =
      let a = and_parts (not (p.disk.0 == 0)) (nat_lt p.disk.0 n && not (list_any (λ (q : Placed). q.disk.0 == p.disk.0) (take k ps))) (apart k p is) in
      let h = a.0 in grind (arith, nat_tests)

  earlier_differs : (j k : ℕ) (q p : Placed) → j < k → slice_get ps j ≡ Some q → slice_get ps k ≡ Some p → q.disk.0 ≢ p.disk.0
  earlier_differs j k q p lt at_j at_k same =
      let a = and_parts (not (p.disk.0 == 0)) (nat_lt p.disk.0 n && not (list_any (λ (q : Placed). q.disk.0 == p.disk.0) (take k ps))) (apart k p at_k) in
      let b = and_parts (nat_lt p.disk.0 n) (not (list_any (λ (q : Placed). q.disk.0 == p.disk.0) (take k ps))) a.1 in
      let free : list_any (λ (q : Placed). q.disk.0 == p.disk.0) (take k ps) ≡ false = not-true (list_any (λ (q : Placed). q.disk.0 == p.disk.0) (take k ps)) b.1 in
      let test : (q.disk.0 == p.disk.0) ≡ true = (grind (arith, nat_tests, same)) in
      true≢false (sym (any_among (λ (q : Placed). q.disk.0 == p.disk.0) (take k ps) q (get_among (take k ps) j q (front_at ps k j q lt at_j)) test) ∙ free)

-- ---- the volumes, one after the other

module _ {D : Type 0} (state : D → DiskState) (ps : List Placed) (fs : List FoundMaps) (olds : List (Option D)) where
  pub none_seated : AreSeated state ps fs 0 olds olds []
  none_seated = record {
    as_long = refl;
    as_many = refl;
    each = λ k p f s at_p at_f at_s. absurd (none-some s at_s);
    kept = λ k s at_s. absurd (none-some s at_s);
    taken = λ k p lt at_p. absurd (omega (arith, lt));
    others = λ n o is free. is;
  }

  module _ (apart : LieApart (length olds) ps) (ready : AreReady state ps fs olds) (i : ℕ) (mids : List (Option D)) (seats : List (Seated D)) (so_far : AreSeated state ps fs i olds mids seats)
      (p : Placed) (f : FoundMaps) (at_p : slice_get ps i ≡ Some p) (at_f : slice_get fs i ≡ Some f) where
    still_there : (o : Option D) → slice_get olds p.disk.0 ≡ Some o → slice_get mids p.disk.0 ≡ Some o
    still_there o is = so_far.others p.disk.0 o is (λ k q lt at_q. earlier_differs (length olds) ps apart k i q p lt at_q at_p)

    pub is_ready : IsReady state mids i p.disk.0 f
    is_ready =
        let r = ready i p f at_p at_f in
        record { disk = r.disk; there = still_there (Some r.disk) r.there; found = r.found; synced = r.synced }

    module _ (s : Seated D) (is : IsSeatFrom state mids p.disk.0 f s) (kept : IsKept state s.volume) where
      from_olds : IsSeatFrom state olds p.disk.0 f s
      from_olds =
          let r = ready i p f at_p at_f in
          record { device = r.there ∙ sym (still_there (Some r.disk) r.there) ∙ is.device; starts = is.starts }

      at_seat : IsAtSeat state i s
      at_seat = record {
        kept = kept;
        numbered = ap (λ v. v.number) is.starts.volume ∙ (ready i p f at_p at_f).found.1;
      }

      each_now : (k : ℕ) (q : Placed) (h : FoundMaps) (t : Seated D) → slice_get ps k ≡ Some q → slice_get fs k ≡ Some h → slice_get (seats ++ s ∷ []) k ≡ Some t → IsSeatFrom state olds q.disk.0 h t
      each_now k q h t at_q at_h at_t = elim (last_or seats s k t at_t) [
        | inl (lt, before) ↦ so_far.each k q h t at_q at_h before
        | inr (last, same) ↦
            let k_is : k ≡ i = last ∙ so_far.as_many in
            let p_is : p ≡ q = same_Some p q (sym at_p ∙ ap (λ (m : ℕ). slice_get ps m) (sym k_is) ∙ at_q) in
            let f_is : f ≡ h = same_Some f h (sym at_f ∙ ap (λ (m : ℕ). slice_get fs m) (sym k_is) ∙ at_h) in
            subst (λ (z : Placed). IsSeatFrom state olds z.disk.0 h t) p_is
            (subst (λ (z : FoundMaps). IsSeatFrom state olds p.disk.0 z t) f_is
            (subst (λ (z : Seated D). IsSeatFrom state olds p.disk.0 f z) same from_olds))
      ]

      kept_now : AreAtSeats state (seats ++ s ∷ [])
      kept_now k t at_t = elim (last_or seats s k t at_t) [
        | inl (lt, before) ↦ so_far.kept k t before
        | inr (last, same) ↦
            subst (λ (m : ℕ). IsAtSeat state m t) (sym (last ∙ so_far.as_many)) (subst (λ (z : Seated D). IsAtSeat state i z) same at_seat)
      ]

      taken_now : (k : ℕ) (q : Placed) → k < i + 1 → slice_get ps k ≡ Some q → slice_get (slice_set mids p.disk.0 None) q.disk.0 ≡ Some None
      taken_now k q lt at_q = elim (cases_lt k i) [
        | inl less ↦ set_other mids p.disk.0 None q.disk.0 None (earlier_differs (length olds) ps apart k i q p less at_q at_p) (so_far.taken k q less at_q)
        | inr from ↦
            let k_is : k ≡ i = omega (arith, lt, from) in
            let p_is : p ≡ q = same_Some p q (sym at_p ∙ ap (λ (m : ℕ). slice_get ps m) (sym k_is) ∙ at_q) in
            subst (λ (z : Placed). slice_get (slice_set mids p.disk.0 None) z.disk.0 ≡ Some None) p_is (get_set_same mids p.disk.0 (Some (device s)) None is.device)
      ]

      pub one_more_seated : AreSeated state ps fs (i + 1) olds (slice_set mids p.disk.0 None) (seats ++ s ∷ [])
      one_more_seated = record {
        as_long = length-set mids p.disk.0 None ∙ so_far.as_long;
        as_many = (let many = so_far.as_many in let long = length-append seats (s ∷ []) in omega (arith, many, long));
        each = each_now;
        kept = kept_now;
        taken = taken_now;
        others = λ n o there free.
            set_other mids p.disk.0 None n o (λ same. free i p (omega arith) at_p (sym same))
            (so_far.others n o there (λ k q lt at_q. free k q (omega (arith, lt)) at_q));
      }

-- ---- the whole

module _ {D : Type 0} (state : D → DiskState) (ds : List D) where
  -- all disks at hand, but that of the catalogue
  abbrev pub at_hand : List (Option D)
  at_hand = slice_set (map Some ds) 0 None

  hand_length : length at_hand ≡ length ds
  hand_length = length-set (map Some ds) 0 None ∙ length-map ds Some

  hand_at : (n : ℕ) (d : D) → slice_get ds n ≡ Some d → slice_get (map Some ds) n ≡ Some (Some d)
  hand_at n d is = slice_get-map Some ds n ∙ ap (option_map Some) is

  hand_other : (n : ℕ) (d : D) → n ≢ 0 → slice_get ds n ≡ Some d → slice_get at_hand n ≡ Some (Some d)
  hand_other n d other is = set_other (map Some ds) 0 None n (Some d) other (hand_at n d is)

  -- the disk that was taken from a place is that of the number
  pub is_disk : (n : ℕ) (x d : D) → slice_get ds n ≡ Some x → slice_get (map Some ds) n ≡ Some (Some d) → x ≡ d
  is_disk n x d is taken = same_Some x d (same_Some (Some x) (Some d) (sym (hand_at n x is) ∙ taken))

  module _ (ps : List Placed) (fs : List FoundMaps) (apart : LieApart (length ds) ps) where
    pub hand_apart : LieApart (length at_hand) ps
    hand_apart = subst (λ (n : ℕ). LieApart n ps) (sym hand_length) apart

    pub are_ready : AreVolumesFound state ps ds fs → AreSynced state ps ds → AreReady state ps fs at_hand
    are_ready found synced k p f at_p at_f =
        let (x, there, is) = found.each k p f at_p at_f in
        let (y, also, clean) = synced k p at_p in
        record {
          disk = x;
          there = hand_other p.disk.0 x (behind (length ds) ps apart k p at_p) there;
          found = is;
          synced = subst (λ (z : D). IsSynced (state z)) (same_Some y x (sym also ∙ there)) clean;
        }

    module _ (as_many : length fs ≡ length ps) (news : List (Option D)) (seats : List (Seated D)) (seated : AreSeated state ps fs (length fs) at_hand news seats) where
      news_length : length news ≡ length ds
      news_length = seated.as_long ∙ hand_length

      placed_at : (k : ℕ) (s : Seated D) → slice_get seats k ≡ Some s → (p : Placed) × (k < length fs) × (slice_get ps k ≡ Some p) × (s.disk ≡ p.disk.0)
      placed_at k s at_s =
          let lt : k < length fs = (let within = slice_get_within seats k s at_s in let many = seated.as_many in omega (arith, within, many)) in
          let (p, at_p) = some_at ps k (omega (arith, lt, as_many)) in
          let (f, at_f) = some_at fs k lt in
          (p, lt, at_p, (seated.each k p f s at_p at_f at_s).starts.disk)

      seat_at : (k : ℕ) (p : Placed) → slice_get ps k ≡ Some p → Among (map disk_number seats) p.disk.0
      seat_at k p at_p =
          let within = slice_get_within ps k p at_p in
          let (s, at_s) = some_at seats k (let many = seated.as_many in omega (arith, within, many, as_many)) in
          let (f, at_f) = some_at fs k (omega (arith, within, as_many)) in
          subst (λ (n : ℕ). Among (map disk_number seats) n) (seated.each k p f s at_p at_f at_s).starts.disk (among_map disk_number seats s (get_among seats k s at_s))

      -- a number of a seat is that of a volume in the catalogue
      placed_of : (n : ℕ) → Among (map disk_number seats) n → (k : ℕ) × (p : Placed) × (k < length fs) × (slice_get ps k ≡ Some p) × (n ≡ p.disk.0)
      placed_of n a =
          let (s, member, e) = from_map disk_number seats n a in
          let (k, at_s) = among_place seats s member in
          let (p, lt, at_p, same) = placed_at k s at_s in
          (k, p, lt, at_p, e ∙ same)

      differ : (j k : ℕ) (a b : Seated D) → j < k → slice_get seats j ≡ Some a → slice_get seats k ≡ Some b → b.disk ≢ a.disk
      differ j k a b lt at_a at_b same =
          let (q, lt_q, at_q, disk_q) = placed_at j a at_a in
          let (p, lt_p, at_p, disk_p) = placed_at k b at_b in
          earlier_differs (length ds) ps apart j k q p lt at_q at_p (sym disk_q ∙ sym same ∙ disk_p)

      not_first : (n : ℕ) → Among (map disk_number seats) n → ¬ (n ≡ 0)
      not_first n a = let (k, p, lt, at_p, e) = placed_of n a in λ same. behind (length ds) ps apart k p at_p (sym e ∙ same)

      first_taken : (d : D) → slice_get ds 0 ≡ Some d → slice_get news 0 ≡ Some None
      first_taken d first = seated.others 0 None (get_set_same (map Some ds) 0 (Some d) None (hand_at 0 d first)) (λ k p lt at_p. behind (length ds) ps apart k p at_p)

      pub spare_at : (n : ℕ) (d : D) → slice_get ds n ≡ Some d → n ≢ 0 → ((k : ℕ) (p : Placed) → slice_get ps k ≡ Some p → p.disk.0 ≢ n) → slice_get news n ≡ Some (Some d)
      spare_at n d is other free = seated.others n (Some d) (hand_other n d other is) (λ k p lt at_p. free k p at_p)

      within : (d : D) → slice_get ds 0 ≡ Some d → (n : ℕ) → Among (numbers seats) n → n < length news
      within d first n (inl first_place) = let lt = slice_get_within ds 0 d first in let long = news_length in omega (arith, lt, long, first_place)
      within d first n (inr a) =
          let (k, p, lt, at_p, e) = placed_of n a in
          let below = lies_below (length ds) ps k p apart at_p in
          let long = news_length in
          omega (arith, below, long, e)

      taken : (d : D) → slice_get ds 0 ≡ Some d → (n : ℕ) → Among (numbers seats) n → slice_get news n ≡ Some None
      taken d first n (inl first_place) = subst (λ (m : ℕ). slice_get news m ≡ Some None) (sym first_place) (first_taken d first)
      taken d first n (inr a) =
          let (k, p, lt, at_p, e) = placed_of n a in
          subst (λ (m : ℕ). slice_get news m ≡ Some None) (sym e) (seated.taken k p lt at_p)

      left : (n : ℕ) → slice_get news n ≡ Some None → Among (numbers seats) n
      left n none = elim (cases_eq n 0) [
        | inl first_place ↦ inl first_place
        | inr other ↦ elim (cases_Bool (list_any (λ (m : ℕ). m == n) (map disk_number seats))) [
          | inl used ↦
              let (m, a, e) = among_any (λ (m : ℕ). m == n) (map disk_number seats) used in
              inr (subst (λ (k : ℕ). Among (map disk_number seats) k) (eqb-true m n e) a)
          | inr free ↦
              let (d, is) = some_at ds n (let lt = slice_get_within news n None none in let long = news_length in omega (arith, lt, long)) in
              let there = spare_at n d is other (λ k p at_p same.
              true≢false (sym (any_among (λ (m : ℕ). m == n) (map disk_number seats) p.disk.0 (seat_at k p at_p) (grind (arith, nat_tests, same))) ∙ free)) in
              absurd (none-some d (same_Some None (Some d) (sym none ∙ there)))
        ]
      ]

      pub laid_out : (d : D) → slice_get ds 0 ≡ Some d → (lengths : List ℕ) → lengths ≡ map (size_of state) ds → IsLaidOut seats news lengths
      laid_out d first lengths sizes = record {
        as_many = news_length ∙ sym (ap length sizes ∙ length-map ds (size_of state));
        apart = (each_among (λ (m : ℕ). ¬ (m ≡ 0)) (map disk_number seats) not_first, disks_differ seats differ);
        within = within d first;
        taken = taken d first;
        left = left;
      }

      seat_of : (k : ℕ) (p : Placed) (f : FoundMaps) (s : Seated D) → slice_get ps k ≡ Some p → slice_get fs k ≡ Some f → slice_get seats k ≡ Some s → IsSeatOf state ds p f s
      seat_of k p f s at_p at_f at_s =
          let is = seated.each k p f s at_p at_f at_s in
          let (d, there) = some_at ds p.disk.0 (lies_below (length ds) ps k p apart at_p) in
          let same = hand_other p.disk.0 d (behind (length ds) ps apart k p at_p) there in
          record {
            device = there ∙ same_Some (Some d) (Some (device s)) (sym same ∙ is.device);
            starts = is.starts;
          }

      all_up : (k : ℕ) (s : Seated D) → slice_get seats k ≡ Some s → s.volume.up ≡ true
      all_up k s at_s =
          let (p, lt, at_p, same) = placed_at k s at_s in
          let (f, at_f) = some_at fs k lt in
          ap (λ v. v.up) (seated.each k p f s at_p at_f at_s).starts.volume

      module _ (k : FoundValue Catalog) (is_ps : k.value.volumes ≡ ps) (r : Registered D Catalog) (is_root : r ≡ record { disk = r.disk; selected = k.number; held = k.value; after = None; up = true })
          (first : slice_get ds 0 ≡ Some r.disk) (lengths : List ℕ) (sizes : lengths ≡ map (size_of state) ds) where
        volumes_are : r.held.volumes ≡ ps
        volumes_are = ap (λ (q : Registered D Catalog). q.held.volumes) is_root ∙ is_ps

        lie_as_placed : LieOn r.held.volumes (map disk_number seats)
        lie_as_placed = λ i p disk e f.
            let s = mapped_at disk_number seats i disk f in
            let (q, lt, at_q, same) = placed_at i s.0 s.1 in
            let is_p : q ≡ p = one_value (slice_get ps i) q p at_q (ap (λ (l : List Placed). slice_get l i) (sym volumes_are) ∙ e) in
            ap (λ (x : Placed). x.disk.0) (sym is_p) ∙ sym same ∙ s.2

        long_at : (m : ℕ) (d : D) → slice_get ds m ≡ Some d → slice_get lengths m ≡ Some (state d).size
        long_at m d e = ap (λ (l : List ℕ). slice_get l m) sizes ∙ mapped_to (size_of state) ds m d e

        seat_long : (i : ℕ) (s : Seated D) → slice_get seats i ≡ Some s → slice_get lengths s.disk ≡ Some (state (device s)).size
        seat_long i s e =
            let (p, lt, at_p, same) = placed_at i s e in
            let (f, at_f) = some_at fs i lt in
            ap (λ (m : ℕ). slice_get lengths m) same ∙ long_at p.disk.0 (device s) (seat_of i p f s at_p at_f e).device

        -- a disk that is at hand is the one of its number
        spare_is : (m : ℕ) (x : D) → slice_get news m ≡ Some (Some x) → slice_get ds m ≡ Some x
        spare_is m x e =
            let y = some_at ds m (let lt = slice_get_within news m (Some x) e in let long = news_length in omega (arith, lt, long)) in
            let not_used : (j : ℕ) → Among (numbers seats) j → ¬ (m ≡ j) = λ j a same. (let none = taken r.disk first j a in let bad : Some (Some x) ≡ Some None = sym e ∙ ap (λ (i : ℕ). slice_get news i) same ∙ none in absurd (cc)) in
            let there = spare_at m y.0 y.1 (not_used 0 (inl refl)) (λ j p at_p same. not_used p.disk.0 (inr (seat_at j p at_p)) (sym same)) in
            y.1 ∙ ap (λ (z : D). Some z) (same_Some y.0 x (same_Some (Some y.0) (Some x) (sym there ∙ e)))

        pub is_node : length ps ≤ MOST_VOLUMES → IsNode state (record { root = r; seats = seats; spares = news; lengths = lengths })
        is_node few = record {
          as_many = (let many = seated.as_many in let same = ap length volumes_are in omega (arith, many, same, as_many));
          few = (let many = seated.as_many in omega (arith, many, as_many, few));
          seated = seated.kept;
          laid_out = laid_out r.disk first lengths sizes;
          placed = lie_as_placed;
          placed_after = λ j e. absurd (let bad : None ≡ Some j = sym (ap (λ (q : Registered D Catalog). q.after) is_root) ∙ e in cc);
          long = record {
            root = long_at 0 r.disk first;
            seats = seat_long;
            spares = λ m x e. long_at m x (spare_is m x e);
          };
        }

        pub is_made : IsMadeOf state ds lengths k fs (record { root = r; seats = seats; spares = news; lengths = lengths })
        is_made = record {
          disk = first;
          root = is_root;
          as_many = seated.as_many;
          seats = λ i p f s at_p at_f at_s. seat_of i p f s (sym (ap (λ (l : List Placed). slice_get l i) is_ps) ∙ at_p) at_f at_s;
          spares = λ m d is other free. spare_at m d is other (λ i p at_p. free p (subst (λ (l : List Placed). Among l p) (sym is_ps) (get_among ps i p at_p)));
          lengths = refl;
          up = record {
            root = ap (λ (q : Registered D Catalog). q.up) is_root;
            as_many = ap length volumes_are ∙ sym as_many ∙ sym seated.as_many;
            volumes = all_up;
          };
        }

-- ---- a list that was lent as a slice

pub back_is : {X : Type 0} (len : ℕ) (xs rest : List X) → len ≡ length xs → take len (xs ++ rest) ≡ xs
back_is {X} len xs rest same = ap (λ (n : ℕ). take n (xs ++ rest)) same ∙ go xs
  where
    go : (zs : List X) → take (length zs) (zs ++ rest) ≡ zs
    go [] = refl
    go (z ∷ zs) = ap (λ (l : List X). z ∷ l) (go zs)

module _ {D : Type 0} (state : D → DiskState) (ds : List D) where
  pub hand_is : (len : ℕ) (items lent left rest back : List (Option D)) → len ≡ length items → items ≡ map Some ds → lent ≡ items → left ≡ slice_set lent 0 None → back ≡ take len (left ++ rest) → back ≡ at_hand state ds
  hand_is len items lent left rest back same all is_lent is_left is_back =
      is_back ∙ back_is len left rest (same ∙ sym (ap length is_left ∙ length-set lent 0 None ∙ ap length is_lent)) ∙ is_left ∙ ap (λ (l : List (Option D)). slice_set l 0 None) (is_lent ∙ all)

  module _ (k : FoundValue Catalog) (fs : List FoundMaps) (ps : List Placed) (is_ps : ps ≡ k.value.volumes) (hand : List (Option D)) (is_hand : hand ≡ at_hand state ds) (apart : LieApart (length ds) k.value.volumes) where
    pub lent_apart : LieApart (length hand) ps
    lent_apart =
        subst (λ (l : List Placed). LieApart (length hand) l) (sym is_ps)
        (subst (λ (l : List (Option D)). LieApart (length l) k.value.volumes) (sym is_hand) (hand_apart state ds k.value.volumes fs apart))

    pub lent_ready : AreVolumesFound state k.value.volumes ds fs → AreSynced state k.value.volumes ds → AreReady state ps fs hand
    lent_ready found synced =
        subst (λ (l : List Placed). AreReady state l fs hand) (sym is_ps)
        (subst (λ (l : List (Option D)). AreReady state k.value.volumes fs l) (sym is_hand) (are_ready state ds k.value.volumes fs apart found synced))

    module _ (as_many : length fs ≡ length k.value.volumes) (few : length k.value.volumes ≤ MOST_VOLUMES) (lengths : List ℕ) (sizes : lengths ≡ map (size_of state) ds)
        (x d : D) (first : slice_get ds 0 ≡ Some x) (taken : slice_get (map Some ds) 0 ≡ Some (Some d))
        (r : Registered D Catalog) (is_root : r ≡ record { disk = d; selected = k.number; held = k.value; after = None; up = true })
        (news : List (Option D)) (seats : List (Seated D)) (seated : AreSeated state ps fs (length fs) hand news seats) where
      seated_there : AreSeated state k.value.volumes fs (length fs) (at_hand state ds) news seats
      seated_there =
          subst (λ (l : List Placed). AreSeated state l fs (length fs) (at_hand state ds) news seats) is_ps
          (subst (λ (l : List (Option D)). AreSeated state ps fs (length fs) l news seats) is_hand seated)

      disk_is : r.disk ≡ d
      disk_is = ap (λ (q : Registered D Catalog). q.disk) is_root

      root_is : r ≡ record { disk = r.disk; selected = k.number; held = k.value; after = None; up = true }
      root_is = is_root ∙ ap (λ (z : D). registered z k.number k.value None true) (sym disk_is)

      at_root : slice_get ds 0 ≡ Some r.disk
      at_root = first ∙ ap Some (is_disk state ds 0 x d first taken ∙ sym disk_is)

      pub many_left : length news ≡ length ds
      many_left = seated_there.as_long ∙ hand_length state ds

      pub node_is : IsNode state (record { root = r; seats = seats; spares = news; lengths = lengths })
      node_is = is_node state ds k.value.volumes fs apart as_many news seats seated_there k refl r root_is at_root lengths sizes few

      pub made_is : IsMadeOf state ds lengths k fs (record { root = r; seats = seats; spares = news; lengths = lengths })
      made_is = is_made state ds k.value.volumes fs apart as_many news seats seated_there k refl r root_is at_root lengths sizes
