-- A node through a restart of its disks.
use Rattle.std.proofs.Common.{◌≡◌, ℕ, suc, ◌≤◌, List, ◌∷◌, length, map, refl, sym, ◌∙◌, ap, subst, Some, None, Result, Ok, Err, inl, inr, arith}
use Rattle.std.specs.Prelude.{slice_get, slice_set, Option}
use Rattle.std.proofs.lemmas.List.{length-set}
use Rattle.std.proofs.lemmas.Bool.{cases_eq}
use Rattle.std.proofs.lemmas.Option.{slice_get_within}
use Rattle.sm_base.specs.declared.limits.TheConstants.{MOST_VOLUMES}
use Rattle.sm_base.specs.declared.numbers.DiskNo.{DiskNo}
use Rattle.sm_base.specs.declared.numbers.Side.{Side}
use Rattle.sm_base.specs.declared.numbers.Side.TheVariants.{Before, After}
use Rattle.sm_base.specs.declared.faults.Failed.{Failed}
use Rattle.sm_defs.specs.Words.{Among, KeysDiffer}
use Rattle.sm_disk.specs.Disk.{DiskState}
use Rattle.sm_model.specs.Answers.{volno}
use Rattle.sm_volume.specs.Mounted.{Mounted}
use Rattle.sm_register.specs.Registered.{Registered}
use Rattle.sm_register.specs.Restarted.{Restarts}
use Rattle.sm_register.specs.Turned.{of_side, joined}
use Rattle.sm_catroot.specs.Catalog.{Catalog}
use Rattle.sm_node.specs.Pending.{IsLong}
use Rattle.sm_node.specs.Seats.{Seated, disk_number, device, IsAtSeat, AreAtSeats, moved}
use Rattle.sm_node.specs.Nodes.{Node, numbers, LieOn, IsLaidOut, IsNode}
use Rattle.sm_node.specs.Turning.{none, more}
use Rattle.sm_node.specs.Turning.{VolumeTurns, RootTurns, InTurn, SpareTurns, SparesTurn, NodeTurns, VolumeFailed, SeatFailed}
use Rattle.sm_seats.proofs.Lists.{some_at, one_value}
use Rattle.sm_node.proofs.Lists.{get_set_other, get_set_same, mapped_to}
use Rattle.sm_node.proofs.VolumeTurning.{joined_none}
use Rattle.sm_node.proofs.SpareTurning.{spares_stay}
use Rattle.sm_node.proofs.SeatTurning.{turn_long, turn_numbers}
use Rattle.sm_node.proofs.LongTurning.{long_through}

module _ {D : Type 0} (state : D → DiskState) where
  seats_set : (seats : List (Seated D)) (at : ℕ) (old : Seated D) (new : Mounted D) (r : Side) → AreAtSeats state seats → slice_get seats at ≡ Some old → VolumeTurns state r old.volume new → AreAtSeats state (slice_set seats at (moved old new))
  seats_set seats at old new r are was turns = λ i s e. elim (cases_eq i at) [
    | inl here ↦
        let there : slice_get (slice_set seats at (moved old new)) at ≡ Some s = subst (λ (j : ℕ). slice_get (slice_set seats at (moved old new)) j ≡ Some s) here e in
        let is : moved old new ≡ s = one_value (slice_get (slice_set seats at (moved old new)) at) (moved old new) s (get_set_same seats at (moved old new) (slice_get_within seats at old was)) there in
        subst (λ (x : Seated D). IsAtSeat state i x) is (record { kept = turns.kept; numbered = turns.number ∙ (are at old was).numbered ∙ ap volno (sym here) })
    | inr ne ↦ are i s (sym (get_set_other seats at i (moved old new) ne) ∙ e)
  ]

  pub turn_seats : {olds news : List (Seated D)} {s t : Side} → InTurn state olds s news t → AreAtSeats state olds → AreAtSeats state news
  turn_seats none are = are
  turn_seats (more {mids = mids} i r at old new was turns) are = seats_set mids at old new r (turn_seats i are) was turns

  -- ---- disks that hold nothing

  none_from : (x : Option D) → SpareTurns state x None → x ≡ None
  none_from None h = refl
  none_from (Some d) h = absurd h

  none_to : (y : Option D) → SpareTurns state None y → y ≡ None
  none_to None h = refl
  none_to (Some d) h = absurd h

  laid_out : (seats : List (Seated D)) (olds news : List (Option D)) (lengths : List ℕ) → SparesTurn state olds news → IsLaidOut seats olds lengths → IsLaidOut seats news lengths
  laid_out seats olds news lengths h is = record {
    as_many = h.as_long ∙ is.as_many;
    apart = is.apart;
    within = λ n a. let lt = is.within n a in let long = h.as_long in omega (arith, lt, long);
    taken = λ n a.
        let y = some_at news n (let lt = is.within n a in let long = h.as_long in omega (arith, lt, long)) in
        y.1 ∙ ap (λ (o : Option D). Some o) (none_to y.0 (h.each n None y.0 (is.taken n a) y.1));
    left = λ n e.
        let x = some_at olds n (let lt = slice_get_within news n None e in let long = h.as_long in omega (arith, lt, long)) in
        is.left n (x.1 ∙ ap (λ (o : Option D). Some o) (none_from x.0 (h.each n x.0 None x.1 e)));
  }

  by_numbers : (olds news : List (Seated D)) (spares : List (Option D)) (lengths : List ℕ) → map disk_number news ≡ map disk_number olds → IsLaidOut olds spares lengths → IsLaidOut news spares lengths
  by_numbers olds news spares lengths same is =
      let all : numbers news ≡ numbers olds = ap (λ (ns : List ℕ). 0 ∷ ns) same in
      record {
        as_many = is.as_many;
        apart = subst (λ (ns : List ℕ). KeysDiffer (λ (n : ℕ). n) ns) (sym all) is.apart;
        within = λ n a. is.within n (subst (λ (ns : List ℕ). Among ns n) all a);
        taken = λ n a. is.taken n (subst (λ (ns : List ℕ). Among ns n) all a);
        left = λ n e. subst (λ (ns : List ℕ). Among ns n) (sym all) (is.left n e);
      }

  -- ---- the catalogue

  module _ (old new : Registered D Catalog) where
    root_ok : (side : Side) → Restarts state old (Ok side) new → RootTurns state side old new
    root_ok side c = record {
      goes = c.goes;
      turns = c.ok.3;
      held = c.ok.0;
      after = λ k e. absurd (let g = sym c.ok.1 ∙ e in cc);
    }

    root_err : (f : Failed) → Restarts state old (Err f) new → RootTurns state Before old new
    root_err f c = record {
      goes = c.goes;
      turns = (λ told. ap (λ (x : Registered D Catalog). x.selected) c.fault, λ e. ap (λ (x : Registered D Catalog). x.after) c.fault ∙ e);
      held = ap (λ (x : Registered D Catalog). Some x.held) (sym c.fault);
      after = λ k e. sym (ap (λ (x : Registered D Catalog). x.after) c.fault) ∙ e;
    }

    pub turned_ok : (r : Result Side Failed) (side : Side) → r ≡ Ok side → Restarts state old r new → RootTurns state side old new
    turned_ok r side e c = root_ok side (subst (λ (x : Result Side Failed). Restarts state old x new) e c)

    pub turned_err : (r : Result Side Failed) (f : Failed) → r ≡ Err f → Restarts state old r new → RootTurns state Before old new
    turned_err r f e c = root_err f (subst (λ (x : Result Side Failed). Restarts state old x new) e c)

  -- a volume of the side that was read is at a seat, and at most one seat has none
  pub held_long : (r : Side) (n : Node D) (k : Catalog) → IsLong n → length n.root.held.volumes ≤ length n.seats → of_side r n.root.held n.root.after ≡ Some k → (length k.volumes ≤ length n.seats) × (length n.seats ≤ suc (length k.volumes))
  held_long Before n k long less e = let same : n.root.held ≡ k = cc in subst (λ (j : Catalog). (length j.volumes ≤ length n.seats) × (length n.seats ≤ suc (length j.volumes))) same (less, long.held)
  held_long After n k long less e = let same = long.after k e in (omega (arith, same), omega (arith, same))

  -- its places too are those of the seats
  held_placed : (r : Side) (n : Node D) (k : Catalog) → IsNode state n → of_side r n.root.held n.root.after ≡ Some k → LieOn k.volumes (map disk_number n.seats)
  held_placed Before n k is e = subst (λ (j : Catalog). LieOn j.volumes (map disk_number n.seats)) (let same : n.root.held ≡ k = cc in same) is.placed
  held_placed After n k is e = is.placed_after k e

  -- ---- the node

  module _ (n n' : Node D) (s t : Side) (h : NodeTurns state n s n' t) (long : IsLong n) (is : IsNode state n) where
    pub node_turned : IsNode state n'
    node_turned =
        let seats = turn_long state h.volumes in
        let held = held_long h.r n n'.root.held long is.as_many h.root.held in
        record {
          as_many = let le = held.0 in omega (arith, seats, le);
          few = subst (λ (k : ℕ). k ≤ MOST_VOLUMES) (sym seats) is.few;
          seated = turn_seats h.volumes is.seated;
          laid_out = subst (λ (ls : List ℕ). IsLaidOut n'.seats n'.spares ls) (sym h.lengths) (laid_out n'.seats n.spares n'.spares n.lengths h.spares (by_numbers n.seats n'.seats n.spares n.lengths (turn_numbers state h.volumes) is.laid_out));
          placed = subst (λ (ks : List ℕ). LieOn n'.root.held.volumes ks) (sym (turn_numbers state h.volumes)) (held_placed h.r n n'.root.held is h.root.held);
          placed_after = λ k e. subst (λ (ks : List ℕ). LieOn k.volumes ks) (sym (turn_numbers state h.volumes)) (is.placed_after k (h.root.after k e));
          long = long_through state n n' s t h is.long;
        }

    pub long_turned : IsLong n'
    long_turned =
        let seats = turn_long state h.volumes in
        let held = held_long h.r n n'.root.held long is.as_many h.root.held in
        record {
          held = let le = held.1 in omega (arith, seats, le);
          after = λ k e. long.after k (h.root.after k e) ∙ sym seats;
        }

  -- its parts, one after the other
  pub node_turns : (n : Node D) (root' : Registered D Catalog) (r : Result Side Failed) (read : Side) → r ≡ Ok read → Restarts state n.root r root' → (s u t : Side) → u ≡ joined s read
      → (before news items : List (Seated D)) → before ≡ n.seats → items ≡ news → InTurn state before u news t → (spares : List (Option D)) → SparesTurn state n.spares spares
      → NodeTurns state n s (record n { root = root'; seats = items; spares = spares }) t
  node_turns n root' r read is restarts s u t side before news items from to turns spares rest = record {
    r = read;
    root = turned_ok n.root root' r read is restarts;
    volumes = subst (λ (ss : List (Seated D)). InTurn state n.seats (joined s read) ss t) (sym to)
        (subst (λ (v : Side). InTurn state n.seats v news t) side (subst (λ (ss : List (Seated D)). InTurn state ss u news t) from turns));
    spares = rest;
    lengths = refl;
  }

  -- ---- failures

  -- the catalogue's disk failed
  pub stuck : (n : Node D) (root' : Registered D Catalog) (s : Side) → RootTurns state Before n.root root' → NodeTurns state n s (record n { root = root' }) s
  stuck n root' s h = record { r = Before; root = h; volumes = subst (λ (t : Side). InTurn state n.seats t n.seats s) (joined_none s) InTurn.none; spares = spares_stay state n.spares; lengths = refl }

  pub root_failed : (n : Node D) (root' : Registered D Catalog) (r : Result Side Failed) (f : Failed) (count : ℕ) → r ≡ Err f → Restarts state n.root r root' → count ≡ (state root'.disk).faults → SeatFailed state n (record { 0 = 0 }) count (record n { root = root' })
  root_failed n root' r f count e c counts = record {
    seat = 0;
    named = refl;
    was = n.root.disk;
    now = root'.disk;
    before = refl;
    after = refl;
    counted = (subst (λ (x : Result Side Failed). Restarts state n.root x root') e c).counted;
    counts = counts;
  }

  -- that of a volume did
  pub volume_failed : (n n' : Node D) (disk : DiskNo) (count : ℕ) → VolumeFailed state n.seats disk count n'.seats → SeatFailed state n disk count n'
  volume_failed n n' disk count h = record {
    seat = suc h.at;
    named = mapped_to disk_number n.seats h.at h.old h.was ∙ ap (λ (k : ℕ). Some k) (sym h.named);
    was = h.old.volume.disk;
    now = h.new.disk;
    before = mapped_to device n.seats h.at h.old h.was;
    after = mapped_to device n'.seats h.at (moved h.old h.new) h.is;
    counted = h.counted;
    counts = h.counts;
  }
