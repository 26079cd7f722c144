-- What landed stays.
use Rattle.std.proofs.Common.{◌≡◌, ◌≢◌, ◌⊎◌, ℕ, Bool, true, false, cond, List, [], ◌∷◌, length, Ok, Err, inl, inr, ⊎_elim, sym, ◌∙◌, ap, subst, arith}
use Rattle.std.specs.Prelude.{nat_lt, Result, IfOk, IsTrue, OnOk, OnErr}
use Rattle.sm_defs.specs.Words.{Among}
use Rattle.sm_defs.specs.Image.{Block, stands}
use Rattle.sm_defs.specs.Volume.{Volume, numbers}
use Rattle.sm_defs.specs.Progress.{landed_prefix}
use Rattle.sm_defs.proofs.Members.{among_stands, stands_among}
use Rattle.sm_defs.proofs.Numbers.{below_numbers}
use Rattle.sm_disk.specs.Image as disk
use Rattle.sm_disk.specs.Disk.{DiskState, GoesOn, IsSynced}
use Rattle.sm_disk.proofs.Moments.{weaker}
use Rattle.sm_model.specs.Due.{insert_landed}
use Rattle.laws_cases.proofs.Steps.Shipping.{prefix_is}
use Rattle.volume_store.specs.Held.{block_at}
use Rattle.sm_volume.specs.Assigned.{HasBlock}
use Rattle.sm_volume.specs.Kept.{IsKept}
use Rattle.sm_volume.specs.Mounted.{Mounted, on_disk}
use Rattle.sm_volume.specs.Shown.{Selects, SameBlocks, IsLikeIn}
use Rattle.sm_transfer.specs.declared.fault.StepFault.{StepFault}
use Rattle.sm_transfer.specs.Landing.{HasLanded, LandApart, ShipGoesOn, ShipKeepsWhatLanded, CheckpointKeepsWhatLanded}
use Rattle.sm_transfer.specs.Sending.{Sending, IsUnderWay, from_of, to_of, with_landed, checked}
use Rattle.sm_transfer.specs.Shipping.{IsShippable, ShipsAt}

insert_among : (k : ℕ) (ls : List ℕ) (j : ℕ) → Among (insert_landed k ls) j → (j ≡ k) ⊎ Among ls j
insert_among k [] j (inl e) = inl e
insert_among k [] j (inr m) = absurd m
insert_among k (l ∷ ls) j m = go (nat_lt k l) (insert_among k ls j) m
  where
    go : (b : Bool) → (Among (insert_landed k ls) j → (j ≡ k) ⊎ Among ls j) → Among (cond b (k ∷ l ∷ ls) (l ∷ insert_landed k ls)) j → (j ≡ k) ⊎ ((j ≡ l) ⊎ Among ls j)
    go true later (inl e) = inl e
    go true later (inr n) = inr n
    go false later (inl e) = inr (inl e)
    go false later (inr n) = ⊎_elim (λ e. inl e) (λ o. inr (inr o)) (later n)

module _ {D : Type 0} (state : D → DiskState) where
  module _ (t u : Sending) (index : ℕ) (s s' d d' : Mounted D) (way : IsUnderWay t) (apart : LandApart t.plan) (may : IsShippable t index s.volume d.volume) (kept : IsKept state s)
      (source_tells : IsTrue (state s.disk).told) (destination_tells : IsTrue (state d.disk).told) where
    far : (k : ℕ) → Among t.landed k → to_of t.plan k ≢ to_of t.plan index
    far k m e =
        let same = apart.apart k index (way.planned k m) may.is_index e in
        let f : true ≡ false = sym (among_stands k t.landed m) ∙ ap (λ (j : ℕ). stands j t.landed) same ∙ may.fresh in absurd (cc)

    -- on an image where no block but the index's is another
    stays : (e c : disk.Image) → SameBlocks (λ n. n ≡ to_of t.plan index) e c → (landed : List ℕ) → ((k : ℕ) → Among landed k → Among t.landed k) → HasLanded t.plan landed s.volume e → HasLanded t.plan landed s.volume c
    stays e c same landed of has = λ k b m at_source tag. same (to_of t.plan k) (apart.from_one k (way.planned k (of k m))) (far k (of k m)) ∙ has k b m at_source tag

    below : (k : ℕ) → Among (numbers 0 t.checkpoint) k → Among t.landed k
    below k m = way.below k (let h = below_numbers t.checkpoint 0 k m in omega (arith, h))

    shipped : (c : disk.Image) → HasBlock s.volume (record { tag = from_of t.plan index; bytes = block_at c (to_of t.plan index) }) → HasLanded t.plan t.landed s.volume c → HasLanded t.plan (insert_landed index t.landed) s.volume c
    shipped c block has = λ k b m at_source tag. by k b at_source tag (insert_among index t.landed k m)
      where
        by : (k : ℕ) (b : Block) → HasBlock s.volume b → b.tag ≡ from_of t.plan k → (k ≡ index) ⊎ Among t.landed k → block_at c (to_of t.plan k) ≡ b.bytes
        by k b at_source tag (inr old) = has k b old at_source tag
        by k b at_source tag (inl here) =
            let is : b.tag ≡ from_of t.plan index = tag ∙ ap (from_of t.plan) here in
            let one = may.from_one in
            ap (λ (j : ℕ). block_at c (to_of t.plan j)) here
            ∙ sym (kept.blocks (record { tag = from_of t.plan index; bytes = block_at c (to_of t.plan index) }) block one)
            ∙ ap (λ (n : ℕ). block_at (state s.disk).seen n) (sym is)
            ∙ kept.blocks b at_source (omega (arith, is, one))

    pub ship_goes_on : (result : Result (Unit {0}) StepFault) → ShipsAt state t index result u s s' d d' → ShipGoesOn state t u s d d'
    ship_goes_on result ships = record {
      reads = λ has. by result ships.landed ships.unchanged ships.ships.block (stays (state d.disk).seen (state d'.disk).seen ships.ships.blocks.seen t.landed (λ k m. m) has);
      left = λ has c m. let from = ships.ships.blocks.images c m in stays from.0 c from.2 (numbers 0 t.checkpoint) below (has from.0 from.1);
      any_moment = λ has. both has;
    }
      where
        by : (r : Result (Unit {0}) StepFault) → OnOk r (u ≡ with_landed t index) → OnErr r (u ≡ t)
            → OnOk r (IsTrue (state s.disk).told → IsTrue (state d.disk).told → HasBlock s.volume (record { tag = from_of t.plan index; bytes = block_at (state d'.disk).seen (to_of t.plan index) }))
            → HasLanded t.plan t.landed s.volume (state d'.disk).seen → HasLanded t.plan u.landed s.volume (state d'.disk).seen
        by (Ok done) is other block has =
            subst (λ (v : Sending). HasLanded t.plan v.landed s.volume (state d'.disk).seen) (sym is) (shipped (state d'.disk).seen (block source_tells destination_tells) has)
        by (Err fault) is other block has = subst (λ (v : Sending). HasLanded t.plan v.landed s.volume (state d'.disk).seen) (sym other) has

        both : ((c : disk.Image) → (state d.disk).may_leave c → HasLanded t.plan (numbers 0 t.checkpoint) s.volume c)
            → GoesOn (state d.disk) (state d'.disk) (λ c. Selects d.selected d.number d.volume c × HasLanded t.plan (numbers 0 t.checkpoint) s.volume c)
        both has =
            let p = ships.ships.any_moment in
            let q = weaker (state d.disk) (state d'.disk) (IsLikeIn (λ n. n ≡ to_of t.plan index) (state d.disk)) (HasLanded t.plan (numbers 0 t.checkpoint) s.volume) ships.ships.blocks.any_moment
            (λ c from. stays from.0 c from.2 (numbers 0 t.checkpoint) below (has from.0 from.1)) in record {
              size = p.size;
              told = p.told;
              faults = p.faults;
              later = p.later;
              keeps = p.keeps;
              nothing_else = λ moment c le left. ⊎_elim (λ earlier. inl earlier) (λ selects. ⊎_elim (λ earlier. inl earlier) (λ landed. inr (selects, landed)) (q.nothing_else moment c le left)) (p.nothing_else moment c le left);
            }

  pub ship_keeps : ShipKeepsWhatLanded state
  ship_keeps = λ t u index result s s' d d' way apart may kept source_tells destination_tells ships. ship_goes_on t u index s s' d d' way apart may kept source_tells destination_tells result ships

  checked_on : (t u : Sending) (n : ℕ) (source : Volume) (d d' : Mounted D) → HasLanded t.plan t.landed source (state d.disk).seen → (state d'.disk).seen ≡ (state d.disk).seen
      → (n ≡ landed_prefix t.landed) × (u ≡ checked t) × (d' ≡ on_disk d d'.disk) × IsSynced (state d'.disk)
      → (u.checkpoint ≡ n) × ((c : disk.Image) → (state d'.disk).may_leave c → HasLanded u.plan (numbers 0 n) source c)
  checked_on t u n source d d' has seen ok = (
    ap (λ (v : Sending). v.checkpoint) ok.1 ∙ sym ok.0,
    λ c m. subst (λ (v : Sending). HasLanded v.plan (numbers 0 n) source c) (sym ok.1)
        (λ k b among at_source tag. ap (λ (e : disk.Image). block_at e (to_of t.plan k)) (ok.3 c m ∙ seen) ∙ has k b (counted k among) at_source tag),
  )
    where
      counted : (k : ℕ) → Among (numbers 0 n) k → Among t.landed k
      counted k among = stands_among k t.landed ((prefix_is (length t.landed) 0 t.landed).all k (omega arith) (let h = below_numbers n 0 k among in let e = ok.0 in omega (arith, h, e)))

  pub checkpoint_keeps : CheckpointKeepsWhatLanded state
  checkpoint_keeps = λ t u result source d d' has checks. by t u result source d d' has checks.seen checks.ok
    where
      by : (t u : Sending) (r : Result ℕ StepFault) (source : Volume) (d d' : Mounted D) → HasLanded t.plan t.landed source (state d.disk).seen → (state d'.disk).seen ≡ (state d.disk).seen
          → IfOk r (λ n. (n ≡ landed_prefix t.landed) × (u ≡ checked t) × (d' ≡ on_disk d d'.disk) × IsSynced (state d'.disk))
          → IfOk r (λ n. (u.checkpoint ≡ n) × ((c : disk.Image) → (state d'.disk).may_leave c → HasLanded u.plan (numbers 0 n) source c))
      by t u (Ok n) source d d' has seen ok = checked_on t u n source d d' has seen ok
      by t u (Err fault) source d d' has seen ok = tt
