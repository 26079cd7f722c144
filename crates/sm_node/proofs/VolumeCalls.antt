-- An event that is one call of one volume.
use Rattle.std.proofs.Common.{◌≡◌, ◌≢◌, ◌⊎◌, inl, inr, ⊎_elim, ℕ, zero, suc, ◌<◌, Bool, true, false, if◌then◌else◌, List, length, refl, sym, ◌∙◌, ap, subst, arith}
use Rattle.std.specs.Prelude.{slice_get, slice_set, replicate, nat_le, ◌==◌, Option, Some, None, Result, Ok, Err, OnErr}
use Rattle.std.proofs.lemmas.List.{length-map, length-set, map-set}
use Rattle.std.proofs.lemmas.Option.{slice_get_within}
use Rattle.std.proofs.lemmas.Bool.{cases_eq}
use Rattle.std.proofs.lemmas.Bool.Decides.{nat_tests}
use Rattle.sm_base.specs.declared.numbers.DiskNo.{DiskNo}
use Rattle.sm_base.specs.declared.refusal.Refusal.{Refusal}
use Rattle.sm_disk.specs.Image.{Image}
use Rattle.sm_disk.specs.Disk.{DiskState, GoesOn, IsCounted}
use Rattle.sm_disk.proofs.Moments.{begun, weaker}
use Rattle.sm_seats.specs.Seats.{GoesWhole}
use Rattle.sm_defs.specs.Image.{Block, full_block, tag_of, tags}
use Rattle.sm_defs.specs.Operations.{written, least_free}
use Rattle.sm_defs.specs.Volume.{Volume, is_rw, used}
use Rattle.sm_defs.specs.World.{Up, with_volume}
use Rattle.sm_model.specs.declared.reply.Reply.{Reply}
use Rattle.sm_model.specs.declared.reply.Reply.TheVariants as replies
use Rattle.sm_model.specs.Answers.{Answer, volno, told}
use Rattle.sm_model.specs.OfVolumes as answers
use Rattle.volume_store.specs.Refusals.{Refuses, RefusesOrFails}
use Rattle.volume_store.specs.declared.faults.VolumeFault.{VolumeFault}
use Rattle.volume_store.specs.declared.faults.VolumeFault.TheVariants as faults
use Rattle.sm_catroot.specs.declared.placed.Placed.{Placed}
use Rattle.sm_volume.specs.Mounted.{Mounted}
use Rattle.sm_volume.specs.Shown.{Shows, KeepsBlocks, NoBlock}
use Rattle.sm_volume.specs.Commits.{Commits}
use Rattle.sm_volume.specs.Refusals.{write_refusal}
use Rattle.sm_shape.specs.Blank.{blank_block}
use Rattle.sm_shape.specs.Blanked.{zeroed, zeroed_volume, blanked}
use Rattle.sm_node.specs.declared.fault.NodeFault.{NodeFault}
use Rattle.sm_node.specs.declared.fault.NodeFault.TheVariants.{Down, NoMemory as OutOfMemory}
use Rattle.sm_node.specs.Seats.{Seated, device, moved, AllUp}
use Rattle.sm_node.specs.Nodes.{Node, placed, world_of, IsUp}
use Rattle.sm_node.specs.Parts.{place_of, devices, part, AllTold, StandsUp}
use Rattle.sm_node.specs.Moves.{refusal_of, fault_answer, event_answer, at_place, Matches, Writes}
use Rattle.sm_node.specs.Blocks.{IsNewIn, ChangesNewBlocks}
use Rattle.sm_node.specs.Acts.{IsFallen, GoesThrough, Acts}
use Rattle.sm_seats.proofs.Lists.{one_value}
use Rattle.sm_node.proofs.ButBytesLemmas.{reply_itself}
use Rattle.sm_node.proofs.BlockLemmas.{keeps_same, keeps_fewer, one_changed, write_is_new}
use Rattle.sm_node.proofs.Lists.{get_set_other, get_set_same, set_again, mapped_to}
use Rattle.sm_shape.proofs.Blanking.{with_blanked}
use Rattle.sm_node.proofs.Worlds.{placed_there, shows_placed, world_set, catalog_set}
use Rattle.sm_node.proofs.SeatLemmas.{volume_goes_whole}
use Rattle.sm_node.proofs.Fallen.{left_open_volume, fallen_commit, fallen_call}

-- only one volume of the world is changed, and neither its path nor its disk
module _ (w : Up) (i : ℕ) (v u : Volume) (is : slice_get w.volumes i ≡ Some v) (there : place_of u ≡ place_of v) where
  others_stay : (seat : ℕ) → seat ≢ suc i → (c : Image) → part w seat c → part (with_volume w i u) seat c
  unfolding part
  others_stay zero ne c shown = record { catalog = shown.catalog; shown = shown.shown; is = catalog_set shown.catalog w i v u is there shown.is }
  others_stay (suc d) ne c shown = λ x e. shown x (sym (get_set_other w.volumes i d u (λ f. ne (ap suc f))) ∙ e)

  part_before : (c : Image) → Shows (volno i) v c → part w (suc i) c
  unfolding part
  part_before c shown = λ x e. subst (λ (y : Volume). Shows (volno i) y c) (one_value (slice_get w.volumes i) v x is e) shown

  part_after : (c : Image) → Shows (volno i) u c → part (with_volume w i u) (suc i) c
  unfolding part
  part_after c shown = λ x e. subst (λ (y : Volume). Shows (volno i) y c) (one_value (slice_get (slice_set w.volumes i u) i) u x (get_set_same w.volumes i u (slice_get_within w.volumes i v is)) e) shown

-- a refusal is no failure of the disk
pub not_failed : (f : VolumeFault) (g : Refusal) → refusal_of f ≡ Some g → f ≢ faults.DiskFault
not_failed f g e same = let none : refusal_of faults.DiskFault ≡ Some g = subst (λ (x : VolumeFault). refusal_of x ≡ Some g) same e in cc

refused_answer : (reply : Reply) (disk : DiskNo) (count : ℕ) (f : VolumeFault) (g : Refusal) → refusal_of f ≡ Some g → event_answer reply disk count (Err f) ≡ Ok (replies.Refused g)
unfolding fault_answer
refused_answer reply disk count faults.ReadOnly g e = ap (λ x. Ok (replies.Refused x)) (cc)
refused_answer reply disk count faults.BadBlock g e = ap (λ x. Ok (replies.Refused x)) (cc)
refused_answer reply disk count faults.NoSpace g e = ap (λ x. Ok (replies.Refused x)) (cc)
refused_answer reply disk count faults.NameTaken g e = ap (λ x. Ok (replies.Refused x)) (cc)
refused_answer reply disk count faults.SnapFull g e = ap (λ x. Ok (replies.Refused x)) (cc)
refused_answer reply disk count faults.NoSnapshot g e = absurd (cc)
refused_answer reply disk count (faults.DiskSmall need len) g e = absurd (cc)
refused_answer reply disk count (faults.BadRoot slot at) g e = absurd (cc)
refused_answer reply disk count (faults.OtherNumber found) g e = absurd (cc)
refused_answer reply disk count faults.DiskFault g e = absurd (cc)
refused_answer reply disk count faults.NoMemory g e = absurd (cc)

pub all_up_set : {D : Type 0} (seats : List (Seated D)) (at : ℕ) (s : Seated D) (m : Mounted D) → slice_get seats at ≡ Some s → AllUp seats → m.up ≡ true → AllUp (slice_set seats at (moved s m))
all_up_set seats at s m was up here = λ i x e. elim (cases_eq i at) [
  | inl same ↦ let e' : slice_get (slice_set seats at (moved s m)) at ≡ Some x = subst (λ (j : ℕ). slice_get (slice_set seats at (moved s m)) j ≡ Some x) same e in
      subst (λ (y : Seated _). y.volume.up ≡ true) (one_value (slice_get (slice_set seats at (moved s m)) at) (moved s m) x (get_set_same seats at (moved s m) (slice_get_within seats at s was)) e') here
  | inr ne ↦ up i x (sym (get_set_other seats at i (moved s m) ne) ∙ e)
]

-- ---- a write of the definitions

write_is : (v : Volume) (at fill : ℕ) (b : Block) → b.tag ≡ least_free v → b.bytes ≡ replicate 4096 fill → written v at b ≡ answers.written v at fill
unfolding full_block
write_is v at fill b tag content =
    ap (λ (x : Block). written v at x)
    (ap (λ (bs : List ℕ). let x : Block = record { tag = b.tag; bytes = bs } in x) content ∙ ap (λ (k : ℕ). let x : Block = record { tag = k; bytes = replicate 4096 fill } in x) tag)

-- and without bytes whatever was written
write_is_blank : (v : Volume) (at fill : ℕ) (b : Block) → b.tag ≡ least_free v → zeroed_volume (written v at b) ≡ zeroed_volume (answers.written v at fill)
unfolding full_block
write_is_blank v at fill b tag =
    let set : List Block → Volume = λ i. record (zeroed_volume v) { active = i } in
    let to_zeros : Block → Block = λ x. blank_block x.tag in
    ap set (map-set to_zeros v.active at b)
    ∙ ap (λ (k : ℕ). set (slice_set (zeroed v.active) at (blank_block k))) tag
    ∙ ap set (sym (map-set to_zeros v.active at (full_block (least_free v) fill)))

not_past : (a b c : Bool) → (if a then (if b then Some faults.BadBlock else if c then Some faults.NoSpace else None) else Some faults.ReadOnly) ≡ None → b ≡ false
not_past false b c e = absurd (cc)
not_past true true c e = absurd (cc)
not_past true false c e = refl

-- ---- the event

module _ {D : Type 0} (state : D → DiskState) (n : Node D) (h : StandsUp state n) (at : ℕ) (p : Placed) (s : Seated D) (m : Mounted D)
    (was : slice_get n.seats at ≡ Some s) (place : slice_get n.root.held.volumes at ≡ Some p) where
  there : slice_get (world_of n).volumes at ≡ Some (placed p s.volume)
  there = placed_there n.root.held.volumes n.seats at p s place was

  number : s.volume.number ≡ volno at
  number = (h.node.seated at s was).numbered

  node_same : m ≡ s.volume → record n { seats = slice_set n.seats at (moved s m) } ≡ n
  node_same same = ap (λ (seats : List (Seated D)). let x : Node D = record n { seats = seats } in x) (ap (λ (y : Mounted D). slice_set n.seats at (moved s y)) same ∙ set_again n.seats at s was)

  whole_same : m ≡ s.volume → GoesWhole state (suc at) (part (world_of n)) (part (world_of n)) (devices n) (devices (record n { seats = slice_set n.seats at (moved s m) }))
  whole_same same =
      volume_goes_whole state n h at s m was (world_of n)
      (subst (λ (x : Mounted D). GoesOn (state (device s)) (state x.disk) (λ c. part (world_of n) (suc at) c ⊎ part (world_of n) (suc at) c)) (sym same) (begun (state (device s)) _))
      (λ d ne c shown. shown)

  -- a refusal leaves all as it was
  acts_refused : (g : Refusal) → m ≡ s.volume → Acts state (Err g) n (Ok (replies.Refused g)) (record n { seats = slice_set n.seats at (moved s m) })
  acts_refused g same = record {
    up = subst (λ (x : Node D). IsUp x) (sym (node_same same)) h.up;
    answered = λ told. (refl, ap world_of (node_same same));
    without_bytes = (refl, ap (λ (x : Node D). blanked (world_of x)) (node_same same));
    failed = λ disk count e. absurd (cc);
    unchanged = λ e. absurd (cc);
    blocks = one_changed state (world_of n) (world_of n) n at s m was
        (subst (λ (x : Mounted D). KeepsBlocks (IsNewIn (world_of n) (world_of n) at) (state (device s)) (state x.disk)) (sym same) (keeps_same (IsNewIn (world_of n) (world_of n) at) (state (device s))));
    whole = GoesThrough.stays (suc at) (whole_same same);
  }

  -- the call is no refusal: its volume goes to the next one, or stays
  module _ (next : Volume) (reply : Reply) (goes : GoesOn (state (device s)) (state m.disk) (λ c. Shows s.volume.number s.volume.volume c ⊎ Shows s.volume.number next c))
      (kept : KeepsBlocks (IsNewIn (world_of n) (with_volume (world_of n) at (at_place p next)) at) (state (device s)) (state m.disk)) where
    blocks_next : ChangesNewBlocks state (world_of n) (with_volume (world_of n) at (at_place p next)) n (record n { seats = slice_set n.seats at (moved s m) })
    blocks_next = one_changed state (world_of n) (with_volume (world_of n) at (at_place p next)) n at s m was kept

    whole_next : GoesWhole state (suc at) (part (world_of n)) (part (with_volume (world_of n) at (at_place p next))) (devices n) (devices (record n { seats = slice_set n.seats at (moved s m) }))
    whole_next =
        volume_goes_whole state n h at s m was (with_volume (world_of n) at (at_place p next))
        (weaker (state (device s)) (state m.disk) _ _ goes (λ c either. ⊎_elim
        (λ old. inl (part_before (world_of n) at (placed p s.volume) (at_place p next) there refl c (shows_placed (volno at) p s.volume.volume c (subst (λ k. Shows k s.volume.volume c) number old))))
        (λ new. inr (part_after (world_of n) at (placed p s.volume) (at_place p next) there refl c (shows_placed (volno at) p next c (subst (λ k. Shows k next c) number new))))
        either))
        (others_stay (world_of n) at (placed p s.volume) (at_place p next) there refl)

    -- it answered Ok
    acts_done : m.up ≡ true → (AllTold state n.seats → m.volume ≡ next) → zeroed_volume m.volume ≡ zeroed_volume next
        → Acts state (Ok (record { reply = told reply; world = with_volume (world_of n) at (at_place p next) })) n (Ok reply) (record n { seats = slice_set n.seats at (moved s m) })
    acts_done is_up same same_blank = record {
      up = record { root = h.up.root; as_many = h.up.as_many ∙ sym (length-set n.seats at (moved s m)); volumes = all_up_set n.seats at s m was h.up.volumes is_up };
      answered = λ told. (refl, world_set n.root.held n.seats n.lengths at p s m place ∙ ap (λ (v : Volume). with_volume (world_of n) at (at_place p v)) (same told));
      without_bytes = (
        reply_itself reply,
        ap blanked (world_set n.root.held n.seats n.lengths at p s m place)
            ∙ sym (with_blanked (world_of n) at (at_place p m.volume))
            ∙ ap (λ (v : Volume). with_volume (blanked (world_of n)) at (at_place p v)) same_blank
            ∙ with_blanked (world_of n) at (at_place p next),
      );
      failed = λ disk count e. absurd (cc);
      unchanged = λ e. absurd (cc);
      blocks = blocks_next;
      whole = GoesThrough.stays (suc at) whole_next;
    }

    -- its disk failed
    acts_failed : (disk : DiskNo) (count : ℕ) → disk.0 ≡ p.disk.0 → IsCounted (state (device s)) (state m.disk) → count ≡ (state m.disk).faults
        → IsFallen (Ok (record { reply = told reply; world = with_volume (world_of n) at (at_place p next) })) n (record n { seats = slice_set n.seats at (moved s m) })
        → Acts state (Ok (record { reply = told reply; world = with_volume (world_of n) at (at_place p next) })) n (Err (Down disk count)) (record n { seats = slice_set n.seats at (moved s m) })
    acts_failed disk count named counted counts fallen_so = record {
      up = tt;
      answered = tt;
      without_bytes = tt;
      failed = λ other k e. record {
        allowed = tt;
        failed = inl (record {
          seat = suc at;
          named = λ v f. (let same : disk ≡ other = cc in ap (λ (x : DiskNo). x.0) (sym same)) ∙ named ∙ ap (λ (x : Volume). x.disk) (one_value (slice_get (world_of n).volumes at) (placed p s.volume) v there f);
          old = device s;
          new = m.disk;
          was = mapped_to device n.seats at s was;
          is = mapped_to device (slice_set n.seats at (moved s m)) at (moved s m) (get_set_same n.seats at (moved s m) (slice_get_within n.seats at s was));
          counted = counted;
          counts = (let same : count ≡ k = cc in sym same) ∙ counts;
        });
        fallen = fallen_so;
        left_open = left_open_volume state n h at p s m was place;
      };
      unchanged = λ e. absurd (cc);
      blocks = blocks_next;
      whole = GoesThrough.stays (suc at) whole_next;
    }

    -- memory was wanting
    acts_starved : m ≡ s.volume → Acts state (Ok (record { reply = told reply; world = with_volume (world_of n) at (at_place p next) })) n (Err OutOfMemory) (record n { seats = slice_set n.seats at (moved s m) })
    acts_starved same = record {
      up = tt;
      answered = tt;
      without_bytes = tt;
      failed = λ disk count e. absurd (cc);
      unchanged = λ e. node_same same;
      blocks = blocks_next;
      whole = GoesThrough.stays (suc at) whole_next;
    }

  -- one call that commits
  module _ (next : Volume) (refusal : Option VolumeFault) (reply : Reply) (disk : DiskNo) (a : Answer) (named : disk.0 ≡ p.disk.0) (matches : Matches (world_of n) at p a refusal reply next) where
    goes_next : (r : Result (Unit {0}) VolumeFault) → Commits state s.volume next r m → GoesOn (state (device s)) (state m.disk) (λ c. Shows s.volume.number s.volume.volume c ⊎ Shows s.volume.number next c)
    goes_next r c = weaker (state (device s)) (state m.disk) _ _ c.any_moment (λ x either. ⊎_elim (λ old. inl old.shows) (λ new. inr new.shows) either)

    kept_next : (r : Result (Unit {0}) VolumeFault) → Commits state s.volume next r m → KeepsBlocks (IsNewIn (world_of n) (with_volume (world_of n) at (at_place p next)) at) (state (device s)) (state m.disk)
    kept_next r c = keeps_fewer (IsNewIn (world_of n) (with_volume (world_of n) at (at_place p next)) at) NoBlock (λ k none. absurd none) (state (device s)) (state m.disk) c.blocks

    abbrev Answered : Result Reply NodeFault → Type 0
    Answered R = Acts state (Ok (record { reply = told reply; world = with_volume (world_of n) at (at_place p next) })) n R (record n { seats = slice_set n.seats at (moved s m) })

    disk_failed : (f : VolumeFault) → f ≡ faults.DiskFault → Commits state s.volume next (Err f) m → Answered (fault_answer disk (state m.disk).faults f)
    unfolding fault_answer
    disk_failed f same c =
        subst (λ (x : VolumeFault). Answered (fault_answer disk (state m.disk).faults x)) (sym same)
        (acts_failed next reply (goes_next (Err f) c) (kept_next (Err f) c) disk (state m.disk).faults named (c.counted (ap Err same)) refl
        (fallen_commit state n h at p s m was place next reply (ap (λ (x : Mounted D). x.volume) (c.fault (ap Err same))) (ap (λ (x : Mounted D). x.after) (c.fault (ap Err same)))))

    memory_failed : (f : VolumeFault) → f ≡ faults.NoMemory → Commits state s.volume next (Err f) m → Answered (fault_answer disk (state m.disk).faults f)
    unfolding fault_answer
    memory_failed f same c =
        subst (λ (x : VolumeFault). Answered (fault_answer disk (state m.disk).faults x)) (sym same)
        (acts_starved next reply (goes_next (Err f) c) (kept_next (Err f) c) (c.refused f refl (λ is_fault. let e = sym same ∙ is_fault in absurd (cc))))

    allowed : (r : Result (Unit {0}) VolumeFault) → OnErr r ((r ≡ Err faults.DiskFault) ⊎ (r ≡ Err faults.NoMemory)) → Commits state s.volume next r m → Answered (event_answer reply disk (state m.disk).faults r)
    allowed (Ok done) only c = acts_done next reply (goes_next (Ok done) c) (kept_next (Ok done) c) (ap (λ (x : Mounted D). x.up) c.ok ∙ h.up.volumes at s was) (λ told. ap (λ (x : Mounted D). x.volume) c.ok) (ap (λ (x : Mounted D). zeroed_volume x.volume) c.ok)
    allowed (Err f) (inl e) c = disk_failed f (let same : f ≡ faults.DiskFault = cc in same) c
    allowed (Err f) (inr e) c = memory_failed f (let same : f ≡ faults.NoMemory = cc in same) c

    by_refusal : (o : Option VolumeFault) → refusal ≡ o → (r : Result (Unit {0}) VolumeFault) → Refuses o r → Commits state s.volume next r m → Acts state a n (event_answer reply disk (state m.disk).faults r) (record n { seats = slice_set n.seats at (moved s m) })
    by_refusal None e r only c = subst (λ (b : Answer). Acts state b n (event_answer reply disk (state m.disk).faults r) (record n { seats = slice_set n.seats at (moved s m) })) (sym (matches.does e)) (allowed r only c)
    by_refusal (Some f) e r only c =
        let g = matches.refuses f e in
        let same : m ≡ s.volume = c.refused f only (not_failed f g.0 g.2) in
        subst (λ (b : Answer). Acts state b n (event_answer reply disk (state m.disk).faults r) (record n { seats = slice_set n.seats at (moved s m) })) (sym g.1)
        (subst (λ (R : Result Reply NodeFault). Acts state (Err g.0) n R (record n { seats = slice_set n.seats at (moved s m) }))
        (sym (ap (event_answer reply disk (state m.disk).faults) only ∙ refused_answer reply disk (state m.disk).faults f g.0 g.2))
        (acts_refused g.0 same))

    pub commit_acts : (r : Result (Unit {0}) VolumeFault) → Refuses refusal r → Commits state s.volume next r m → Acts state a n (event_answer reply disk (state m.disk).faults r) (record n { seats = slice_set n.seats at (moved s m) })
    commit_acts r only c = by_refusal refusal refl r only c

  -- a client's write
  module _ (block fill : ℕ) (disk : DiskNo) (named : disk.0 ≡ p.disk.0) where
    abbrev Wrote : Result Reply NodeFault → Type 0
    Wrote R = Acts state (Ok (record { reply = told replies.Done; world = with_volume (world_of n) at (at_place p (answers.written s.volume.volume block fill)) })) n R (record n { seats = slice_set n.seats at (moved s m) })

    write_goes : (r : Result (Unit {0}) VolumeFault) → Writes state block (replicate 4096 fill) r s.volume m → GoesOn (state (device s)) (state m.disk) (λ c. Shows s.volume.number s.volume.volume c ⊎ Shows s.volume.number (answers.written s.volume.volume block fill) c)
    write_goes r c = weaker (state (device s)) (state m.disk) _ _ c.any_moment (λ x old. inl old.shows)

    kept_write : write_refusal s.volume.volume block ≡ None → (r : Result (Unit {0}) VolumeFault) → Writes state block (replicate 4096 fill) r s.volume m
        → KeepsBlocks (IsNewIn (world_of n) (with_volume (world_of n) at (at_place p (answers.written s.volume.volume block fill))) at) (state (device s)) (state m.disk)
    kept_write none r c =
        let v = s.volume.volume in
        let long : length v.active ≡ v.logical = sym (length-map v.active tag_of) ∙ (h.node.seated at s was).kept.images.long (tags v.active) (inl refl) in
        let past : nat_le v.logical block ≡ false = not_past (is_rw v.kind) (nat_le v.logical block) (used v == v.physical) none in
        let within : block < v.logical = grind (arith, nat_tests) in
        keeps_fewer (IsNewIn (world_of n) (with_volume (world_of n) at (at_place p (answers.written v block fill))) at) (λ k. k ≡ least_free v)
        (write_is_new (world_of n) at p v block fill there (omega (arith, within, long)) (c.free none)) (state (device s)) (state m.disk) (c.blocks (least_free v) (c.free none))

    wrote_fault : write_refusal s.volume.volume block ≡ None → (f : VolumeFault) → f ≡ faults.DiskFault → Writes state block (replicate 4096 fill) (Err f) s.volume m → Wrote (fault_answer disk (state m.disk).faults f)
    unfolding fault_answer
    wrote_fault none f same c =
        subst (λ (x : VolumeFault). Wrote (fault_answer disk (state m.disk).faults x)) (sym same)
        (acts_failed (answers.written s.volume.volume block fill) replies.Done (write_goes (Err f) c) (kept_write none (Err f) c) disk (state m.disk).faults named (c.counted (ap Err same)) refl
        (fallen_call state n h at p s m was place _ (ap (λ (x : Mounted D). x.volume) (c.fault (ap Err same))) (ap (λ (x : Mounted D). x.after) (c.fault (ap Err same)))))

    wrote : write_refusal s.volume.volume block ≡ None → (r : Result (Unit {0}) VolumeFault) → OnErr r (r ≡ Err faults.DiskFault) → Writes state block (replicate 4096 fill) r s.volume m → Wrote (event_answer replies.Done disk (state m.disk).faults r)
    wrote none (Ok done) only c =
        let ok = c.ok in
        acts_done (answers.written s.volume.volume block fill) replies.Done (write_goes (Ok done) c) (kept_write none (Ok done) c) (ap (λ (x : Mounted D). x.up) ok.2 ∙ h.up.volumes at s was)
        (λ told. ap (λ (x : Mounted D). x.volume) ok.2 ∙ write_is s.volume.volume block fill ok.0 ok.5 (ok.3 (told at s was)))
        (ap (λ (x : Mounted D). zeroed_volume x.volume) ok.2 ∙ write_is_blank s.volume.volume block fill ok.0 ok.5)
    wrote none (Err f) only c = wrote_fault none f (let same : f ≡ faults.DiskFault = cc in same) c

    write_by : (o : Option VolumeFault) → write_refusal s.volume.volume block ≡ o → (a : Answer) → Matches (world_of n) at p a o replies.Done (answers.written s.volume.volume block fill) → (r : Result (Unit {0}) VolumeFault) → RefusesOrFails o r → Writes state block (replicate 4096 fill) r s.volume m
        → Acts state a n (event_answer replies.Done disk (state m.disk).faults r) (record n { seats = slice_set n.seats at (moved s m) })
    write_by None e a matches r only c = subst (λ (b : Answer). Acts state b n (event_answer replies.Done disk (state m.disk).faults r) (record n { seats = slice_set n.seats at (moved s m) })) (sym (matches.does refl)) (wrote e r only c)
    write_by (Some f) e a matches r only c =
        let g = matches.refuses f refl in
        let same : m ≡ s.volume = c.unchanged f only (not_failed f g.0 g.2) in
        subst (λ (b : Answer). Acts state b n (event_answer replies.Done disk (state m.disk).faults r) (record n { seats = slice_set n.seats at (moved s m) })) (sym g.1)
        (subst (λ (R : Result Reply NodeFault). Acts state (Err g.0) n R (record n { seats = slice_set n.seats at (moved s m) }))
        (sym (ap (event_answer replies.Done disk (state m.disk).faults) only ∙ refused_answer replies.Done disk (state m.disk).faults f g.0 g.2))
        (acts_refused g.0 same))

    pub write_acts : (a : Answer) → Matches (world_of n) at p a (write_refusal s.volume.volume block) replies.Done (answers.written s.volume.volume block fill) → (r : Result (Unit {0}) VolumeFault) → RefusesOrFails (write_refusal s.volume.volume block) r
        → Writes state block (replicate 4096 fill) r s.volume m → Acts state a n (event_answer replies.Done disk (state m.disk).faults r) (record n { seats = slice_set n.seats at (moved s m) })
    write_acts a matches r only c = write_by (write_refusal s.volume.volume block) refl a matches r only c

pub is_fault : (f : VolumeFault) → (f ≡ faults.DiskFault) ⊎ (f ≢ faults.DiskFault)
is_fault faults.DiskFault = inl refl
is_fault faults.ReadOnly = inr (λ e. absurd (cc))
is_fault faults.BadBlock = inr (λ e. absurd (cc))
is_fault faults.NoSpace = inr (λ e. absurd (cc))
is_fault faults.NameTaken = inr (λ e. absurd (cc))
is_fault faults.SnapFull = inr (λ e. absurd (cc))
is_fault faults.NoSnapshot = inr (λ e. absurd (cc))
is_fault (faults.DiskSmall need len) = inr (λ e. absurd (cc))
is_fault (faults.BadRoot slot at) = inr (λ e. absurd (cc))
is_fault (faults.OtherNumber found) = inr (λ e. absurd (cc))
is_fault faults.NoMemory = inr (λ e. absurd (cc))

-- a call keeps the number of its volume
pub commits_number : {D : Type 0} (state : D → DiskState) (m m' : Mounted D) (next : Volume) (r : Result (Unit {0}) VolumeFault) → Commits state m next r m' → m'.number ≡ m.number
commits_number state m m' next (Ok done) c = ap (λ (x : Mounted _). x.number) c.ok
commits_number state m m' next (Err f) c = elim (is_fault f) [
  | inl e ↦ ap (λ (x : Mounted _). x.number) (c.fault (ap Err e))
  | inr ne ↦ ap (λ (x : Mounted _). x.number) (c.refused f refl ne)
]

pub writes_number : {D : Type 0} (state : D → DiskState) (at : ℕ) (content : List ℕ) (m m' : Mounted D) (r : Result (Unit {0}) VolumeFault) → Writes state at content r m m' → m'.number ≡ m.number
writes_number state at content m m' (Ok done) c = ap (λ (x : Mounted _). x.number) c.ok.2
writes_number state at content m m' (Err f) c = elim (is_fault f) [
  | inl e ↦ ap (λ (x : Mounted _). x.number) (c.fault (ap Err e))
  | inr ne ↦ ap (λ (x : Mounted _). x.number) (c.unchanged f refl ne)
]
