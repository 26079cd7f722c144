-- An event that reads one volume.
use Rattle.std.proofs.Common.{◌≡◌, ℕ, suc, inl, List, refl, sym, ◌∙◌, ap, subst, Option, Some, None, Result, Ok, Err, IfOk, OnErr}
use Rattle.std.specs.Prelude.{slice_get, slice_set}
use Rattle.std.proofs.lemmas.List.{length-set}
use Rattle.std.proofs.lemmas.Option.{slice_get_within}
use Rattle.sm_base.specs.declared.numbers.DiskNo.{DiskNo}
use Rattle.sm_base.specs.declared.refusal.Refusal.{Refusal}
use Rattle.sm_defs.specs.Volume.{Volume}
use Rattle.sm_defs.specs.World.{Up}
use Rattle.sm_disk.specs.Disk.{DiskState, GoesOn, IsQuiet, IsCounted}
use Rattle.sm_disk.proofs.Moments.{weaker}
use Rattle.sm_seats.specs.Seats.{GoesWhole}
use Rattle.sm_model.specs.declared.reply.Reply.{Reply}
use Rattle.sm_model.specs.declared.reply.Reply.TheVariants as replies
use Rattle.sm_model.specs.Answers.{Answer}
use Rattle.sm_catroot.specs.declared.placed.Placed.{Placed}
use Rattle.volume_store.specs.declared.faults.VolumeFault.{VolumeFault}
use Rattle.volume_store.specs.declared.faults.VolumeFault.TheVariants as faults
use Rattle.sm_volume.specs.Mounted.{Mounted, on_disk, fallen}
use Rattle.sm_node.specs.declared.fault.NodeFault.{NodeFault}
use Rattle.sm_node.specs.declared.fault.NodeFault.TheVariants.{Down, NoMemory as OutOfMemory}
use Rattle.sm_node.specs.Seats.{Seated, device, moved}
use Rattle.sm_node.specs.Nodes.{Node, placed, world_of}
use Rattle.sm_node.specs.Parts.{devices, part, AllTold, StandsUp}
use Rattle.sm_node.specs.Moves.{refusal_of, fault_answer}
use Rattle.sm_node.specs.ButBytes.{IsRepliedButBytes}
use Rattle.sm_node.specs.Blocks.{IsNewIn, ChangesNewBlocks}
use Rattle.sm_node.specs.Acts.{IsReplied, IsAllowed, reached_of}
use Rattle.sm_node.specs.Reading.{Reads}
use Rattle.sm_node.specs.Looking.{Looks, LooksAs, answer_with, RefusesOrFailsWith}
use Rattle.sm_seats.proofs.Lists.{one_value}
use Rattle.sm_node.proofs.Lists.{get_set_same, set_again, mapped_to}
use Rattle.sm_node.proofs.VolumeCalls.{not_failed, all_up_set}
use Rattle.sm_node.proofs.BlockLemmas.{keeps_quiet, none_changed, one_changed}
use Rattle.sm_node.proofs.Worlds.{placed_there}
use Rattle.sm_node.proofs.SeatLemmas.{parts_now, volume_goes_whole}
use Rattle.sm_node.proofs.Fallen.{left_open_volume, fallen_call}

pub refused_answer : {A : Type 0} (reply : A → Reply) (disk : DiskNo) (count : ℕ) (f : VolumeFault) (g : Refusal) → refusal_of f ≡ Some g → answer_with reply disk count (Err f) ≡ Ok (replies.Refused g)
unfolding fault_answer
refused_answer reply disk count faults.ReadOnly g e = ap (λ x. Ok (replies.Refused x)) (cc)
refused_answer reply disk count faults.BadBlock g e = ap (λ x. Ok (replies.Refused x)) (cc)
refused_answer reply disk count faults.NoSpace g e = ap (λ x. Ok (replies.Refused x)) (cc)
refused_answer reply disk count faults.NameTaken g e = ap (λ x. Ok (replies.Refused x)) (cc)
refused_answer reply disk count faults.SnapFull g e = ap (λ x. Ok (replies.Refused x)) (cc)
refused_answer reply disk count faults.NoSnapshot g e = absurd (cc)
refused_answer reply disk count (faults.DiskSmall need len) g e = absurd (cc)
refused_answer reply disk count (faults.BadRoot slot at) g e = absurd (cc)
refused_answer reply disk count (faults.OtherNumber found) g e = absurd (cc)
refused_answer reply disk count faults.DiskFault g e = absurd (cc)
refused_answer reply disk count faults.NoMemory g e = absurd (cc)

module _ {D : Type 0} (state : D → DiskState) (n : Node D) (h : StandsUp state n) where
  -- nothing is done
  pub look_refused : (a : Answer) (g : Refusal) (reply : Reply) → reply ≡ replies.Refused g → a ≡ Err g → Looks state a n (Ok reply) n
  look_refused a g reply is e = subst (λ (b : Answer). Looks state b n (Ok reply) n) (sym e) (record {
    up = h.up;
    same = refl;
    answered = λ told. is;
    but_bytes = is;
    failed = λ disk count f. absurd (cc);
    unchanged = λ f. absurd (cc);
    blocks = none_changed state (world_of n) (world_of n) n n refl;
    whole = (0, h.nothing_changes 0 (world_of n) (world_of n) (devices n) (parts_now state n h));
  })

  pub look_starved : (a : Answer) (R : Result Reply NodeFault) (e : NodeFault) → R ≡ Err e → e ≡ OutOfMemory → Looks state a n R n
  look_starved a R e is_err is_memory = subst (λ (r : Result Reply NodeFault). Looks state a n r n) (sym (is_err ∙ ap Err is_memory)) (record {
    up = tt;
    same = tt;
    answered = tt;
    but_bytes = tt;
    failed = λ disk count f. absurd (cc);
    unchanged = λ f. refl;
    blocks = none_changed state (world_of n) (reached_of (world_of n) a) n n refl;
    whole = (0, h.nothing_changes 0 (world_of n) (reached_of (world_of n) a) (devices n) (parts_now state n h));
  })

  module _ (at : ℕ) (p : Placed) (s : Seated D) (m : Mounted D) (was : slice_get n.seats at ≡ Some s) (place : slice_get n.root.held.volumes at ≡ Some p) where
    same_node : m ≡ s.volume → record n { seats = slice_set n.seats at (moved s m) } ≡ n
    same_node same = ap (λ (seats : List (Seated D)). let x : Node D = record n { seats = seats } in x) (ap (λ (x : Mounted D). slice_set n.seats at (moved s x)) same ∙ set_again n.seats at s was)

    goes_whole : GoesOn (state (device s)) (state m.disk) (state (device s)).may_leave → GoesWhole state (suc at) (part (world_of n)) (part (world_of n)) (devices n) (devices (record n { seats = slice_set n.seats at (moved s m) }))
    goes_whole goes = volume_goes_whole state n h at s m was (world_of n)
        (weaker (state (device s)) (state m.disk) _ _ goes (λ c may. inl (parts_now state n h (suc at) (device s) (mapped_to device n.seats at s was) c may)))
        (λ seat ne c shown. shown)

    module _ (a : Answer) (stays : reached_of (world_of n) a ≡ world_of n) (quiet : IsQuiet (state (device s)) (state m.disk)) (goes : GoesOn (state (device s)) (state m.disk) (state (device s)).may_leave) where
      blocks_as : ChangesNewBlocks state (world_of n) (reached_of (world_of n) a) n (record n { seats = slice_set n.seats at (moved s m) })
      blocks_as = one_changed state (world_of n) (reached_of (world_of n) a) n at s m was (keeps_quiet (IsNewIn (world_of n) (reached_of (world_of n) a) at) (state (device s)) (state m.disk) quiet goes)

      whole_as : GoesWhole state (suc at) (part (world_of n)) (part (reached_of (world_of n) a)) (devices n) (devices (record n { seats = slice_set n.seats at (moved s m) }))
      whole_as = subst (λ (w : Up). GoesWhole state (suc at) (part (world_of n)) (part w) (devices n) (devices (record n { seats = slice_set n.seats at (moved s m) }))) (sym stays) (goes_whole goes)

      done_so : m ≡ on_disk s.volume m.disk → (reply : Reply) → (AllTold state n.seats → IsReplied a reply) → IsRepliedButBytes a reply → Looks state a n (Ok reply) (record n { seats = slice_set n.seats at (moved s m) })
      done_so is reply told but = record {
        up = record {
          root = h.up.root;
          as_many = h.up.as_many ∙ sym (length-set n.seats at (moved s m));
          volumes = all_up_set n.seats at s m was h.up.volumes (ap (λ (x : Mounted D). x.up) is ∙ h.up.volumes at s was);
        };
        same = (fallen_call state n h at p s m was place a (ap (λ (x : Mounted D). x.volume) is) (ap (λ (x : Mounted D). x.after) is)).before;
        answered = told;
        but_bytes = but;
        failed = λ disk count f. absurd (cc);
        unchanged = λ f. absurd (cc);
        blocks = blocks_as;
        whole = (suc at, whole_as);
      }

      failed_so : IsAllowed a → (disk : DiskNo) (count : ℕ) → disk.0 ≡ p.disk.0 → m ≡ fallen s.volume m.disk → IsCounted (state (device s)) (state m.disk) → count ≡ (state m.disk).faults
          → Looks state a n (Err (Down disk count)) (record n { seats = slice_set n.seats at (moved s m) })
      failed_so allowed disk count named is counted counts = record {
        up = tt;
        same = tt;
        answered = tt;
        but_bytes = tt;
        failed = λ other k e. record {
          allowed = allowed;
          failed = inl (record {
            seat = suc at;
            named = λ v f. (let same : disk ≡ other = cc in ap (λ (x : DiskNo). x.0) (sym same)) ∙ named ∙ ap (λ (x : Volume). x.disk) (one_value (slice_get (world_of n).volumes at) (placed p s.volume) v (placed_there n.root.held.volumes n.seats at p s place was) f);
            old = device s;
            new = m.disk;
            was = mapped_to device n.seats at s was;
            is = mapped_to device (slice_set n.seats at (moved s m)) at (moved s m) (get_set_same n.seats at (moved s m) (slice_get_within n.seats at s was));
            counted = counted;
            counts = (let same : count ≡ k = cc in sym same) ∙ counts;
          });
          fallen = fallen_call state n h at p s m was place a (ap (λ (x : Mounted D). x.volume) is) (ap (λ (x : Mounted D). x.after) is);
          left_open = left_open_volume state n h at p s m was place;
        };
        unchanged = λ f. absurd (cc);
        blocks = blocks_as;
        whole = (suc at, whole_as);
      }

    -- ---- by what the call answered

    module _ {A : Type 0} (a : Answer) (disk : DiskNo) (named : disk.0 ≡ p.disk.0) (reply : A → Reply) where
      abbrev Looked : Result Reply NodeFault → Type 0
      Looked R = Looks state a n R (record n { seats = slice_set n.seats at (moved s m) })

      fault_so : IsAllowed a → reached_of (world_of n) a ≡ world_of n → (f : VolumeFault) → f ≡ faults.DiskFault → (r : Result A VolumeFault) → r ≡ Err f → Reads state r s.volume m → Looked (fault_answer disk (state m.disk).faults f)
      unfolding fault_answer
      fault_so allowed stays f same r e reads =
          subst (λ (x : VolumeFault). Looked (fault_answer disk (state m.disk).faults x)) (sym same)
          (failed_so a stays reads.quiet reads.any_moment allowed disk (state m.disk).faults named (reads.fault (e ∙ ap Err same)) (reads.counted (e ∙ ap Err same)) refl)

      allowed_so : IsAllowed a → reached_of (world_of n) a ≡ world_of n → (r : Result A VolumeFault) → OnErr r (r ≡ Err faults.DiskFault) → Reads state r s.volume m
          → IfOk r (λ x. (AllTold state n.seats → IsReplied a (reply x)) × IsRepliedButBytes a (reply x)) → Looked (answer_with reply disk (state m.disk).faults r)
      allowed_so allowed stays (Ok x) only reads tells = done_so a stays reads.quiet reads.any_moment reads.ok (reply x) tells.0 tells.1
      allowed_so allowed stays (Err f) only reads tells = fault_so allowed stays f (let same : f ≡ faults.DiskFault = cc in same) (Err f) refl reads

      refused_so : (g : Refusal) → a ≡ Err g → m ≡ s.volume → Looked (Ok (replies.Refused g))
      refused_so g e same = subst (λ (x : Node D). Looks state a n (Ok (replies.Refused g)) x) (sym (same_node same)) (look_refused a g (replies.Refused g) refl e)

      by_refusal : (o : Option VolumeFault) → LooksAs (world_of n) a o → (r : Result A VolumeFault) → RefusesOrFailsWith o r → Reads state r s.volume m
          → (o ≡ None → IfOk r (λ x. (AllTold state n.seats → IsReplied a (reply x)) × IsRepliedButBytes a (reply x))) → Looked (answer_with reply disk (state m.disk).faults r)
      by_refusal None fits r only reads tells = let d = fits.does refl in allowed_so d.0 d.1 r only reads (tells refl)
      by_refusal (Some f) fits r only reads tells =
          let g = fits.refuses f refl in
          subst Looked (sym (ap (answer_with reply disk (state m.disk).faults) only ∙ refused_answer reply disk (state m.disk).faults f g.0 g.2))
          (refused_so g.0 g.1 (reads.unchanged f only (not_failed f g.0 g.2)))

      pub look_acts : (refusal : Option VolumeFault) → LooksAs (world_of n) a refusal → (r : Result A VolumeFault) → RefusesOrFailsWith refusal r → Reads state r s.volume m
          → (refusal ≡ None → IfOk r (λ x. (AllTold state n.seats → IsReplied a (reply x)) × IsRepliedButBytes a (reply x))) → Looks state a n (answer_with reply disk (state m.disk).faults r) (record n { seats = slice_set n.seats at (moved s m) })
      look_acts refusal fits r only reads tells = by_refusal refusal fits r only reads tells
