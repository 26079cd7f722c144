-- What an event adds to the history.
use Rattle.std.proofs.Common.{◌≡◌, inl, inr, ℕ, List, [], ◌∷◌, refl, sym, ◌∙◌, ap, subst, Option, Some, None, Ok, Err}
use Rattle.sm_base.specs.declared.numbers.DiskNo.{DiskNo}
use Rattle.sm_base.specs.declared.numbers.Side.{Side}
use Rattle.sm_base.specs.declared.numbers.Side.TheVariants.{Before}
use Rattle.sm_disk.specs.Disk.{DiskState}
use Rattle.sm_defs.specs.World.{Up}
use Rattle.sm_model.specs.declared.event.Event.{Event}
use Rattle.sm_model.specs.declared.event.Event.TheVariants as events
use Rattle.sm_model.specs.declared.reply.Entry.{Entry}
use Rattle.sm_model.specs.declared.reply.Reply.{Reply}
use Rattle.sm_model.specs.Answers.{Answer, Reached, Told, told, bytes, Tells}
use Rattle.sm_model.specs.Answer.{answer}
use Rattle.sm_model.specs.InRange.{IsGiven}
use Rattle.sm_model.specs.LegalRun.{IsDone, IsRefused, IsChosen, IsQuiet, IsRestart, Fits, fault, is_down}
use Rattle.sm_model.specs.Sound.{SoundUp}
use Rattle.sm_model.specs.World.{World, up, down, Deed}
use Rattle.sm_shape.specs.Blanked.{blanked}
use Rattle.sm_history.specs.Acts.{entry}
use Rattle.laws_cases.proofs.Answers.Deeds.{done_deed}
use Rattle.laws_blank.specs.Laws.{BlankedStaysSound}
use Rattle.sm_node.specs.declared.fault.NodeFault.TheVariants.{Down as DownFault}
use Rattle.sm_register.specs.Registered as register
use Rattle.sm_catroot.specs.Condition.{IsCatalog}
use Rattle.sm_catroot.specs.Kept.{ShowsCatalog}
use Rattle.sm_node.specs.Blocks.{IsNewIn, ChangesNewBlocks}
use Rattle.sm_node.specs.Seats.{device}
use Rattle.sm_node.proofs.BlockLemmas.{keeps_fewer}
use Rattle.sm_events.specs.Served.{IsServed}
use Rattle.sm_node.specs.Nodes.{Node, world_of, IsNode}
use Rattle.sm_node.specs.Halved.{IsHalved}
use Rattle.sm_node.proofs.Falls.{fails_halved}
use Rattle.sm_model.proofs.Refused.{refused_quiet}
use Rattle.sm_node.specs.Acts.{Acts, GoesThrough, IsAnswered, reached_of}
use Rattle.sm_core.specs.Deeds.{boxed, reply_of, deed_to, deed_by, deed_of, next_of}
use Rattle.sm_core.specs.Falling.{deed_now, world_now, kept_of, IsSoundPair}
use Rattle.sm_core.specs.Doing.{Leads, GoesAcross, DoesOne}
use Rattle.sm_core.specs.Written.{IsWrittenBy, WritesOnly}
use Rattle.sm_core.specs.declared.down.Down.{Down}
use Rattle.sm_core.proofs.WrittenLemmas.{answer_writes}

-- ---- an answer as a deed

not_chosen : (w : Up) (e : Event) (a : Answer) → answer w e ≡ Some a → (d : Deed) → IsChosen e d
unfolding IsChosen answer
not_chosen w (events.Work shown) a says d = absurd (cc)
not_chosen w e a says d = tt

-- an answer is an entry
fits_by : (w : Up) (e : Entry) (a : Answer) → answer w e.event ≡ Some a → (new : Up) → IsAnswered w a e.reply new → Leads (up w) e (up new)
fits_by w e (Ok reached) says new h =
    let d : Deed = record { actor = e.actor; event = e.event; old = w; reply = e.reply; new = new } in
    (d ∷ [], λ sides. Fits.done d refl refl refl refl (done_deed e.event d (subst (λ (o : Option Answer). IsDone o d) (sym says) (h.0, h.1))))
fits_by w e (Err refusal) says new h =
    subst (λ (x : Up). Leads (up w) e (up x)) (sym h.1)
    ([], λ sides. Fits.quiet (refused_quiet w e.event e.reply (subst (λ (o : Option Answer). IsRefused o e.reply) (sym says) h.0)))

told_so : (t : Told) → Tells t (reply_of t)
told_so (told reply) = refl
told_so (bytes bs) = (boxed bs, refl, refl)

-- the failure of a disk is an entry
failed_leads : (w : Up) (actor line : ℕ) (e : Event) (reached : Reached) → answer w e ≡ Some (Ok reached) → (disk : DiskNo) (count : ℕ)
    → Leads (up w) (entry actor line e (fault disk count)) (down disk.0 (deed_to w actor e reached))
failed_leads w actor line e reached says disk count =
    let d : Deed = deed_to w actor e reached in (
      [],
      λ sides. Fits.failed d disk count refl refl refl (done_deed e d (subst (λ (o : Option Answer). IsDone o d) (sym says) (told_so reached.reply, refl)))
          (not_chosen w e (Ok reached) says d) refl,
    )

deed_is : (w : Up) (actor : ℕ) (e : Event) (reached : Reached) → answer w e ≡ Some (Ok reached) → deed_of w actor e ≡ deed_to w actor e reached
unfolding deed_by
deed_is w actor e reached says = ap (deed_by w actor e) says

deed_same : {D : Type 0} (x : Down D) (n : Node D) (actor : ℕ) (e : Event) → x.actor ≡ actor → x.event.value ≡ e → x.node.value ≡ n → deed_now x ≡ deed_of (world_of n) actor e
deed_same x n actor e actor_is event_is node_is = rw (actor_is, event_is, node_is) refl

across : {D : Type 0} (state : D → DiskState) (e : Event) (n n' : Node D) (a : Answer) → answer (world_of n) e ≡ Some a
    → GoesThrough state (world_of n) (reached_of (world_of n) a) n n' → GoesAcross state (up (world_of n)) e n n'
across state e n n' a says whole = subst (λ (o : Option Answer). GoesThrough state (world_of n) (next_of (world_of n) o) n n') (sym says) whole

-- only the block that the event writes is changed
writes : {D : Type 0} (state : D → DiskState) (e : Event) (n n' : Node D) (a : Answer) → IsServed e → answer (world_of n) e ≡ Some a
    → ChangesNewBlocks state (world_of n) (reached_of (world_of n) a) n n' → WritesOnly state (up (world_of n)) e n n'
writes state e n n' a served says changes = record {
  seats = λ i s t was is. keeps_fewer (IsWrittenBy (world_of n) e i) (IsNewIn (world_of n) (reached_of (world_of n) a) i) (λ k new. answer_writes (world_of n) e a served says i k new)
      (state (device s)) (state (device t)) (changes.seats i s t was is);
  joined = changes.joined;
}

-- ---- one event

reached_sound : BlankedStaysSound → (w : Up) (e : Event) → IsGiven e → SoundUp (blanked w) → (a : Answer) → answer w e ≡ Some a → SoundUp (blanked (reached_of w a))
reached_sound stays w e given sound (Ok reached) says = stays w e reached given sound says
reached_sound stays w e given sound (Err refusal) says = sound

-- it was answered
pub one_done : {D : Type 0} (state : D → DiskState) → BlankedStaysSound → (actor : ℕ) (e : Event) (n n' : Node D) → IsServed e → IsGiven e → SoundUp (blanked (world_of n))
    → (a : Answer) → answer (world_of n) e ≡ Some a → (reply : Reply) → Acts state a n (Ok reply) n' → DoesOne state actor e reply None n None n'
one_done state stays actor e n n' served given sound a says reply acts = record {
  leads = λ told line. fits_by (world_of n) (entry actor line e reply) a says (world_of n') (acts.answered told);
  across = across state e n n' a says acts.whole;
  blocks = writes state e n n' a served says acts.blocks;
  said = (a, says, inl (record { replied = acts.without_bytes.0; world = world_of n'; is = refl; without_bytes = acts.without_bytes.1 }));
  stands = acts.up;
  sound = subst SoundUp (sym acts.without_bytes.1) (reached_sound stays (world_of n) e given sound a says);
}

-- a disk failed: the snapshots keep the event and the node before it
pub one_failed : {D : Type 0} (state : D → DiskState) → BlankedStaysSound → (actor : ℕ) (e : Event) (n n' : Node D) → IsServed e → IsGiven e → SoundUp (blanked (world_of n))
    → (disk : DiskNo) (count : ℕ) (x : Down D) → x.disk ≡ disk → x.actor ≡ actor → x.event.value ≡ e → x.node.value ≡ n → x.side ≡ Before
    → register.IsKept state IsCatalog ShowsCatalog n'.root → IsNode state n' → (a : Answer) → answer (world_of n) e ≡ Some a → Acts state a n (Err (DownFault disk count)) n' → DoesOne state actor e (fault disk count) None n (Some x) n'
one_failed state stays actor e n n' served given sound disk count x disk_is actor_is event_is node_is side_is root node (Err refusal) says acts = absurd (acts.failed disk count refl).allowed
one_failed state stays actor e n n' served given sound disk count x disk_is actor_is event_is node_is side_is root node (Ok reached) says acts =
    let fails = acts.failed disk count refl in
    let d : Deed = deed_to (world_of n) actor e reached in
    let now : deed_now x ≡ d = deed_same x n actor e actor_is event_is node_is ∙ deed_is (world_of n) actor e reached says in
    let named : world_now (Some x) n' ≡ down disk.0 (deed_now x) = ap (λ (k : DiskNo). down k.0 (deed_now x)) disk_is in
    let world : world_now (Some x) n' ≡ down disk.0 d = named ∙ ap (down disk.0) now in
    record {
      leads = λ told line. subst (λ (w : World). Leads (up (world_of n)) (entry actor line e (fault disk count)) w) (sym world) (failed_leads (world_of n) actor line e reached says disk count);
      across = across state e n n' (Ok reached) says acts.whole;
      blocks = writes state e n n' (Ok reached) served says acts.blocks;
      said = (Ok reached, says, inr (record { disk = disk; count = count; allowed = tt; is = refl; failed = fails.failed; down = named ∙ ap (down disk.0) (deed_same x n actor e actor_is event_is node_is) }));
      stands = subst (λ (s : Side). IsHalved state (deed_now x) s n') (sym side_is)
          (subst (λ (y : Deed). IsHalved state y Before n') (sym now) (fails_halved state (Ok reached) disk count n n' fails root node d refl refl));
      sound = subst IsSoundPair (sym now) (sound, stays (world_of n) e reached given sound says);
    }

-- while the node is down, each event but a restart is answered so
pub one_down : {D : Type 0} (state : D → DiskState) (actor : ℕ) (e : Event) → ¬ IsRestart e → (n : Node D) (x : Down D) → IsHalved state (deed_now x) x.side n → IsSoundPair (deed_now x)
    → DoesOne state actor e (is_down x.disk.0) (Some x) n (Some x) n
one_down state actor e no_restart n x stands sound = record {
  leads = λ told line. ([], λ sides. Fits.down_still no_restart refl);
  across = refl;
  blocks = refl;
  said = (refl, refl);
  stands = stands;
  sound = sound;
}

-- what contracts see, where each field is as before
pub same_kept : {D : Type 0} (since since' : Option (Down D)) (n n' : Node D) (es es' : List Entry) (sides : List Side) → since' ≡ since → n' ≡ n → es' ≡ es → kept_of since' n' es' sides ≡ kept_of since n es sides
same_kept since since' n n' es es' sides e f h = rw (e, f, h) refl
