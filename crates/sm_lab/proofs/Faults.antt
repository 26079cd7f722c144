-- Counts of failures along the entries of a catalogue that nobody restarts: a disk fails once, and then the node is down.
use Rattle.std.proofs.Common.{◌≡◌, inl, inr, ℕ, List, [], ◌∷◌, Some, Ok, Err, refl, sym, subst, ◌∙◌, arith, ap}
use Rattle.std.specs.List.{AllByRecursion}
use Rattle.sm_disk.specs.Disk.{DiskState}
use Rattle.sm_defs.specs.World.{Up}
use Rattle.sm_model.specs.declared.event.Event.{Event}
use Rattle.sm_model.specs.declared.reply.Entry.{Entry}
use Rattle.sm_model.specs.declared.reply.Line.{Line}
use Rattle.sm_model.specs.declared.reply.Line.TheVariants as lines
use Rattle.sm_model.specs.declared.reply.Reply.{Reply}
use Rattle.sm_model.specs.declared.reply.Reply.TheVariants as replies
use Rattle.sm_base.specs.declared.refusal.Refusal.TheVariants as refusals
use Rattle.sm_model.specs.Answer.{answer}
use Rattle.sm_model.specs.Answers.{Answer, Told, told, bytes, Reached, Tells}
use Rattle.sm_model.specs.LegalRun.{fault, is_down, Counts, Rises, FaultsRise}
use Rattle.sm_model.specs.World.{World, up, down, Deed}
use Rattle.laws_run.specs.Histories.{IsFaultless, AllFaultless}
use Rattle.sm_lab.specs.Running.{TellNoFault}
use Rattle.laws_run.proofs.Faultless.{refused_faultless, done_faultless}
use Rattle.sm_node.specs.Acts.{DiskHasFailed}
use Rattle.sm_node.specs.ButBytes.{LineButDigest, ReplyButDigest, TellsButBytes, IsRepliedButBytes}
use Rattle.sm_node.specs.Nodes.{Node}
use Rattle.sm_core.specs.Doing.{IsSaid}
use Rattle.sm_core.specs.Deeds.{deed_of}
use Rattle.sm_core.specs.Kept.{Kept}
use Rattle.sm_crew.specs.Coming.{Makes, Comes}

-- ---- what an answer tells

line_faultless : (l : Line) (reply : Reply) → reply ≡ replies.Line l → IsFaultless reply
line_faultless l reply e = record { no_fault = λ disk count f. (let g = sym e ∙ f in cc); is_up = λ disk f. (let g = sym e ∙ f in cc) }

but_digest : (line : Line) (reply : Reply) → LineButDigest line reply → IsFaultless reply
but_digest (lines.Active number d) reply (e, is) = line_faultless (lines.Active number e) reply is
but_digest (lines.Snapshot number name ident label time made d) reply (e, is) = line_faultless (lines.Snapshot number name ident label time made e) reply is
but_digest line reply is = line_faultless line reply is

reply_but_digest : (r reply : Reply) → IsFaultless r → ReplyButDigest r reply → IsFaultless reply
reply_but_digest (replies.Line line) reply n is = but_digest line reply is
reply_but_digest r reply n is = subst IsFaultless (sym is) n

told_but_bytes : (w : Up) (e : Event) (reached : Reached) (reply : Reply) → answer w e ≡ Some (Ok reached) → (t : Told) → reached.reply ≡ t → TellsButBytes t reply → IsFaultless reply
told_but_bytes w e reached reply says (told r) is tells =
    reply_but_digest r reply (done_faultless w e reached r says (subst (λ (t : Told). Tells t r) (sym is) refl)) tells
told_but_bytes w e reached reply says (bytes bs) is (block, tells) = record { no_fault = λ disk count f. (let g = sym tells ∙ f in cc); is_up = λ disk f. (let g = sym tells ∙ f in cc) }

-- what a node that is up answers tells of no disk that failed
answered_faultless : (w : Up) (e : Event) (a : Answer) (reply : Reply) → answer w e ≡ Some a → IsRepliedButBytes a reply → IsFaultless reply
answered_faultless w e (Ok reached) reply says tells = told_but_bytes w e reached reply says reached.reply refl tells
answered_faultless w e (Err refusal) reply says is = refused_faultless w e reply refusal says is

-- ---- counts

counts : (reply : Reply) → IsFaultless reply → Counts reply
unfolding Counts
counts (replies.Refused (refusals.DiskFault disk count)) n = absurd (n.no_fault disk count refl)
counts reply n = tt

rises : (earlier later : Reply) → IsFaultless earlier → Rises earlier later
unfolding Rises
rises (replies.Refused (refusals.DiskFault disk count)) later n = absurd (n.no_fault disk count refl)
rises earlier later n = tt

rises_to_down : (earlier later : Reply) (disk : ℕ) → later ≡ is_down disk → Rises earlier later
unfolding Rises
rises_to_down (replies.Refused (refusals.DiskFault d f)) later disk is = rw is tt
rises_to_down earlier later disk is = tt

all_rise : (reply : Reply) (es : List Entry) → IsFaultless reply → AllByRecursion (λ l. Rises reply l.reply) es
all_rise reply [] n = tt
all_rise reply (e ∷ es) n = (rises reply e.reply n, all_rise reply es n)

-- each answers that the node is down
AllDown : List Entry → Type 0
AllDown es = AllByRecursion (λ e. (disk : ℕ) × (e.reply ≡ is_down disk)) es

all_rise_to_down : (reply : Reply) (es : List Entry) → AllDown es → AllByRecursion (λ l. Rises reply l.reply) es
unfolding AllDown
all_rise_to_down reply [] a = tt
all_rise_to_down reply (e ∷ es) ((disk, is), a) = (rises_to_down reply e.reply disk is, all_rise_to_down reply es a)

counts_down : (reply : Reply) (disk : ℕ) → reply ≡ is_down disk → Counts reply
unfolding Counts
counts_down reply disk is = rw is tt

down_rise : (es : List Entry) → AllDown es → FaultsRise es
unfolding AllDown
down_rise [] a = tt
down_rise (e ∷ es) ((disk, is), a) = (counts_down e.reply disk is, all_rise_to_down e.reply es a, down_rise es a)

counts_fault : (reply : Reply) {D : Type 0} (state : D → DiskState) (w : Up) (f : _) (count : ℕ) (old new : Node D) → reply ≡ fault f count → DiskHasFailed state w f count old new → Counts reply
unfolding Counts
counts_fault reply state w f count old new is (inl h) = rw is (let risen = h.counted in let counted = h.counts in omega (arith, risen, counted))
counts_fault reply state w f count old new is (inr h) = rw is (let risen = h.counted in let counted = h.counts in omega (arith, risen, counted))

-- ---- the entries

module _ {D : Type 0} (state : D → DiskState) where
  all_down : (es : List Entry) (old new : Kept D) (disk : ℕ) (d : Deed) → old.world ≡ down disk d → Comes state old es new → AllDown es
  unfolding AllDown
  all_down [] old new disk d is comes = tt
  all_down (e ∷ es) old new disk d is (mid, made, rest) =
      let said = subst (λ (w : World). IsSaid state w e.actor e.event made.acts.kept old.node mid.node mid.world) is made.acts.said in
      ((disk, sym made.kept ∙ said.0), all_down es mid new disk d said.1 rest)

  one_more : (w : World) (e : Entry) (es : List Entry) (old mid new : Kept D) → old.world ≡ w → Makes state old e mid → Comes state mid es new → FaultsRise es → FaultsRise (e ∷ es)
  one_more (down disk d) e es old mid new is made rest rise = down_rise (e ∷ es) (all_down (e ∷ es) old new disk d is (mid, made, rest))
  one_more (up w) e es old mid new is made rest rise =
      let said = subst (λ (w : World). IsSaid state w e.actor e.event made.acts.kept old.node mid.node mid.world) is made.acts.said in
      elim said.2 [
        | inl reached ↦
            let n = subst IsFaultless made.kept (answered_faultless w e.event said.0 made.acts.kept said.1 reached.replied) in
            (counts e.reply n, all_rise e.reply es n, rise)
        | inr failed ↦
            let behind = all_down es mid new failed.disk.0 (deed_of w e.actor e.event) failed.down rest in (
              counts_fault e.reply state w failed.disk failed.count old.node mid.node (sym made.kept ∙ failed.is) failed.failed,
              all_rise_to_down e.reply es behind,
              down_rise es behind,
            )
      ]

  pub faults_rise : (es : List Entry) (old new : Kept D) → Comes state old es new → FaultsRise es
  faults_rise [] old new comes = tt
  faults_rise (e ∷ es) old new (mid, made, rest) = one_more old.world e es old mid new refl made rest (faults_rise es mid new rest)

  -- ---- where no disk fails

  pub unfailed : (es : List Entry) (old new : Kept D) (w : Up) → old.world ≡ up w → Comes state old es new → TellNoFault es → AllFaultless es × ((disk : ℕ) (d : Deed) → ¬ (new.world ≡ down disk d))
  unfailed [] old new w is same none = (tt, λ disk d fallen. (let g = sym is ∙ (sym (ap (λ (k : Kept D). k.world) same) ∙ fallen) in cc))
  unfailed (e ∷ es) old new w is (mid, made, rest) none =
      let said = subst (λ (w : World). IsSaid state w e.actor e.event made.acts.kept old.node mid.node mid.world) is made.acts.said in
      elim said.2 [
        | inl reached ↦
            let n = subst IsFaultless made.kept (answered_faultless w e.event said.0 made.acts.kept said.1 reached.replied) in
            let later = unfailed es mid new reached.world reached.is rest (λ x among. none x (inr among)) in
            ((n, later.0), later.1)
        | inr failed ↦ absurd (none e (inl refl) failed.disk failed.count (sym made.kept ∙ failed.is))
      ]
