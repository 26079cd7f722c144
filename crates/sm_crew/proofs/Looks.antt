-- What one event of a report is answered.
use Rattle.std.proofs.Common.{◌≡◌, ◌⊎◌, inl, inr, ℕ, ◌<◌, ◌==◌, Bool, true, false, cond, List, [], ◌∷◌, length, Option, Some, None, Result, Ok, Err, refl, sym, ap, subst, ◌∙◌, eqb-true}
use Rattle.sm_base.specs.declared.limits.TheConstants.{MOST_ENTRIES}
use Rattle.sm_base.specs.declared.numbers.DiskNo.{DiskNo}
use Rattle.sm_disk.specs.Disk.{DiskState}
use Rattle.sm_defs.specs.World.{Up, volume_at}
use Rattle.sm_model.specs.declared.event.Event as the_event
use Rattle.sm_model.specs.declared.event.Event.TheVariants as events
use Rattle.sm_model.specs.declared.reply.Entry.{Entry}
use Rattle.sm_model.specs.declared.reply.Line.{Line}
use Rattle.sm_model.specs.declared.reply.Line.TheVariants as lines
use Rattle.sm_model.specs.declared.reply.Reply as the_reply
use Rattle.sm_model.specs.declared.reply.Reply.TheVariants as replies
use Rattle.sm_model.specs.Answer.{answer}
use Rattle.sm_model.specs.Answers.{Answer, Told, told, bytes, volno}
use Rattle.sm_model.specs.InRange.{IsGiven, IsThere, IsPlace}
use Rattle.sm_model.specs.LegalRun.{IsAsked, fault, is_down}
use Rattle.sm_model.specs.OfReport.{head_line, volume_line, digest_line, relation_line, numbered}
use Rattle.sm_model.specs.Telling.{told_by}
use Rattle.sm_model.specs.World.{World, up, down}
use Rattle.sm_report.specs.Transcript.{down_disk}
use Rattle.sm_history.specs.Acts.{entry}
use Rattle.sm_history.specs.declared.fault.ActFault.{ActFault}
use Rattle.sm_history.specs.declared.fault.ActFault.TheVariants.{HistoryFull, NoMemory as OutOfMemory}
use Rattle.sm_shape.specs.Blanked.{blanked}
use Rattle.sm_node.specs.Acts.{reached_of}
use Rattle.sm_node.specs.ButBytes.{LineButDigest, IsRepliedButBytes}
use Rattle.sm_node.specs.Nodes.{Node}
use Rattle.sm_events.specs.Served.{IsServed}
use Rattle.sm_core.specs.Doing.{IsSaid, IsServedIn}
use Rattle.sm_core.specs.Faults.{Faults, act_fault}
use Rattle.sm_core.specs.Kept.{Kept}
use Rattle.sm_crew.specs.Coming.{MakesOne}
use Rattle.sm_crew.specs.Reporting.{IsLook, StaysUp, IsDownWith, IsSeen, IsWhyCut, Reports, Stops, counted}
use Rattle.sm_crew.specs.declared.stop.Stop.TheVariants.{Down, Fault}
use Rattle.std.proofs.lemmas.Option.{same_Some}
use Rattle.sm_crew.proofs.Commands.{served_in, full_or_not}
use Rattle.sm_crew.proofs.Reports.{same_up}

-- ---- what may be asked

look_served : (e : the_event.Event) → IsLook e → IsServed e
look_served events.Head look = tt
look_served (events.VolumeLine volume) look = tt
look_served (events.Digest volume place) look = tt
look_served (events.RelationLine relation) look = tt
look_served _ look = absurd look

pub look_served_in : (w : World) (e : the_event.Event) → IsLook e → IsServedIn w e
look_served_in w e look = served_in w e (look_served e look)

pub head_asked : (w : World) → IsAsked w events.Head
unfolding IsGiven IsThere
head_asked (up w) = (tt, tt)
head_asked (down disk d) = tt

pub volume_asked : (w : Up) (i : ℕ) → i < length w.volumes → IsAsked (up w) (events.VolumeLine (volno i))
unfolding IsGiven IsThere
volume_asked w i there = (tt, there)

pub digest_asked : (w : Up) (i : ℕ) (place : Option ℕ) → i < length w.volumes → IsPlace (length (volume_at w i).snapshots) place → IsAsked (up w) (events.Digest (volno i) place)
unfolding IsGiven IsThere
digest_asked w i place there stands = (tt, (there, stands))

-- ---- what is answered

-- a line, and the world stays
look_answer : (w : Up) (e : the_event.Event) → IsLook e → (a : Answer) → answer w e ≡ Some a → (line : Line) × (a ≡ Ok (record { reply = told (replies.Line line); world = w }))
unfolding answer
look_answer w events.Head look a says = (head_line w, sym (cc))
look_answer w (events.VolumeLine volume) look a says = (volume_line volume (volume_at w volume.0), sym (cc))
look_answer w (events.Digest volume place) look a says = (digest_line volume (volume_at w volume.0) place, sym (cc))
look_answer w (events.RelationLine relation) look a says = (relation_line w (numbered w relation), sym (cc))
look_answer w _ look a says = absurd look

line_replied : (line : Line) (reply : the_reply.Reply) → LineButDigest line reply → (l : Line) × (reply ≡ replies.Line l)
line_replied (lines.Active number d) reply (e, is) = (lines.Active number e, is)
line_replied (lines.Snapshot number name ident label time made d) reply (e, is) = (lines.Snapshot number name ident label time made e, is)
line_replied line reply is = (line, is)

line_is_up : (reply : the_reply.Reply) (l : Line) → reply ≡ replies.Line l → down_disk reply ≡ None
unfolding down_disk
line_is_up reply l is = rw is refl

fault_is_down : (reply : the_reply.Reply) (disk : DiskNo) (count : ℕ) → reply ≡ fault disk count → down_disk reply ≡ Some disk.0
unfolding down_disk
fault_is_down reply disk count is = rw is refl

still_is_down : (reply : the_reply.Reply) (disk : ℕ) → reply ≡ is_down disk → down_disk reply ≡ Some disk
unfolding down_disk
still_is_down reply disk is = rw is refl

-- a line is told by itself alone
line_told : (r : the_reply.Reply) (l : Line) → told_by r ≡ told (replies.Line l) → r ≡ replies.Line l
unfolding told_by
line_told (replies.Bytes block) l e = absurd (cc)
line_told r l e = cc

told_down : Told → Option ℕ
told_down (told reply) = down_disk reply
told_down (bytes bs) = None

down_told : (r : the_reply.Reply) → down_disk r ≡ told_down (told_by r)
unfolding down_disk told_by told_down
down_told (replies.Bytes block) = refl
down_told r = refl

same_down : (a b : the_reply.Reply) → told_by a ≡ told_by b → down_disk a ≡ down_disk b
same_down a b e = down_told a ∙ (ap told_down e ∙ sym (down_told b))

same_line : (a b : the_reply.Reply) (l : Line) → told_by a ≡ told_by b → a ≡ replies.Line l → b ≡ a
unfolding told_by
same_line a b l e is = line_told b l (sym e ∙ ap told_by is) ∙ sym is

-- the node stays up and tells a line, or is down with the disk that the reply names
pub record IsShown (w : World) (e : the_event.Event) (reply : the_reply.Reply) (next : World) : Type 0 where
  pub line : Line
  pub is : reply ≡ replies.Line line
  pub stays : StaysUp w next
  pub seen : IsSeen w e reply

pub record IsFallen (reply : the_reply.Reply) (next : World) : Type 0 where
  pub disk : ℕ
  pub told : down_disk reply ≡ Some disk
  pub down : IsDownWith disk next

module _ {D : Type 0} (state : D → DiskState) where
  shown_or_fallen : (w : World) (e : the_event.Event) (reply : the_reply.Reply) (old new : Node D) (next : World) → IsLook e → IsSaid state w 0 e reply old new next → IsShown w e reply next ⊎ IsFallen reply next
  shown_or_fallen (down disk d) e reply old new next look (is, still) = inr (record { disk = disk; told = still_is_down reply disk is; down = (d, still) })
  shown_or_fallen (up w) e reply old new next look (a, says, inr failure) =
      inr (record { disk = failure.disk.0; told = fault_is_down reply failure.disk failure.count failure.is; down = (_, failure.down) })
  shown_or_fallen (up w) e reply old new next look (a, says, inl reached) =
      let answered = look_answer w e look a says in
      let replied = subst (λ (b : Answer). IsRepliedButBytes b reply) answered.1 reached.replied in
      let line = line_replied answered.0 reply replied in
      inl (record {
        line = line.0;
        is = line.1;
        stays = record { first = w; last = reached.world; was = refl; is = reached.is; without_bytes = reached.without_bytes ∙ ap (λ (b : Answer). blanked (reached_of w b)) answered.1 };
        seen = record { world = w; is = refl; answer_is = a; says = says; replied = reached.replied };
      })

  -- ---- the event is done

  module _ (old new : Kept D) (e : the_event.Event) (reply : the_reply.Reply) (look : IsLook e) (made : MakesOne state old 0 e reply new) where
    abbrev kept : the_reply.Reply
    kept = made.0

    ends : IsShown old.world e kept new.world ⊎ IsFallen kept new.world
    ends = shown_or_fallen old.world e kept old.node new.node new.world look
        (subst (λ (r : the_reply.Reply). IsSaid state old.world 0 e r old.node new.node new.world) made.2.kept made.2.acts.said)

    abbrev own_one : List Entry
    own_one = entry 0 0 e kept ∷ []

    -- a line is answered
    pub one_looked : down_disk reply ≡ None → Reports state old (e ∷ []) new × IsSeen old.world e reply
    one_looked is_up = elim ends [
      | inl shown ↦ (
        record {
          own = own_one;
          comes = (new, made.2, refl);
          whole = record { asked = refl; told = (line_is_up kept shown.line shown.is, tt) };
          stays = shown.stays;
        },
        subst (λ (r : the_reply.Reply). IsSeen old.world e r) (sym (same_line kept reply shown.line made.1 shown.is)) shown.seen,
      )
      | inr fallen ↦ absurd (let two = sym fallen.told ∙ (same_down kept reply made.1 ∙ is_up) in cc)
    ]

    -- the node is down
    pub one_down : (disk : DiskNo) → down_disk reply ≡ Some disk.0 → Stops state old (e ∷ []) (Down disk) new
    one_down disk says = elim ends [
      | inl shown ↦ absurd (let two = sym (line_is_up kept shown.line shown.is) ∙ (same_down kept reply made.1 ∙ says) in cc)
      | inr fallen ↦
          let named : down_disk kept ≡ Some disk.0 = same_down kept reply made.1 ∙ says in
          let same : fallen.disk ≡ disk.0 = same_Some fallen.disk disk.0 (sym fallen.told ∙ named) in
          record {
            own = own_one;
            comes = (new, made.2, refl);
            stopped = (
              record {
                done = e ∷ [];
                left = [];
                report_is = refl;
                asked = refl;
                before = [];
                last = entry 0 0 e kept;
                entries_are = refl;
                told = tt;
                down = named;
              },
              subst (λ (n : ℕ). IsDownWith n new.world) same fallen.down,
            );
          }
    ]

  -- ---- it is not

  same_fault : (A : Type 0) (a b : ActFault) → ◌≡◌ {A = Result A ActFault} (Err a) (Err b) → a ≡ b
  same_fault A a b e = cc

  why_cut : (A : Type 0) (history : List Entry) (fault : ActFault) (t : Bool) → (length history == MOST_ENTRIES) ≡ t → Faults {A = A} (cond t (Some HistoryFull) None) (Err fault) → IsWhyCut fault history
  why_cut A history fault true full is = subst (λ (f : ActFault). IsWhyCut f history) (sym (same_fault A fault HistoryFull is)) (eqb-true (length history) MOST_ENTRIES full)
  why_cut A history fault false full is = subst (λ (f : ActFault). IsWhyCut f history) (sym (same_fault A fault OutOfMemory is)) tt

  pub one_cut : (A : Type 0) (old new : Kept D) (e : the_event.Event) (fault : ActFault) → new ≡ old → Faults {A = A} (act_fault old.history 0 e) (Err fault) → Stops state old (e ∷ []) (Fault fault) new
  one_cut A old new e fault same faults = record {
    own = [];
    comes = same;
    stopped = record {
      done = [];
      next = e;
      left = [];
      report_is = refl;
      asked = refl;
      told = tt;
      why = subst (λ (k : Kept D). IsWhyCut fault k.history) (sym same)
          (why_cut A old.history fault (length old.history == MOST_ENTRIES) refl (subst (λ o. Faults {A = A} o (Err fault)) (full_or_not old.history e) faults));
    };
  }

-- ---- what is counted

-- the volumes of the world
pub head_counts : (w : World) (x : Up) (reply : the_reply.Reply) → w ≡ up x → IsSeen w events.Head reply → counted reply ≡ length x.volumes
unfolding answer counted
head_counts w x reply is seen =
    let same : seen.world ≡ x = same_up seen.world x (sym seen.is ∙ is) in
    let a_is : seen.answer_is ≡ Ok (record { reply = told (replies.Line (head_line seen.world)); world = seen.world }) = (let says = seen.says in sym (cc)) in
    let replied = subst (λ (b : Answer). IsRepliedButBytes b reply) a_is seen.replied in
    rw replied (ap (λ (y : Up). length y.volumes) same)

-- the snapshots of the volume
pub volume_counts : (w : World) (x : Up) (i : ℕ) (reply : the_reply.Reply) → w ≡ up x → IsSeen w (events.VolumeLine (volno i)) reply → counted reply ≡ length (volume_at x i).snapshots
unfolding answer counted
volume_counts w x i reply is seen =
    let same : seen.world ≡ x = same_up seen.world x (sym seen.is ∙ is) in
    let a_is : seen.answer_is ≡ Ok (record { reply = told (replies.Line (volume_line (volno i) (volume_at seen.world i))); world = seen.world }) = (let says = seen.says in sym (cc)) in
    let replied = subst (λ (b : Answer). IsRepliedButBytes b reply) a_is seen.replied in
    rw replied (ap (λ (y : Up). length (volume_at y i).snapshots) same)
