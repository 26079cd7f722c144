-- How far commands are done.
use Rattle.std.proofs.Common.{◌≡◌, ℕ, ◌+◌, ◌-◌, ◌<◌, ◌≤◌, ◌==◌, ◌&&◌, Bool, true, false, cond, List, [], ◌∷◌, ◌++◌, map, length, take, drop, get_or, Option, Some, None, Result, Ok, Err, refl, sym, ap, subst, ◌∙◌, arith, eqb-true}
use Rattle.std.specs.Prelude.{IfSome}
use Rattle.std.proofs.lemmas.List.{length-append, length-map, map-append, take_all, take_more, drop_more, take-append-drop}
use Rattle.sm_base.specs.declared.limits.TheConstants.{MOST_ENTRIES}
use Rattle.sm_disk.specs.Disk.{DiskState}
use Rattle.sm_defs.proofs.Members.{each_pushed}
use Rattle.sm_model.specs.declared.event.Event.{Event}
use Rattle.sm_model.specs.declared.event.Event.TheVariants as events
use Rattle.sm_model.specs.declared.reply.Entry.{Entry}
use Rattle.sm_model.specs.declared.reply.Reply.{Reply}
use Rattle.sm_model.specs.LegalRun.{IsRestart}
use Rattle.sm_model.specs.World.{World, up, down}
use Rattle.sm_grammar.specs.declared.command.Command.{Command}
use Rattle.sm_grammar.specs.declared.command.Task.{Task}
use Rattle.sm_grammar.specs.Events.{Done, next_of}
use Rattle.sm_grammar.specs.Follows.{done_of, IsFor, AreFirst, Follows, FollowsSoFar}
use Rattle.sm_grammar.proofs.FollowLemmas.{last_of, first_more, performed, follows_more, so_far, whole_so_far}
use Rattle.sm_history.specs.declared.fault.ActFault.{ActFault}
use Rattle.sm_history.specs.declared.fault.ActFault.TheVariants.{Unchanged, HistoryFull, NoMemory as OutOfMemory}
use Rattle.sm_history.specs.Acts.{entry}
use Rattle.sm_events.specs.Served.{IsServed}
use Rattle.sm_core.specs.Doing.{IsServedIn}
use Rattle.sm_core.specs.Faults.{Faults, act_fault, is_work}
use Rattle.sm_core.specs.Kept.{Kept}
use Rattle.sm_grammar.specs.Asked.{AsksScripted}
use Rattle.sm_crew.specs.Asked.{IsRunnable}
use Rattle.sm_crew.specs.Coming.{MakesOne, Comes}
use Rattle.sm_crew.specs.Ended.{last_reply, IsWhy, AreBegun}
use Rattle.sm_crew.specs.Alone.{RunsOne, RunsAlone}
use Rattle.sm_crew.proofs.Replies.{same_next, last_done, last_behind}
use Rattle.sm_crew.proofs.Scripted.{next_runs}
use Rattle.sm_crew.proofs.Coming.{comes_more, comes_join, grown, same_sides, runs_on}

-- ---- what may be asked

no_restart : (e : Event) → IsServed e → ¬ IsRestart e
unfolding IsRestart
no_restart events.Restart served = absurd served
no_restart e served = λ restart. restart

-- a node that is down too answers what one that is up does
pub served_in : (w : World) (e : Event) → IsServed e → IsServedIn w e
served_in (up w) e served = served
served_in (down disk d) e served = no_restart e served

-- the next event of a command
pub runnable : (task : Task) (done : ℕ) (last : Option Reply) (next : Option Event) (event : Event) → AsksScripted task → next ≡ next_of task done last → next ≡ Some event → IsRunnable event
runnable task done last next event asks is some = next_runs task done last event asks (sym is ∙ some)

-- ---- why an event is not done

none_of : (t : Bool) → (t && false) ≡ false
none_of true = refl
none_of false = refl

pub full_or_not : (history : List Entry) (event : Event) → act_fault history 0 event ≡ cond (length history == MOST_ENTRIES) (Some HistoryFull) None
full_or_not history event = ap (λ t. cond t (Some Unchanged) (cond (length history == MOST_ENTRIES) (Some HistoryFull) None)) (none_of (is_work event))

same_fault : (A : Type 0) (a b : ActFault) → ◌≡◌ {A = Result A ActFault} (Err a) (Err b) → a ≡ b
same_fault A a b e = cc

why_by : (A : Type 0) (c : Command) (own history : List Entry) (event : Event) (fault : ActFault) (t : Bool) → (length history == MOST_ENTRIES) ≡ t → next_of c.task (length own) (last_reply None own) ≡ Some event
    → Faults {A = A} (cond t (Some HistoryFull) None) (Err fault) → IsWhy fault c own history
why_by A c own history event fault true full due is =
    subst (λ (f : ActFault). IsWhy f c own history) (sym (same_fault A fault HistoryFull is)) (record { event = event; due = due; full = eqb-true (length history) MOST_ENTRIES full })
why_by A c own history event fault false full due is = subst (λ (f : ActFault). IsWhy f c own history) (sym (same_fault A fault OutOfMemory is)) tt

-- ---- one command

module _ {D : Type 0} (state : D → DiskState) where
  -- so many events of a command are done, of which the last was answered so
  pub record IsSoFar (old : Kept D) (c : Command) (done : ℕ) (last : Option Reply) (now : Kept D) : Type 0 where
    pub own : List Entry
    pub comes : Comes state old own now
    pub begun : AreBegun c own
    pub counted : done ≡ length own
    pub answered : (n : ℕ) → next_of c.task n last ≡ next_of c.task n (last_reply None own)

  pub none_so_far : (old : Kept D) (c : Command) → IsSoFar old c 0 None old
  none_so_far old c = record { own = []; comes = refl; begun = record { lines = tt; first = tt }; counted = refl; answered = λ n. refl }

  -- the next event of the command, by what is kept
  due_next : (old : Kept D) (c : Command) (done : ℕ) (last : Option Reply) (now : Kept D) → (s : IsSoFar old c done last now) → (next : Option Event) → next ≡ next_of c.task done last
      → next_of c.task (length s.own) (last_reply None s.own) ≡ next
  due_next old c done last now s next is = subst (λ (n : ℕ). next_of c.task n (last_reply None s.own) ≡ next) s.counted (sym (is ∙ s.answered done))

  -- the same by the events that were done
  due_behind : (c : Command) (own : List Entry) (next : Option Event) → next_of c.task (length own) (last_reply None own) ≡ next
      → next_of c.task (length (map done_of own)) (last_of None (map done_of own)) ≡ next
  due_behind c own next is = rw (length-map own done_of, last_done None own) is

  from_zero : (task : Task) (all : List Done) (next : Option Event) → next_of task (length all) (last_of None all) ≡ next → next_of task (0 + length all) (last_of None all) ≡ next
  from_zero task all next is = let zero : length all ≡ 0 + length all = omega arith in subst (λ (n : ℕ). next_of task n (last_of None all) ≡ next) zero is

  pub one_more : (old : Kept D) (c : Command) (done : ℕ) (last : Option Reply) (mid new : Kept D) (event : Event) (reply : Reply) → IsSoFar old c done last mid
      → (next : Option Event) → next ≡ Some event → next ≡ next_of c.task done last → MakesOne state mid c.line event reply new → IsSoFar old c (done + 1) (Some reply) new
  one_more old c done last mid new event reply s next some is (kept, tells, made) =
      let e : Entry = entry 0 c.line event kept in
      let due = from_zero c.task (map done_of s.own) (Some event) (due_behind c s.own (Some event) (due_next old c done last mid s (Some event) (sym some ∙ is))) in
      record {
        own = s.own ++ e ∷ [];
        comes = comes_more state s.own e old mid new s.comes made;
        begun = record {
          lines = each_pushed (IsFor c.line) s.own e s.begun.lines (refl, refl);
          first = subst (λ (ds : List Done). AreFirst c.task 0 None ds) (sym (map-append done_of s.own (e ∷ [])))
              (first_more c.task 0 None (map done_of s.own) (done_of e) s.begun.first due);
        };
        counted = let longer = length-append s.own (e ∷ []) in let counted = s.counted in omega (arith, longer, counted);
        answered = λ n. same_next c.task n reply kept (sym tells) ∙ ap (next_of c.task n) (sym (last_behind None s.own e));
      }

  -- there was room for the event, so that the count stays small
  pub few : (old : Kept D) (c : Command) (done : ℕ) (last : Option Reply) (mid new : Kept D) (event : Event) (reply : Reply) → IsSoFar old c done last mid
      → MakesOne state mid c.line event reply new → done < MOST_ENTRIES
  few old c done last mid new event reply s (kept, tells, made) =
      let room = made.acts.room in
      let all = ap length (grown state s.own old mid s.comes) in
      let longer = length-append old.history s.own in
      let counted = s.counted in
      omega (arith, room, all, longer, counted)

  -- each event leaves less room
  pub less_room : (line : ℕ) (mid new : Kept D) (event : Event) (reply : Reply) → MakesOne state mid line event reply new
      → MOST_ENTRIES - length new.history < MOST_ENTRIES - length mid.history
  less_room line mid new event reply (kept, tells, made) =
      let room = made.acts.room in
      let grows = ap length made.acts.grown in
      let longer = length-append mid.history (entry 0 line event made.acts.kept ∷ []) in
      omega (arith, room, grows, longer)

  -- none is next
  pub one_ended : (old : Kept D) (c : Command) (done : ℕ) (last : Option Reply) (new : Kept D) → IsSoFar old c done last new → (next : Option Event) → next ≡ None → next ≡ next_of c.task done last → RunsOne state old c (Ok tt) new
  one_ended old c done last new s next none is = record {
    own = s.own;
    comes = s.comes;
    ends = (s.begun.lines, performed c.task (map done_of s.own) s.begun.first (due_behind c s.own None (due_next old c done last new s None (sym none ∙ is))));
  }

  -- there is no memory for the next one
  pub one_starved : (old : Kept D) (c : Command) (done : ℕ) (last : Option Reply) (new : Kept D) (fault : ActFault) → IsSoFar old c done last new → fault ≡ OutOfMemory → RunsOne state old c (Err fault) new
  one_starved old c done last new fault s is = record { own = s.own; comes = s.comes; ends = (s.begun, subst (λ (f : ActFault). IsWhy f c s.own new.history) (sym is) tt) }

  -- the next one is not done
  pub one_refused : (A : Type 0) (old : Kept D) (c : Command) (done : ℕ) (last : Option Reply) (mid new : Kept D) (event : Event) (fault : ActFault) → IsSoFar old c done last mid
      → (next : Option Event) → next ≡ Some event → next ≡ next_of c.task done last → new ≡ mid → Faults {A = A} (act_fault mid.history 0 event) (Err fault) → RunsOne state old c (Err fault) new
  one_refused A old c done last mid new event fault s next some is same faults =
      subst (λ (k : Kept D). RunsOne state old c (Err fault) k) (sym same) (record {
        own = s.own;
        comes = s.comes;
        ends = (
          s.begun,
          why_by A c s.own mid.history event fault (length mid.history == MOST_ENTRIES) refl (due_next old c done last mid s (Some event) (sym some ∙ is))
              (subst (λ o. Faults {A = A} o (Err fault)) (full_or_not mid.history event) faults),
        );
      })

  -- ---- all commands

  -- some first commands are done
  pub record AreDone (old : Kept D) (commands : List Command) (now : Kept D) : Type 0 where
    pub entries : List Entry
    pub comes : Comes state old entries now
    pub follows : Follows commands entries

  pub none_done : (old : Kept D) → AreDone old [] old
  none_done old = record { entries = []; comes = refl; follows = refl }

  pub one_done : (old : Kept D) (commands : List Command) (i : ℕ) (c : Command) (mid new : Kept D) → i < length commands → c ≡ get_or commands i c → AreDone old (take i commands) mid
      → RunsOne state mid c (Ok tt) new → AreDone old (take (i + 1) commands) new
  one_done old commands i c mid new lt is done one =
      let next : take (i + 1) commands ≡ take i commands ++ c ∷ [] = take_more commands i c lt ∙ ap (λ (d : Command). take i commands ++ d ∷ []) (sym is) in
      subst (λ (cs : List Command). AreDone old cs new) (sym next) (record {
        entries = done.entries ++ one.own;
        comes = comes_join state done.entries one.own old mid new done.comes one.comes;
        follows = follows_more (take i commands) c done.entries one.own done.follows one.ends.0 one.ends.1;
      })

  pub all_done : (old : Kept D) (commands : List Command) (i : ℕ) (new : Kept D) → length commands ≤ i → AreDone old (take i commands) new → RunsAlone state old commands (Ok tt) new
  all_done old commands i new end some_done =
      let all : take i commands ≡ commands = take_all i commands end in
      let done = subst (λ (cs : List Command). AreDone old cs new) all some_done in
      record {
        entries = done.entries;
        comes = done.comes;
        grown = grown state done.entries old new done.comes;
        sides = same_sides state done.entries old new done.comes;
        runs = runs_on state done.entries old new done.comes;
        follow = done.follows;
        so_far = whole_so_far commands done.entries done.follows;
      }

  pub cut_off : (old : Kept D) (commands : List Command) (i : ℕ) (c : Command) (mid new : Kept D) (fault : ActFault) → i < length commands → c ≡ get_or commands i c → AreDone old (take i commands) mid
      → RunsOne state mid c (Err fault) new → RunsAlone state old commands (Err fault) new
  cut_off old commands i c mid new fault lt is done one =
      let entries = done.entries ++ one.own in
      let comes = comes_join state done.entries one.own old mid new done.comes one.comes in
      let commands_are : commands ≡ take i commands ++ c ∷ drop (i + 1) commands =
      sym (take-append-drop i commands) ∙ ap (λ (cs : List Command). take i commands ++ cs) (drop_more commands i c lt ∙ ap (λ (d : Command). d ∷ drop (i + 1) commands) (sym is)) in
      record {
        entries = entries;
        comes = comes;
        grown = grown state entries old new comes;
        sides = same_sides state entries old new comes;
        runs = runs_on state entries old new comes;
        follow = record {
          done = take i commands;
          cut = c;
          left = drop (i + 1) commands;
          commands_are = commands_are;
          before = done.entries;
          own = one.own;
          entries_are = refl;
          follows = done.follows;
          begun = one.ends.0;
          why = one.ends.1;
        };
        so_far = subst (λ (cs : List Command). FollowsSoFar cs entries) (sym commands_are)
            (so_far (take i commands) c (drop (i + 1) commands) done.entries one.own done.follows one.ends.0.lines one.ends.0.first);
      }
