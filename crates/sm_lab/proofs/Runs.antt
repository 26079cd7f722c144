-- A run put together from its parts.
use Rattle.std.proofs.Common.{ℕ, ◌≡◌, inl, List, [], ◌++◌, Option, Some, None, Ok, Err, Result, refl, sym, ap, subst, ◌∙◌, append_assoc, append-nil, suc}
use Rattle.sm_base.specs.declared.numbers.DiskNo.{DiskNo}
use Rattle.sm_base.specs.declared.numbers.Side.{Side}
use Rattle.sm_disk.specs.Disk.{DiskState}
use Rattle.sm_defs.specs.World.{Up}
use Rattle.sm_grammar.specs.declared.command.Command.{Command}
use Rattle.sm_model.specs.declared.reply.Entry.{Entry}
use Rattle.sm_model.specs.LegalRun.{Run, FaultsRise}
use Rattle.sm_model.specs.Sound.{SoundUp}
use Rattle.sm_model.specs.World.{World, up, down, Deed}
use Rattle.laws_run.proofs.AllWorlds.{worlds_are_sound, worlds_have_bases}
use Rattle.laws_run.proofs.AllEntries.{entries_drop_by_rule, none_needed_goes}
use Rattle.laws_run.proofs.RunLaws.{worlds_have_origins}
use Rattle.sm_history.specs.declared.fault.ActFault.{ActFault}
use Rattle.sm_node.specs.HandedBack.{AreInPlaces}
use Rattle.sm_node.specs.Nodes.{Node, numbers}
use Rattle.sm_node.specs.Parts as parts
use Rattle.sm_node.specs.Seats.{disk_number, device}
use Rattle.sm_node.proofs.Lists.{mapped_to}
use Rattle.sm_opening.specs.Looked.{disks_of, AllTold}
use Rattle.sm_opening.specs.OnDisk.{Damage, IsDamage}
use Rattle.sm_core.specs.Kept.{Kept, StandsAt}
use Rattle.sm_core.specs.Opening.{OpensWhole}
use Rattle.sm_crew.specs.Alone.{RunsAlone}
use Rattle.sm_crew.specs.Coming.{Comes}
use Rattle.sm_crew.specs.Reporting.{RunsReport}
use Rattle.sm_crew.proofs.Coming.{comes_join, runs_on}
use Rattle.sm_output.specs.declared.status.Status.{Status}
use Rattle.sm_output.specs.declared.status.Status.TheVariants as statuses
use Rattle.sm_lab.specs.Promises.{Promises, IsLegalFrom}
use Rattle.sm_lab.specs.Running.{TellNoFault, cut_status, Ended, whole, fell, early, late, RunsThrough, RunsOrNot}
use Rattle.sm_lab.proofs.Faults.{faults_rise, unfailed}
use Rattle.laws_run.specs.Histories.{AllFaultless}

-- ---- a legal run

promised : (start : Up) (es : List Entry) (sides : List Side) (deeds : List Deed) (last : World) (r : Run (up start) es sides deeds last) → SoundUp start → Promises start es sides deeds last r
promised start es sides deeds last r s = record {
  sound = worlds_are_sound [] (up start) last es sides deeds r s;
  contents = worlds_have_origins start es sides deeds last r s;
  drops = entries_drop_by_rule start es sides deeds last r s;
  needed = none_needed_goes start es sides deeds last r;
  bases = worlds_have_bases (up start) last es sides deeds r s;
}

legal_from : (w : World) (start : Up) (es : List Entry) (deeds : List Deed) (last : World) → w ≡ up start → Run w es [] deeds last → FaultsRise es → IsLegalFrom start es [] last
legal_from w start es deeds last is r rise =
    let run = subst (λ (x : World). Run x es [] deeds last) is r in
    record { deeds = deeds; legal = record { runs = run; faults_rise = rise }; promises = promised start es [] deeds last run }

module _ {D : Type 0} (state : D → DiskState) where
  -- ---- over a catalogue

  -- the commands were cut off
  pub cut_early : (old new : Kept D) (commands : List Command) (fault : ActFault) (status : Status) → status ≡ cut_status fault → RunsAlone state old commands (Err fault) new
      → RunsThrough state old commands status new
  cut_early old new commands fault status is alone = record {
    done = alone.entries;
    own = [];
    reached = new;
    commands_made = alone.comes;
    report_made = refl;
    grown = alone.grown ∙ ap (λ (es : List Entry). old.history ++ es) (sym (append-nil alone.entries));
    sides = alone.sides;
    ended = subst (λ (s : Status). Ended commands alone.entries [] new.history new.world new.world s) (sym is) (early fault alone.follow refl);
  }

  -- the commands were done, and the report ended so
  reported : (old mid new : Kept D) (commands : List Command) (result : Result (Unit {0}) ActFault) (answer : _) (status : Status) → (alone : RunsAlone state old commands result mid)
      → (report : RunsReport state mid answer new) → Ended commands alone.entries report.entries new.history mid.world new.world status → RunsThrough state old commands status new
  reported old mid new commands result answer status alone report ended = record {
    done = alone.entries;
    own = report.entries;
    reached = mid;
    commands_made = alone.comes;
    report_made = report.comes;
    grown = report.grown ∙ (ap (λ (es : List Entry). es ++ report.entries) alone.grown ∙ append_assoc old.history alone.entries report.entries);
    sides = report.sides ∙ alone.sides;
    ended = ended;
  }

  pub all_done : (old mid new : Kept D) (commands : List Command) (answer : Option DiskNo) → answer ≡ None → RunsAlone state old commands (Ok tt) mid → RunsReport state mid (Ok answer) new
      → RunsThrough state old commands statuses.Fine new
  all_done old mid new commands answer is alone said =
      let report = subst (λ (o : Option DiskNo). RunsReport state mid (Ok o) new) is said in
      reported old mid new commands (Ok tt) (Ok None) statuses.Fine alone report (whole alone.follow report.reported report.leaves)

  pub down_at_end : (old mid new : Kept D) (commands : List Command) (answer : Option DiskNo) (disk : DiskNo) → answer ≡ Some disk → RunsAlone state old commands (Ok tt) mid
      → RunsReport state mid (Ok answer) new → RunsThrough state old commands (statuses.DownAtEnd disk) new
  down_at_end old mid new commands answer disk is alone said =
      let report = subst (λ (o : Option DiskNo). RunsReport state mid (Ok o) new) is said in
      reported old mid new commands (Ok tt) (Ok (Some disk)) (statuses.DownAtEnd disk) alone report (fell disk alone.follow report.reported report.leaves)

  pub cut_late : (old mid new : Kept D) (commands : List Command) (fault : ActFault) (status : Status) → status ≡ cut_status fault → RunsAlone state old commands (Ok tt) mid
      → RunsReport state mid (Err fault) new → RunsThrough state old commands status new
  cut_late old mid new commands fault status is alone report =
      reported old mid new commands (Ok tt) (Err fault) status alone report
      (subst (λ (s : Status). Ended commands alone.entries report.entries new.history mid.world new.world s) (sym is) (late fault alone.follow report.reported))

  -- ---- over disks

  -- the disks of the volumes are among those that come back
  told_seats : (n : Node D) (news : List D) → AreInPlaces n news → AllTold state news → parts.AllTold state n.seats
  told_seats n news places told = λ i s is.
      told s.disk (device s) (places.seats (suc i) s.disk (device s) (mapped_to disk_number n.seats i s is) (mapped_to device n.seats i s is))

  legal_run : (opened closed : Kept D) (start : Up) (es fs : List Entry) (reached : Kept D) (news : List D) → opened.world ≡ up start → Comes state opened es reached → Comes state reached fs closed
      → AreInPlaces closed.node news → AllTold state news → IsLegalFrom start (es ++ fs) [] closed.world
  legal_run opened closed start es fs reached news is first then_ places told =
      let comes = comes_join state es fs opened reached closed first then_ in
      let run = runs_on state (es ++ fs) opened closed comes (told_seats closed.node news places told) in
      legal_from opened.world start (es ++ fs) run.0 closed.world is run.1 (faults_rise state (es ++ fs) opened closed comes)

  no_failure : (opened closed : Kept D) (start : Up) (es fs : List Entry) (reached : Kept D) → opened.world ≡ up start → Comes state opened es reached → Comes state reached fs closed → TellNoFault (es ++ fs)
      → AllFaultless (es ++ fs) × ((disk : ℕ) (d : Deed) → ¬ (closed.world ≡ down disk d))
  no_failure opened closed start es fs reached is first then_ none = unfailed state (es ++ fs) opened closed start is (comes_join state es fs opened reached closed first then_) none

  pub runs_over : (commands : List Command) (olds news : List D) (history : List Entry) (sides : List Side) (status : Status) (opened closed : Kept D) → OpensWhole state olds opened
      → (AllTold state olds → (f : Damage) → IsDamage (disks_of state olds) f → ⊥) → RunsThrough state opened commands status closed
      → AreInPlaces closed.node news → StandsAt state closed.world (numbers closed.node.seats) news → history ≡ closed.history → sides ≡ closed.sides
      → RunsOrNot state commands olds news history sides status
  runs_over commands olds news history sides status opened closed opens undamaged through back stands history_is sides_are =
      let all_is : history ≡ through.done ++ through.own =
      history_is ∙ (through.grown ∙ ap (λ (es : List Entry). es ++ (through.done ++ through.own)) opens.history) in
      let none : sides ≡ [] = sides_are ∙ (through.sides ∙ opens.sides) in
      inl (record {
        opened = opened;
        closed = closed;
        opens = opens;
        undamaged = undamaged;
        through = through;
        history_is = all_is;
        sides_are = sides_are;
        back = back;
        stands = stands;
        legal = λ told.
            subst (λ (es : List Entry). IsLegalFrom opens.world es sides closed.world) (sym all_is)
            (subst (λ (ss : List Side). IsLegalFrom opens.world (through.done ++ through.own) ss closed.world) (sym none)
            (legal_run opened closed opens.world through.done through.own through.reached news opens.is through.commands_made through.report_made back told));
        unfailed = subst (λ (es : List Entry). TellNoFault es → AllFaultless es × ((disk : ℕ) (d : Deed) → ¬ (closed.world ≡ down disk d))) (sym all_is)
            (no_failure opened closed opens.world through.done through.own through.reached opens.is through.commands_made through.report_made);
      })
