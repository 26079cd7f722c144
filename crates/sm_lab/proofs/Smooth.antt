-- How a call ends in which nothing fails.
use Rattle.std.proofs.Common.{◌≡◌, ◌⊎◌, inl, inr, ℕ, ◌≤◌, List, [], ◌++◌, length, length-append, append-nil, Option, Some, None, Ok, refl, sym, ap, subst, ◌∙◌, arith}
use Rattle.std.proofs.lemmas.Option.{same_Some}
use Rattle.std.specs.Io.KnownBytes.{prepend_known, IsAtEnd}
use Rattle.sm_base.specs.declared.limits.TheConstants.{LONGEST_SCRIPT}
use Rattle.sm_disk.specs.Disk.{DiskState}
use Rattle.sm_grammar.specs.declared.command.Command.{Command}
use Rattle.sm_grammar.specs.Script.{Parsed, parse}
use Rattle.sm_model.specs.declared.reply.Entry.{Entry}
use Rattle.sm_model.specs.World.{World, down, Deed}
use Rattle.laws_run.specs.Histories.{AllFaultless}
use Rattle.sm_history.specs.declared.fault.ActFault.{ActFault}
use Rattle.sm_history.specs.declared.fault.ActFault.TheVariants.{Unchanged, HistoryFull, NoMemory as OutOfMemory}
use Rattle.sm_words.specs.declared.options.Mode.TheVariants as modes
use Rattle.sm_opening.specs.declared.fault.OpenFault.{OpenFault}
use Rattle.sm_opening.specs.declared.fault.OpenFault.TheVariants.{Unopened, NoMemory as NoRoom}
use Rattle.sm_opening.specs.Looked.{disks_of, IsDamageOf, IsFaultCounted}
use Rattle.sm_opening.specs.OnDisk.{IsDamage}
use Rattle.sm_output.specs.declared.status.Status.{Status}
use Rattle.sm_output.specs.declared.status.Status.TheVariants as statuses
use Rattle.sm_lab.specs.Reading.{Gave, GaveNone, bad_line, too_long, read_fault, starved}
use Rattle.sm_lab.specs.Running.{cut_status, open_status, Ended, whole, fell, early, late, RunsOrNot}
use Rattle.sm_lab.specs.Call.{Flow, Failed, Call, Asks, lists, DoesNothing, Ran, Ends}
use Rattle.sm_lab.specs.Call as calls
use Rattle.sm_lab.specs.Smooth.{IsSmooth, IsWell, SmoothCallsEndWell}

-- ---- the source

-- what was given is all that was left
given_text : (new : Option (List ℕ)) (text bytes : List ℕ) → Some text ≡ prepend_known bytes new → IsAtEnd new → bytes ≡ text
given_text None text bytes e end = cc
given_text (Some rest) text bytes e end =
    let whole : Some text ≡ Some (bytes ++ []) = rw end at e in
    let none_left : bytes ++ [] ≡ bytes = append-nil bytes in
    cc

long_text : (new : Option (List ℕ)) (text bytes : List ℕ) → Some text ≡ prepend_known bytes new → length bytes ≤ length text
long_text None text bytes e = absurd cc
long_text (Some rest) text bytes e =
    let whole : text ≡ bytes ++ rest = cc in
    rw whole (simp length-append (omega arith))

gave_text : (new : Option (List ℕ)) (old : Option (List ℕ)) (text : List ℕ) (parsed : Parsed) → old ≡ Some text → (g : Gave old new parsed) → parse text ≡ parsed
gave_text new old text parsed left g = subst (λ (t : List ℕ). parse t ≡ parsed) (given_text new text g.text (sym left ∙ g.came) g.at_end) g.says

-- the source gave a script, or there was no memory for it
none_given : {old new : Option (List ℕ)} {failed : Type 0} {status : Status} → GaveNone old new failed status → ¬ failed → (text : List ℕ) → old ≡ Some text → length text ≤ LONGEST_SCRIPT
    → (commands : List Command) → parse text ≡ Ok commands → IsWell status
none_given (bad_line line kind g) sure text left short commands says = absurd (let told = gave_text _ _ text _ left g in let g = sym says ∙ told in cc)
none_given (too_long (bytes, many, came)) sure text left short commands says = absurd (let long = long_text _ text bytes (sym left ∙ came) in omega (arith, long, many, short))
none_given (read_fault failed) sure text left short commands says = absurd (sure failed)
none_given starved sure text left short commands says = inr (inr refl)

-- ---- the run

cut_well : (f : ActFault) → IsWell (cut_status f)
cut_well HistoryFull = inr (inl refl)
cut_well OutOfMemory = inr (inr refl)
cut_well Unchanged = inr (inr refl)

ended_well : {commands : List Command} {done own history : List Entry} {reached last : World} {status : Status} → Ended commands done own history reached last status
    → ((disk : ℕ) (d : Deed) → ¬ (last ≡ down disk d)) → IsWell status
ended_well (whole follows reported stays) up = inl refl
ended_well (fell disk follows ended (d, is)) up = absurd (up disk.0 d is)
ended_well (early fault cut none) up = cut_well fault
ended_well (late fault follows cut) up = cut_well fault

module _ {D : Type 0} (state : D → DiskState) where
  unopened_well : (c : Call D) (out : Flow) → IsSmooth state c out → (fault : OpenFault) → IsFaultCounted state c.disks c.disks_after fault → IsDamageOf (IsDamage (disks_of state c.disks)) fault → IsWell (open_status fault)
  unopened_well c out smooth (Unopened disk kind) counted (inl (f, is, e)) = absurd (smooth.undamaged f is)
  unopened_well c out smooth (Unopened disk kind) counted (inr failed) = absurd (let rose = counted failed in smooth.counts disk.0 rose.0 rose.1 rose.2 rose.3 rose.4)
  unopened_well c out smooth NoRoom counted damage = inr (inr refl)

  run_well : (c : Call D) (out : Flow) (commands : List Command) (status : Status) → IsSmooth state c out → RunsOrNot state commands c.disks c.disks_after c.history c.sides status
      → IsWell status × AllFaultless c.history
  run_well c out commands status smooth (inl runs) =
      let unfailed = runs.unfailed smooth.entries in
      (ended_well runs.through.ended unfailed.1, unfailed.0)
  run_well c out commands status smooth (inr none) = (
    subst IsWell (sym none.status_is) (unopened_well c out smooth none.fault none.counted (none.faults smooth.told)),
    subst AllFaultless (sym none.none) tt,
  )

  -- ---- the call

  one_mode : (c : Call D) → Asks c.options modes.Run → ¬ Asks c.options modes.Report
  one_mode c run report =
      let same = same_Some run.it report.it (sym run.is ∙ report.is) in
      let mode = sym run.mode_is ∙ (ap (λ (o : _). o.mode) same ∙ report.mode_is) in
      cc

  nothing : (c : Call D) → DoesNothing c → AllFaultless c.history
  nothing c does = subst AllFaultless (sym does.history) tt

  ran_well : (c : Call D) (out : Flow) {status : Status} → Ran state c status → IsSmooth state c out → IsWell status × AllFaultless c.history
  ran_well c out (calls.usage unasked reads does) smooth = elim smooth.given [
    | inl script ↦ absurd (unasked modes.Run script.asks)
    | inr report ↦ absurd (unasked modes.Report report)
  ]
  ran_well c out (calls.starved reads does) smooth = (inr (inr refl), nothing c does)
  ran_well c out (calls.unread status asks gave does) smooth = elim smooth.given [
    | inl script ↦ (none_given gave smooth.source script.text script.left script.short script.commands script.says, nothing c does)
    | inr report ↦ absurd (one_mode c asks report)
  ]
  ran_well c out (calls.scripted status asks commands gave runs) smooth = run_well c out commands status smooth runs
  ran_well c out (calls.reported status asks reads runs) smooth = run_well c out [] status smooth runs

  pub smooth_end : SmoothCallsEndWell state
  smooth_end c out status ends smooth =
      let well = ran_well c out ends.ran smooth in
      elim ends.printed [
        | inl all ↦ (printed_well all.ends well.0, well.1)
        | inr part ↦ absurd (smooth.sink part.0)
      ]
    where
      printed_well : (status ≡ ends.before) ⊎ (status ≡ statuses.NoMemory) → IsWell ends.before → IsWell status
      printed_well (inl is) well = subst IsWell (sym is) well
      printed_well (inr is) well = inr (inr is)
