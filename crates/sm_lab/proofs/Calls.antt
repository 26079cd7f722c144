-- How a call goes, from what its parts did.
use Rattle.std.proofs.Common.{◌≡◌, inl, inr, ℕ, Bool, false, ◌<◌, ◌≤◌, List, [], ◌++◌, Some, None, Ok, Err, Option, refl, sym, ap, subst, ◌∙◌, arith}
use Rattle.std.proofs.lemmas.Option.{same_Some}
use Rattle.sm_disk.specs.Disk.{DiskState}
use Rattle.sm_grammar.specs.declared.command.Command.{Command}
use Rattle.sm_grammar.specs.declared.fault.LineKind.{LineKind}
use Rattle.sm_grammar.specs.declared.fault.ScriptFault.{ScriptFault}
use Rattle.sm_grammar.specs.declared.fault.ScriptFault.TheVariants as faults
use Rattle.sm_grammar.specs.Script.{parse, Tells}
use Rattle.sm_model.specs.declared.reply.Entry.{Entry}
use Rattle.sm_stream.specs.Whole.{TookAtMost}
use Rattle.sm_words.specs.declared.options.Mode.{Mode}
use Rattle.sm_words.specs.declared.options.Mode.TheVariants as modes
use Rattle.sm_words.specs.declared.options.Options.{Options}
use Rattle.sm_output.specs.Output.{IsOutput, EndsBy, IsPrinted}
use Rattle.sm_output.specs.declared.status.Status.{Status}
use Rattle.sm_output.specs.declared.status.Status.TheVariants as statuses
use Rattle.sm_lab.specs.Reading.{Gave, GaveNone}
use Rattle.sm_lab.specs.Running.{RunsOrNot}
use Rattle.sm_lab.specs.Call.{Flow, Failed, Call, Asks, lists, ReadsNothing, DoesNothing, Ran, usage, starved, unread, scripted, reported, Ends}

-- nothing was taken of the source
pub took_none : (n : ℕ) (left : Option (List ℕ)) → TookAtMost n left left
took_none n None = ([], omega arith, refl)
took_none n (Some text) = ([], omega arith, refl)

module _ {D : Type 0} (state : D → DiskState) (c : Call D) where
  -- workers are asked for
  pub asks_workers : (o : Options) (status : Status) → c.options ≡ Some o → 0 < o.workers → ReadsNothing c → DoesNothing c → status ≡ statuses.Usage → Ran state c status
  asks_workers o status is some reads does ends = rw ends (usage (λ mode asks. not_alone mode asks) reads does)
    where
      not_alone : (mode : Mode) → Asks c.options mode → ⊥
      not_alone mode asks =
          let same : o ≡ asks.it = same_Some o asks.it (sym is ∙ asks.is) in
          let none : o.workers ≡ 0 = ap (λ (x : Options). x.workers) same ∙ asks.alone in
          omega (arith, some, none)

  -- the words are no line
  pub no_line : (status : Status) → c.options ≡ None → ReadsNothing c → DoesNothing c → status ≡ statuses.Usage → Ran state c status
  no_line status is reads does ends = rw ends (usage (λ mode asks. (let g = sym is ∙ asks.is in cc)) reads does)

  -- there is no memory for the words
  pub no_words : (status : Status) → ReadsNothing c → DoesNothing c → status ≡ statuses.NoMemory → Ran state c status
  no_words status reads does ends = rw ends (starved reads does)

  asks : (o : Options) (mode : Mode) → c.options ≡ Some o → o.workers ≤ 0 → o.mode ≡ mode → Asks c.options mode
  asks o mode is none mode_is = record { it = o; is = is; mode_is = mode_is; alone = omega (arith, none) }

  -- no script was given
  pub no_script : (o : Options) (status why : Status) → status ≡ why → c.options ≡ Some o → o.workers ≤ 0 → o.mode ≡ modes.Run → GaveNone c.script.before c.script.after (Failed c.script) why → DoesNothing c
      → Ran state c status
  no_script o status why same is none mode gave does =
      unread status (asks o modes.Run is none mode) (subst (λ (s : Status). GaveNone c.script.before c.script.after (Failed c.script) s) (sym same) gave) does

  -- one was, and was run
  pub script_run : (o : Options) (status : Status) → c.options ≡ Some o → o.workers ≤ 0 → o.mode ≡ modes.Run → (commands : List Command) → Gave c.script.before c.script.after (Ok commands)
      → RunsOrNot state commands c.disks c.disks_after c.history c.sides status → Ran state c status
  script_run o status is none mode commands gave runs = scripted status (asks o modes.Run is none mode) commands gave runs

  -- the report alone
  pub report_run : (o : Options) (status : Status) → c.options ≡ Some o → o.workers ≤ 0 → o.mode ≡ modes.Report → ReadsNothing c
      → RunsOrNot state [] c.disks c.disks_after c.history c.sides status → Ran state c status
  report_run o status is none mode reads runs = reported status (asks o modes.Report is none mode) reads runs

-- ---- what a call writes that did nothing

same_end : (status : Status) → EndsBy statuses.NoMemory status → status ≡ statuses.NoMemory
same_end status (inl is) = is
same_end status (inr is) = is

-- where memory ran out, it is no matter whether the lines of the entries were asked for
same_output : (listed : Bool) (status : Status) (history : List Entry) (text : List ℕ) → EndsBy statuses.NoMemory status → IsOutput false status history text → IsOutput listed status history text
same_output listed status history text ends output =
    let is = same_end status ends in
    subst (λ (s : Status). IsOutput listed s history text) (sym is) (subst (λ (s : Status). IsOutput false s history text) is output)

any_listed : (listed : Bool) (history : List Entry) (old new : Option (List ℕ)) (failed : Type 0) (status : Status) → IsPrinted false statuses.NoMemory history old new failed status
    → IsPrinted listed statuses.NoMemory history old new failed status
any_listed listed history old new failed status (inl all) = inl (record { ends = all.ends; text = all.text; output = same_output listed status history all.text all.ends all.output; came = all.came })
any_listed listed history old new failed status (inr (rose, part)) = inr (
  rose,
  record {
    is = part.is;
    would = part.would;
    ends = part.ends;
    front = part.front;
    rest = part.rest;
    left = part.left;
    output = same_output listed part.would history (part.front ++ part.rest) part.ends part.output;
    came = part.came;
  },
)

module _ {D : Type 0} (state : D → DiskState) (c : Call D) (out : Flow) (status : Status) where
  -- the words are no line
  pub no_line_ends : c.options ≡ None → ReadsNothing c → DoesNothing c → IsPrinted false statuses.Usage [] out.before out.after (Failed out) status → Ends state c out status
  no_line_ends none reads does printed = record {
    before = statuses.Usage;
    ran = no_line state c statuses.Usage none reads does refl;
    printed = subst (λ (b : Bool). IsPrinted b statuses.Usage c.history out.before out.after (Failed out) status) (sym (ap lists none))
        (subst (λ (h : List Entry). IsPrinted false statuses.Usage h out.before out.after (Failed out) status) (sym does.history) printed);
  }

  -- there is no memory for them
  pub no_words_ends : ReadsNothing c → DoesNothing c → IsPrinted false statuses.NoMemory [] out.before out.after (Failed out) status → Ends state c out status
  no_words_ends reads does printed = record {
    before = statuses.NoMemory;
    ran = no_words state c statuses.NoMemory reads does refl;
    printed = subst (λ (h : List Entry). IsPrinted (lists c.options) statuses.NoMemory h out.before out.after (Failed out) status) (sym does.history)
        (any_listed (lists c.options) [] out.before out.after (Failed out) status printed);
  }

-- what a fault of the grammar tells of a text
pub told_bad : (f : ScriptFault) (line : ℕ) (kind : LineKind) (text bytes : List ℕ) → f ≡ faults.BadLine line kind → text ≡ bytes → Tells f (parse text) → parse bytes ≡ Err (record { line = line; kind = kind })
told_bad f line kind text bytes is same tells =
    let told = subst (λ (g : ScriptFault). Tells g (parse text)) is tells in
    subst (λ (t : List ℕ). parse t ≡ Err (record { line = line; kind = kind })) same told
