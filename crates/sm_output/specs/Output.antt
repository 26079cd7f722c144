-- What a call writes, and what came of it to the sink.
use Rattle.std.specs.Prelude.{◌≡◌, ◌⊎◌, ℕ, ◌<◌, Bool, if◌then◌else◌, List, [], ◌∷◌, ◌++◌, take, length, codes, decimal, Option}
use Rattle.std.specs.Io.KnownBytes.{append_known}
use Rattle.sm_base.specs.declared.numbers.DiskNo.{DiskNo}
use Rattle.sm_grammar.specs.declared.fault.LineKind.{LineKind}
use Rattle.sm_model.specs.declared.reply.Entry.{Entry}
use Rattle.sm_model.specs.declared.world.OpenKind.{OpenKind}
use Rattle.sm_report.specs.Texts.{◌then◌}
use Rattle.sm_report.specs.Transcript.{transcript}
use Rattle.sm_output.specs.Words.{line_word, open_word}
use Rattle.sm_output.specs.Listing.{listing}
use Rattle.sm_output.specs.declared.status.Status as the_status
use Rattle.sm_output.specs.declared.status.Status.TheVariants as statuses

-- ---- the output

-- the transcript, and behind it, where they are asked for, the lines of the entries
abbrev pub told : Bool → List Entry → List ℕ
told listed history = transcript history ++ (if listed then listing history else [])

-- the texts of some first entries, each whole
abbrev pub IsFront : List Entry → List ℕ → Type 0
IsFront history text = (k : ℕ) × (text ≡ transcript (take k history))

abbrev pub bad_text : ℕ → LineKind → List ℕ
bad_text line kind = codes "bad line " then decimal line then codes " " then line_word kind then (10 ∷ [])

abbrev pub unopened_text : DiskNo → OpenKind → List ℕ
unopened_text disk kind = codes "unopened disk=" then decimal disk.0 then codes " kind=" then open_word kind then (10 ∷ [])

-- What is written before the last line. Where the node is down at the end, the last line is that of the report.
abbrev pub body : Bool → the_status.Status → List Entry → List ℕ
body listed statuses.Fine history = told listed history
body listed (statuses.DownAtEnd disk) history = told listed history
body listed statuses.HistoryFull history = transcript history
body listed statuses.NoMemory history = transcript history
body listed _ history = []

abbrev pub last_line : the_status.Status → List ℕ
last_line statuses.Fine = []
last_line statuses.Usage = codes "usage: lab run|check|report|generate [--workers N] [--number N] [--history]" ++ (10 ∷ [])
last_line (statuses.BadLine line kind) = bad_text line kind
last_line statuses.ScriptTooLong = codes "script too long" ++ (10 ∷ [])
last_line statuses.ReadFault = codes "read fault" ++ (10 ∷ [])
last_line statuses.WriteFault = []
last_line (statuses.Unopened disk kind) = unopened_text disk kind
last_line statuses.NoMemory = codes "no memory" ++ (10 ∷ [])
last_line statuses.HistoryFull = codes "history full" ++ (10 ∷ [])
last_line (statuses.DownAtEnd disk) = []

-- the last line where no number stands in it: it takes no memory
abbrev pub closing : the_status.Status → List ℕ
closing (statuses.BadLine line kind) = []
closing (statuses.Unopened disk kind) = []
closing status = last_line status

-- What a call that ends so writes, where it can. Where memory ran out, that may have been in the writing itself.
abbrev pub IsOutput : Bool → the_status.Status → List Entry → List ℕ → Type 0
IsOutput listed statuses.NoMemory history text = (front : List ℕ) × IsFront history front × (text ≡ front ++ last_line statuses.NoMemory)
IsOutput listed status history text = text ≡ body listed status history ++ last_line status

-- ---- the sink

-- a call that would end by the first status ends by the second where the sink does not fail: as it would, or memory ran out
abbrev pub EndsBy : the_status.Status → the_status.Status → Type 0
EndsBy before after = (after ≡ before) ⊎ (after ≡ statuses.NoMemory)

-- all of the output came
pub record PrintsAll (listed : Bool) (before : the_status.Status) (history : List Entry) (old new : Option (List ℕ)) (after : the_status.Status) : Type 0 where
  pub ends : EndsBy before after
  pub text : List ℕ
  pub output : IsOutput listed after history text
  pub came : new ≡ append_known old text

-- The sink failed: a front of the output came that the call would have had, and not all of it.
pub record PrintsPart (listed : Bool) (before : the_status.Status) (history : List Entry) (old new : Option (List ℕ)) (after : the_status.Status) : Type 0 where
  pub is : after ≡ statuses.WriteFault
  pub would : the_status.Status
  pub ends : EndsBy before would
  pub front : List ℕ
  pub rest : List ℕ
  pub left : 0 < length rest
  pub output : IsOutput listed would history (front ++ rest)
  pub came : new ≡ append_known old front

-- of a sink that held the first bytes and holds the second, and of which `failed` says that its count rose
abbrev pub IsPrinted : Bool → the_status.Status → List Entry → Option (List ℕ) → Option (List ℕ) → Type 0 → the_status.Status → Type 0
IsPrinted listed before history old new failed after = PrintsAll listed before history old new after ⊎ (failed × PrintsPart listed before history old new after)
