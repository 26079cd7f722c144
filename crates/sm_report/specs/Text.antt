-- What is printed of lines, tables and replies.
use Rattle.std.specs.Prelude.{ℕ, Bool, true, false, List, [], ◌∷◌, length, codes, decimal, ◌==◌, if◌then◌else◌, flat_map, Option, Some, None}
use Rattle.std.specs.List.{list_all}
use Rattle.hex.specs.Hex.{encode_lower}
use Rattle.sha2.specs.Sha256.{sha256}
use Rattle.sm_base.specs.Number.{ident_text, kind_text}
use Rattle.sm_base.specs.declared.numbers.VolNo.{VolNo}
use Rattle.sm_base.specs.declared.numbers.RelNo.{RelNo}
use Rattle.sm_base.specs.declared.numbers.Ident.{Ident}
use Rattle.sm_base.specs.declared.numbers.PolicyKind.{PolicyKind}
use Rattle.sm_base.specs.declared.numbers.PolicyKind.TheVariants.{AsyncMirror, Vault}
use Rattle.sm_base.specs.declared.refusal.Reason.{Reason}
use Rattle.sm_base.specs.declared.refusal.Reason.TheVariants as reasons
use Rattle.sm_defs.specs.declared.states.MirrorState.{MirrorState}
use Rattle.sm_defs.specs.declared.states.MirrorState.TheVariants.{Uninitialized, Snapmirrored, BrokenOff}
use Rattle.sm_defs.specs.declared.states.Status4.{Status4}
use Rattle.sm_defs.specs.declared.states.Status4.TheVariants.{Idle, Transferring, Quiescing, Quiesced}
use Rattle.sm_defs.specs.Relationship.{Rule}
use Rattle.sm_model.specs.declared.reply.Condition.{Condition}
use Rattle.sm_model.specs.declared.reply.Course.{Course}
use Rattle.sm_model.specs.declared.reply.Line as the_line
use Rattle.sm_model.specs.declared.reply.Line.TheVariants as lines
use Rattle.sm_model.specs.declared.reply.Reply as the_reply
use Rattle.sm_model.specs.declared.reply.Reply.TheVariants as replies
use Rattle.sm_report.specs.Texts.{◌then◌}
use Rattle.sm_report.specs.RefusalText.{refusal_text}

abbrev pub label_text : Option (List ℕ) → List ℕ
label_text None = codes "-"
label_text (Some label) = label

abbrev pub maker_text : ℕ → List ℕ
maker_text made = if made == 0 then codes "client" else decimal made

-- a snapshot's line up to its label
abbrev pub snapshot_words : VolNo → List ℕ → Ident → Option (List ℕ) → List ℕ
snapshot_words volume name ident label =
    codes "snapshot " then decimal volume.0 then codes " " then name then codes " id=" then ident_text ident then codes " label=" then label_text label

-- what a snapshot's line says but for its digest
abbrev pub listed_text : VolNo → List ℕ → Ident → Option (List ℕ) → ℕ → ℕ → List ℕ
listed_text volume name ident label time made =
    snapshot_words volume name ident label then codes " time=" then decimal time then codes " made=" then maker_text made

abbrev pub policy_kind_text : PolicyKind → List ℕ
policy_kind_text AsyncMirror = codes "async-mirror"
policy_kind_text Vault = codes "vault"

abbrev pub flag_text : Bool → List ℕ
flag_text true = codes "true"
flag_text false = codes "false"

abbrev pub rule_text : Rule → List ℕ
rule_text r = r.label then codes ":" then decimal r.keep then codes ":" then flag_text r.preserve

-- further rules, each behind a comma
abbrev pub more_rules_text : List Rule → List ℕ
more_rules_text rules = flat_map (λ r. codes "," then rule_text r) rules

abbrev pub rules_text : List Rule → List ℕ
rules_text [] = codes "-"
rules_text (r ∷ rs) = rule_text r then more_rules_text rs

abbrev pub state_word : MirrorState → List ℕ
state_word Uninitialized = codes "uninitialized"
state_word Snapmirrored = codes "snapmirrored"
state_word BrokenOff = codes "broken-off"

abbrev pub status_word : Status4 → List ℕ
status_word Idle = codes "idle"
status_word Transferring = codes "transferring"
status_word Quiescing = codes "quiescing"
status_word Quiesced = codes "quiesced"

-- without a destination half there is neither
abbrev pub condition_text : Option Condition → List ℕ
condition_text None = codes " state=- status=-"
condition_text (Some c) = codes " state=" then state_word c.state then codes " status=" then status_word c.status

abbrev pub base_text : Option Ident → List ℕ
base_text None = codes "-"
base_text (Some i) = ident_text i

abbrev pub reason_word : Reason → List ℕ
reason_word (reasons.HeldDownstream ident relation) = codes "HeldDownstream"
reason_word reasons.SourceReadOnly = codes "SourceReadOnly"
reason_word reasons.SnapFull = codes "SnapFull"
reason_word reasons.OtherLayout = codes "OtherLayout"
reason_word (reasons.NoSpace need free) = codes "NoSpace"
reason_word reasons.Aborted = codes "Aborted"
reason_word reasons.Restart = codes "Restart"

abbrev pub stopped_text : Option Reason → List ℕ
stopped_text None = codes "running"
stopped_text (Some reason) = reason_word reason

abbrev pub course_text : Option Course → List ℕ
course_text None = codes "-"
course_text (Some c) = decimal c.number then codes ":" then stopped_text c.stopped

-- a relationship's line up to its policy
abbrev pub relation_words : RelNo → List ℕ → List ℕ → List ℕ → List ℕ
relation_words relation source destination policy =
    codes "relationship " then decimal relation.0 then codes " " then source then codes " " then destination then codes " policy=" then policy

abbrev pub policy_text : List ℕ → PolicyKind → List Rule → List ℕ
policy_text name kind rules = codes "policy " then name then codes " type=" then policy_kind_text kind then codes " rules=" then rules_text rules

abbrev pub line_text : the_line.Line → List ℕ
line_text (lines.Head volumes relationships policies clock) =
    codes "report volumes=" then decimal volumes then codes " relationships=" then decimal relationships then codes " policies=" then decimal policies
    then codes " clock=" then decimal clock
line_text (lines.Volume volume path kind blocks physical used snapshots) =
    codes "volume " then decimal volume.0 then codes " " then path then codes " type=" then kind_text kind then codes " blocks=" then decimal blocks
    then codes " physical=" then decimal physical then codes " used=" then decimal used then codes " snapshots=" then decimal snapshots
line_text (lines.Active volume digest) = codes "active " then decimal volume.0 then codes " sha256=" then encode_lower digest
line_text (lines.Snapshot volume name ident label time made digest) =
    snapshot_words volume name ident label then codes " time=" then decimal time then codes " made=" then maker_text made
    then codes " sha256=" then encode_lower digest
line_text (lines.Listed volume name ident label time made) = listed_text volume name ident label time made
line_text (lines.Relationship relation source destination policy condition base transfer) =
    relation_words relation source destination policy then condition_text condition then codes " base=" then base_text base
    then codes " transfer=" then course_text transfer
line_text (lines.Policy name kind rules) = policy_text name kind rules

-- the byte that all bytes are
abbrev pub same_byte : List ℕ → Option ℕ
same_byte [] = None
same_byte (b ∷ bs) = if list_all (λ c. c == b) bs then Some b else None

abbrev pub fill_text : List ℕ → Option ℕ → List ℕ
fill_text bytes None = codes "ok sha256=" then encode_lower (sha256 bytes)
fill_text bytes (Some fill) = codes "ok fill=" then decimal fill

abbrev pub bytes_text : List ℕ → List ℕ
bytes_text bytes = fill_text bytes (same_byte bytes)

-- a table's lines stand behind its first, each behind two spaces
abbrev pub table_lines : List the_line.Line → List ℕ
table_lines ls = flat_map (λ l. (10 ∷ codes "  ") then line_text l) ls

abbrev pub table_text : List the_line.Line → List ℕ
table_text ls = codes "ok lines=" then decimal (length ls) then table_lines ls

-- what a step says that lets snapshots go
abbrev pub dropped_text : RelNo → ℕ → List ℕ
dropped_text relation dropped = codes " relationship=" then decimal relation.0 then codes " dropped=" then decimal dropped

abbrev pub reason_text : Reason → List ℕ
reason_text (reasons.HeldDownstream ident relation) = codes "HeldDownstream id=" then ident_text ident then codes " by=" then decimal relation.0
reason_text (reasons.NoSpace need free) = codes "NoSpace need=" then decimal need then codes " free=" then decimal free
reason_text reason = reason_word reason

abbrev pub ended_text : Bool → List ℕ
ended_text true = codes " ended"
ended_text false = []

abbrev pub settled_text : RelNo → Ident → Bool → List ℕ
settled_text relation base ended = codes "settle relationship=" then decimal relation.0 then codes " base=" then ident_text base then ended_text ended

unfoldable pub reply_text : the_reply.Reply → List ℕ
reply_text replies.Done = codes "ok"
reply_text (replies.Created volume) = codes "ok volume=" then decimal volume.0
reply_text (replies.Snapped ident) = codes "ok id=" then ident_text ident
reply_text (replies.Related relation) = codes "ok relationship=" then decimal relation.0
reply_text (replies.Started transfer legs) = codes "ok transfer=" then decimal transfer then codes " legs=" then decimal legs
reply_text (replies.Resumed transfer checkpoint) = codes "ok transfer=" then decimal transfer then codes " resumed=" then decimal checkpoint
reply_text replies.Nothing = codes "ok nothing to transfer"
reply_text (replies.Kept checkpoint) = codes "ok checkpoint=" then decimal checkpoint
reply_text replies.Ended = codes "ok ended"
reply_text (replies.Resyncing transfer common legs) =
    codes "ok transfer=" then decimal transfer then codes " common=" then ident_text common then codes " legs=" then decimal legs
reply_text (replies.Bytes block) = bytes_text block.value.0
reply_text (replies.Line line) = line_text line
reply_text (replies.Table lines) = table_text lines
reply_text (replies.Reverted relation dropped) = codes "revert" then dropped_text relation dropped
reply_text (replies.Prepared relation ident) = codes "prepare relationship=" then decimal relation.0 then codes " id=" then ident_text ident
reply_text (replies.Pruned relation dropped) = codes "prune" then dropped_text relation dropped
reply_text (replies.Shipped relation index cost) =
    codes "ship relationship=" then decimal relation.0 then codes " index=" then decimal index then codes " cost=" then decimal cost
reply_text (replies.Checked relation prefix) = codes "checkpoint relationship=" then decimal relation.0 then codes " prefix=" then decimal prefix
reply_text (replies.Published relation ident dropped) =
    codes "publish relationship=" then decimal relation.0 then codes " id=" then ident_text ident then codes " dropped=" then decimal dropped
reply_text (replies.Settled relation base ended) = settled_text relation base ended
reply_text (replies.Tidied volume dropped) = codes "tidy volume=" then decimal volume.0 then codes " dropped=" then decimal dropped
reply_text (replies.Interrupted relation reason) = codes "interrupted relationship=" then decimal relation.0 then codes " reason=" then reason_text reason
reply_text replies.Idle = codes "idle"
reply_text (replies.Refused refusal) = refusal_text refusal
