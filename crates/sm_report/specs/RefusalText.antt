-- What is printed of refusals.
use Rattle.std.specs.Prelude.{ℕ, List, [], codes, decimal}
use Rattle.sm_base.specs.Number.{ident_text}
use Rattle.sm_base.specs.declared.refusal.What.{What}
use Rattle.sm_base.specs.declared.refusal.What.TheVariants.{Volumes, Policies, Relations, Transfers}
use Rattle.sm_base.specs.declared.refusal.Refusal.{Refusal}
use Rattle.sm_base.specs.declared.refusal.Refusal.TheVariants as refusals
use Rattle.sm_report.specs.Texts.{◌then◌}

abbrev pub refusal_word : Refusal → List ℕ
refusal_word (refusals.NoVolume path) = codes "NoVolume"
refusal_word (refusals.NoRelation path) = codes "NoRelation"
refusal_word (refusals.NoPolicy name) = codes "NoPolicy"
refusal_word (refusals.NoSnapshot name) = codes "NoSnapshot"
refusal_word (refusals.NoDisk disk) = codes "NoDisk"
refusal_word (refusals.AlreadyDestination relation) = codes "AlreadyDestination"
refusal_word (refusals.Held relation) = codes "Held"
refusal_word (refusals.HeldDownstream ident relation) = codes "HeldDownstream"
refusal_word (refusals.KeepReached label) = codes "KeepReached"
refusal_word (refusals.Full what) = codes "Full"
refusal_word (refusals.DiskSmall need len) = codes "DiskSmall"
refusal_word (refusals.ClockBack now) = codes "ClockBack"
refusal_word (refusals.Down disk) = codes "Down"
refusal_word (refusals.DiskFault disk faults) = codes "DiskFault"
refusal_word refusals.NameTaken = codes "NameTaken"
refusal_word refusals.ReadOnly = codes "ReadOnly"
refusal_word refusals.BadBlock = codes "BadBlock"
refusal_word refusals.NoSpace = codes "NoSpace"
refusal_word refusals.SnapFull = codes "SnapFull"
refusal_word refusals.DiskTaken = codes "DiskTaken"
refusal_word refusals.SizeMismatch = codes "SizeMismatch"
refusal_word refusals.Cycle = codes "Cycle"
refusal_word refusals.Uninitialized = codes "Uninitialized"
refusal_word refusals.Initialized = codes "Initialized"
refusal_word refusals.Writable = codes "Writable"
refusal_word refusals.NotBroken = codes "NotBroken"
refusal_word refusals.Quiesced = codes "Quiesced"
refusal_word refusals.Transferring = codes "Transferring"
refusal_word refusals.NoTransfer = codes "NoTransfer"
refusal_word refusals.Active = codes "Active"
refusal_word refusals.OtherLayout = codes "OtherLayout"
refusal_word refusals.NoCommon = codes "NoCommon"
refusal_word refusals.WrongRule = codes "WrongRule"
refusal_word refusals.BadKeep = codes "BadKeep"
refusal_word refusals.RuleTaken = codes "RuleTaken"
refusal_word refusals.RulesFull = codes "RulesFull"

abbrev pub what_text : What → List ℕ
what_text Volumes = codes "volumes"
what_text Policies = codes "policies"
what_text Relations = codes "relationships"
what_text Transfers = codes "transfers"

abbrev pub refusal_fields : Refusal → List ℕ
refusal_fields (refusals.NoVolume path) = codes " path=" then path
refusal_fields (refusals.NoRelation path) = codes " path=" then path
refusal_fields (refusals.NoPolicy name) = codes " name=" then name
refusal_fields (refusals.NoSnapshot name) = codes " name=" then name
refusal_fields (refusals.NoDisk disk) = codes " disk=" then decimal disk.0
refusal_fields (refusals.AlreadyDestination relation) = codes " relationship=" then decimal relation.0
refusal_fields (refusals.Held relation) = codes " relationship=" then decimal relation.0
refusal_fields (refusals.HeldDownstream ident relation) = codes " id=" then ident_text ident then codes " relationship=" then decimal relation.0
refusal_fields (refusals.KeepReached label) = codes " label=" then label
refusal_fields (refusals.Full what) = codes " what=" then what_text what
refusal_fields (refusals.DiskSmall need len) = codes " need=" then decimal need then codes " len=" then decimal len
refusal_fields (refusals.ClockBack now) = codes " now=" then decimal now
refusal_fields (refusals.Down disk) = codes " disk=" then decimal disk.0
refusal_fields (refusals.DiskFault disk faults) = codes " disk=" then decimal disk.0 then codes " faults=" then decimal faults
refusal_fields _ = []

abbrev pub refusal_text : Refusal → List ℕ
refusal_text refusal = codes "refused " then refusal_word refusal then refusal_fields refusal
