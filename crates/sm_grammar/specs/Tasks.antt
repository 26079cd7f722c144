-- What each command asks for, from the values of its options.
use Rattle.std.specs.Prelude.{ℕ, Bool, false, List, Option, Some, None, Result, Ok, Err}
use Rattle.sm_base.specs.declared.numbers.Kind.{Kind}
use Rattle.sm_base.specs.declared.numbers.PolicyKind.{PolicyKind}
use Rattle.sm_model.specs.declared.event.Event.TheVariants as events
use Rattle.sm_grammar.specs.declared.fault.LineKind.{LineKind}
use Rattle.sm_grammar.specs.declared.fault.LineKind.TheVariants.{MissingOption}
use Rattle.sm_grammar.specs.declared.command.Task.{Task}
use Rattle.sm_grammar.specs.declared.command.Task.TheVariants.{Once, Writes}
use Rattle.sm_grammar.specs.declared.table.Form.{Form}
use Rattle.sm_grammar.specs.declared.table.Form.TheVariants as forms
use Rattle.sm_grammar.specs.declared.table.OptionName.{OptionName}
use Rattle.sm_grammar.specs.declared.table.OptionName.TheVariants.{Path, Disk, VolumeType, Blocks, Physical, Block, WriteCount, Fill, NewSnapshot, Snapshot, Label, Policy, PolicyType, RuleLabel, Keep, Preserve, SourcePath, DestinationPath, Time}
use Rattle.sm_grammar.specs.declared.value.Value.{Value}
use Rattle.sm_grammar.specs.declared.value.Value.TheVariants as values
use Rattle.sm_grammar.specs.Fault.{◌>>=◌}

abbrev pub path : Option Value → Result (List ℕ) LineKind
path (Some (values.Path text)) = Ok text
path _ = Err MissingOption

abbrev pub snapshot : Option Value → Result (List ℕ) LineKind
snapshot (Some (values.Snapshot text)) = Ok text
snapshot _ = Err MissingOption

abbrev pub number : Option Value → Result ℕ LineKind
number (Some (values.Number n)) = Ok n
number _ = Err MissingOption

abbrev pub time : Option Value → Result ℕ LineKind
time (Some (values.Time t)) = Ok t
time _ = Err MissingOption

abbrev pub volume_type : Option Value → Result Kind LineKind
volume_type (Some (values.VolumeType kind)) = Ok kind
volume_type _ = Err MissingOption

abbrev pub part : Option Value → Result (List ℕ) LineKind
part (Some (values.Part text)) = Ok text
part _ = Err MissingOption

abbrev pub label : Option Value → Result (List ℕ) LineKind
label (Some (values.Label text)) = Ok text
label _ = Err MissingOption

abbrev pub policy_type : Option Value → Result PolicyKind LineKind
policy_type (Some (values.PolicyType kind)) = Ok kind
policy_type _ = Err MissingOption

abbrev pub snapshot_if_any : Option Value → Result (Option (List ℕ)) LineKind
snapshot_if_any (Some (values.Snapshot text)) = Ok (Some text)
snapshot_if_any _ = Ok None

abbrev pub label_if_any : Option Value → Result (Option (List ℕ)) LineKind
label_if_any (Some (values.Label text)) = Ok (Some text)
label_if_any _ = Ok None

abbrev pub number_or : ℕ → Option Value → ℕ
number_or other (Some (values.Number n)) = n
number_or other _ = other

abbrev pub truth_or : Bool → Option Value → Bool
truth_or other (Some (values.Truth truth)) = truth
truth_or other _ = other

-- `given` is the value of each option that stands
unfoldable pub task_of : Form → (OptionName → Option Value) → Result Task LineKind
task_of forms.VolumeCreate given = do
  p ← path (given Path)
  disk ← number (given Disk)
  kind ← volume_type (given VolumeType)
  blocks ← number (given Blocks)
  physical ← number (given Physical)
  Ok (Once (events.CreateVolume p (record { 0 = disk }) kind blocks physical))
task_of forms.VolumeShow given = Ok (Once events.ShowVolumes)
task_of forms.ClientWrite given = do
  p ← path (given Path)
  block ← number (given Block)
  fill ← number (given Fill)
  Ok (Writes p block (number_or 1 (given WriteCount)) fill)
task_of forms.SnapshotCreate given = do
  p ← path (given Path)
  name ← snapshot (given NewSnapshot)
  label ← label_if_any (given Label)
  Ok (Once (events.Snap p name label))
task_of forms.SnapshotDelete given = do
  p ← path (given Path)
  name ← snapshot (given Snapshot)
  Ok (Once (events.Unsnap p name))
task_of forms.PolicyCreate given = do
  name ← part (given Policy)
  kind ← policy_type (given PolicyType)
  Ok (Once (events.CreatePolicy name kind))
task_of forms.PolicyAddRule given = do
  name ← part (given Policy)
  rule ← label (given RuleLabel)
  keep ← number (given Keep)
  Ok (Once (events.AddRule name rule keep (truth_or false (given Preserve))))
task_of forms.PolicyShow given = Ok (Once events.ShowPolicies)
task_of forms.MirrorCreate given = do
  source ← path (given SourcePath)
  destination ← path (given DestinationPath)
  policy ← part (given Policy)
  Ok (Once (events.Relate source destination policy))
task_of forms.MirrorShow given = Ok (Once events.ShowRelations)
task_of forms.LabClock given = do
  t ← time (given Time)
  Ok (Once (events.Clock t))
task_of forms.LabCp given = do
  p ← path (given Path)
  Ok (Once (events.Cp p))
task_of forms.SnapshotShow given = do
  p ← path (given Path)
  Ok (Once (events.ShowSnaps p))
task_of forms.LabRead given = do
  p ← path (given Path)
  name ← snapshot_if_any (given Snapshot)
  block ← number (given Block)
  Ok (Once (events.Read p name block))
