-- The commands, their words and their options.
use Rattle.std.specs.Prelude.{ℕ, List, [], ◌∷◌, codes}
use Rattle.sm_base.specs.declared.limits.TheConstants.{MOST_LOGICAL, MOST_PHYSICAL}
use Rattle.sm_grammar.specs.declared.limits.TheConstants.{MOST_WRITES}
use Rattle.sm_grammar.specs.declared.table.Form.{Form}
use Rattle.sm_grammar.specs.declared.table.Form.TheVariants as forms
use Rattle.sm_grammar.specs.declared.table.OptionName.{OptionName}
use Rattle.sm_grammar.specs.declared.table.OptionName.TheVariants.{Path, Disk, VolumeType, Blocks, Physical, Block, WriteCount, Fill, NewSnapshot, Snapshot, Label, Policy, PolicyType, RuleLabel, Keep, Preserve, SourcePath, DestinationPath, Time}
use Rattle.sm_grammar.specs.declared.table.Shape.{Shape}
use Rattle.sm_grammar.specs.declared.table.Shape.TheVariants as shapes

unfoldable pub form_text : Form → List ℕ
form_text forms.VolumeCreate = codes "volume create"
form_text forms.VolumeShow = codes "volume show"
form_text forms.ClientWrite = codes "client write"
form_text forms.SnapshotCreate = codes "snapshot create"
form_text forms.SnapshotDelete = codes "snapshot delete"
form_text forms.SnapshotShow = codes "snapshot show"
form_text forms.PolicyCreate = codes "snapmirror policy create"
form_text forms.PolicyAddRule = codes "snapmirror policy add-rule"
form_text forms.PolicyShow = codes "snapmirror policy show"
form_text forms.MirrorCreate = codes "snapmirror create"
form_text forms.MirrorShow = codes "snapmirror show"
form_text forms.LabClock = codes "lab clock"
form_text forms.LabCp = codes "lab cp"
form_text forms.LabRead = codes "lab read"

unfoldable pub all_forms : List Form
all_forms =
    forms.VolumeCreate ∷ forms.VolumeShow ∷ forms.ClientWrite ∷ forms.SnapshotCreate ∷ forms.SnapshotDelete ∷ forms.SnapshotShow ∷
    forms.PolicyCreate ∷ forms.PolicyAddRule ∷ forms.PolicyShow ∷ forms.MirrorCreate ∷ forms.MirrorShow ∷
    forms.LabClock ∷ forms.LabCp ∷ forms.LabRead ∷ []

unfoldable pub options_of : Form → List OptionName
options_of forms.VolumeCreate = Path ∷ Disk ∷ VolumeType ∷ Blocks ∷ Physical ∷ []
options_of forms.VolumeShow = []
options_of forms.ClientWrite = Path ∷ Block ∷ WriteCount ∷ Fill ∷ []
options_of forms.SnapshotCreate = Path ∷ NewSnapshot ∷ Label ∷ []
options_of forms.SnapshotDelete = Path ∷ Snapshot ∷ []
options_of forms.SnapshotShow = Path ∷ []
options_of forms.PolicyCreate = Policy ∷ PolicyType ∷ []
options_of forms.PolicyAddRule = Policy ∷ RuleLabel ∷ Keep ∷ Preserve ∷ []
options_of forms.PolicyShow = []
options_of forms.MirrorCreate = SourcePath ∷ DestinationPath ∷ Policy ∷ []
options_of forms.MirrorShow = []
options_of forms.LabClock = Time ∷ []
options_of forms.LabCp = Path ∷ []
options_of forms.LabRead = Path ∷ Snapshot ∷ Block ∷ []

unfoldable pub option_text : OptionName → List ℕ
option_text Path = codes "-path"
option_text Disk = codes "-disk"
option_text VolumeType = codes "-type"
option_text Blocks = codes "-blocks"
option_text Physical = codes "-physical"
option_text Block = codes "-block"
option_text WriteCount = codes "-count"
option_text Fill = codes "-fill"
option_text NewSnapshot = codes "-snapshot"
option_text Snapshot = codes "-snapshot"
option_text Label = codes "-label"
option_text Policy = codes "-policy"
option_text PolicyType = codes "-type"
option_text RuleLabel = codes "-snapmirror-label"
option_text Keep = codes "-keep"
option_text Preserve = codes "-preserve"
option_text SourcePath = codes "-source-path"
option_text DestinationPath = codes "-destination-path"
option_text Time = codes "-time"

-- a number within its range, both ends included, or of 32 bits
abbrev pub number_from : ℕ → ℕ → Shape
number_from low high = shapes.Number low high

abbrev pub a_number : Shape
a_number = shapes.Number 0 4294967295

-- what stands behind an option
unfoldable pub shape_of : OptionName → Shape
shape_of Path = shapes.Path
shape_of Disk = a_number
shape_of VolumeType = shapes.VolumeType
shape_of Blocks = number_from 1 MOST_LOGICAL
shape_of Physical = number_from 1 MOST_PHYSICAL
shape_of Block = a_number
shape_of WriteCount = number_from 1 MOST_WRITES
shape_of Fill = number_from 0 255
shape_of NewSnapshot = shapes.NewSnapshot
shape_of Snapshot = shapes.Snapshot
shape_of Label = shapes.Label
shape_of Policy = shapes.Part
shape_of PolicyType = shapes.PolicyType
shape_of RuleLabel = shapes.Label
shape_of Keep = a_number
shape_of Preserve = shapes.Truth
shape_of SourcePath = shapes.Path
shape_of DestinationPath = shapes.Path
shape_of Time = shapes.Time
