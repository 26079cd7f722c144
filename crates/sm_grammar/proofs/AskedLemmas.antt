-- Each event of a command that a line spells can be asked for.
use Rattle.std.proofs.Common.{◌≡◌, ℕ, ◌+◌, ◌<◌, ◌≤◌, ◌==◌, Bool, true, false, nat_lt, cond, List, [], ◌∷◌, map, All, MatchBool, Option, Some, None, Result, Ok, Err, IfSome, IfOk, refl, subst, arith}
use Rattle.std.proofs.lemmas.List.Elements.{All-nil, All-cons}
use borrow.Author.Tests.{ltb-true}
use Rattle.sm_base.specs.declared.limits.TheConstants.{MOST_LOGICAL, MOST_PHYSICAL}
use Rattle.sm_model.specs.declared.event.Event as the_event
use Rattle.sm_model.specs.declared.event.Event.TheVariants as events
use Rattle.sm_model.specs.declared.reply.Reply.{Reply}
use Rattle.sm_model.specs.InRange.{IsPath, IsGiven, IsThere}
use Rattle.sm_model.specs.LegalRun.{IsAsked}
use Rattle.sm_model.specs.World.{World, up, down}
use Rattle.sm_defs.specs.World.{Up}
use Rattle.sm_grammar.specs.declared.limits.TheConstants.{MOST_WRITES}
use Rattle.sm_grammar.specs.declared.command.Command.{Command}
use Rattle.sm_grammar.specs.declared.command.Task.{Task}
use Rattle.sm_grammar.specs.declared.command.Task.TheVariants.{Once, Writes}
use Rattle.sm_grammar.specs.declared.fault.LineKind.{LineKind}
use Rattle.sm_grammar.specs.declared.fault.ScriptFault.{ScriptFault}
use Rattle.sm_grammar.specs.declared.table.Form.{Form}
use Rattle.sm_grammar.specs.declared.table.Form.TheVariants as forms
use Rattle.sm_grammar.specs.declared.table.OptionName.{OptionName}
use Rattle.sm_grammar.specs.declared.table.OptionName.TheVariants.{Path, Disk, VolumeType, Blocks, Physical, Block, WriteCount, Fill, NewSnapshot, Snapshot, Label, Policy, PolicyType, RuleLabel, Keep, Preserve, SourcePath, DestinationPath, Time}
use Rattle.sm_grammar.specs.declared.value.Value.{Value}
use Rattle.sm_grammar.specs.Fault.{◌>>=◌}
use Rattle.sm_grammar.specs.Table.{options_of, shape_of}
use Rattle.sm_grammar.specs.Options.{value_given}
use Rattle.sm_grammar.specs.Grammar.{is_skipped, is_below, too_few}
use Rattle.sm_grammar.specs.Tasks.{path, snapshot, number, time, volume_type, part, label, policy_type, snapshot_if_any, label_if_any, number_or, truth_or, task_of}
use Rattle.sm_grammar.specs.Events.{write_at, next_of}
use Rattle.sm_grammar.specs.Asked.{IsCommand, IsScripted, AsksScripted}
use Rattle.sm_grammar.specs.Lines.{lines_of}
use Rattle.sm_grammar.specs.Script.{parse}
use Rattle.sm_grammar.specs.Spelling.{pair_of, SpellsTask}
use Rattle.sm_grammar.specs.Spelled.{LinesSpell}
use Rattle.sm_grammar.proofs.GivenLemmas.{AreTaken, values_taken, number_is, path_behind, path_taken, policy_taken, rule_label_taken, policy_type_taken, name_taken, new_name_taken, time_taken, number_taken, number_or_taken, label_taken, some_name_taken, not_below}
use Rattle.sm_grammar.proofs.ScriptLemmas.{script_spelled}

-- ---- an event, a task

-- a command speaks of nothing that has to stand
there : (w : Up) (e : the_event.Event) → IsCommand e → IsThere w e
unfolding IsThere IsCommand
there w (events.VolumeLine volume) h = absurd h
there w (events.Digest volume place) h = absurd h
there w (events.RelationLine relation) h = absurd h
there w e h = tt

asked : (e : the_event.Event) → IsCommand e → IsGiven e → (w : World) → IsAsked w e
asked e command given (up w) = (given, there w e command)
asked e command given (down disk d) = given

where_any : (t : Bool) (e : the_event.Event) → (t ≡ true → IsCommand e × IsGiven e) → IfSome (cond t (Some e) None) IsScripted
where_any true e h = let g = h refl in (g.0, asked e g.0 g.1)
where_any false e h = tt

once_asks : (e : the_event.Event) → IsCommand e → IsGiven e → AsksScripted (Once e)
unfolding next_of
once_asks e command given done last = where_any (done == 0) e (λ t. (command, given))

write_given : (path : List ℕ) (block fill j count : ℕ) → IsPath path → block ≤ 4294967295 → count ≤ MOST_WRITES → j < count → IsCommand (write_at path block fill j) × IsGiven (write_at path block fill j)
unfolding IsCommand IsGiven
write_given path block fill j count good small few less =
    let most : MOST_WRITES ≡ 4096 = refl in
    (tt, record { path_given = good; block_given = omega (arith, small, few, less, most); byte = omega arith })

writes_ask : (path : List ℕ) (block count fill : ℕ) → IsPath path → block ≤ 4294967295 → count ≤ MOST_WRITES → AsksScripted (Writes path block count fill)
unfolding next_of
writes_ask path block count fill good small few done last =
    where_any (nat_lt done count) (write_at path block fill done) (λ t. write_given path block fill done count good small few (ltb-true done count t))

-- ---- the commands of the table

-- what holds whatever value the first step gives
through : {A B : Type 0} (P : B → Type 0) (r : Result A LineKind) (f : A → Result B LineKind) → ((x : A) → r ≡ Ok x → IfOk (f x) P) → IfOk (r >>= f) P
through P (Ok x) f h = h x refl
through P (Err kind) f h = tt

create_asks : (given : OptionName → Option Value) → AreTaken forms.VolumeCreate given → is_below (given Physical) (given Blocks) ≡ false → IfOk (task_of forms.VolumeCreate given) AsksScripted
unfolding task_of options_of shape_of IsCommand IsGiven
create_asks given taken enough =
    through AsksScripted (path (given Path)) _ (λ p a. through AsksScripted (number (given Disk)) _ (λ disk b. through AsksScripted (volume_type (given VolumeType)) _ (λ kind c. through AsksScripted (number (given Blocks)) _ (λ blocks d. through AsksScripted (number (given Physical)) _ (λ physical e.
    let first = number_taken forms.VolumeCreate given Blocks 1 MOST_LOGICAL blocks taken (3, omega arith, refl) refl d in
    once_asks (events.CreateVolume p (record { 0 = disk }) kind blocks physical) tt (record {
      path_given = path_taken forms.VolumeCreate given p taken (0, omega arith, refl) a;
      disk_given = (number_taken forms.VolumeCreate given Disk 0 4294967295 disk taken (1, omega arith, refl) refl b).1;
      some_blocks = first.0;
      few_blocks = first.1;
      room = not_below (given Physical) (given Blocks) physical blocks (number_is (given Physical) physical e) (number_is (given Blocks) blocks d) enough;
      few_places = (number_taken forms.VolumeCreate given Physical 1 MOST_PHYSICAL physical taken (4, omega arith, refl) refl e).1;
    }))))))

write_asks : (given : OptionName → Option Value) → AreTaken forms.ClientWrite given → IfOk (task_of forms.ClientWrite given) AsksScripted
unfolding task_of options_of shape_of
write_asks given taken =
    through AsksScripted (path (given Path)) _ (λ p a. through AsksScripted (number (given Block)) _ (λ block b. through AsksScripted (number (given Fill)) _ (λ fill c.
    let most : MOST_WRITES ≡ 4096 = refl in
    writes_ask p block (number_or 1 (given WriteCount)) fill
    (path_taken forms.ClientWrite given p taken (0, omega arith, refl) a)
    (number_taken forms.ClientWrite given Block 0 4294967295 block taken (1, omega arith, refl) refl b).1
    (number_or_taken forms.ClientWrite given WriteCount 1 1 MOST_WRITES taken (2, omega arith, refl) refl (omega (arith, most))))))

snap_asks : (given : OptionName → Option Value) → AreTaken forms.SnapshotCreate given → IfOk (task_of forms.SnapshotCreate given) AsksScripted
unfolding task_of options_of IsCommand IsGiven
snap_asks given taken =
    through AsksScripted (path (given Path)) _ (λ p a. through AsksScripted (snapshot (given NewSnapshot)) _ (λ name b. through AsksScripted (label_if_any (given Label)) _ (λ label c.
    let named = new_name_taken forms.SnapshotCreate given name taken (1, omega arith, refl) b in
    once_asks (events.Snap p name label) tt (record {
      path_given = path_taken forms.SnapshotCreate given p taken (0, omega arith, refl) a;
      name_given = named.1;
      clients = named.0;
      label_given = label_taken forms.SnapshotCreate given label taken (2, omega arith, refl) c;
    }))))

unsnap_asks : (given : OptionName → Option Value) → AreTaken forms.SnapshotDelete given → IfOk (task_of forms.SnapshotDelete given) AsksScripted
unfolding task_of options_of IsCommand IsGiven
unsnap_asks given taken =
    through AsksScripted (path (given Path)) _ (λ p a. through AsksScripted (snapshot (given Snapshot)) _ (λ name b.
    once_asks (events.Unsnap p name) tt (record {
      path_given = path_taken forms.SnapshotDelete given p taken (0, omega arith, refl) a;
      name_given = name_taken forms.SnapshotDelete given name taken (1, omega arith, refl) b;
    })))

show_asks : (given : OptionName → Option Value) → AreTaken forms.SnapshotShow given → IfOk (task_of forms.SnapshotShow given) AsksScripted
unfolding task_of options_of IsCommand IsGiven
show_asks given taken = through AsksScripted (path (given Path)) _ (λ p a. once_asks (events.ShowSnaps p) tt (path_taken forms.SnapshotShow given p taken (0, omega arith, refl) a))

clock_asks : (given : OptionName → Option Value) → AreTaken forms.LabClock given → IfOk (task_of forms.LabClock given) AsksScripted
unfolding task_of options_of IsCommand IsGiven
clock_asks given taken = through AsksScripted (time (given Time)) _ (λ t a. once_asks (events.Clock t) tt (time_taken forms.LabClock given t taken (0, omega arith, refl) a))

cp_asks : (given : OptionName → Option Value) → AreTaken forms.LabCp given → IfOk (task_of forms.LabCp given) AsksScripted
unfolding task_of options_of IsCommand IsGiven
cp_asks given taken = through AsksScripted (path (given Path)) _ (λ p a. once_asks (events.Cp p) tt (path_taken forms.LabCp given p taken (0, omega arith, refl) a))

read_asks : (given : OptionName → Option Value) → AreTaken forms.LabRead given → IfOk (task_of forms.LabRead given) AsksScripted
unfolding task_of options_of shape_of IsCommand IsGiven
read_asks given taken =
    through AsksScripted (path (given Path)) _ (λ p a. through AsksScripted (snapshot_if_any (given Snapshot)) _ (λ name b. through AsksScripted (number (given Block)) _ (λ block c.
    once_asks (events.Read p name block) tt (record {
      path_given = path_taken forms.LabRead given p taken (0, omega arith, refl) a;
      name_given = some_name_taken forms.LabRead given name taken (1, omega arith, refl) b;
      block_given = (number_taken forms.LabRead given Block 0 4294967295 block taken (2, omega arith, refl) refl c).1;
    }))))

policy_asks : (given : OptionName → Option Value) → AreTaken forms.PolicyCreate given → IfOk (task_of forms.PolicyCreate given) AsksScripted
unfolding task_of options_of IsCommand IsGiven
policy_asks given taken =
    through AsksScripted (part (given Policy)) _ (λ name a. through AsksScripted (policy_type (given PolicyType)) _ (λ kind b.
    once_asks (events.CreatePolicy name kind) (policy_type_taken forms.PolicyCreate given kind taken (1, omega arith, refl) b)
    (policy_taken forms.PolicyCreate given name taken (0, omega arith, refl) a)))

rule_asks : (given : OptionName → Option Value) → AreTaken forms.PolicyAddRule given → IfOk (task_of forms.PolicyAddRule given) AsksScripted
unfolding task_of options_of shape_of IsCommand IsGiven
rule_asks given taken =
    through AsksScripted (part (given Policy)) _ (λ name a. through AsksScripted (label (given RuleLabel)) _ (λ rule b. through AsksScripted (number (given Keep)) _ (λ keep c.
    once_asks (events.AddRule name rule keep (truth_or false (given Preserve))) tt (record {
      policy_given = policy_taken forms.PolicyAddRule given name taken (0, omega arith, refl) a;
      label_given = rule_label_taken forms.PolicyAddRule given rule taken (1, omega arith, refl) b;
      keep_given = (number_taken forms.PolicyAddRule given Keep 0 4294967295 keep taken (2, omega arith, refl) refl c).1;
    }))))

relate_asks : (given : OptionName → Option Value) → AreTaken forms.MirrorCreate given → IfOk (task_of forms.MirrorCreate given) AsksScripted
unfolding task_of options_of shape_of IsCommand IsGiven
relate_asks given taken =
    through AsksScripted (path (given SourcePath)) _ (λ source a. through AsksScripted (path (given DestinationPath)) _ (λ destination b. through AsksScripted (part (given Policy)) _ (λ policy c.
    once_asks (events.Relate source destination policy) tt (record {
      source_given = path_behind forms.MirrorCreate given SourcePath source taken (0, omega arith, refl) refl a;
      destination_given = path_behind forms.MirrorCreate given DestinationPath destination taken (1, omega arith, refl) refl b;
      policy_given = policy_taken forms.MirrorCreate given policy taken (2, omega arith, refl) c;
    }))))

policies_ask : AsksScripted (Once events.ShowPolicies)
unfolding IsCommand IsGiven
policies_ask = once_asks events.ShowPolicies tt tt

relations_ask : AsksScripted (Once events.ShowRelations)
unfolding IsCommand IsGiven
relations_ask = once_asks events.ShowRelations tt tt

volumes_ask : AsksScripted (Once events.ShowVolumes)
unfolding IsCommand IsGiven
volumes_ask = once_asks events.ShowVolumes tt tt

form_asks : (form : Form) (given : OptionName → Option Value) → AreTaken form given → is_below (given Physical) (given Blocks) ≡ false → IfOk (task_of form given) AsksScripted
unfolding task_of
form_asks forms.VolumeCreate given taken enough = create_asks given taken enough
form_asks forms.VolumeShow given taken enough = volumes_ask
form_asks forms.ClientWrite given taken enough = write_asks given taken
form_asks forms.SnapshotCreate given taken enough = snap_asks given taken
form_asks forms.SnapshotDelete given taken enough = unsnap_asks given taken
form_asks forms.SnapshotShow given taken enough = show_asks given taken
form_asks forms.PolicyCreate given taken enough = policy_asks given taken
form_asks forms.PolicyAddRule given taken enough = rule_asks given taken
form_asks forms.PolicyShow given taken enough = policies_ask
form_asks forms.MirrorCreate given taken enough = relate_asks given taken
form_asks forms.MirrorShow given taken enough = relations_ask
form_asks forms.LabClock given taken enough = clock_asks given taken
form_asks forms.LabCp given taken enough = cp_asks given taken
form_asks forms.LabRead given taken enough = read_asks given taken

-- ---- a line, a script

line_asks : (line : List ℕ) (task : Task) → SpellsTask line task → AsksScripted task
unfolding too_few
line_asks line task s =
    subst (λ r. IfOk r AsksScripted) s.asks (form_asks s.form (value_given (map pair_of s.spelled)) (values_taken s.form s.spelled s.each) s.enough)

lines_step : (n : ℕ) (line : List ℕ) (lines : List (List ℕ)) (commands : List Command) (t : Bool) →
    MatchBool t (LinesSpell (n + 1) lines commands) ((first : Command) × (more : List Command) × (commands ≡ first ∷ more) × (first.line ≡ n) × SpellsTask line first.task × LinesSpell (n + 1) lines more) →
    ((more : List Command) → LinesSpell (n + 1) lines more → All (λ c. AsksScripted c.task) more) → All (λ c. AsksScripted c.task) commands
lines_step n line lines commands true s rest = rest commands s
lines_step n line lines commands false (first, more, are, number, spells, behind) rest =
    rw are (All-cons (λ c. AsksScripted c.task) first more (line_asks line first.task spells) (rest more behind))

lines_ask : (n : ℕ) (lines : List (List ℕ)) (commands : List Command) → LinesSpell n lines commands → All (λ c. AsksScripted c.task) commands
lines_ask n [] commands s = rw s (All-nil (λ c. AsksScripted c.task))
lines_ask n (line ∷ lines) commands s = lines_step n line lines commands (is_skipped line) s (λ more h. lines_ask (n + 1) lines more h)

-- each event of each command of a script can be asked for
pub script_asks : (text : List ℕ) (commands : List Command) → parse text ≡ Ok commands → All (λ c. AsksScripted c.task) commands
script_asks text commands e = lines_ask 1 (lines_of text) commands ((script_spelled text commands).0 e)

pub read_asks_so : (text : List ℕ) (read : Result (List Command) ScriptFault) → IfOk read (λ script. parse text ≡ Ok script) → IfOk read (λ script. All (λ c. AsksScripted c.task) script)
read_asks_so text (Ok commands) e = script_asks text commands e
read_asks_so text (Err fault) e = tt

pub next_asks : {E : Type 0} (task : Task) (done : ℕ) (last : Option Reply) (next : Result (Option the_event.Event) E) → AsksScripted task → IfOk next (λ event. event ≡ next_of task done last) → IfOk next (λ event. IfSome event IsScripted)
next_asks task done last (Ok event) asks is = rw is (asks done last)
next_asks task done last (Err fault) asks is = tt
