-- The program's line as the constant command of `clap` that it is: one positional, two options that
-- take a number, and a flag.
use Rattle.std.specs.Prelude.{Some, [], ◌∷◌, codes}
use Rattle.clap.specs.Words.{App, Rule, new_app, new_rule, with_rule}
use Rattle.clap.specs.declared.builder.action.ArgAction.TheVariants.{SetTrue}
use Rattle.clap.specs.declared.builder.value_parser.ValueParser.TheVariants.{Unsigned}

-- MODE, `run` where it is left out
abbrev pub mode_rule : Rule
mode_rule = record (new_rule (codes "mode")) { defaults = codes "run" ∷ [] }

-- `--workers N`, from 0 to 8
abbrev pub workers_rule : Rule
workers_rule = record (new_rule (codes "workers")) {
  long = Some (codes "workers");
  parser = Some (Unsigned 0 8);
  defaults = codes "0" ∷ [];
}

-- `--number N`, a number of 64 bits
abbrev pub number_rule : Rule
number_rule = record (new_rule (codes "number")) {
  long = Some (codes "number");
  parser = Some (Unsigned 0 18446744073709551615);
  defaults = codes "0" ∷ [];
}

-- `--history`
abbrev pub history_rule : Rule
history_rule = record (new_rule (codes "history")) {
  long = Some (codes "history");
  action = Some SetTrue;
}

unfoldable pub lab_command : App
lab_command =
    with_rule (with_rule (with_rule (with_rule (new_app (codes "lab")) mode_rule) workers_rule)
    number_rule) history_rule
