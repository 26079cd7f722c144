use Rattle.std.proofs.Common.{sym, ap, ◌∙◌}
use Rattle.std.specs.Option.{option_copied}
use Rattle.sm_events.specs.Relating.{already_by}
use Rattle.sm_events.proofs.Destinations.{number_found, already_found}
use Rattle.sm_events.proofs.relating.destination_of.Goals as goal

pub returns-in-None : goal.returns-in-None
returns-in-None c = already_found c.args.number c.args.relations.now ∙ ap (λ o. already_by (number_found o)) (sym c.first_to.ensures ∙ ap option_copied c.in-None.is)

pub returns-in-Some : goal.returns-in-Some
returns-in-Some c = already_found c.args.number c.args.relations.now ∙ ap (λ o. already_by (number_found o)) (sym c.first_to.ensures ∙ ap option_copied c.in-Some.is)
