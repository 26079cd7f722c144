use Rattle.std.proofs.Common.{length, sym, subst, Option}
use Rattle.sm_node.specs.Parts.{devices}
use Rattle.sm_node.proofs.HalfTurns.{halved_shows}
use Rattle.sm_core.specs.Kept.{ShownIn}
use Rattle.sm_core.specs.Falling.{IsCatalogue, world_now, deed_now}
use Rattle.sm_core.specs.declared.down.Down.{Down}
use Rattle.sm_core.proofs.Shows.{stands_up}
use Rattle.sm_core.proofs.standing.stands.Goals as goal

pub told_up-requires : goal.told_up-requires
told_up-requires g c = record { up = subst (λ (d : Option (Down _)). IsCatalogue g.D.Disk.state d c.args.node.now) c.in-None.is c.requires }

pub returns-in-Some : goal.returns-in-Some
returns-in-Some g c =
    let state = g.D.Disk.state in
    let n = c.args.node.now in
    let since = c.in-Some.field-0 in
    let halved = subst (λ (d : Option (Down _)). IsCatalogue state d n) c.in-Some.is c.requires in
    λ images left. subst (λ (d : Option (Down _)). ShownIn (world_now d n) (length (devices n)) images) (sym c.in-Some.is) (halved_shows state (deed_now since) since.side n halved images left)

pub returns-in-None : goal.returns-in-None
returns-in-None g c =
    let n = c.args.node.now in
    λ images left. subst (λ (d : Option (Down _)). ShownIn (world_now d n) (length (devices n)) images) (sym c.in-None.is) (stands_up g.D.Disk.state n c.told_up.ensures images left)
