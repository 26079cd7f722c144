use Rattle.std.proofs.Common.{sym, ap, ◌∙◌, subst, refl, Option}
use Rattle.sm_base.specs.declared.numbers.Side.TheVariants.{Before}
use Rattle.sm_model.specs.LegalRun.{restart_deed}
use Rattle.sm_model.specs.World.{Deed}
use Rattle.sm_node.specs.Nodes.{world_of}
use Rattle.sm_node.specs.Halved.{IsHalved}
use Rattle.sm_core.specs.Falling.{IsCatalogue, IsSoundNow, IsSoundPair, world_now}
use Rattle.sm_core.specs.Restarting.{pair_of}
use Rattle.sm_core.specs.declared.down.Down.{Down}
use Rattle.sm_core.proofs.RestartEntry.{began_deed}
use Rattle.sm_core.proofs.restarting.since.Goals as goal

pub told_up-requires : goal.told_up-requires
told_up-requires g c = record { up = subst (λ (d : Option (Down _)). IsCatalogue g.D.Disk.state d c.args.node.now) c.in-None.is c.requires.stands }

pub returns-in-None-clause-halved : goal.returns-in-None-clause-halved
returns-in-None-clause-halved g c =
    let n = c.args.node.now in
    let x : Down _ = record { disk = record { 0 = 0 }; side = Before; actor = 0; event = c.of.result; node = c.of-in-None.result } in
    subst (λ (d : Deed). IsHalved g.D.Disk.state d Before n) (sym (began_deed x n refl c.of.ensures c.of-in-None.ensures))
    (c.up_is_halved.ensures n (restart_deed (world_of n)) c.told_up.ensures refl).0

pub returns-in-None-clause-sound : goal.returns-in-None-clause-sound
returns-in-None-clause-sound g c =
    let n = c.args.node.now in
    let x : Down _ = record { disk = record { 0 = 0 }; side = Before; actor = 0; event = c.of.result; node = c.of-in-None.result } in
    let sound = subst (λ (o : Option (Down _)). IsSoundNow o n) c.in-None.is c.requires.sound in
    subst IsSoundPair (sym (began_deed x n refl c.of.ensures c.of-in-None.ensures)) (sound, sound)

pub returns-in-None-clause-pair : goal.returns-in-None-clause-pair
returns-in-None-clause-pair g c =
    let n = c.args.node.now in
    let x : Down _ = record { disk = record { 0 = 0 }; side = Before; actor = 0; event = c.of.result; node = c.of-in-None.result } in
    began_deed x n refl c.of.ensures c.of-in-None.ensures ∙ sym (ap (λ (o : Option (Down _)). pair_of (world_now o n)) c.in-None.is)

pub returns-in-None-clause-fresh : goal.returns-in-None-clause-fresh
returns-in-None-clause-fresh g c =
    let n = c.args.node.now in
    λ e. (refl, (c.up_is_halved.ensures n (restart_deed (world_of n)) c.told_up.ensures refl).1)
