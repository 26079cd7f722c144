use Rattle.std.proofs.Common.{List, ℕ, sym, ap, subst, Option, Some, Ok, Err}
use Rattle.std.proofs.lemmas.Result.{err_from_is_err_and}
use Rattle.sm_model.specs.declared.reply.Reply.{Reply}
use Rattle.sm_model.specs.OfVolumes as answers
use Rattle.sm_node.specs.Nodes.{world_of}
use Rattle.sm_node.specs.Acts.{Acts}
use Rattle.sm_node.specs.Looking.{Looks}
use Rattle.sm_node.specs.Served.{IsSparedOrBytes}
use Rattle.sm_node.proofs.Twice.{read_spared, spare_starved}
use Rattle.sm_node.proofs.LookActs.{looks_acts, read_stays}
use Rattle.sm_node.proofs.node.Node.read_event.Goals as goal

pub returns-in_err-spare-clause-acts : goal.returns-in_err-spare-clause-acts
returns-in_err-spare-clause-acts g c =
    let w = world_of c.args.self.now in
    let p = err_from_is_err_and c.from_residual.result c.from_residual.ensures.1 in
    spare_starved g.D.Disk.state c.args.self.now c.told_up.ensures (answers.read w c.args.path.now c.args.name.now c.args.place) c.from_residual.result p.0 p.1 p.2

pub returns-in_err-spare_name-clause-acts : goal.returns-in_err-spare_name-clause-acts
returns-in_err-spare_name-clause-acts g c =
    let w = world_of c.args.self.now in
    let p = err_from_is_err_and c.from_residual-in_err-spare_name.result c.from_residual-in_err-spare_name.ensures.1 in
    spare_starved g.D.Disk.state c.args.self.now c.told_up.ensures (answers.read w c.args.path.now c.args.name.now c.args.place) c.from_residual-in_err-spare_name.result p.0 p.1 p.2

pub returns-in_err-room-clause-acts : goal.returns-in_err-room-clause-acts
returns-in_err-room-clause-acts g c =
    let w = world_of c.args.self.now in
    let p = err_from_is_err_and c.from_residual-in_err-room.result c.from_residual-in_err-room.ensures.1 in
    spare_starved g.D.Disk.state c.args.self.now c.told_up.ensures (answers.read w c.args.path.now c.args.name.now c.args.place) c.from_residual-in_err-room.result p.0 p.1 p.2

pub read_twice-requires : goal.read_twice-requires
read_twice-requires g c =
    let w = world_of c.args.self.now in
    let a = answers.read w c.args.path.now c.args.name.now c.args.place in
    let looks = subst (λ r. Looks g.D.Disk.state a c.args.self.now r c.read.new.self) c.in-Ok.is c.read.ensures.looks in
    subst (λ (q : Option (List ℕ)). IsSparedOrBytes (Some c.in_ok-spare.spare) q c.in-Ok.reply) (sym c.in_ok-spare_name.ensures)
    (subst (λ (p : List ℕ). IsSparedOrBytes (Some p) c.args.name.now c.in-Ok.reply) (sym c.in_ok-spare.ensures) (read_spared w c.args.path.now c.args.name.now c.args.place c.in-Ok.reply looks.but_bytes))

pub returns-in-Ok-clause-acts : goal.returns-in-Ok-clause-acts
returns-in-Ok-clause-acts g c =
    let state = g.D.Disk.state in
    let n = c.args.self.now in
    let w = world_of n in
    let a = answers.read w c.args.path.now c.args.name.now c.args.place in
    let looks = subst (λ r. Looks state a n r c.read.new.self) c.in-Ok.is c.read.ensures.looks in
    subst (λ (reply : Reply). Acts state a n (Ok reply) c.read.new.self) (sym c.read_twice.ensures.first)
    (looks_acts state a n c.read.new.self (Ok c.in-Ok.reply) (read_stays w c.args.path.now c.args.name.now c.args.place) looks)

pub returns-in-Err-clause-acts : goal.returns-in-Err-clause-acts
returns-in-Err-clause-acts g c =
    let state = g.D.Disk.state in
    let n = c.args.self.now in
    let w = world_of n in
    let a = answers.read w c.args.path.now c.args.name.now c.args.place in
    let looks = subst (λ r. Looks state a n r c.read.new.self) c.in-Err.is c.read.ensures.looks in
    looks_acts state a n c.read.new.self (Err c.in-Err.fault) (read_stays w c.args.path.now c.args.name.now c.args.place) looks
