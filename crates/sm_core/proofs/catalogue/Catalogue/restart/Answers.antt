use Rattle.std.proofs.Common.{List, [], ◌∷◌, ◌++◌, sym, ap, ◌∙◌, subst}
use Rattle.sm_base.specs.declared.numbers.Side.{Side}
use Rattle.sm_model.specs.declared.reply.Entry.{Entry}
use Rattle.sm_model.specs.declared.reply.Reply.{Reply}
use Rattle.sm_core.specs.Kept.{Kept}
use Rattle.sm_core.specs.Falling.{kept_of}
use Rattle.sm_core.specs.Restarting.{restart_reply, restart_entry, DoesRestart, RestartsOnce}
use Rattle.sm_core.proofs.RestartEntry.{restarts_once}
use Rattle.sm_core.proofs.catalogue.Catalogue.restart.Goals as goal

pub returns-clause-one : goal.returns-clause-one
returns-clause-one g c =
    let state = g.D.Disk.state in
    let old = c.self.inside in
    let es = old.history.entries in
    let ss = old.sides.items in
    let new = c.restart_node-done.new in
    let actor = c.args.actor in
    let line = c.args.line in
    let reply = restart_reply c.restart_node-done.result in
    let does = subst (λ (xs : List Side). DoesRestart state reply old.down old.node xs new.down new.node new.sides.items) c.reserve-2.ensures.items c.restart_node-done.ensures in
    let grown = c.push.ensures.entries ∙ (ap (λ (xs : List Entry). xs ++ restart_entry actor line c.answer_of.result ∷ []) c.reserve.ensures.entries
    ∙ ap (λ (r : Reply). es ++ restart_entry actor line r ∷ []) c.answer_of.ensures) in
    let once = restarts_once state old.down old.node es ss new.down new.node c.push.new.self.entries new.sides.items actor line reply does grown in
    let after : Kept _ = kept_of new.down new.node c.push.new.self.entries new.sides.items in
    subst (λ (k : Kept _). RestartsOnce state k actor line c.answer_of-2.result after) c.self.view_is
    (subst (λ (r : Reply). RestartsOnce state (kept_of old.down old.node es ss) actor line r after) (sym c.answer_of-2.ensures) once)
