use Rattle.std.proofs.Common.{sym, ap, subst, ◌∙◌}
use Rattle.std.specs.Prelude.{Option}
use Rattle.sm_base.specs.declared.numbers.Ident.{Ident}
use Rattle.sm_defs.specs.Legs.{made_ident}
use Rattle.sm_defs.specs.Made.{made_name}
use Rattle.sm_defs.specs.Operations.{has_name}
use Rattle.sm_root.specs.declared.root.Root.{Root}
use Rattle.volume_store.specs.declared.faults.VolumeFault.{VolumeFault}
use Rattle.volume_store.specs.Refusals.{Refuses}
use Rattle.sm_publish.specs.Committing.{answered}
use Rattle.sm_publish.proofs.PrepareLemmas.{by_root, none_refused, prepares}
use Rattle.sm_publish.proofs.preparing.prepare.Goals as goal

pub answered-requires : goal.answered-requires
answered-requires g c =
    let (t, may) = c.requires.may in
    let v = c.args.source.now.volume in
    let number = c.transfer_of-transfer.ensures t may.transfer in
    let ident = c.made_ident-ident.ensures ∙ ap (made_ident c.args.relation.now.source.0) number in
    let name = c.in-Ok.ensures ∙ ap (made_name c.args.relation.now.number.0) number in
    let none = sym (by_root c.args.source.now.number v c.root-root.result.now c.root-root.ensures) ∙ (sym c.prepare_reason.ensures ∙ c.in-None.is) in
    subst (λ (o : Option VolumeFault). Refuses o c.snapshot-done.result)
    (none_refused v c.made_ident-ident.result c.in-Ok.name t.number (ap (λ (i : Ident). i.seq) ident) (ap (has_name v.snapshots) name ∙ may.unnamed) none) c.snapshot-done.ensures.refused

pub returns-in-Ok : goal.returns-in-Ok
returns-in-Ok g c = λ w x is.
    let (t, may) = c.requires.may in
    let v = c.args.source.now.volume in
    let number = c.transfer_of-transfer.ensures t may.transfer in
    let ident = c.made_ident-ident.ensures ∙ ap (made_ident c.args.relation.now.source.0) number in
    let name = c.in-Ok.ensures ∙ ap (made_name c.args.relation.now.number.0) number in
    let none = sym (by_root c.args.source.now.number v c.root-root.result.now c.root-root.ensures) ∙ (sym c.prepare_reason.ensures ∙ c.in-None.is) in
    let allows = subst (λ (o : Option VolumeFault). Refuses o c.snapshot-done.result)
    (none_refused v c.made_ident-ident.result c.in-Ok.name t.number (ap (λ (i : Ident). i.seq) ident) (ap (has_name v.snapshots) name ∙ may.unnamed) none) c.snapshot-done.ensures.refused in
    prepares w x c.args.relation.now c.args.time v t is may.transfer c.made_ident-ident.result c.in-Ok.name ident name g.D.Disk.state c.args.source.now c.snapshot-done.new.self c.snapshot-done.result
    none allows c.snapshot-done.ensures.commits c.answered.result
    (c.answered.ensures ∙ ap (λ (r : Root). answered r.number c.made_ident-ident.result c.snapshot-done.result) c.root-root.ensures)
