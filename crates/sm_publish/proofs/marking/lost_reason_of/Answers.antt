use Rattle.std.proofs.Common.{true, Some, sym, ap, ◌∙◌}
use Rattle.sm_base.specs.declared.numbers.Ident.{Ident}
use Rattle.sm_base.specs.declared.refusal.Reason.TheVariants as reasons
use Rattle.sm_root.specs.declared.root.RootSnapshot.{RootSnapshot}
use Rattle.sm_defs.specs.Volume.{has}
use Rattle.sm_publish.proofs.GoingLemmas.{has_there, lost_one, lost_who}
use Rattle.sm_publish.proofs.marking.lost_reason_of.Goals as goal

pub returns-in-Some : goal.returns-in-Some
returns-in-Some c = λ who there s a e f.
    let same = ap (λ (r : RootSnapshot). r.ident) e in
    sym (lost_one who there s true (ap (has there) (sym same) ∙ (sym (has_there c.args.source.now there c.args.snapshot.now.ident a) ∙ (sym c.has_ident.ensures ∙ c.if-has_ident.true))))

pub returns-in-Some-2 : goal.returns-in-Some-2
returns-in-Some-2 c = λ who there s a e f.
    let same = ap (λ (r : RootSnapshot). r.ident) e in
    ap (λ (i : Ident). Some (reasons.HeldDownstream i c.in-Some-2.relation)) same
    ∙ lost_who who there s c.in-Some-2.relation (sym c.in-Some-2.is ∙ f)
    (ap (has there) (sym same) ∙ (sym (has_there c.args.source.now there c.args.snapshot.now.ident a) ∙ (sym c.has_ident.ensures ∙ c.if-has_ident.false)))
