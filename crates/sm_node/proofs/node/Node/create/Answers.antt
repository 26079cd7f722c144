use Rattle.std.proofs.Common.{◌≡◌, ◌<◌, ◌≤◌, List, length, refl, sym, ap, ◌∙◌, subst, Ok, Err, Result}
use Rattle.std.proofs.lemmas.Result.{err_from_is_err_and}
use Rattle.sm_base.specs.declared.refusal.Refusal.{Refusal}
use Rattle.sm_model.specs.Answers.{Answer}
use Rattle.sm_model.specs.OfVolumes as answers
use Rattle.sm_catroot.specs.Catalog.{Catalog}
use Rattle.sm_catroot.specs.Condition.{IsCatalog}
use Rattle.sm_node.specs.Nodes.{Node, world_of}
use Rattle.sm_node.specs.Acts.{Acts}
use Rattle.sm_node.specs.Creating.{creation_test, created, with_place}
use Rattle.sm_node.proofs.Events.{none_acts, none_starved}
use Rattle.sm_node.proofs.CreateTests.{answer_refused, answer_allowed, few_seats, long_enough, at_hand, fits_next}
use Rattle.sm_node.proofs.node.Node.create.Goals as goal

pub returns-in-Err : goal.returns-in-Err
returns-in-Err g c =
    let now = c.args.self.now in
    let k : c.held.result.now ≡ now.root.held = c.held.ensures ∙ ap (λ (x : Node _). x.root.held) c.self.view_is in
    let ls = c.deref.ensures.value ∙ ap (λ (x : Node _). x.lengths) c.self.view_is in
    let test : creation_test now.root.held.volumes now.lengths c.args.path.now c.args.disk c.args.physical ≡ Err c.in-Err.refusal =
    ap (λ (x : Catalog). creation_test x.volumes now.lengths c.args.path.now c.args.disk c.args.physical) (sym k) ∙ ap (λ (l : List _). creation_test c.held.result.now.volumes l c.args.path.now c.args.disk c.args.physical) (sym ls) ∙ sym c.may_create_by.ensures ∙ c.in-Err.is in
    record {
      acts = none_acts g.D.Disk.state now c.told_up.ensures (answers.create_volume (world_of now) c.args.path.now c.args.disk c.args.kind c.args.logical c.args.physical) c.in-Err.refusal _ refl
          (answer_refused now c.told_up.ensures.node.as_many c.args.path.now c.args.disk c.args.kind c.args.logical c.args.physical c.in-Err.refusal test);
    }

pub returns-in_err-next : goal.returns-in_err-next
returns-in_err-next g c =
    let now = c.args.self.now in
    let p = err_from_is_err_and c.from_residual.result c.from_residual.ensures.1 in
    record { acts = none_starved g.D.Disk.state now c.told_up.ensures (answers.create_volume (world_of now) c.args.path.now c.args.disk c.args.kind c.args.logical c.args.physical) c.from_residual.result p.0 p.1 p.2 }

pub new-requires : goal.new-requires
new-requires g c =
    let now = c.args.self.now in
    let k : c.held.result.now ≡ now.root.held = c.held.ensures ∙ ap (λ (x : Node _). x.root.held) c.self.view_is in
    let ls = c.deref.ensures.value ∙ ap (λ (x : Node _). x.lengths) c.self.view_is in
    let test : creation_test now.root.held.volumes now.lengths c.args.path.now c.args.disk c.args.physical ≡ Ok c.in_default.field-0 =
    ap (λ (x : Catalog). creation_test x.volumes now.lengths c.args.path.now c.args.disk c.args.physical) (sym k) ∙ ap (λ (l : List _). creation_test c.held.result.now.volumes l c.args.path.now c.args.disk c.args.physical) (sym ls) ∙ sym c.may_create_by.ensures ∙ c.in_default.is in
    let held : c.held-2.result.now ≡ now.root.held = c.held-2.ensures ∙ ap (λ (x : Node _). x.root.held) c.self.view_is in
    let next = c.in_ok-next.ensures ∙ ap (λ (x : Catalog). with_place x c.args.path.now c.args.disk) held in
    subst IsCatalog (sym next) (fits_next g.D.Disk.state now c.told_up.ensures.node c.requires.up.as_many c.args.path.now c.args.disk c.args.physical c.in_default.field-0 test c.told_up.ensures.root.fit c.args.logical c.requires.given)

pub returns-in_err-ready : goal.returns-in_err-ready
returns-in_err-ready g c =
    let now = c.args.self.now in
    let p = err_from_is_err_and c.from_residual-in_err-ready.result c.from_residual-in_err-ready.ensures.1 in
    record { acts = none_starved g.D.Disk.state now c.told_up.ensures (answers.create_volume (world_of now) c.args.path.now c.args.disk c.args.kind c.args.logical c.args.physical) c.from_residual-in_err-ready.result p.0 p.1 p.2 }

pub make-requires-clause-few : goal.make-requires-clause-few
make-requires-clause-few g c =
    let now = c.args.self.now in
    let k : c.held.result.now ≡ now.root.held = c.held.ensures ∙ ap (λ (x : Node _). x.root.held) c.self.view_is in
    let ls = c.deref.ensures.value ∙ ap (λ (x : Node _). x.lengths) c.self.view_is in
    let test : creation_test now.root.held.volumes now.lengths c.args.path.now c.args.disk c.args.physical ≡ Ok c.in_default.field-0 =
    ap (λ (x : Catalog). creation_test x.volumes now.lengths c.args.path.now c.args.disk c.args.physical) (sym k) ∙ ap (λ (l : List _). creation_test c.held.result.now.volumes l c.args.path.now c.args.disk c.args.physical) (sym ls) ∙ sym c.may_create_by.ensures ∙ c.in_default.is in
    few_seats g.D.Disk.state now c.told_up.ensures.node c.requires.up.as_many c.args.path.now c.args.disk c.args.physical c.in_default.field-0 test

pub make-requires-clause-at_hand : goal.make-requires-clause-at_hand
make-requires-clause-at_hand g c =
    let now = c.args.self.now in
    let k : c.held.result.now ≡ now.root.held = c.held.ensures ∙ ap (λ (x : Node _). x.root.held) c.self.view_is in
    let ls = c.deref.ensures.value ∙ ap (λ (x : Node _). x.lengths) c.self.view_is in
    let test : creation_test now.root.held.volumes now.lengths c.args.path.now c.args.disk c.args.physical ≡ Ok c.in_default.field-0 =
    ap (λ (x : Catalog). creation_test x.volumes now.lengths c.args.path.now c.args.disk c.args.physical) (sym k) ∙ ap (λ (l : List _). creation_test c.held.result.now.volumes l c.args.path.now c.args.disk c.args.physical) (sym ls) ∙ sym c.may_create_by.ensures ∙ c.in_default.is in
    at_hand g.D.Disk.state now c.told_up.ensures.node c.requires.up.as_many c.args.path.now c.args.disk c.args.physical c.in_default.field-0 test

pub make-requires-clause-next : goal.make-requires-clause-next
make-requires-clause-next g c =
    let now = c.args.self.now in
    let held : c.held-2.result.now ≡ now.root.held = c.held-2.ensures ∙ ap (λ (x : Node _). x.root.held) c.self.view_is in
    (c.args.path.now, c.in_ok-ready.ensures ∙ c.in_ok-next.ensures ∙ ap (λ (x : Catalog). with_place x c.args.path.now c.args.disk) held)

pub make-requires-clause-long : goal.make-requires-clause-long
make-requires-clause-long g c =
    let now = c.args.self.now in
    let k : c.held.result.now ≡ now.root.held = c.held.ensures ∙ ap (λ (x : Node _). x.root.held) c.self.view_is in
    let ls = c.deref.ensures.value ∙ ap (λ (x : Node _). x.lengths) c.self.view_is in
    let test : creation_test now.root.held.volumes now.lengths c.args.path.now c.args.disk c.args.physical ≡ Ok c.in_default.field-0 =
    ap (λ (x : Catalog). creation_test x.volumes now.lengths c.args.path.now c.args.disk c.args.physical) (sym k) ∙ ap (λ (l : List _). creation_test c.held.result.now.volumes l c.args.path.now c.args.disk c.args.physical) (sym ls) ∙ sym c.may_create_by.ensures ∙ c.in_default.is in
    long_enough g.D.Disk.state now c.told_up.ensures.node c.requires.up.as_many c.args.path.now c.args.disk c.args.physical c.in_default.field-0 test

pub returns : goal.returns
returns g c =
    let now = c.args.self.now in
    let k : c.held.result.now ≡ now.root.held = c.held.ensures ∙ ap (λ (x : Node _). x.root.held) c.self.view_is in
    let ls = c.deref.ensures.value ∙ ap (λ (x : Node _). x.lengths) c.self.view_is in
    let test : creation_test now.root.held.volumes now.lengths c.args.path.now c.args.disk c.args.physical ≡ Ok c.in_default.field-0 =
    ap (λ (x : Catalog). creation_test x.volumes now.lengths c.args.path.now c.args.disk c.args.physical) (sym k) ∙ ap (λ (l : List _). creation_test c.held.result.now.volumes l c.args.path.now c.args.disk c.args.physical) (sym ls) ∙ sym c.may_create_by.ensures ∙ c.in_default.is in
    let held : c.held-2.result.now ≡ now.root.held = c.held-2.ensures ∙ ap (λ (x : Node _). x.root.held) c.self.view_is in
    let next = c.in_ok-ready.ensures ∙ c.in_ok-next.ensures ∙ ap (λ (x : Catalog). with_place x c.args.path.now c.args.disk) held in
    let answer = answer_allowed now c.told_up.ensures.node.as_many c.args.path.now c.args.disk c.args.kind c.args.logical c.args.physical c.in_default.field-0 test in
    record { acts = subst (λ (a : Answer). Acts g.D.Disk.state a now c.make.result c.make.new.self) (sym answer) (c.make.ensures.acts c.args.path.now next) }
