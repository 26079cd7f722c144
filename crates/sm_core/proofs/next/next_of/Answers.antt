use Rattle.std.proofs.Common.{ℕ, List, ◌∷◌, map, sym, ap, ◌∙◌, subst, Option}
use Rattle.sm_defs.specs.Words.{Ascends}
use Rattle.sm_catroot.specs.Catalog.{Catalog}
use Rattle.sm_catroot.specs.Condition.{number_of}
use Rattle.sm_core.specs.Falling.{world_now}
use Rattle.sm_core.specs.Next.{IsNext, IsNextIn, AreNumbered}
use Rattle.sm_core.specs.declared.down.Down.{Down}
use Rattle.sm_core.proofs.Least.{numbers_of, from_one}
use Rattle.sm_core.proofs.next.next_of.Goals as goal

pub returns-in-None-clause-next : goal.returns-in-None-clause-next
returns-in-None-clause-next g c =
    let n = c.args.node.now in
    let after = c.args.after in
    let result = c.first_above.result in
    let same = c.relations_of.ensures ∙ ap (λ (k : Catalog). k.relations) c.catalog.ensures in
    let found = subst (λ (ns : List ℕ). IsNext ns after result) (ap (λ rs. map number_of rs) same ∙ sym (numbers_of n.root.held.relations)) c.first_above.ensures in
    subst (λ (d : Option (Down _)). IsNextIn (world_now d n) after result) (sym c.in-None.is) found

pub returns-in-None-clause-order : goal.returns-in-None-clause-order
returns-in-None-clause-order g c =
    let n = c.args.node.now in
    let fit = c.told.ensures.root.fit in
    let order = subst (λ (ns : List ℕ). Ascends (0 ∷ ns)) (sym (numbers_of n.root.held.relations)) (from_one n.root.held.relations fit.relations, fit.ascends) in
    subst (λ (d : Option (Down _)). AreNumbered (world_now d n)) (sym c.in-None.is) order

pub returns-in-Some-clause-order : goal.returns-in-Some-clause-order
returns-in-Some-clause-order g c = subst (λ (d : Option (Down _)). AreNumbered (world_now d c.args.node.now)) (sym c.in-Some.is) tt
