use Rattle.std.proofs.Common.{[], List, map, sym, ap, ◌∙◌}
use Rattle.sm_defs.specs.Words.{found}
use Rattle.sm_relation.specs.declared.relation.Relation.{Relation}
use Rattle.sm_model.specs.Answers.{goes_to}
use Rattle.sm_model.specs.OfRelations.{already}
use Rattle.sm_node.specs.Nodes.{world_with, stopped_relation}
use Rattle.sm_events.proofs.RelatingDecided.{follows_one, other_sizes, a_cycle, all_full, all_passed}
use Rattle.sm_events.proofs.relating.relation_test.Goals as goal

pub returns-in-Some : goal.returns-in-Some
returns-in-Some g c =
    let k = c.args.catalog.now in
    let w = world_with k c.args.seats.now [] in
    let first = ap (λ (rs : List Relation). already (found (goes_to c.args.destination) (map stopped_relation rs))) (sym c.relations_of.ensures) ∙ c.destination_of.ensures in
    follows_one k w c.args.source c.args.destination c.args.policy c.destination_of.result c.in-Some.relation first c.in-Some.is

pub returns-then-sizes_differ : goal.returns-then-sizes_differ
returns-then-sizes_differ g c =
    let k = c.args.catalog.now in
    let w = world_with k c.args.seats.now [] in
    let first = ap (λ (rs : List Relation). already (found (goes_to c.args.destination) (map stopped_relation rs))) (sym c.relations_of.ensures) ∙ c.destination_of.ensures in
    other_sizes k w c.args.source c.args.destination c.args.policy c.destination_of.result first c.in_default.is (sym c.sizes_differ.ensures ∙ c.if-sizes_differ.true)

pub returns-then-branch : goal.returns-then-branch
returns-then-branch g c =
    let k = c.args.catalog.now in
    let w = world_with k c.args.seats.now [] in
    let first = ap (λ (rs : List Relation). already (found (goes_to c.args.destination) (map stopped_relation rs))) (sym c.relations_of.ensures) ∙ c.destination_of.ensures in
    a_cycle k w c.args.source c.args.destination c.args.policy c.destination_of.result first c.in_default.is (sym c.sizes_differ.ensures ∙ c.if-sizes_differ.false) (sym c.in_ok-closes.ensures ∙ c.if-branch.true)

pub returns-then-are_full : goal.returns-then-are_full
returns-then-are_full g c =
    let k = c.args.catalog.now in
    let w = world_with k c.args.seats.now [] in
    let first = ap (λ (rs : List Relation). already (found (goes_to c.args.destination) (map stopped_relation rs))) (sym c.relations_of.ensures) ∙ c.destination_of.ensures in
    all_full k w c.args.source c.args.destination c.args.policy c.destination_of.result first c.in_default.is (sym c.sizes_differ.ensures ∙ c.if-sizes_differ.false) (sym c.in_ok-closes.ensures ∙ c.if-branch.false)
    (sym c.are_full.ensures ∙ c.if-are_full.true)

pub returns : goal.returns
returns g c =
    let k = c.args.catalog.now in
    let w = world_with k c.args.seats.now [] in
    let first = ap (λ (rs : List Relation). already (found (goes_to c.args.destination) (map stopped_relation rs))) (sym c.relations_of.ensures) ∙ c.destination_of.ensures in
    all_passed k w c.args.source c.args.destination c.args.policy c.destination_of.result first c.in_default.is (sym c.sizes_differ.ensures ∙ c.if-sizes_differ.false) (sym c.in_ok-closes.ensures ∙ c.if-branch.false)
    (sym c.are_full.ensures ∙ c.if-are_full.false)
