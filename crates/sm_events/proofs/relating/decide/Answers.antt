use Rattle.std.proofs.Common.{◌≡◌, [], List, ℕ, length, sym, ap, ◌∙◌, subst, Err, Result, arith}
use Rattle.std.specs.Prelude.{position}
use Rattle.std.specs.Str.{bytes_eq}
use Rattle.std.proofs.lemmas.Option.{slice_get_within}
use Rattle.std.proofs.lemmas.Result.{IfOk-weaker}
use Rattle.sm_base.specs.declared.refusal.Refusal.{Refusal}
use Rattle.sm_defs.specs.Relationship.{Policy}
use Rattle.sm_catroot.specs.Catalog.{Catalog}
use Rattle.sm_node.specs.Seats.{Seated}
use Rattle.sm_node.specs.Nodes.{world_of, world_with}
use Rattle.sm_node.specs.Naming.{IsNamed, IsNamedAt}
use Rattle.sm_events.specs.Relating.{related_at}
use Rattle.sm_events.proofs.RelatingDecided.{no_source, no_destination, none_named, all_named}
use Rattle.sm_events.proofs.relating.decide.Goals as goal

pub returns-in-Err : goal.returns-in-Err
returns-in-Err g c =
    let n = c.args.node.now in
    no_source n.root.held (world_of n) c.args.source.now c.args.destination.now c.args.policy.now c.in-Err.refusal (subst (IsNamed n c.args.source.now) c.in-Err.is c.in_ok-refusal.ensures)

pub returns-in-Err-2 : goal.returns-in-Err-2
returns-in-Err-2 g c =
    let n = c.args.node.now in
    let source : IsNamedAt n c.args.source.now c.in-Ok.found = subst (IsNamed n c.args.source.now) c.in-Ok.is c.in_ok-refusal.ensures in
    no_destination n.root.held (world_of n) c.args.source.now c.args.destination.now c.args.policy.now _ source.names c.in-Err-2.refusal (subst (IsNamed n c.args.destination.now) c.in-Err-2.is c.in_ok-refusal-2.ensures)

pub overflow_cast-from : goal.overflow_cast-from
overflow_cast-from g c =
    let n = c.args.node.now in
    let source : IsNamedAt n c.args.source.now c.in-Ok.found = subst (IsNamed n c.args.source.now) c.in-Ok.is c.in_ok-refusal.ensures in
    let few = c.told_up.ensures.node.few in
    omega (arith, slice_get_within n.seats c.in-Ok.found.at source.seat source.is_seat, few)

pub overflow_cast-to : goal.overflow_cast-to
overflow_cast-to g c =
    let n = c.args.node.now in
    let destination : IsNamedAt n c.args.destination.now c.in-Ok-2.found = subst (IsNamed n c.args.destination.now) c.in-Ok-2.is c.in_ok-refusal-2.ensures in
    let few = c.told_up.ensures.node.few in
    omega (arith, slice_get_within n.seats c.in-Ok-2.found.at destination.seat destination.is_seat, few)

pub decide_at-requires-clause-source : goal.decide_at-requires-clause-source
decide_at-requires-clause-source g c =
    let n = c.args.node.now in
    let source : IsNamedAt n c.args.source.now c.in-Ok.found = subst (IsNamed n c.args.source.now) c.in-Ok.is c.in_ok-refusal.ensures in
    omega (arith, slice_get_within n.seats c.in-Ok.found.at source.seat source.is_seat, ap length c.seats.ensures)

pub decide_at-requires-clause-destination : goal.decide_at-requires-clause-destination
decide_at-requires-clause-destination g c =
    let n = c.args.node.now in
    let destination : IsNamedAt n c.args.destination.now c.in-Ok-2.found = subst (IsNamed n c.args.destination.now) c.in-Ok-2.is c.in_ok-refusal-2.ensures in
    omega (arith, slice_get_within n.seats c.in-Ok-2.found.at destination.seat destination.is_seat, ap length c.seats.ensures)

pub returns-in_ok-no_policy-in-None : goal.returns-in_ok-no_policy-in-None
returns-in_ok-no_policy-in-None g c =
    let n = c.args.node.now in
    let name = c.args.policy.now in
    let source : IsNamedAt n c.args.source.now c.in-Ok.found = subst (IsNamed n c.args.source.now) c.in-Ok.is c.in_ok-refusal.ensures in
    let destination : IsNamedAt n c.args.destination.now c.in-Ok-2.found = subst (IsNamed n c.args.destination.now) c.in-Ok-2.is c.in_ok-refusal-2.ensures in
    let policies = c.deref.ensures.value ∙ ap (λ (j : Catalog). j.policies) (c.catalog.view_is ∙ c.catalog-catalog.ensures) in
    let at : c.place_of.result ≡ position (λ (p : Policy). bytes_eq p.name name) n.root.held.policies =
    c.place_of.ensures
    ∙ ap (λ (text : List ℕ). position (λ (p : Policy). bytes_eq p.name text) c.deref.result.now) c.text.ensures.text
    ∙ ap (λ (ps : List Policy). position (λ (p : Policy). bytes_eq p.name name) ps) policies in
    ap (λ (r : Refusal). let d : Result Catalog Refusal = Err r in d) c.in_ok-no_policy-in-None.ensures
    ∙ none_named n.root.held (world_of n) c.args.source.now c.args.destination.now name _ source.names _ destination.names (sym at ∙ c.in-None.is)

pub returns-in-Some : goal.returns-in-Some
returns-in-Some g c =
    let n = c.args.node.now in
    let name = c.args.policy.now in
    let from = c.in-Ok.found.at in
    let to = c.in-Ok-2.found.at in
    let by = c.in-Some.by in
    let source : IsNamedAt n c.args.source.now c.in-Ok.found = subst (IsNamed n c.args.source.now) c.in-Ok.is c.in_ok-refusal.ensures in
    let destination : IsNamedAt n c.args.destination.now c.in-Ok-2.found = subst (IsNamed n c.args.destination.now) c.in-Ok-2.is c.in_ok-refusal-2.ensures in
    let policies = c.deref.ensures.value ∙ ap (λ (j : Catalog). j.policies) (c.catalog.view_is ∙ c.catalog-catalog.ensures) in
    let at : c.place_of.result ≡ position (λ (p : Policy). bytes_eq p.name name) n.root.held.policies =
    c.place_of.ensures
    ∙ ap (λ (text : List ℕ). position (λ (p : Policy). bytes_eq p.name text) c.deref.result.now) c.text.ensures.text
    ∙ ap (λ (ps : List Policy). position (λ (p : Policy). bytes_eq p.name name) ps) policies in
    let here = all_named n.root.held (world_of n) c.args.source.now c.args.destination.now name _ source.names _ destination.names by (sym at ∙ c.in-Some.is) in
    IfOk-weaker c.decide_at.result _ _ (λ decided e.
    e ∙ ap (λ (k : Catalog). related_at k (world_with k c.seats.result.now []) from to by) c.catalog-catalog.ensures
    ∙ ap (λ (ss : List (Seated _)). related_at n.root.held (world_with n.root.held ss []) from to by) c.seats.ensures
    ∙ here) c.decide_at.ensures
