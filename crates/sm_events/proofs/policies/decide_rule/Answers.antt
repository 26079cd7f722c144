use Rattle.std.proofs.Common.{◌≡◌, ap, sym, ◌∙◌, List, ℕ, Err, Result}
use Rattle.std.specs.Prelude.{position}
use Rattle.std.specs.Str.{bytes_eq}
use Rattle.std.proofs.lemmas.Result.{IfOk-weaker}
use Rattle.sm_base.specs.declared.refusal.Refusal.{Refusal}
use Rattle.sm_base.specs.declared.refusal.Refusal.TheVariants as refusals
use Rattle.sm_defs.specs.Relationship.{Policy, Rule}
use Rattle.sm_catroot.specs.Catalog.{Catalog}
use Rattle.sm_events.proofs.Ruled.{none_named, named}
use Rattle.sm_events.proofs.policies.decide_rule.Goals as goal

pub returns-in_ok-copy-in-None : goal.returns-in_ok-copy-in-None
returns-in_ok-copy-in-None c =
    let k = c.args.catalog.now in
    let name = c.args.name.now in
    let policies = c.deref.ensures.value ∙ ap (λ (j : Catalog). j.policies) c.catalog.view_is in
    let at : c.place_of.result ≡ position (λ (p : Policy). bytes_eq p.name name) k.policies =
    c.place_of.ensures
    ∙ ap (λ (text : List ℕ). position (λ (p : Policy). bytes_eq p.name text) c.deref.result.now) c.text.ensures.text
    ∙ ap (λ (ps : List Policy). position (λ (p : Policy). bytes_eq p.name name) ps) policies in
    let rule : Rule = record { label = c.args.label.now; keep = c.args.keep; preserve = c.args.preserve } in
    ap (λ (n : List ℕ). let d : Result Catalog Refusal = Err (refusals.NoPolicy n) in d) c.in_ok-copy-in-None.ensures ∙ sym (none_named k name rule (sym at ∙ c.in-None.is))

pub returns-in-Some : goal.returns-in-Some
returns-in-Some c =
    let k = c.args.catalog.now in
    let name = c.args.name.now in
    let policies = c.deref.ensures.value ∙ ap (λ (j : Catalog). j.policies) c.catalog.view_is in
    let at : c.place_of.result ≡ position (λ (p : Policy). bytes_eq p.name name) k.policies =
    c.place_of.ensures
    ∙ ap (λ (text : List ℕ). position (λ (p : Policy). bytes_eq p.name text) c.deref.result.now) c.text.ensures.text
    ∙ ap (λ (ps : List Policy). position (λ (p : Policy). bytes_eq p.name name) ps) policies in
    let rule : Rule = record { label = c.args.label.now; keep = c.args.keep; preserve = c.args.preserve } in
    IfOk-weaker c.decide_rule_at.result _ _ (λ decided each. named k name rule c.in-Some.at (sym at ∙ c.in-Some.is) decided each) c.decide_rule_at.ensures
