use Rattle.std.proofs.Common.{◌≡◌, ap, sym, ◌∙◌, refl, subst, Ok, Err, List, ℕ, ◌<◌, length, Result}
use Rattle.std.proofs.lemmas.Option.{slice_get_read}
use Rattle.sm_base.specs.declared.refusal.Refusal.{Refusal}
use Rattle.sm_defs.specs.Relationship.{Policy, Rule}
use Rattle.sm_defs.specs.Rules.{with_rule}
use Rattle.sm_policy.specs.declared.adding.RuleFault.TheVariants as faults
use Rattle.sm_policy.specs.Added.{rule_refusal, Refuses}
use Rattle.sm_catroot.specs.Catalog.{Catalog}
use Rattle.sm_events.specs.Ruling.{with_policy}
use Rattle.sm_events.proofs.Ruled.{turned_in}
use Rattle.sm_events.proofs.policies.decide_rule_at.Goals as goal

pub returns-in-Ok : goal.returns-in-Ok
returns-in-Ok c = λ p there.
    let k = c.args.catalog.now in
    let copy : Catalog = record { clock = c.next.inside.clock; next_relation = c.next.inside.next_relation; next_transfer = c.next.inside.next_transfer; volumes = c.next.inside.volumes.items; policies = c.next.inside.policies.items; relations = c.next.inside.relations.items } in
    let same : copy ≡ k = c.next.view_is ∙ c.in_ok-next.ensures in
    let old = c.index_mut.result.now in
    let rule : Rule = record { label = c.args.label.now; keep = c.args.keep; preserve = c.args.preserve } in
    let within = subst (λ (j : Catalog). c.args.at < length j.policies) (sym same) c.requires in
    let here = slice_get_read copy.policies _ c.args.at old refl within c.index_mut.ensures.value in
    let refuses = subst (λ (l : List ℕ). Refuses (rule_refusal old l c.args.keep c.args.preserve) c.add_rule.result) c.in_ok-label.ensures c.add_rule.ensures.refused in
    let new : c.add_rule.new.self ≡ with_rule old rule = c.in-Ok.ensures.ok ∙ ap (λ (l : List ℕ). with_rule old (record { label = l; keep = c.args.keep; preserve = c.args.preserve })) c.in_ok-label.ensures in
    ap (λ (q : Policy). let d : Result Catalog Refusal = Ok (with_policy copy c.args.at q) in d) new
    ∙ sym (turned_in k copy same c.args.at old rule here c.add_rule.result refuses (Ok c.in-Ok.field-0) c.in-Ok.is p there)

pub returns-in-Err-WrongRule : goal.returns-in-Err-WrongRule
returns-in-Err-WrongRule c = λ p there.
    let k = c.args.catalog.now in
    let copy : Catalog = record { clock = c.next.inside.clock; next_relation = c.next.inside.next_relation; next_transfer = c.next.inside.next_transfer; volumes = c.next.inside.volumes.items; policies = c.next.inside.policies.items; relations = c.next.inside.relations.items } in
    let same : copy ≡ k = c.next.view_is ∙ c.in_ok-next.ensures in
    let old = c.index_mut.result.now in
    let rule : Rule = record { label = c.args.label.now; keep = c.args.keep; preserve = c.args.preserve } in
    let within = subst (λ (j : Catalog). c.args.at < length j.policies) (sym same) c.requires in
    let here = slice_get_read copy.policies _ c.args.at old refl within c.index_mut.ensures.value in
    let refuses = subst (λ (l : List ℕ). Refuses (rule_refusal old l c.args.keep c.args.preserve) c.add_rule.result) c.in_ok-label.ensures c.add_rule.ensures.refused in
    sym (turned_in k copy same c.args.at old rule here c.add_rule.result refuses (Err faults.WrongRule) (c.in-Err-WrongRule.is ∙ ap Err c.in-Err-WrongRule.field-0-is) p there)

pub returns-in-Err-BadKeep : goal.returns-in-Err-BadKeep
returns-in-Err-BadKeep c = λ p there.
    let k = c.args.catalog.now in
    let copy : Catalog = record { clock = c.next.inside.clock; next_relation = c.next.inside.next_relation; next_transfer = c.next.inside.next_transfer; volumes = c.next.inside.volumes.items; policies = c.next.inside.policies.items; relations = c.next.inside.relations.items } in
    let same : copy ≡ k = c.next.view_is ∙ c.in_ok-next.ensures in
    let old = c.index_mut.result.now in
    let rule : Rule = record { label = c.args.label.now; keep = c.args.keep; preserve = c.args.preserve } in
    let within = subst (λ (j : Catalog). c.args.at < length j.policies) (sym same) c.requires in
    let here = slice_get_read copy.policies _ c.args.at old refl within c.index_mut.ensures.value in
    let refuses = subst (λ (l : List ℕ). Refuses (rule_refusal old l c.args.keep c.args.preserve) c.add_rule.result) c.in_ok-label.ensures c.add_rule.ensures.refused in
    sym (turned_in k copy same c.args.at old rule here c.add_rule.result refuses (Err faults.BadKeep) (c.in-Err-BadKeep.is ∙ ap Err c.in-Err-BadKeep.field-0-is) p there)

pub returns-in-Err-RuleTaken : goal.returns-in-Err-RuleTaken
returns-in-Err-RuleTaken c = λ p there.
    let k = c.args.catalog.now in
    let copy : Catalog = record { clock = c.next.inside.clock; next_relation = c.next.inside.next_relation; next_transfer = c.next.inside.next_transfer; volumes = c.next.inside.volumes.items; policies = c.next.inside.policies.items; relations = c.next.inside.relations.items } in
    let same : copy ≡ k = c.next.view_is ∙ c.in_ok-next.ensures in
    let old = c.index_mut.result.now in
    let rule : Rule = record { label = c.args.label.now; keep = c.args.keep; preserve = c.args.preserve } in
    let within = subst (λ (j : Catalog). c.args.at < length j.policies) (sym same) c.requires in
    let here = slice_get_read copy.policies _ c.args.at old refl within c.index_mut.ensures.value in
    let refuses = subst (λ (l : List ℕ). Refuses (rule_refusal old l c.args.keep c.args.preserve) c.add_rule.result) c.in_ok-label.ensures c.add_rule.ensures.refused in
    sym (turned_in k copy same c.args.at old rule here c.add_rule.result refuses (Err faults.RuleTaken) (c.in-Err-RuleTaken.is ∙ ap Err c.in-Err-RuleTaken.field-0-is) p there)

pub returns-in-Err-RulesFull : goal.returns-in-Err-RulesFull
returns-in-Err-RulesFull c = λ p there.
    let k = c.args.catalog.now in
    let copy : Catalog = record { clock = c.next.inside.clock; next_relation = c.next.inside.next_relation; next_transfer = c.next.inside.next_transfer; volumes = c.next.inside.volumes.items; policies = c.next.inside.policies.items; relations = c.next.inside.relations.items } in
    let same : copy ≡ k = c.next.view_is ∙ c.in_ok-next.ensures in
    let old = c.index_mut.result.now in
    let rule : Rule = record { label = c.args.label.now; keep = c.args.keep; preserve = c.args.preserve } in
    let within = subst (λ (j : Catalog). c.args.at < length j.policies) (sym same) c.requires in
    let here = slice_get_read copy.policies _ c.args.at old refl within c.index_mut.ensures.value in
    let refuses = subst (λ (l : List ℕ). Refuses (rule_refusal old l c.args.keep c.args.preserve) c.add_rule.result) c.in_ok-label.ensures c.add_rule.ensures.refused in
    sym (turned_in k copy same c.args.at old rule here c.add_rule.result refuses (Err faults.RulesFull) (c.in-Err-RulesFull.is ∙ ap Err c.in-Err-RulesFull.field-0-is) p there)
