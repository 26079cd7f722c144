use Rattle.std.proofs.Common.{◌≡◌, ◌++◌, ◌∙◌, ap, length, arith, List, ℕ}
use Rattle.std.proofs.lemmas.Result.{IfOk-weaker}
use Rattle.sm_fields.specs.Format.{bits32}
use Rattle.sm_fields.specs.Grammar.{digits}
use Rattle.sm_catroot.specs.declared.TheConstants.{MAGIC}
use Rattle.sm_catroot.specs.Spelling.{body_bytes}
use Rattle.sm_catroot.proofs.Lengths.{body_short, spelling_short}
use Rattle.sm_catroot.proofs.Few.{rules_few, legs_few}
use Rattle.sm_catroot.proofs.writing.encode.Goals as goal

pub write_body-requires-clause-rules : goal.write_body-requires-clause-rules
write_body-requires-clause-rules c = rules_few c.args.catalog.now c.requires

pub write_body-requires-clause-legs : goal.write_body-requires-clause-legs
write_body-requires-clause-legs c = legs_few c.args.catalog.now c.requires

pub framed-requires : goal.framed-requires
framed-requires c =
    let body : c.deref.result.now ≡ body_bytes c.args.catalog.now = c.deref.ensures.value ∙ c.end.ensures ∙ c.in_ok-write_body.ensures ∙ ap (λ x. x ++ body_bytes c.args.catalog.now) c.new-writer.ensures in
    omega (arith, ap length body, body_short c.args.catalog.now c.requires)

pub returns-clause-short : goal.returns-clause-short
returns-clause-short c =
    let body : c.deref.result.now ≡ body_bytes c.args.catalog.now = c.deref.ensures.value ∙ c.end.ensures ∙ c.in_ok-write_body.ensures ∙ ap (λ x. x ++ body_bytes c.args.catalog.now) c.new-writer.ensures in
    IfOk-weaker c.framed.result _ _
    (λ bytes is. omega (arith, ap length (is ∙ ap (λ (b : List ℕ). MAGIC ++ (digits bits32 (length b) ++ b)) body), spelling_short c.args.catalog.now c.requires)) c.framed.ensures
