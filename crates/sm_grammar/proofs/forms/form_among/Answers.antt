use Rattle.std.proofs.Common.{sym, ap, ◌∙◌, refl}
use Rattle.std.specs.Option.{option_map}
use Rattle.sm_grammar.specs.declared.table.Form.TheVariants.{VolumeCreate}
use Rattle.sm_grammar.specs.Words.{words_of, words_left}
use Rattle.sm_grammar.specs.Forms.{behind}
use Rattle.sm_grammar.proofs.FormLemmas.{form_found, form_passed, no_form}
use Rattle.sm_grammar.proofs.forms.form_among.Goals as goal

pub loop-form-init : goal.loop-form-init
loop-form-init c = refl

pub returns-in-Some : goal.returns-in-Some
returns-in-Some c =
    let e = c.of.ensures.words ∙ ap words_of c.text.ensures in
    let b = ap (λ w. behind w (words_left c.args.words)) (sym e) ∙ sym c.behind.ensures ∙ ap (option_map words_left) c.in-Some.is in
    sym (form_found c.args.forms.now c.loop-form.form-index VolumeCreate (words_left c.args.words) (words_left c.in-Some.rest) c.loop-form-test.true b) ∙ c.loop-form.invariant

pub loop-form-preserved : goal.loop-form-preserved
loop-form-preserved c =
    let e = c.of.ensures.words ∙ ap words_of c.text.ensures in
    let b = ap (λ w. behind w (words_left c.args.words)) (sym e) ∙ sym c.behind.ensures ∙ ap (option_map words_left) c.in_default.is in
    sym (form_passed c.args.forms.now c.loop-form.form-index VolumeCreate (words_left c.args.words) c.loop-form-test.true b) ∙ c.loop-form.invariant

pub returns : goal.returns
returns c = sym (no_form c.loop-form.form-index c.args.forms.now (words_left c.args.words) c.loop-form-test.false) ∙ c.loop-form.invariant
