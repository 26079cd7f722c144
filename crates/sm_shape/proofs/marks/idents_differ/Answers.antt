use Rattle.std.proofs.Common.{◌≡◌, ◌∷◌, ◌++◌, [], Bool, true, false, cond, not, ◌+◌, take, get_or, sym, ap, subst, ◌∙◌, refl}
use Rattle.std.proofs.lemmas.List.{take_more, take_all}
use Rattle.std.specs.HashSet.{contains}
use Rattle.sm_base.specs.declared.numbers.Ident.{Ident}
use Rattle.sm_defs.specs.Words.{has_ident, same_ident, KeysDiffer}
use Rattle.sm_shape.proofs.Tests.{answered_no, answered_yes}
use Rattle.sm_shape.proofs.Idents.{self, known_push, push_differ, not_again, among_known}
use Rattle.sm_shape.proofs.marks.idents_differ.Goals as goal

abbrev no_ident : Ident
no_ident = record { origin = 0; seq = 0 }

pub returns-then-not-branch : goal.returns-then-not-branch
returns-then-not-branch c =
    let is = c.args.idents.now in
    let k = c.loop-ident.ident-index in
    let known : contains same_ident c.loop-ident.known (get_or is k no_ident) ≡ true = not_false _ (sym c.in_ok-insert.ensures.added ∙ c.if-not-branch.true) in
    let before : has_ident (take k is) (get_or is k no_ident) ≡ true = sym (c.loop-ident.invariant.knows (get_or is k no_ident)) ∙ known in
    answered_no (λ differ. not_again is k no_ident c.loop-ident-test.true differ (among_known (take k is) (get_or is k no_ident) before))
  where
    not_false : (b : Bool) → not b ≡ false → b ≡ true
    not_false true e = refl
    not_false false e = absurd cc

pub loop-ident-preserved : goal.loop-ident-preserved
loop-ident-preserved c =
    let is = c.args.idents.now in
    let k = c.loop-ident.ident-index in
    let i = get_or is k no_ident in
    let more : take (k + 1) is ≡ take k is ++ i ∷ [] = take_more is k no_ident c.loop-ident-test.true in
    let known : contains same_ident c.loop-ident.known i ≡ false = not_true _ (sym c.in_ok-insert.ensures.added ∙ c.if-not-branch.false) in
    record {
      knows = λ q. c.in_ok-insert.ensures.updates.0 q ∙ ap (cond (same_ident i q) true) (c.loop-ident.invariant.knows q) ∙ sym (ap (λ l. has_ident l q) more ∙ known_push (take k is) i q);
      differ = subst (KeysDiffer self) (sym more) (push_differ (take k is) i c.loop-ident.invariant.differ (sym (c.loop-ident.invariant.knows i) ∙ known));
    }
  where
    not_true : (b : Bool) → not b ≡ true → b ≡ false
    not_true true e = absurd cc
    not_true false e = refl

pub returns : goal.returns
returns c =
    let all : take c.loop-ident.ident-index c.args.idents.now ≡ c.args.idents.now = take_all c.loop-ident.ident-index c.args.idents.now c.loop-ident-test.false in
    answered_yes (subst (KeysDiffer self) all c.loop-ident.invariant.differ)
