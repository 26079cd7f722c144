use Rattle.std.proofs.Common.{◌≡◌, ◌∷◌, [], ◌∙◌, true, false, Err, ap, append_assoc}
use Rattle.sm_base.specs.Name.{is_path}
use Rattle.sm_catroot.specs.Layout.{joined}
use Rattle.sm_catroot.proofs.PathSpelled.{joined_is_path}
use Rattle.sm_catroot.proofs.paths.join.Goals as goal

pub unreachable-requires : goal.unreachable-requires
unreachable-requires c =
    let a = c.args.first.now in
    let b = c.args.second.now in
    let whole : c.deref.result.now ≡ joined a b =
    c.deref.ensures.value ∙ c.in_ok-extend_from_slice.ensures.items ∙ rw (c.in_ok-push.ensures.items, c.in_ok-text.ensures.items, c.text.ensures.text, c.text-2.ensures.text) (append_assoc a (58 ∷ []) b) in
    let good : is_path c.deref.result.now ≡ true = ap is_path whole ∙ joined_is_path a b c.text.ensures.grammar c.text-2.ensures.grammar in
    let bad : is_path c.deref.result.now ≡ false = c.read.ensures.bad (c.in-Err-BadName.is ∙ ap Err c.in-Err-BadName.field-0-is) in
    absurd cc
