use Rattle.std.proofs.Common.{◌≡◌, List, Some, ◌∙◌, ap}
use Rattle.std.specs.List.{find}
use Rattle.sm_defs.specs.Words.{same_ident}
use Rattle.sm_root.specs.declared.root.RootSnapshot.{RootSnapshot}
use Rattle.sm_transfer.proofs.bases.numbers_of.Goals as goal

pub returns : goal.returns
returns c = λ s e.
    let there : Some c.in-Some.snapshot.now ≡ Some s = c.in-Some.ensures ∙ ap (λ (ss : List RootSnapshot). find (λ (t : RootSnapshot). same_ident t.ident c.args.ident) ss) c.as_slice.ensures ∙ e in
    let same : c.in-Some.snapshot.now ≡ s = cc in
    c.as_slice-in-Some.ensures ∙ ap (λ (t : RootSnapshot). t.map) same
