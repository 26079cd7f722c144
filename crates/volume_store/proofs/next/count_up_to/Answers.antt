use Rattle.std.proofs.Common.{Some, None, sym, ◌∙◌}
use Rattle.sm_defs.specs.Words.{same_ident}
use Rattle.sm_root.specs.declared.root.RootSnapshot.{RootSnapshot}
use Rattle.volume_store.proofs.FoundLemmas.{kept_to}
use Rattle.volume_store.proofs.next.count_up_to.Goals as goal

pub returns-in-Some : goal.returns-in-Some
returns-in-Some c = kept_to (λ (t : RootSnapshot). same_ident t.ident c.args.ident) c.args.snapshots.now (Some c.in-Some.at) (sym c.in-Some.is ∙ c.place_of.ensures)

pub returns-in-None : goal.returns-in-None
returns-in-None c = kept_to (λ (t : RootSnapshot). same_ident t.ident c.args.ident) c.args.snapshots.now None (sym c.in-None.is ∙ c.place_of.ensures)
