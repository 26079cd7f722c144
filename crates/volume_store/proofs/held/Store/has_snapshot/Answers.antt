use Rattle.std.proofs.Common.{◌≡◌, List, sym, ◌∙◌, ap}
use Rattle.sm_root.specs.declared.root.RootSnapshot.{RootSnapshot}
use Rattle.volume_store.specs.Held.{Held}
use Rattle.volume_store.specs.Refusals.{has_snapshot}
use Rattle.volume_store.proofs.FoundLemmas.{nowhere}
use Rattle.volume_store.proofs.held.Store.has_snapshot.Goals as goal

pub returns-clause-new : goal.returns-clause-new
returns-clause-new g c = λ no s is same.
    let value : c.has_snapshot.result ≡ has_snapshot c.args.self.now.maps.root.snapshots c.args.ident =
    c.has_snapshot.ensures
    ∙ ap (λ (l : List RootSnapshot). has_snapshot l c.args.ident) (c.as_slice.ensures ∙ ap (λ r. r.snapshots) c.root.ensures.value ∙ ap (λ (h : Held _). h.maps.root.snapshots) c.self.view_is) in
    nowhere c.args.ident c.args.self.now.maps.root.snapshots (sym value ∙ no) s is same
