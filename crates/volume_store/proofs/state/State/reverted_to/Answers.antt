use Rattle.std.proofs.Common.{◌≡◌, Bool, List, take, cond, Some, sym, ◌∙◌, ap, subst}
use Rattle.std.specs.List.{find}
use Rattle.sm_defs.specs.Words.{same_ident, up_to}
use Rattle.sm_root.specs.declared.root.RootSnapshot.{RootSnapshot}
use Rattle.volume_store.specs.Maps.{Maps}
use Rattle.volume_store.specs.Next.{reverted}
use Rattle.volume_store.proofs.state.State.reverted_to.Goals as goal

pub returns-clause-ok : goal.returns-clause-ok
returns-clause-ok c =
    let m = c.args.self.now in
    let p : RootSnapshot → Bool = λ t. same_ident t.ident c.args.ident in
    let s = c.in-Some.found.now in
    let first : c.as_slice.result.now ≡ m.root.snapshots = c.as_slice.ensures ∙ ap (λ (w : Maps). w.root.snapshots) c.self.view_is in
    let second : c.as_slice-2.result.now ≡ m.root.snapshots = c.as_slice-2.ensures ∙ ap (λ (w : Maps). w.root.snapshots) c.self.view_is in
    let found : find p m.root.snapshots ≡ Some s = ap (find p) (sym first) ∙ c.in-Some.ensures.some in
    let list : take c.count_kept-count.result m.root.snapshots ≡ cond c.args.drop_newer (up_to p m.root.snapshots) m.root.snapshots =
    subst (λ (xs : List RootSnapshot). take c.count_kept-count.result xs ≡ cond c.args.drop_newer (up_to p xs) xs) second c.count_kept-count.ensures in (
      s,
      found,
      c.in_ok-reverted.ensures ∙ ap (λ (t : RootSnapshot). reverted m t.map c.args.family (take c.count_kept-count.result m.root.snapshots)) c.in_ok-snapshot-in-Some.ensures
          ∙ ap (reverted m s.map c.args.family) list,
    )
