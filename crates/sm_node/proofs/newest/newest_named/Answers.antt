use Rattle.std.proofs.Common.{ℕ, List, map, reverse, ap, ◌∙◌}
use Rattle.std.specs.Prelude.{option_map}
use Rattle.std.specs.List.{find}
use Rattle.std.specs.Str.{bytes_eq}
use Rattle.sm_root.specs.declared.root.Root.{Root}
use Rattle.sm_root.specs.declared.root.RootSnapshot.{RootSnapshot}
use Rattle.sm_root.specs.Condition as roots
use Rattle.sm_volume.specs.Seen.{kept_snapshot}
use Rattle.sm_defs.proofs.Searches.{newest_is}
use Rattle.sm_node.proofs.NewestLemmas.{newest_kept}
use Rattle.sm_node.proofs.newest.newest_named.Goals as goal

pub returns : goal.returns
returns c = λ number v e.
    let text = c.text.result.now in
    let name = c.args.name.now in
    c.ident_in.ensures
    ∙ ap (λ (xs : List RootSnapshot). option_map roots.ident_of (find (λ (s : RootSnapshot). bytes_eq s.name text) (reverse xs))) (c.as_slice.ensures ∙ ap (λ (r : Root). r.snapshots) e)
    ∙ ap (λ (n : List ℕ). option_map roots.ident_of (find (λ (s : RootSnapshot). bytes_eq s.name n) (reverse (map kept_snapshot v.snapshots)))) c.text.ensures.text
    ∙ ap (option_map roots.ident_of) (newest_is (λ (s : RootSnapshot). bytes_eq s.name name) (map kept_snapshot v.snapshots))
    ∙ newest_kept (λ n. bytes_eq n name) v.snapshots
