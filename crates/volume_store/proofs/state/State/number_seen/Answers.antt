use Rattle.std.proofs.Common.{◌≡◌, ◌≤◌, ℕ, List, get_or, Some, inr, sym, ◌∙◌, ap, subst, arith}
use Rattle.std.specs.Option.{option_map}
use Rattle.sm_root.specs.Condition.{map_of}
use Rattle.std.specs.List.{find}
use Rattle.sm_defs.specs.Words.{Among, same_ident}
use Rattle.sm_defs.proofs.Members.{among_map}
use Rattle.volume_store.specs.Maps.{Maps}
use Rattle.volume_store.specs.Refusals.{map_seen}
use Rattle.volume_store.proofs.FoundLemmas.{if_ok_more}
use Rattle.volume_store.proofs.state.State.number_seen.Goals as goal

pub returns-in-Some-clause-seen : goal.returns-in-Some-clause-seen
returns-in-Some-clause-seen c =
    let numbers = c.in-Some.snapshot.now.map in
    let found : map_seen c.args.self.now c.args.view ≡ Some numbers =
    ap (map_seen c.args.self.now) c.in-Of.is ∙ ap (option_map map_of) (ap (λ xs. find (λ t. same_ident t.ident c.in-Of.ident) xs) (sym (c.as_slice.ensures ∙ ap (λ (m : Maps). m.root.snapshots) c.self.view_is)) ∙ c.in-Some.ensures.some) in
    if_ok_more c.number_in-in-Some.result (λ n. n ≡ get_or c.as_slice-in-Some.result.now c.args.at 0) (λ n. (x : List ℕ) × (map_seen c.args.self.now c.args.view ≡ Some x) × (n ≡ get_or x c.args.at 0))
    (λ n is. (numbers, found, is ∙ ap (λ xs. get_or xs c.args.at 0) c.as_slice-in-Some.ensures)) c.number_in-in-Some.ensures.ok

pub returns-in-Some-clause-within : goal.returns-in-Some-clause-within
returns-in-Some-clause-within c =
    let root = c.self.inside.root in
    let numbers = c.in-Some.snapshot.now.map in
    let one : Among root.snapshots c.in-Some.snapshot.now = subst (λ xs. Among xs c.in-Some.snapshot.now) c.as_slice.ensures c.in-Some.ensures.among in
    let fits : get_or numbers c.args.at 0 ≤ root.physical = c.self.invariant.maps.within numbers (inr (inr (among_map map_of root.snapshots c.in-Some.snapshot.now one))) c.args.at in
    let fits_view : get_or numbers c.args.at 0 ≤ c.args.self.now.root.physical = subst (λ (m : Maps). get_or numbers c.args.at 0 ≤ m.root.physical) c.self.view_is fits in
    if_ok_more c.number_in-in-Some.result (λ n. n ≡ get_or c.as_slice-in-Some.result.now c.args.at 0) (λ n. n ≤ c.args.self.now.root.physical)
    (λ n is. let e : n ≡ get_or numbers c.args.at 0 = is ∙ ap (λ xs. get_or xs c.args.at 0) c.as_slice-in-Some.ensures in omega (arith, e, fits_view)) c.number_in-in-Some.ensures.ok
