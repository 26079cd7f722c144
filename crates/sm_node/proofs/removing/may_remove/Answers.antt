use Rattle.std.proofs.Common.{sym, ap, ◌∙◌, Err}
use Rattle.std.proofs.lemmas.Option.{get_or_from_slice_get}
use Rattle.sm_defs.specs.Volume.{is_rw}
use Rattle.sm_base.specs.declared.refusal.Refusal.TheVariants as refusals
use Rattle.sm_root.specs.declared.root.Root.{Root}
use Rattle.sm_volume.specs.Seen.{root_of}
use Rattle.sm_node.specs.Seats.{Seated}
use Rattle.sm_node.specs.Nodes.{placed, world_with}
use Rattle.sm_node.proofs.SnapMatching.{removal_none, removal_read_only, removal_free, removal_held}
use Rattle.sm_node.proofs.removing.may_remove.Goals as goal

pub returns-in_ok-copy-in-None : goal.returns-in_ok-copy-in-None
returns-in_ok-copy-in-None g c = λ lengths p s there.
    let seat = c.seat.view_is ∙ c.index-seats-at.is ∙ get_or_from_slice_get c.args.seats.now c.args.at.0 s c.index-seats-at.result there in
    let root = c.root-root.ensures ∙ ap (λ (x : Seated _). root_of x.volume.number x.volume.volume) seat in
    let named = sym (c.newest_named.ensures s.volume.number s.volume.volume root) in
    ap (λ name. Err (refusals.NoSnapshot name)) c.in_ok-copy-in-None.ensures ∙ removal_none (world_with c.args.catalog.now c.args.seats.now lengths) c.args.at.0 (placed p s.volume) c.args.name.now (named ∙ c.in-None.is)

pub returns-then-not-is_writable : goal.returns-then-not-is_writable
returns-then-not-is_writable g c = λ lengths p s there.
    let seat = c.seat.view_is ∙ c.index-seats-at.is ∙ get_or_from_slice_get c.args.seats.now c.args.at.0 s c.index-seats-at.result there in
    let root = c.root-root.ensures ∙ ap (λ (x : Seated _). root_of x.volume.number x.volume.volume) seat in
    let named = sym (c.newest_named.ensures s.volume.number s.volume.volume root) in
    let writable = sym (c.is_writable.ensures ∙ ap (λ (r : Root). is_rw r.kind) root) in
    removal_read_only (world_with c.args.catalog.now c.args.seats.now lengths) c.args.at.0 (placed p s.volume) c.args.name.now c.in-Some.ident (named ∙ c.in-Some.is) (writable ∙ c.if-not-is_writable.true)

pub returns-in-None-2 : goal.returns-in-None-2
returns-in-None-2 g c = λ lengths p s there.
    let seat = c.seat.view_is ∙ c.index-seats-at.is ∙ get_or_from_slice_get c.args.seats.now c.args.at.0 s c.index-seats-at.result there in
    let root = c.root-root.ensures ∙ ap (λ (x : Seated _). root_of x.volume.number x.volume.volume) seat in
    let named = sym (c.newest_named.ensures s.volume.number s.volume.volume root) in
    let writable = sym (c.is_writable.ensures ∙ ap (λ (r : Root). is_rw r.kind) root) in
    removal_free (world_with c.args.catalog.now c.args.seats.now lengths) c.args.at.0 (placed p s.volume) c.args.name.now c.in-Some.ident (named ∙ c.in-Some.is) (writable ∙ c.if-not-is_writable.false) (sym (c.in_ok-holder-in-Some.ensures lengths) ∙ c.in-None-2.is)

pub returns-in-Some-2 : goal.returns-in-Some-2
returns-in-Some-2 g c = λ lengths p s there.
    let seat = c.seat.view_is ∙ c.index-seats-at.is ∙ get_or_from_slice_get c.args.seats.now c.args.at.0 s c.index-seats-at.result there in
    let root = c.root-root.ensures ∙ ap (λ (x : Seated _). root_of x.volume.number x.volume.volume) seat in
    let named = sym (c.newest_named.ensures s.volume.number s.volume.volume root) in
    let writable = sym (c.is_writable.ensures ∙ ap (λ (r : Root). is_rw r.kind) root) in
    removal_held (world_with c.args.catalog.now c.args.seats.now lengths) c.args.at.0 (placed p s.volume) c.args.name.now c.in-Some.ident (named ∙ c.in-Some.is) c.in-Some-2.relation (writable ∙ c.if-not-is_writable.false) (sym (c.in_ok-holder-in-Some.ensures lengths) ∙ c.in-Some-2.is)
