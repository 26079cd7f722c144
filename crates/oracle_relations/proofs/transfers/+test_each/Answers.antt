use Rattle.std.proofs.Common.{◌≡◌, Err, ap, ◌∙◌, arith}
use Rattle.std.specs.List.{find}
use Rattle.std.specs.Option.{option_map}
use Rattle.sm_base.specs.declared.numbers.Ident.{Ident}
use Rattle.sm_base.specs.declared.refusal.Refusal.TheVariants as refusals
use Rattle.sm_defs.specs.Volume.{Snapshot}
use Rattle.sm_model.specs.OfTransfers.{needed_otherwise}
use Rattle.oracle_world.specs.Finding.{number_of}
use Rattle.oracle_relations.proofs.Holding.{none_held, held_first}
use Rattle.oracle_relations.proofs.transfers.+test_each.Goals as goal

pub returns-in-empty : goal.returns-in-empty
returns-in-empty t c = none_held (λ (i : Ident). find (needed_otherwise c.args.world.now c.args.relation.now.destination i c.args.relation.now) c.args.world.now.relations) c.args.snapshots.now (omega arith)

pub returns-in-Some : goal.returns-in-Some
returns-in-Some t c =
    let same : c.snapshot.inside.ident ≡ c.snapshot-item.result.ident = ap (λ (s : Snapshot). s.ident) c.snapshot.view_is in
    ap (λ (i : Ident). Err (refusals.HeldDownstream i c.in-Some.holder)) same ∙
    held_first (λ (i : Ident). find (needed_otherwise c.args.world.now c.args.relation.now.destination i c.args.relation.now) c.args.world.now.relations) c.args.snapshots.now c.snapshot-item.result c.in-Some.holder
    c.in-len1-up.len_at_least c.snapshot-item.is
    (c.in-Some.ensures ∙ ap (λ (i : Ident). option_map number_of (find (needed_otherwise c.args.world.now c.args.relation.now.destination i c.args.relation.now) c.args.world.now.relations)) same)
