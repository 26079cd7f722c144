use Rattle.std.proofs.Common.{◌∙◌, List, length, drop, Err, sym, ap, subst}
use Rattle.sm_opening.specs.declared.opening.Parts.{Parts}
use Rattle.sm_opening.specs.OnDisk.{Damage, IsDamage}
use Rattle.sm_opening.specs.Looked.{disks_of, AllTold, EachMoves, IsKeptOn, IsDamageOf, AnswersDamage, IsFaultCounted}
use Rattle.sm_opening.specs.Finding.{IsCatalogFound, AreVolumesFound, LieApart}
use Rattle.sm_opening.specs.Syncing.{AllSynced}
use Rattle.sm_opening.specs.Opening.{IsReadyOn}
use Rattle.sm_opening.proofs.SeatLemmas.{back_is}
use Rattle.sm_opening.proofs.OpenLemmas.{opens_with}
use Rattle.sm_opening.proofs.opening.open.Goals as goal

pub seat-requires-clause-apart : goal.seat-requires-clause-apart
seat-requires-clause-apart g c =
    let ready = subst (λ (p : Parts _). IsReadyOn g.D.Disk.state c.deref_mut.result.now c.prepare.new.disks p.lengths.items p.records) (sym c.parts.view_is) c.in-Ok.ensures.ready in
    let back = back_is c.args.disks.len c.prepare.new.disks (drop (length c.prepare.new.disks) c.args.disks.items) (c.args.disks.ok.0 ∙ ap length (sym c.deref_mut.ensures.value) ∙ sym c.in-Ok.ensures.moves.as_long) in
    subst (λ (l : List _). LieApart (length l) c.parts.inside.0.0.catalog.value.volumes) (sym back) ready.read.apart

pub seat-requires-clause-catalog : goal.seat-requires-clause-catalog
seat-requires-clause-catalog g c =
    let ready = subst (λ (p : Parts _). IsReadyOn g.D.Disk.state c.deref_mut.result.now c.prepare.new.disks p.lengths.items p.records) (sym c.parts.view_is) c.in-Ok.ensures.ready in
    let back = back_is c.args.disks.len c.prepare.new.disks (drop (length c.prepare.new.disks) c.args.disks.items) (c.args.disks.ok.0 ∙ ap length (sym c.deref_mut.ensures.value) ∙ sym c.in-Ok.ensures.moves.as_long) in
    subst (λ (l : List _). IsCatalogFound g.D.Disk.state l c.parts.inside.0.0.catalog) (sym back) ready.read.catalog

pub seat-requires-clause-volumes : goal.seat-requires-clause-volumes
seat-requires-clause-volumes g c =
    let ready = subst (λ (p : Parts _). IsReadyOn g.D.Disk.state c.deref_mut.result.now c.prepare.new.disks p.lengths.items p.records) (sym c.parts.view_is) c.in-Ok.ensures.ready in
    let back = back_is c.args.disks.len c.prepare.new.disks (drop (length c.prepare.new.disks) c.args.disks.items) (c.args.disks.ok.0 ∙ ap length (sym c.deref_mut.ensures.value) ∙ sym c.in-Ok.ensures.moves.as_long) in
    subst (λ (l : List _). AreVolumesFound g.D.Disk.state c.parts.inside.0.0.catalog.value.volumes l c.parts.inside.0.0.founds.items) (sym back) ready.read.volumes

pub seat-requires-clause-synced : goal.seat-requires-clause-synced
seat-requires-clause-synced g c =
    let ready = subst (λ (p : Parts _). IsReadyOn g.D.Disk.state c.deref_mut.result.now c.prepare.new.disks p.lengths.items p.records) (sym c.parts.view_is) c.in-Ok.ensures.ready in
    let back = back_is c.args.disks.len c.prepare.new.disks (drop (length c.prepare.new.disks) c.args.disks.items) (c.args.disks.ok.0 ∙ ap length (sym c.deref_mut.ensures.value) ∙ sym c.in-Ok.ensures.moves.as_long) in
    subst (λ (l : List _). AllSynced g.D.Disk.state c.parts.inside.0.0.catalog.value.volumes l) (sym back) ready.synced

pub returns-in-Ok-clause-opens : goal.returns-in-Ok-clause-opens
returns-in-Ok-clause-opens g c =
    let ready = subst (λ (p : Parts _). IsReadyOn g.D.Disk.state c.deref_mut.result.now c.prepare.new.disks p.lengths.items p.records) (sym c.parts.view_is) c.in-Ok.ensures.ready in
    let back = back_is c.args.disks.len c.prepare.new.disks (drop (length c.prepare.new.disks) c.args.disks.items) (c.args.disks.ok.0 ∙ ap length (sym c.deref_mut.ensures.value) ∙ sym c.in-Ok.ensures.moves.as_long) in
    let here = c.deref_mut.ensures.value in
    opens_with g.D.Disk.state c.args.disks.items c.prepare.new.disks _ back (subst (λ (l : List _). EachMoves g.D.Disk.state IsKeptOn l c.prepare.new.disks) here c.in-Ok.ensures.moves) c.parts.inside.0.1.0.items (record { catalog = c.parts.inside.0.0.catalog; founds = c.parts.inside.0.0.founds.items })
    (subst (λ (l : List _). IsReadyOn g.D.Disk.state l c.prepare.new.disks c.parts.inside.0.1.0.items (record { catalog = c.parts.inside.0.0.catalog; founds = c.parts.inside.0.0.founds.items })) here ready) c.seat.result c.seat.ensures

pub returns-in-Ok-clause-exact : goal.returns-in-Ok-clause-exact
returns-in-Ok-clause-exact g c =
    subst (λ (l : List _). AllTold g.D.Disk.state l → (f : Damage) → IsDamage (disks_of g.D.Disk.state l) f → ⊥) c.deref_mut.ensures.value c.in-Ok.ensures.exact

pub returns-in-Err-clause-counted : goal.returns-in-Err-clause-counted
returns-in-Err-clause-counted g c =
    let back = back_is c.args.disks.len c.prepare.new.disks (drop (length c.prepare.new.disks) c.args.disks.items) (c.args.disks.ok.0 ∙ ap length (sym c.deref_mut.ensures.value) ∙ sym c.in-Err.ensures.moves.as_long) in
    subst (λ (l : List _). IsFaultCounted g.D.Disk.state c.args.disks.items l c.in-Err.fault) (sym back)
    (subst (λ (l : List _). IsFaultCounted g.D.Disk.state l c.prepare.new.disks c.in-Err.fault) c.deref_mut.ensures.value c.in-Err.ensures.counted)

pub returns-in-Err-clause-faults : goal.returns-in-Err-clause-faults
returns-in-Err-clause-faults g c =
    subst (λ (l : List _). AllTold g.D.Disk.state l → IsDamageOf (IsDamage (disks_of g.D.Disk.state l)) c.in-Err.fault) c.deref_mut.ensures.value c.in-Err.ensures.faults

pub returns-in-Err-clause-exact : goal.returns-in-Err-clause-exact
returns-in-Err-clause-exact g c =
    subst (λ (l : List _). AllTold g.D.Disk.state l → (f : Damage) → IsDamage (disks_of g.D.Disk.state l) f → AnswersDamage {A = Unit {0}} f (Err c.in-Err.fault)) c.deref_mut.ensures.value c.in-Err.ensures.exact
