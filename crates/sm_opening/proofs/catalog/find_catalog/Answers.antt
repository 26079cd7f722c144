use Rattle.std.proofs.Common.{◌<◌, length, get_or, Err, sym, subst, ◌∙◌, arith}
use Rattle.std.proofs.lemmas.Bool.{eqb-true}
use Rattle.std.proofs.lemmas.Bool.Decides.{nat_tests}
use Rattle.std.proofs.lemmas.List.{nil_from_length}
use Rattle.std.proofs.lemmas.Option.{slice_get-get_or}
use Rattle.sm_register.specs.Opened.{FoundValue}
use Rattle.sm_catroot.specs.Catalog.{Catalog}
use Rattle.sm_opening.specs.declared.fault.OpenFault.{OpenFault}
use Rattle.sm_opening.specs.OnDisk.{IsCatalogDamage}
use Rattle.sm_opening.specs.Looked.{disks_of, Looks, Fails}
use Rattle.sm_opening.proofs.CatalogLooks.{none_on, short_on, whole_fails, no_disk, short_disk, found_looks, fault_looks, catalog_read}
use Rattle.sm_opening.proofs.catalog.find_catalog.Goals as goal

pub returns-then-is_empty-clause-looks : goal.returns-then-is_empty-clause-looks
returns-then-is_empty-clause-looks g c = no_disk g.D.Disk.state c.args.disks.now (nil_from_length c.args.disks.now (eqb-true _ _ (sym c.is_empty.ensures ∙ c.if-is_empty.true)))

pub returns-then-len-lt-SLOTS_END-clause-looks : goal.returns-then-len-lt-SLOTS_END-clause-looks
returns-then-len-lt-SLOTS_END-clause-looks g c =
    let some : 0 < length c.args.disks.now = (let e = sym c.is_empty.ensures ∙ c.if-is_empty.false in grind (arith, nat_tests)) in
    short_disk g.D.Disk.state c.args.disks.now (get_or c.args.disks.now 0 c.index-disks-0.result) (slice_get-get_or c.args.disks.now 0 c.index-disks-0.result some)
    (subst (λ n. n < 8916992) c.len.ensures c.if-len-lt-SLOTS_END.true)

pub returns-in-Ok-clause-looks : goal.returns-in-Ok-clause-looks
returns-in-Ok-clause-looks g c = found_looks g.D.Disk.state c.args.disks.now c.find_at.result c.find_at.new.disks c.find_at.ensures c.in-Ok.found c.in-Ok.is

pub returns-in-Ok-clause-catalog : goal.returns-in-Ok-clause-catalog
returns-in-Ok-clause-catalog g c = catalog_read g.D.Disk.state c.args.disks.now c.find_at.result c.find_at.new.disks c.find_at.ensures c.in-Ok.found c.in-Ok.is

pub returns-in-Err-clause-looks : goal.returns-in-Err-clause-looks
returns-in-Err-clause-looks g c =
    subst (λ (e : OpenFault). Looks {A = FoundValue Catalog} g.D.Disk.state (IsCatalogDamage (disks_of g.D.Disk.state c.args.disks.now)) c.args.disks.now c.find_at.new.disks (Err e)) (sym c.fault_of.ensures)
    (fault_looks g.D.Disk.state c.args.disks.now c.find_at.result c.find_at.new.disks c.find_at.ensures c.in-Err.fault c.in-Err.is)

pub returns-then-is_empty-clause-whole : goal.returns-then-is_empty-clause-whole
returns-then-is_empty-clause-whole g c = λ told k on. absurd (none_on g.D.Disk.state c.args.disks.now (nil_from_length c.args.disks.now (eqb-true _ _ (sym c.is_empty.ensures ∙ c.if-is_empty.true))) k on)

pub returns-then-len-lt-SLOTS_END-clause-whole : goal.returns-then-len-lt-SLOTS_END-clause-whole
returns-then-len-lt-SLOTS_END-clause-whole g c =
    let some : 0 < length c.args.disks.now = (let e = sym c.is_empty.ensures ∙ c.if-is_empty.false in grind (arith, nat_tests)) in
    λ told k on. absurd (short_on g.D.Disk.state c.args.disks.now (get_or c.args.disks.now 0 c.index-disks-0.result) (slice_get-get_or c.args.disks.now 0 c.index-disks-0.result some)
    (subst (λ n. n < 8916992) c.len.ensures c.if-len-lt-SLOTS_END.true) k on)

pub returns-in-Err-clause-whole : goal.returns-in-Err-clause-whole
returns-in-Err-clause-whole g c = λ told k on.
    subst Fails (sym c.fault_of.ensures) (whole_fails g.D.Disk.state c.args.disks.now c.find_at.result c.find_at.new.disks c.find_at.ensures c.in-Err.fault c.in-Err.is told k on)
