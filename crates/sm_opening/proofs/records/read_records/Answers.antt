use Rattle.std.proofs.Common.{[], List, length, map, Ok, Err, ap, subst, ◌∙◌}
use Rattle.sm_root.specs.declared.root.Root.{Root}
use Rattle.sm_catroot.specs.declared.placed.Placed.{Placed}
use Rattle.sm_catroot.specs.Catalog.{Catalog}
use Rattle.sm_opening.specs.OnDisk.{AreVolumesOn, IsFirstDamage}
use Rattle.sm_opening.specs.Looked.{disks_of, AllTold, Looks, Fails}
use Rattle.sm_opening.specs.Finding.{AreVolumesFound, LieApart, root_of}
use Rattle.sm_opening.proofs.RecordsRead.{no_catalog, no_volumes, none_whole, all_records, records_found, records_read}
use Rattle.sm_opening.proofs.records.read_records.Goals as goal

pub returns-in-Err-clause-looks : goal.returns-in-Err-clause-looks
returns-in-Err-clause-looks g c = no_catalog g.D.Disk.state c.args.disks.now c.find_catalog.new.disks c.in-Err.fault c.in-Err.ensures.looks c.in-Err.ensures.whole

pub returns-in-Err-clause-whole : goal.returns-in-Err-clause-whole
returns-in-Err-clause-whole g c = λ told k rs read. c.in-Err.ensures.whole told k read.catalog

pub returns-in-Ok-find_volumes-clause-looks : goal.returns-in-Ok-find_volumes-clause-looks
returns-in-Ok-find_volumes-clause-looks g c =
    all_records g.D.Disk.state c.args.disks.now c.find_catalog.new.disks c.in-Ok.catalog c.in-Ok.ensures.looks c.in-Ok.ensures.catalog c.find_volumes.new.disks c.in-Ok-find_volumes.founds
    (subst (λ (ps : List Placed). Looks g.D.Disk.state (IsFirstDamage (disks_of g.D.Disk.state c.find_catalog.new.disks) [] 0 ps) c.find_catalog.new.disks c.find_volumes.new.disks (Ok c.in-Ok-find_volumes.founds)) (c.volumes_of.ensures ∙ ap (λ (k : Catalog). k.volumes) c.value.ensures) c.in-Ok-find_volumes.ensures.looks) _

pub returns-in-Ok-find_volumes-clause-found : goal.returns-in-Ok-find_volumes-clause-found
returns-in-Ok-find_volumes-clause-found g c =
    records_found g.D.Disk.state c.args.disks.now c.find_catalog.new.disks c.in-Ok.catalog c.in-Ok.ensures.looks c.in-Ok.ensures.catalog c.find_volumes.new.disks c.in-Ok-find_volumes.founds
    (subst (λ (ps : List Placed). Looks g.D.Disk.state (IsFirstDamage (disks_of g.D.Disk.state c.find_catalog.new.disks) [] 0 ps) c.find_catalog.new.disks c.find_volumes.new.disks (Ok c.in-Ok-find_volumes.founds)) (c.volumes_of.ensures ∙ ap (λ (k : Catalog). k.volumes) c.value.ensures) c.in-Ok-find_volumes.ensures.looks)
    c.in-Ok-find_volumes.founds.items c.in-Ok.ensures.found
    (subst (λ (ps : List Placed). LieApart (length c.find_catalog.new.disks) ps) (c.volumes_of.ensures ∙ ap (λ (k : Catalog). k.volumes) c.value.ensures) c.in-Ok-find_volumes.ensures.apart)
    (subst (λ (ps : List Placed). AreVolumesFound g.D.Disk.state ps c.find_volumes.new.disks c.in-Ok-find_volumes.founds.items) (c.volumes_of.ensures ∙ ap (λ (k : Catalog). k.volumes) c.value.ensures) c.in-Ok-find_volumes.ensures.found)

pub returns-in-Ok-find_volumes-clause-read : goal.returns-in-Ok-find_volumes-clause-read
returns-in-Ok-find_volumes-clause-read g c =
    records_read g.D.Disk.state c.args.disks.now c.find_catalog.new.disks c.in-Ok.catalog c.in-Ok.ensures.looks c.in-Ok.ensures.catalog c.find_volumes.new.disks c.in-Ok-find_volumes.founds
    (subst (λ (ps : List Placed). Looks g.D.Disk.state (IsFirstDamage (disks_of g.D.Disk.state c.find_catalog.new.disks) [] 0 ps) c.find_catalog.new.disks c.find_volumes.new.disks (Ok c.in-Ok-find_volumes.founds)) (c.volumes_of.ensures ∙ ap (λ (k : Catalog). k.volumes) c.value.ensures) c.in-Ok-find_volumes.ensures.looks)
    c.in-Ok-find_volumes.founds.items
    (subst (λ (ps : List Placed). AllTold g.D.Disk.state c.find_catalog.new.disks → AreVolumesOn (disks_of g.D.Disk.state c.find_catalog.new.disks) [] 0 ps (map root_of c.in-Ok-find_volumes.founds.items)) (c.volumes_of.ensures ∙ ap (λ (k : Catalog). k.volumes) c.value.ensures) c.in-Ok-find_volumes.ensures.volumes)

pub returns-in-Err-find_volumes-clause-looks : goal.returns-in-Err-find_volumes-clause-looks
returns-in-Err-find_volumes-clause-looks g c =
    no_volumes g.D.Disk.state c.args.disks.now c.find_catalog.new.disks c.in-Ok.catalog c.in-Ok.ensures.looks c.in-Ok.ensures.catalog c.find_volumes.new.disks c.in-Err-find_volumes.fault
    (subst (λ (ps : List Placed). Looks g.D.Disk.state (IsFirstDamage (disks_of g.D.Disk.state c.find_catalog.new.disks) [] 0 ps) c.find_catalog.new.disks c.find_volumes.new.disks (Err c.in-Err-find_volumes.fault)) (c.volumes_of.ensures ∙ ap (λ (k : Catalog). k.volumes) c.value.ensures) c.in-Err-find_volumes.ensures.looks)
    (subst (λ (ps : List Placed). AllTold g.D.Disk.state c.find_catalog.new.disks → (rs : List Root) → AreVolumesOn (disks_of g.D.Disk.state c.find_catalog.new.disks) [] 0 ps rs → Fails c.in-Err-find_volumes.fault) (c.volumes_of.ensures ∙ ap (λ (k : Catalog). k.volumes) c.value.ensures) c.in-Err-find_volumes.ensures.whole)

pub returns-in-Err-find_volumes-clause-whole : goal.returns-in-Err-find_volumes-clause-whole
returns-in-Err-find_volumes-clause-whole g c =
    none_whole g.D.Disk.state c.args.disks.now c.find_catalog.new.disks c.in-Ok.catalog c.in-Ok.ensures.looks c.in-Ok.ensures.catalog c.find_volumes.new.disks c.in-Err-find_volumes.fault
    (subst (λ (ps : List Placed). Looks g.D.Disk.state (IsFirstDamage (disks_of g.D.Disk.state c.find_catalog.new.disks) [] 0 ps) c.find_catalog.new.disks c.find_volumes.new.disks (Err c.in-Err-find_volumes.fault)) (c.volumes_of.ensures ∙ ap (λ (k : Catalog). k.volumes) c.value.ensures) c.in-Err-find_volumes.ensures.looks)
    (subst (λ (ps : List Placed). AllTold g.D.Disk.state c.find_catalog.new.disks → (rs : List Root) → AreVolumesOn (disks_of g.D.Disk.state c.find_catalog.new.disks) [] 0 ps rs → Fails c.in-Err-find_volumes.fault) (c.volumes_of.ensures ∙ ap (λ (k : Catalog). k.volumes) c.value.ensures) c.in-Err-find_volumes.ensures.whole)
