use Rattle.std.proofs.Common.{length, sym, ap, ◌∙◌}
use Rattle.std.specs.List.{filter}
use Rattle.sm_defs.specs.Needed.{needed}
use Rattle.sm_defs.specs.Volume.{idents}
use Rattle.sm_root.specs.declared.root.Root.{Root}
use Rattle.std.proofs.lemmas.List.{length-map}
use Rattle.sm_volume.specs.Seen.{kept_snapshot}
use Rattle.sm_model.specs.Due.{is_tidied}
use Rattle.sm_publish.specs.Dropping.{tidied_by}
use Rattle.sm_publish.proofs.GoingLemmas.{differ_kept, marks_tell}
use Rattle.sm_publish.proofs.tidying.tidy.Goals as goal

pub tidied-requires : goal.tidied-requires
tidied-requires g c = c.requires.places ∙ (sym (length-map c.args.source.now.volume.snapshots kept_snapshot) ∙ (ap (λ (r : Root). length r.snapshots) (sym c.root-root.ensures) ∙ sym (ap length c.as_slice.ensures)))

pub drop_all-requires-clause-there : goal.drop_all-requires-clause-there
drop_all-requires-clause-there g c =
    let v = c.args.source.now.volume in
    let (needs, told) = marks_tell c.args.needed.now v.snapshots c.requires.places (differ_kept v.snapshots c.told.ensures.good.idents_differ) in
    (tidied_by c.root-root.result.now.number.0 needs, c.deref.ensures.value ∙ c.in_ok-drops.ensures needs v.snapshots (c.as_slice.ensures ∙ ap (λ (r : Root). r.snapshots) c.root-root.ensures) told)

pub returns : goal.returns
returns g c = λ w told.
    let v = c.args.source.now.volume in
    c.drop_all.ensures (is_tidied w c.args.source.now.number.0)
    (c.deref.ensures.value ∙ (c.in_ok-drops.ensures (needed w c.args.source.now.number.0) v.snapshots (c.as_slice.ensures ∙ ap (λ (r : Root). r.snapshots) c.root-root.ensures) told
    ∙ ap (λ (r : Root). idents (filter (tidied_by r.number.0 (needed w c.args.source.now.number.0)) v.snapshots)) c.root-root.ensures))
