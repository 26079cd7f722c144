use Rattle.std.proofs.Common.{IsTrue, take, sym, ap, ◌∙◌, subst, arith}
use Rattle.std.proofs.lemmas.List.{take_all}
use Rattle.sha2.specs.Hashers.{Holds256}
use Rattle.sm_defs.specs.Image.{Image, image_bytes}
use Rattle.sm_root.specs.declared.root.Root.{Root}
use Rattle.sm_volume.specs.Mounted.{Mounted}
use Rattle.sm_volume.specs.Refusals.{image_seen}
use Rattle.sm_node.proofs.DigestLemmas.{looked_more, image_long, hashed_more}
use Rattle.sm_node.proofs.digesting.digest_of.Goals as goal

pub loop-at-preserved : goal.loop-at-preserved
loop-at-preserved g c = record {
  looked = looked_more g.D.Disk.state c.args.volume.now c.loop-at.volume c.read.new.self c.loop-at.invariant.looked c.in-Ok.ensures.ok c.read.ensures.quiet c.read.ensures.time;
  holds = λ told image is.
      let looked = c.loop-at.invariant.looked in
      let read = c.in-Ok.ensures.bytes (subst IsTrue (sym looked.goes.told) told) in
      let long = image_long g.D.Disk.state c.args.volume.now c.args.view image c.told.ensures is in
      let blocks = ap (λ (r : Root). r.logical) c.root.ensures in
      let same = ap (λ (m : Mounted _). m.volume) looked.same in
      hashed_more image read.0 (image_seen c.args.volume.now.volume c.args.view) c.loop-at.at _ c.update.new.self c.read.new.into.0 (omega arith) (omega (arith, c.loop-at-test.true, blocks, long)) is
      (ap (λ v. image_seen v c.args.view) (sym same) ∙ read.1) read.2
      (c.update.ensures (image_bytes (take c.loop-at.at image)) (c.loop-at.invariant.holds told image is));
}

pub returns-clause-digest : goal.returns-clause-digest
returns-clause-digest g c = λ told image is.
    let long = image_long g.D.Disk.state c.args.volume.now c.args.view image c.told.ensures is in
    let blocks = ap (λ (r : Root). r.logical) c.root.ensures in
    let all = take_all c.loop-at.at image (omega (arith, c.loop-at-test.false, blocks, long)) in
    c.finalize.ensures (image_bytes image) (subst (λ (x : Image). Holds256 c.loop-at.hasher (image_bytes x)) all (c.loop-at.invariant.holds told image is))
