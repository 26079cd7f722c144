use Rattle.std.proofs.Common.{◌≡◌, ℕ, ◌+◌, ◌-◌, ◌<◌, ◌||◌, length, take, drop, ◌∙◌, subst, arith}
use Rattle.sm_bits.specs.Places.{has}
use Rattle.sm_defs.specs.Image.{stands}
use Rattle.volume_store.proofs.DifferenceLemmas.{part_number, part_marked, part_stands}
use Rattle.volume_store.proofs.marks.remark.Goals as goal

pub remark_part-requires-clause-marked : goal.remark_part-requires-clause-marked
remark_part-requires-clause-marked c = λ n some is.
    let at = c.loop-at.at in
    let k = c.min-to.result - at in
    let inside : n < length c.args.set.now = part_number (length c.args.set.now) n at k c.args.before.now c.requires.before is in
    part_stands n at k c.args.before.now c.args.map.now (has c.loop-at.set n) (c.loop-at.invariant.each n some inside) is

pub loop-at-preserved : goal.loop-at-preserved
loop-at-preserved c =
    let at = c.loop-at.at in
    let to = c.min-to.result in
    let k = to - at in
    let less : at < length c.args.map.now = c.loop-at-test.true in
    let on : at + k ≡ to = (let h = c.min-to.ensures in omega (arith, h, less)) in
    record {
      long = c.remark_part.ensures.long ∙ c.loop-at.invariant.long;
      hole = c.remark_part.ensures.hole;
      within = let h = c.min-to.ensures in omega (arith, h, less);
      each = λ n some inside.
          subst (λ (m : ℕ). has c.remark_part.new.set n ≡ (stands n (take m c.args.map.now) || stands n (drop m c.args.before.now))) on
          (part_marked c.args.before.now c.args.map.now c.requires.place at k n some (has c.loop-at.set n) (has c.remark_part.new.set n)
          (c.loop-at.invariant.each n some inside) (c.remark_part.ensures.each n some));
    }
