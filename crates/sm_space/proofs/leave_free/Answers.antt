use Rattle.std.proofs.Common.{◌≡◌, List, Bool, length, sym, ◌∙◌, ap}
use Rattle.sm_bits.specs.Places.{difference_of}
use Rattle.sm_space.proofs.FreeLemmas.{all_but_used, joined, length_all}
use Rattle.sm_space.proofs.leave_free.Goals as goal

pub union-requires : goal.union-requires
union-requires c = ap length c.requires.all ∙ length_all (length c.args.used.now) ∙ sym c.requires.same

pub minus-requires : goal.minus-requires
minus-requires c =
    sym (ap length (joined c.args.free.now c.args.all.now c.union.new.self (length c.args.used.now) c.requires.same c.requires.hole c.requires.all c.union.ensures)
    ∙ length_all (length c.args.used.now))

pub returns : goal.returns
returns c =
    c.minus.ensures
    ∙ ap (λ (l : List Bool). difference_of l c.args.used.now) (joined c.args.free.now c.args.all.now c.union.new.self (length c.args.used.now) c.requires.same c.requires.hole c.requires.all c.union.ensures)
    ∙ all_but_used c.args.used.now
