use Rattle.std.proofs.Common.{◌≡◌, ◌+◌, ◌-◌, length, take, drop, sym, ◌∙◌, ap}
use Rattle.std.proofs.lemmas.Slice.Eq.{bytes_eq-Decides}
use Rattle.sm_defs.specs.Image.{stands}
use Rattle.volume_store.proofs.MapLemmas.{stands_part}
use Rattle.volume_store.proofs.marks.stands_in.Goals as goal

pub returns-then-to-map : goal.returns-then-to-map
returns-then-to-map c = λ is n h.
    let k = c.args.from + length c.args.part.now - c.args.from in
    let same : take k (drop c.args.from c.args.map.now) ≡ c.args.part.now = (bytes_eq-Decides (take k (drop c.args.from c.args.map.now)) c.args.part.now).0 (sym c.eq.ensures ∙ is) in
    stands_part n c.args.from k c.args.map.now (ap (stands n) same ∙ h)
