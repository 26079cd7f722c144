use Rattle.std.proofs.Common.{◌≡◌, ◌∙◌, ◌||◌, ap, length, replicate, false, List, Bool}
use Rattle.sm_bits.specs.Places.{has}
use Rattle.sm_defs.specs.Image.{stands}
use Rattle.std.proofs.lemmas.List.{length-replicate}
use Rattle.sm_select.specs.Planned.{members}
use Rattle.sm_select.proofs.MemberLemmas.{lacking_members}
use Rattle.sm_select.proofs.mirror.numbers_lacking.Goals as goal

pub returns : goal.returns
returns c =
    let have = c.args.have.now in
    let empty : c.in_ok-set.set ≡ replicate (length have) false = c.in_ok-set.ensures ∙ ap (λ n. replicate n false) c.len.ensures in
    ap members c.minus.ensures
    ∙ lacking_members c.args.map.now have c.add_all.new.set (c.add_all.ensures.long ∙ ap length empty ∙ length-replicate (length have) false) (c.add_all.ensures.hole ∙ ap (λ (s : List Bool). has s 0) empty)
    (λ n one. c.add_all.ensures.each n one ∙ ap (λ (s : List Bool). has s n || stands n c.args.map.now) empty)
