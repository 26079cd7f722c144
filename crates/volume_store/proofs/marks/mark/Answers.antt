use Rattle.std.proofs.Common.{◌≡◌, ◌||◌, ℕ, ◌<◌, ◌+◌, ◌++◌, List, length, get_or, subst, sym, ap, ◌∙◌, arith}
use Rattle.std.proofs.lemmas.List.{length-append}
use Rattle.sm_bits.specs.Places.{has}
use Rattle.sm_defs.specs.Image.{stands}
use Rattle.volume_store.proofs.MapLemmas.{stands-append, still_there, index_known, marks_then, part_inside, rest_inside}
use Rattle.volume_store.proofs.marks.mark.Goals as goal

pub put_unless-requires-clause-inside : goal.put_unless-requires-clause-inside
put_unless-requires-clause-inside c = λ i.
    let inv = c.loop-rest.invariant in
    let h = part_inside (length c.args.set.now) c.first_run.result.0.now c.first_run.result.1.now c.loop-rest.rest.now c.first_run.ensures.parts inv.inside i in
    subst (λ (n : ℕ). get_or c.first_run.result.0.now i 0 < n) (sym inv.long) h

pub put_unless-requires-clause-known : goal.put_unless-requires-clause-known
put_unless-requires-clause-known c = λ same n is.
    c.loop-rest.invariant.more n (index_known c.args.set.now c.args.beside.now c.requires.known n (c.stands_in.ensures same n is))

pub loop-rest-preserved : goal.loop-rest-preserved
loop-rest-preserved c =
    let inv = c.loop-rest.invariant in
    let part = c.first_run.result.0.now in
    let more = c.first_run.result.1.now in
    let rest = c.loop-rest.rest.now in
    let split : rest ≡ part ++ more = c.first_run.ensures.parts in
    let long : length rest ≡ length part + length more = ap (λ (l : List ℕ). length l) split ∙ length-append part more in
    record {
      long = c.put_unless.ensures.long ∙ inv.long;
      inside = rest_inside (length c.args.set.now) part more rest split inv.inside;
      more = λ n there. still_there (has c.loop-rest.set n) (has c.put_unless.new.set n) (stands n part) (c.put_unless.ensures.each n) (inv.more n there);
      each = λ n. marks_then (has c.loop-rest.set n) (stands n rest) (stands n part) (has c.args.set.now n || stands n c.args.map.now) (stands n more) (has c.put_unless.new.set n)
          (inv.each n) (ap (stands n) split ∙ stands-append n part more) (c.put_unless.ensures.each n);
      place = let p = inv.place in omega (arith, p, long);
    }
