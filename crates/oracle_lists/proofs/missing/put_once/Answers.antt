use Rattle.std.proofs.Common.{sym, ◌∙◌, ap}
use Rattle.oracle_lists.specs.Places.{place_of, is_at}
use Rattle.oracle_lists.proofs.FirstOf.{put_from, stands_from}
use Rattle.oracle_lists.proofs.missing.put_once.Goals as goal

pub returns-in_ok-insert : goal.returns-in_ok-insert
returns-in_ok-insert c =
    c.in_ok-insert.ensures.items ∙
    put_from c.args.tag c.args.tags.now.items c.place-at.result (c.place-at.ensures.place ∙ ap (place_of c.args.tag) c.deref.ensures.value)
    (ap (λ xs. is_at c.args.tag xs c.place-at.result) (sym c.deref-2.ensures.value) ∙ (sym c.is_at.ensures ∙ c.if-not-is_at.true))

pub returns-else-not-is_at : goal.returns-else-not-is_at
returns-else-not-is_at c =
    stands_from c.args.tag c.args.tags.now.items c.place-at.result (c.place-at.ensures.place ∙ ap (place_of c.args.tag) c.deref.ensures.value)
    (ap (λ xs. is_at c.args.tag xs c.place-at.result) (sym c.deref-2.ensures.value) ∙ (sym c.is_at.ensures ∙ c.if-not-is_at.false))
