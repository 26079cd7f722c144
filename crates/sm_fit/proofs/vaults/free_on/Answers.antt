use Rattle.std.proofs.Common.{◌≡◌, ◌-◌, count_by, drop, sym, ap, ◌∙◌}
use Rattle.sm_shape.proofs.TagsLemmas.{of_tags_fit}
use Rattle.sm_fit.specs.Tables.{is_marked}
use Rattle.sm_fit.proofs.TableLemmas.{used_counted}
use Rattle.sm_fit.proofs.vaults.free_on.Goals as goal

pub volume_table-requires : goal.volume_table-requires
volume_table-requires c = of_tags_fit c.args.volume.now c.requires

pub returns : goal.returns
returns c =
    let v = c.args.volume.now in
    let table = c.in_ok-table.table.items in
    let counted : c.numbers_marked-used.result ≡ count_by is_marked (drop 1 table) = rw c.deref.ensures.value at c.numbers_marked-used.ensures in
    c.saturating_sub.ensures ∙ ap (λ n. v.physical - n) (counted ∙ sym (used_counted v table c.in_ok-table.ensures (of_tags_fit v c.requires)))
