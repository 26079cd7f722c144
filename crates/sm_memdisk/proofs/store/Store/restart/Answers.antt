use Rattle.std.proofs.Common.{◌≡◌, ◌-◌, ◌^◌, ◌≤◌, suc, List, length, take, drop, sym, ◌∙◌, ap, arith}
use Rattle.std.proofs.lemmas.List.{take_all, length-drop}
use Rattle.sm_memdisk.specs.Past.{Note}
use Rattle.sm_memdisk.specs.Pages.{image_of}
use Rattle.sm_memdisk.specs.Log.{chosen_image}
use Rattle.sm_memdisk.proofs.Logged.{pending_in}
use Rattle.sm_memdisk.proofs.Restarts.{restart_lent, restart_again, restart_blank, open_none}
use Rattle.sm_memdisk.proofs.store.Store.restart.Goals as goal

pub returns-then-is_open : goal.returns-then-is_open
returns-then-is_open c =
    let inside = c.self.inside in
    let log : List Note = inside.log.items in
    let n = c.len-n.result in
    let long : length log ≡ suc (n - 1) = omega arith in
    let whole = c.deref.result.now in
    let rest : take (length whole - inside.settled) (drop inside.settled whole) ≡ drop inside.settled log =
    take_all _ _ (omega (arith, length-drop inside.settled whole)) ∙ ap (λ (l : List Note). drop inside.settled l) c.deref.ensures.value in
    let image : image_of c.choose.new.pages.entries ≡ chosen_image c.args.image (drop inside.settled log) (image_of inside.pages.entries) =
    c.choose.ensures.image ∙ ap (λ (l : List Note). chosen_image c.args.image l (image_of inside.pages.entries)) rest in
    rw (← c.self.view_is)
    (restart_lent inside.size inside.pages.entries c.choose.new.pages.entries log inside.settled (n - 1) c.index.result.now c.index_mut.result.now c.follow.new.self c.args.image
    c.self.invariant long c.index.ensures c.index_mut.ensures.value (open_none _ _ c.is_open.ensures c.if-is_open.true) c.follow.ensures image)

pub returns-else-is_open : goal.returns-else-is_open
returns-else-is_open c =
    let inside = c.self.inside in
    let long : length inside.log.items ≡ suc (c.len-n.result - 1) = omega arith in
    rw (← c.self.view_is)
    (restart_again inside.size inside.pages.entries inside.log.items (c.len-n.result - 1) c.index.result.now c.args.image long (sym c.index.ensures) (sym c.is_open.ensures ∙ c.if-is_open.false))

pub returns-else-n-gt0 : goal.returns-else-n-gt0
returns-else-n-gt0 c =
    let inside = c.self.inside in
    rw (← c.self.view_is) (restart_blank inside.size inside.pages.entries inside.log.items c.args.image (omega arith))

pub choose-requires : goal.choose-requires
choose-requires c =
    let inside = c.self.inside in
    let log : List Note = inside.log.items in
    let whole = c.deref.result.now in
    let rest : take (length whole - inside.settled) (drop inside.settled whole) ≡ drop inside.settled log =
    take_all _ _ (omega (arith, length-drop inside.settled whole)) ∙ ap (λ (l : List Note). drop inside.settled l) c.deref.ensures.value in
    let store = c.self.invariant in
    let le : inside.size ≤ 2 ^ 64 - 1 = let b = store.bounded in omega arith in
    rw rest (pending_in inside.size (2 ^ 64 - 1) inside.pages.entries (drop inside.settled log) le store.pending)
