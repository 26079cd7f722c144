use Rattle.std.proofs.Common.{ap, arith}
use Rattle.sm_memdisk.specs.Content.{Content}
use Rattle.sm_memdisk.specs.Pages.{KeepsPages}
use Rattle.sm_memdisk.proofs.Logged.{store_write}
use Rattle.sm_memdisk.proofs.Restarts.{ready_pending}
use Rattle.sm_memdisk.proofs.store.Store.write.Goals as goal

pub invariant_of-self-2 : goal.invariant_of-self-2
invariant_of-self-2 c =
    let inside = c.self.inside in
    let old = inside.pages.entries in
    let first = c.prepared.new.pages.entries in
    let new = c.put.new.pages.entries in
    let size = ap (λ (s : Content). s.size) c.self.view_is in
    let keeps : KeepsPages old new = λ number is. c.put.ensures.kept number (c.prepared.ensures.kept number is) in
    let pending = ready_pending inside.size first new c.args.at _ c.in_ok-record.record c.in_ok-record.ensures.record (let r = c.requires in omega arith) c.put.ensures.kept in
    rw c.in_ok-push.ensures.items (store_write inside.size old new inside.log.items inside.settled c.self.invariant keeps c.in_ok-record.record pending)
