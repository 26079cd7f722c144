use Rattle.std.proofs.Common.{◌≤◌, sym, subst, IsTrue, Ok, Err, arith}
use Rattle.std.proofs.lemmas.Result.{err_from_is_err_and}
use Rattle.sm_disk.specs.Image.{Image}
use Rattle.volume_store.specs.Opened.{ReadsRoot, least_need}
use Rattle.volume_store.proofs.RootRead.{not_read, no_fault, not_its_root}
use Rattle.volume_store.proofs.finding.look.Goals as goal

pub returns-in_err-root-clause-exact : goal.returns-in_err-root-clause-exact
returns-in_err-root-clause-exact g c =
    let p = err_from_is_err_and c.from_residual.result c.from_residual.ensures.1 in rw (p.1, p.2)
    (λ told.
    let s = g.D.Disk.state c.args.disk.now in
    let long : least_need ≤ s.size = (let e = c.len-len.ensures in let l = c.if-len-lt-LEAST_NEED.false in omega (arith, e, l)) in
    not_read s c.args.number told long c.in_err-root.field-0.0
    (subst (λ (x : Image). ReadsRoot x (Err c.in_err-root.field-0.0)) c.open.ensures.quiet.seen (c.in_err-root.ensures.exact (subst IsTrue (sym c.open.ensures.time.told) told))))

pub returns-in_err-check_root-clause-exact : goal.returns-in_err-check_root-clause-exact
returns-in_err-check_root-clause-exact g c =
    let p = err_from_is_err_and c.from_residual-in_err-check_root.result c.from_residual-in_err-check_root.ensures.1 in rw (p.1, p.2)
    (λ told.
    let s = g.D.Disk.state c.args.disk.now in
    let long : least_need ≤ s.size = (let e = c.len-len.ensures in let l = c.if-len-lt-LEAST_NEED.false in omega (arith, e, l)) in
    not_its_root s c.args.number told long c.in_ok-root.root
    (subst (λ (x : Image). ReadsRoot x (Ok c.in_ok-root.root)) c.open.ensures.quiet.seen (c.in_ok-root.ensures.exact (subst IsTrue (sym c.open.ensures.time.told) told)))
    c.in_err-check_root.field-0.0 (rw c.len-len.ensures at c.in_err-check_root.ensures.faults))

pub returns-clause-exact : goal.returns-clause-exact
returns-clause-exact g c = λ told.
    let s = g.D.Disk.state c.args.disk.now in
    let long : least_need ≤ s.size = (let e = c.len-len.ensures in let l = c.if-len-lt-LEAST_NEED.false in omega (arith, e, l)) in
    no_fault s c.args.number told long c.in_ok-root.root
    (subst (λ (x : Image). ReadsRoot x (Ok c.in_ok-root.root)) c.open.ensures.quiet.seen (c.in_ok-root.ensures.exact (subst IsTrue (sym c.open.ensures.time.told) told)))
    c.in_ok-check_root.ensures.ok.0 (let e = c.len-len.ensures in let h = c.in_ok-check_root.ensures.ok.1 in omega (arith, e, h))
