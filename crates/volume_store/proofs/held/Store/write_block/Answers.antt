use Rattle.std.proofs.Common.{◌≡◌, true, false, ◌∙◌, ap, subst}
use Rattle.sm_disk.specs.Disk.{GoesOn}
use Rattle.sm_root.specs.Condition.{maps_of}
use Rattle.volume_store.specs.Maps.{uses}
use Rattle.volume_store.specs.Held.{Held, Shows}
use Rattle.volume_store.proofs.Shown.{held_wrote, wrote_any_moment}
use Rattle.volume_store.proofs.held.Store.write_block.Goals as goal

pub invariant_of-self : goal.invariant_of-self
invariant_of-self g c =
    let v : Held _ = record { disk = c.self.inside.disk; number = c.self.inside.slots; maps = c.self.inside.state; after = c.self.inside.after; up = c.self.inside.up } in
    let up : v.up ≡ true = ap (λ w. w.up) c.self.view_is ∙ c.requires.up in
    let unused : uses (maps_of v.maps.root) c.args.number ≡ false = ap (λ (w : Held _). uses (maps_of w.maps.root) c.args.number) c.self.view_is ∙ c.requires.open.unused in
    held_wrote g.D.Disk.state v c.self.invariant up c.args.number c.requires.open.from_one unused c.write_at-written.new.disk c.write_at-written.ensures.range c.write_at-written.ensures.time c.is_ok-self-inside.result

pub returns-clause-any_moment : goal.returns-clause-any_moment
returns-clause-any_moment g c =
    let v : Held _ = record { disk = c.self.inside.disk; number = c.self.inside.slots; maps = c.self.inside.state; after = c.self.inside.after; up = c.self.inside.up } in
    let up : v.up ≡ true = ap (λ w. w.up) c.self.view_is ∙ c.requires.up in
    let unused : uses (maps_of v.maps.root) c.args.number ≡ false = ap (λ (w : Held _). uses (maps_of w.maps.root) c.args.number) c.self.view_is ∙ c.requires.open.unused in
    subst (λ (w : Held _). GoesOn (g.D.Disk.state w.disk) (g.D.Disk.state c.write_at-written.new.disk) (Shows w.number w.maps.root (g.D.Disk.state w.disk).seen)) c.self.view_is
    (wrote_any_moment g.D.Disk.state v c.self.invariant up c.args.number c.requires.open.from_one unused c.write_at-written.new.disk c.write_at-written.ensures.range c.write_at-written.ensures.time)
