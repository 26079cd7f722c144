use Rattle.std.proofs.Common.{refl}
use Rattle.volume_store.proofs.Sound.{maps_found, moved_maps}
use Rattle.volume_store.proofs.found.found_state.Goals as goal

pub new-requires-clause-maps : goal.new-requires-clause-maps
new-requires-clause-maps c =
    moved_maps c.args.root c.args.root c.in_ok-active.active.items c.args.root.stable refl c.in_ok-active.ensures (maps_found c.args.root c.requires)
