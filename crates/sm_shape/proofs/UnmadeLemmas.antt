-- Snapshots that a transfer made.
use Rattle.std.proofs.Common.{◌≡◌, ℕ, ◌<◌, ◌≤◌, ◌==◌, ◌+◌, ◌*◌, ◌/◌, ◌%◌, false, List, [], ◌∷◌, length, get_or, map, refl, ap, ap₂, arith}
use Rattle.std.specs.Prelude.{◌||◌, ◌&&◌}
use Rattle.std.specs.List.{list_any}
use Rattle.std.proofs.lemmas.Bool.Decides.{nat_tests}
use Rattle.std.proofs.lemmas.List.{get_or_past, length-map}
use Rattle.sm_defs.specs.Volume.{Volume, has, no_volume}
use Rattle.sm_defs.specs.Legs.{made_ident}
use Rattle.sm_defs.specs.World.{volume_at}
use Rattle.sm_model.specs.declared.world.WorldVolume.{WorldVolume}
use Rattle.sm_model.specs.declared.world.WorldSnapshot.{WorldSnapshot}
use Rattle.sm_shape.specs.Blank.{blank_snapshot, blank_volume, having}
use Rattle.sm_shape.specs.Unmade.{was_made}
use Rattle.sm_shape.proofs.RulesLemmas.{at_image}

odd_is : (seq n : ℕ) → ((seq % 2 == 1) && (seq / 2 == n)) ≡ (seq == 2 * n + 1)
odd_is seq n = grind (arith, nat_tests)

pub made_is : (source number : ℕ) (ss : List WorldSnapshot) → list_any (was_made source number) ss ≡ has (map blank_snapshot ss) (made_ident source number)
made_is source number [] = refl
made_is source number (s ∷ ss) = ap₂ (λ a b. a || b) (ap (λ b. (s.ident.origin == source) && b) (odd_is s.ident.seq number)) (made_is source number ss)

pub source_lacks : (vs : List WorldVolume) (source number : ℕ) → length vs ≤ source → has (volume_at (having vs) source).snapshots (made_ident source number) ≡ false
source_lacks vs source number past = ap (λ (v : Volume). has v.snapshots (made_ident source number)) (get_or_past (map blank_volume vs) source no_volume (omega (arith, past, length-map vs blank_volume)))

pub source_is : (vs : List WorldVolume) (source number : ℕ) (v : WorldVolume) → source < length vs → v ≡ get_or vs source v
    → has (volume_at (having vs) source).snapshots (made_ident source number) ≡ has (map blank_snapshot v.snapshots.items) (made_ident source number)
source_is vs source number v lt is = ap (λ (v : Volume). has v.snapshots (made_ident source number)) (at_image blank_volume vs source v no_volume lt is)
