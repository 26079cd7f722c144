-- The empty world is sound.
use Rattle.std.proofs.Common.{ℕ, List, arith}
use Rattle.sm_defs.specs.World.{empty_world}
use Rattle.sm_model.specs.Formed.{Formed}
use Rattle.sm_model.specs.Sound.{SoundUp}

empty_formed : (disks : List ℕ) → Formed (empty_world disks)
empty_formed disks = record {
  volumes = λ v m. absurd m;
  few = omega arith;
  paths_differ = tt;
  disks_differ = tt;
  policies = λ p m. absurd m;
  few_policies = omega arith;
  names_differ = tt;
  relations = λ r m. absurd m;
  few_relations = omega arith;
  ascending = tt;
  relations_counted = (omega arith, omega arith);
  transfers_counted = (omega arith, omega arith);
  clock = omega arith;
}

pub empty_sound : (disks : List ℕ) → SoundUp (empty_world disks)
empty_sound disks = record {
  formed = empty_formed disks;
  tags_fit = λ v m. absurd m;
  copies_agree = λ v u s t a. absurd a.0;
  families_agree = λ v u s t a. absurd a.0;
  crossed = record { relations = λ r m. absurd m; transfers = λ r t m. absurd m; destinations_differ = tt; transfers_differ = tt };
  destinations_stand = record { volumes = λ v m. absurd m; bases = λ r m. absurd m };
  legs_fit = λ r t m. absurd m;
  numbers_stand = record { snapshots = λ v s a. absurd a.0; unmade = λ r t m. absurd m };
  families_stand = record { given = λ v m. absurd m; transfers = λ r t m. absurd m };
  legs_kept = λ r t m. absurd m;
  transfers_stand = λ r t m. absurd m;
}
