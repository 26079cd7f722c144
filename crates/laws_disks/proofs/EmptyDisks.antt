-- Disks on which nothing was written spell the world in which nothing was created.
use Rattle.std.proofs.Common.{◌≡◌, ℕ, ◌≤◌, List, [], refl, subst, sym, arith}
use Rattle.std.specs.Prelude.{Some, slice_get}
use Rattle.sm_base.specs.declared.limits.TheConstants.{SLOTS_END}
use Rattle.sm_defs.specs.World.{empty_world}
use Rattle.sm_disk.specs.Image.{part}
use Rattle.sm_slots.specs.Stored.{Blank, stored, stored_at}
use Rattle.sm_catroot.specs.Catalog.{empty_catalog}
use Rattle.sm_catroot.specs.Kept.{ShowsCatalog}
use Rattle.sm_model.specs.Formed.{Formed}
use Rattle.sm_model.specs.Crossed.{Crossed}
use Rattle.sm_shape.specs.Blanked.{blanked}
use Rattle.sm_opening.specs.OnDisk.{IsShaped, Spells}
use Rattle.laws_disks.specs.BlankDisks.{blank_disks}

no_record : stored (λ (place : ℕ). 0) ≡ Blank
unfolding stored_at part
no_record = refl

module _ (sizes : List ℕ) where
  formed : Formed (blanked (empty_world sizes))
  formed = record {
    volumes = λ v none. absurd none;
    few = omega arith;
    paths_differ = tt;
    disks_differ = tt;
    policies = λ p none. absurd none;
    few_policies = omega arith;
    names_differ = tt;
    relations = λ r none. absurd none;
    few_relations = omega arith;
    ascending = tt;
    relations_counted = (omega arith, omega arith);
    transfers_counted = (omega arith, omega arith);
    clock = omega arith;
  }

  crossed : Crossed (blanked (empty_world sizes))
  crossed = record {
    relations = λ r none. absurd none;
    transfers = λ r t none is. absurd none;
    destinations_differ = tt;
    transfers_differ = tt;
  }

  shaped : IsShaped (blanked (empty_world sizes))
  shaped = record {
    interim = record { relations = λ r none. absurd none; policies = λ p none. absurd none };
    shape = record {
      but_legs = record {
        state = record {
          formed = formed;
          tags_fit = λ v none. absurd none;
          copies_named = λ v u s t stands. absurd stands.0;
          families_agree = λ v u s t stands. absurd stands.0;
          numbers_stand = record { snapshots = λ v s stands. absurd stands.0; unmade = λ r t none. absurd none };
        };
        relations = record {
          destinations_stand = record { volumes = λ v none. absurd none; bases = λ r none. absurd none };
          families_stand = record { given = λ v none. absurd none; transfers = λ r t none. absurd none };
          legs_kept = λ r t none. absurd none;
          transfers_stand = λ r t none. absurd none;
        };
      };
      legs_fit = λ r t none. absurd none;
    };
  }

  pub empty_spelled : (size : ℕ) → slice_get sizes 0 ≡ Some size → SLOTS_END ≤ size → Spells (blank_disks sizes) (empty_world sizes)
  empty_spelled size is room = record {
    catalog = empty_catalog;
    roots = [];
    read = record {
      catalog = record { size = size; is_disk = is; room = room; shown = subst (ShowsCatalog empty_catalog) (sym no_record) refl; read = refl };
      volumes = tt;
    };
    is = refl;
    crossed = crossed;
    shaped = shaped;
  }
