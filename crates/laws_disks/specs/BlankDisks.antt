-- Disks on which nothing was written.
use Rattle.std.specs.Prelude.{ℕ, List}
use Rattle.sm_opening.specs.OnDisk.{Disks}

-- zeros at each place
abbrev pub blank_disks : List ℕ → Disks
blank_disks sizes = record { sizes = sizes; images = λ disk place. 0 }
