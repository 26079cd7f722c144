-- One volume of a slice moved.
use Rattle.std.proofs.Common.{◌≡◌, ℕ, ◌<◌, List, length, get_or, ap, subst}
use Rattle.std.specs.Prelude.{slice_set}
use Rattle.std.proofs.lemmas.Option.{slice_get-get_or}
use Rattle.sm_disk.specs.Disk.{DiskState}
use Rattle.sm_volume.specs.Mounted.{Mounted}
use Rattle.sm_volume.specs.Kept.{IsKept}
use Rattle.sm_node.specs.Seats.{Seated}
use Rattle.sm_node.specs.Moves.{MovesOne}

pub moved_at : {D : Type 0} (state : D → DiskState) (P : Mounted D → Mounted D → Type 0) (at : ℕ) (seats : List (Seated D)) (d : Seated D) (disk : ℕ) (m n : Mounted D) → at < length seats
    → record { disk = disk; volume = m } ≡ get_or seats at d → P m n → IsKept state n → MovesOne state at P seats (slice_set seats at (record { disk = disk; volume = n }))
moved_at state P at seats d disk m n within view did kept = record {
  old = get_or seats at d;
  new = n;
  was = slice_get-get_or seats at d within;
  is = ap (λ (t : Seated _). slice_set seats at (record { disk = t.disk; volume = n })) view;
  did = subst (λ (t : Seated _). P t.volume n) view did;
  kept = kept;
}
