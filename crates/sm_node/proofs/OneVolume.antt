-- An image shows one volume. So what every image shows tells what a restart finds.
use Rattle.std.proofs.Common.{◌≡◌, ℕ, List, sym, ◌∙◌, ap}
use Rattle.sm_disk.specs.Image as disk
use Rattle.sm_base.specs.declared.numbers.VolNo.{VolNo}
use Rattle.sm_slots.specs.Stored.{stored}
use Rattle.sm_root.specs.declared.root.Root.{Root}
use Rattle.sm_root.specs.Spelling.{spelling}
use Rattle.sm_root.proofs.Round.{one_value}
use Rattle.sm_defs.specs.Volume.{Volume}
use Rattle.volume_store.specs.Opened.{IsRootOn}
use Rattle.volume_store.proofs.RootRead.{record_same}
use Rattle.sm_catroot.specs.declared.placed.Placed.{Placed}
use Rattle.sm_volume.specs.Seen.{volume_of}
use Rattle.sm_volume.specs.Mounted.{Mounted, opened}
use Rattle.sm_volume.specs.Shown.{Shows}
use Rattle.sm_node.specs.Nodes.{placed}
use Rattle.sm_node.proofs.Worlds.{shows_placed}

one_root : (c : disk.Image) (r s : Root) → IsRootOn c r → IsRootOn c s → r ≡ s
one_root c r s a b = one_value r s a.good b.good (record_same (spelling r) (spelling s) (stored c) a.spelled b.spelled)

-- at one path and on a disk of one number, as a restart leaves it
shows_one : (number : VolNo) (v u : Volume) (c : disk.Image) → Shows number v c → Shows number u c → v.path ≡ u.path → v.disk ≡ u.disk → opened v ≡ opened u
shows_one number v u c a b path lies =
    let same = one_root c a.root b.root a.is_root b.is_root in
    sym a.same
    ∙ ap (λ (p : List ℕ). volume_of p v.disk c (record { root = a.root; active = a.root.stable })) path
    ∙ ap (λ (k : ℕ). volume_of u.path k c (record { root = a.root; active = a.root.stable })) lies
    ∙ ap (λ (r : Root). volume_of u.path u.disk c (record { root = r; active = r.stable })) same
    ∙ b.same

-- A disk that was restarted reads as an image that shows the volume of some world, and is found to be a volume as a restart
-- leaves it. That is then the world's.
pub restart_finds : {D : Type 0} (number : VolNo) (v : Volume) (p : Placed) (m : Mounted D) (seen : disk.Image) → Shows number v seen → Shows number m.volume seen → m.volume ≡ opened m.volume
    → v.path ≡ p.path → v.disk ≡ p.disk.0 → placed p m ≡ opened v
restart_finds number v p m c world here is path lies =
    let at_rest : placed p m ≡ opened (placed p m) = ap (λ (u : Volume). let x : Volume = record u { path = p.path; disk = p.disk.0 } in x) is in
    at_rest ∙ sym (shows_one number v (placed p m) c world (shows_placed number p m.volume c here) path lies)
