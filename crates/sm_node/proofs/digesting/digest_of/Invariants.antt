use Rattle.std.proofs.Common.{◌≡◌, ℕ, take, IsTrue, Some}
use Rattle.sha2.specs.Hashers.{Holds256}
use Rattle.sha2.specs.declared.Sha256.{Sha256}
use Rattle.sm_disk.specs.Disk.{DiskState}
use Rattle.sm_defs.specs.Image.{Image, image_bytes}
use Rattle.volume_store.specs.declared.io.View.{View}
use Rattle.sm_volume.specs.Mounted.{Mounted}
use Rattle.sm_volume.specs.Refusals.{image_seen}
use Rattle.sm_node.proofs.DigestLemmas.{Looked}
use Rattle.sm_node.proofs.digesting.digest_of.Given as goal

pub record Hashed {D : Type 0} (state : D → DiskState) (view : View) (old new : Mounted D) (hasher : Sha256) (at : ℕ) : Type 0 where
  pub looked : Looked state old new
  -- the blocks before this place
  pub holds : IsTrue (state old.disk).told → (image : Image) → image_seen old.volume view ≡ Some image → Holds256 hasher (image_bytes (take at image))

abbrev pub invariant-loop-at : goal.invariant-loop-at
invariant-loop-at g l = Hashed g.D.Disk.state l.view l.initial.volume l.volume l.hasher l.at
