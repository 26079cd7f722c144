-- What a restart makes of a node that is down since a deed failed.
use Rattle.std.specs.Prelude.{◌≡◌, ℕ, List, ◌++◌}
use Rattle.sm_base.specs.declared.numbers.DiskNo.{DiskNo}
use Rattle.sm_base.specs.declared.numbers.Side.{Side}
use Rattle.sm_base.specs.declared.numbers.Side.TheVariants.{Before}
use Rattle.sm_disk.specs.Disk.{DiskState}
use Rattle.sm_seats.specs.Seats.{GoesWhole}
use Rattle.sm_register.specs.Registered.{IsKept}
use Rattle.sm_catroot.specs.Condition.{IsCatalog}
use Rattle.sm_catroot.specs.Kept.{ShowsCatalog}
use Rattle.sm_model.specs.Answers.{Answer}
use Rattle.sm_model.specs.World.{Deed}
use Rattle.sm_model.specs.Opened.{opened}
use Rattle.sm_shape.specs.Blanked.{blanked}
use Rattle.sm_node.specs.Nodes.{Node, world_of, IsNode, IsUp}
use Rattle.sm_node.specs.Parts.{devices, part, StandsUp}
use Rattle.sm_node.specs.Pending.{NothingPending}
use Rattle.sm_node.specs.Acts.{reached_of, Fails}
use Rattle.sm_node.specs.Turning.{AllDisksTold, AllSynced}
use Rattle.sm_node.specs.Halved.{IsHalved, ShowsOneOf, world_at}

module _ {D : Type 0} (state : D → DiskState) where
  -- the crash clause over these disks: one seat's image tells which world of the pair all show
  abbrev pub GoesInPair : Deed → List D → List D → Type 0
  GoesInPair d olds news = (seat : ℕ) × GoesWhole state seat (part d.old) (part d.new) olds news

  -- All disks were restarted: the node is up, with the world that the side tells. Of disks that do not tell their content
  -- that is said but for the bytes of blocks, and not that the side is the one that they show. Behind the disks that the
  -- node uses afterwards is the one of a volume that was taken off.
  pub record Returns (d : Deed) (old new : Node D) (side : Side) : Type 0 where
    pub up : IsUp new
    pub world : AllDisksTold state old → world_of new ≡ opened (world_at side d)
    pub without_bytes : blanked (world_of new) ≡ blanked (opened (world_at side d))
    pub synced : AllSynced state new
    pub whole : (taken_off : List D) × GoesInPair d (devices old) (devices new ++ taken_off)

  -- a disk failed: the node is down as before, and what the restarts have found is not lost
  pub record StaysDown (d : Deed) (old new : Node D) (side : Side) : Type 0 where
    pub down : IsHalved state d side new
    pub whole : GoesInPair d (devices old) (devices new)

  -- ---- laws

  abbrev pub HoldsNow : Node D → Type 0
  HoldsNow n = IsKept state IsCatalog ShowsCatalog n.root × IsNode state n

  -- an event that fails leaves a node that is down between its two worlds
  abbrev pub FallsAreHalved : Type 0
  FallsAreHalved = (a : Answer) (disk : DiskNo) (count : ℕ) (old new : Node D) (d : Deed) → Fails state a disk count old new → HoldsNow new
      → world_of old ≡ d.old → reached_of (world_of old) a ≡ d.new → IsHalved state d Before new

  -- so is a node that is up, where the world before is its own
  abbrev pub UpIsHalved : Type 0
  UpIsHalved = (n : Node D) (d : Deed) → StandsUp state n → world_of n ≡ d.old → IsHalved state d Before n × NothingPending n

  -- whatever a restart now may leave of its disks shows one of the two
  abbrev pub HalvedShows : Type 0
  HalvedShows = (n : Node D) (d : Deed) (side : Side) → IsHalved state d side n → ShowsOneOf state d n
