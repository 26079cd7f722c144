pub use Rattle.sm_disk.specs.Image
pub use Rattle.sm_disk.specs.Disk
pub use Rattle.sm_disk.specs.Spared
pub mod Stored
pub mod Slots
