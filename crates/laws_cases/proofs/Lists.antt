-- Lists of volumes and of relationships, where one of them is changed or some are left out.
pub mod Frames
pub mod MoveFrames
pub mod TransferNumbers
