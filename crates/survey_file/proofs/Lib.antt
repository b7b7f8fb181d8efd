pub mod Entering
pub mod Turning
pub mod Answering
pub mod ReadsBack
pub mod OnlyFile
pub mod Writing
pub mod Pieces
pub mod FileRefusals
