-- Disks of several files: what they tell, what their calls do, and a disk in memory.

-- contents of files, and what a call may do to one
pub mod Files
-- names of the files
pub mod Names
-- what a disk tells
pub mod View
-- the calls that a disk in memory has had, and what they leave
pub mod Calls
-- what a crash may leave
pub mod Images
-- a disk in memory
pub mod MemDisk
-- why what a read gives is an image: the bytes of one file
pub mod SoundBytes
-- why what a read gives is an image, and a disk in memory keeps to what holds of a disk
pub mod Sound
