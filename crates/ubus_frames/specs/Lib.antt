-- Frames of OpenWrt's message bus (libubox's blobs and ubus's ubusmsg).

-- a frame without attributes, and the numbers in its head
pub mod Frame
-- numbers of errors
pub mod FrameError
-- the attribute in front
pub mod Field
-- numbers one after another
pub mod Numbers
-- what each attribute holds
pub mod Value
-- which bytes spell a frame
pub mod Layout
-- the first fault of bytes that begin with no frame
pub mod Fault
-- what the reader has found
pub mod Found
-- how bytes divide into frames and a rest
pub mod Stream
-- the one spelling of a frame whose padding is zero
pub mod Written
-- how many bytes a part of a frame takes
pub mod Sizes
-- what the feeder keeps, and finds
pub mod Feeding
