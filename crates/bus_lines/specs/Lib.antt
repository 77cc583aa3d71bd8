-- Lines of a script that call methods of local objects, and lines of clients of the message bus.

-- all that lines move
pub mod World
-- the random words of new sessions
pub mod Words
-- what a line did before its settling
pub mod Did
-- a line that calls a method
pub mod CallLine
-- the lines of clients
pub mod ClientLine
-- what any of these lines does
pub mod CallerLine
-- the folders that these lines pass through
pub mod Passed
-- what such a line that was stopped had done
pub mod Cut
-- what the code made of a line
pub mod Ended
-- a call with the next random word
pub mod Calling
-- what is gathered of the frames of a line
pub mod Gathered
-- frames that are served
pub mod Frames
-- what is told of a line that calls a method
pub mod Replied
-- clients that open and close, and the end of a line of bytes
pub mod Told
