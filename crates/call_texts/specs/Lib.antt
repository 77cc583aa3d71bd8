-- The words of a line that calls a method, and the line that tells the reply.

-- the arguments of a call
pub mod Arguments
-- the line of its reply
pub mod ReplyLine
