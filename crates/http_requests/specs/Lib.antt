-- HTTP requests in the bytes of a connection, and the bytes of responses (RFC 9110, RFC 9112).

-- status codes with their reason phrases
pub mod StatusCode
-- what the fields of a head state
pub mod Fields
-- what is known of the values of a field
pub mod Found
-- what a head comes to: a refusal, or a body
pub mod Wish
-- heads in front of bytes
pub mod Head
-- what stands in front of the bytes that are left of a connection
pub mod Front
-- what some bytes tell of that
pub mod Look
-- the requests of a connection, and its end
pub mod Asked
-- what a source gives, and what is held of it
pub mod Next
-- the bytes of responses
pub mod Response
