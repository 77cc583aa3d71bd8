-- Requests of touched interfaces, place by place of their rows.

-- touched interfaces
pub mod Touched
-- requests that are lost
pub mod Losing
-- requests that are opened
pub mod Opening
