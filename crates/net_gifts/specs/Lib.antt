-- What interfaces give, counted over what they are.

-- what is given, and how often
pub mod Giving
