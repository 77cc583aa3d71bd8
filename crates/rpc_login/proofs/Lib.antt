mod PasswordLemmas
mod ReadLemmas
mod BadLemmas
