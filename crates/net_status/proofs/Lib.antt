pub mod CountLemmas
pub mod ShownLemmas
