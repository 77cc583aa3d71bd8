pub mod DidLemmas
pub mod KindLemmas
-- runs of a broker beside those of the definitions
pub mod RanLemmas
