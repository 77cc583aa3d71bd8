pub mod GiftLemmas
pub mod CalmLemmas
pub mod CountLemmas
pub mod KeptLemmas
pub mod StepLemmas
pub mod OperatorStateLemmas
pub mod RoomLemmas
pub mod PlaceLemmas
pub mod GraphLemmas
pub mod TellLemmas
pub mod DeviceLemmas
pub mod AnswerLemmas
pub mod AnsweredLemmas
pub mod MoreLemmas
pub mod AwaitLemmas
-- what is kept of interfaces, as its crate tells it
pub use Rattle.state_requests.proofs.PlaceLemmas as StatePlaceLemmas
pub use Rattle.state_requests.proofs.StateCountLemmas
-- graphs with gifts beside inputs, as their crates tell them
pub use Rattle.settling_laws.proofs.CountedLemmas
pub use Rattle.settling_laws.proofs.SettlingStateLemmas
pub use Rattle.settling_laws.proofs.FurtherLemmas
pub use Rattle.settling_laws.proofs.LentLemmas
pub use Rattle.settling_laws.proofs.LoadLemmas as SettlingStateLoadLemmas
