pub mod ReadingLemmas
pub mod AnswerLemmas
pub mod SeenLemmas
pub mod PathLemmas
pub mod StageLemmas
pub mod CommitLemmas
pub mod WriteLemmas
pub mod LineLemmas
pub mod ListLemmas
pub mod Examples
pub mod ReportLemmas
pub mod RunLemmas
pub mod JoinLemmas
pub mod MergeLemmas
pub mod ImportLemmas
pub mod CarryLemmas
pub mod SilentLemmas
pub mod StopLemmas
pub mod AloneLemmas
-- why a folder is shut, and what is found, held and left of it
pub mod FolderRunLemmas
-- when a run ends so
pub mod ComesLemmas
