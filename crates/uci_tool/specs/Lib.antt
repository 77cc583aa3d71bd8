-- The `uci` command over a store, and over a folder.

-- what a command sees and changes
pub mod Folder
-- texts as packages, lines and commands
pub mod Reading
-- texts as paths, computed
pub mod Paths
-- what is seen of a package
pub mod Seen
-- `show`, `get`, `changes` and `export`
pub mod Texts
-- `set`, `add_list`, `del_list`, `delete`, `rename`, `reorder`, `add` and `revert`
pub mod Staging
-- `commit`
pub mod Commit
-- commands of a text behind the sections of a package
pub mod Merging
-- `import`
pub mod Import
-- a command that reads no input, and the lines of `batch`
pub mod Line
-- the whole command
pub mod Done
-- the folders that a command passes through
pub mod Passes
-- what the functions of the crate answer
pub mod Answers
-- a command without an input
pub mod Alone
-- what cuts a run short
pub mod Cut
-- how a run ends, and what it leaves
pub mod Ends
-- what a stop within a run leaves of the files
pub mod Stops
-- how the parts of a run answer
pub mod Runs
-- whether words ask for a command
pub mod Asking
-- why a folder is not opened
pub mod Shut
-- the folder that is found, and the one that is left
pub mod Folders
-- how a run ends
pub mod Run
-- when it ends so
pub mod Comes
