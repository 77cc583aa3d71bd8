-- The command line. Words are texts, without the name of the program itself.
use Rattle.std.specs.Prelude.{ℕ, ◌≡◌, ◌≤◌, List, [], ◌∷◌, length, codes, Some, true, ⊤}
use Rattle.std.specs.List.{AllByRecursion}
use Rattle.plane_words.specs.Distinct.{AreDistinct}
use Rattle.kern_model.specs.VlanName.{IsPlainName}
use Rattle.script_lines.specs.Arguments.{long_decimal_of}
use Rattle.uci_tool.specs.Ends.{reads}
use Rattle.uci_tool.specs.Asking.{asks}
use Rattle.plane_main.specs.declared.page.Page.{Page}
use Rattle.plane_main.specs.declared.page.Page.TheVariants.{Help, Version}
use Rattle.plane_main.specs.declared.run_words.RunAsked.{RunAsked}
use Rattle.plane_main.specs.declared.command.Command.{Command}
use Rattle.plane_main.specs.declared.command.Command.TheVariants.{Start, Uci, Run, Gen, Show}
use Rattle.plane_main.specs.declared.command.TheConstants.{MOST_DEVICES, MOST_BRIDGES}
use Rattle.plane_main.specs.RunWords.{run_of, HasAcl}

-- the words are `start` and names of devices, at least one and not too many, each once and none of the form X.N
pub record IsStart (words devices : List (List ℕ)) : Type 0 where
  pub spelled : words ≡ codes "start" ∷ devices
  pub some : 1 ≤ length devices
  pub few : length devices ≤ MOST_DEVICES
  pub plain : AllByRecursion IsPlainName devices
  pub distinct : AreDistinct devices

-- the words are `gen` and a number of bridges, at least one and not too many; zeros may stand in front of it
pub record IsGen (words : List (List ℕ)) (count : ℕ) : Type 0 where
  pub digits : List ℕ
  pub spelled : words ≡ codes "gen" ∷ digits ∷ []
  pub number : long_decimal_of digits ≡ Some count
  pub some : 1 ≤ count
  pub few : count ≤ MOST_BRIDGES

-- the word that asks for a page
abbrev pub page_word : Page → List ℕ
page_word Help = codes "--help"
page_word Version = codes "--version"

-- the words ask for this command, and for nothing else
abbrev pub AskFor : List (List ℕ) → Command → Type 0
AskFor words (Start devices) = IsStart words devices
AskFor words (Uci rest) = words ≡ codes "uci" ∷ rest
AskFor words (Run asked) = run_of words ≡ Some asked
AskFor words (Gen count) = IsGen words count
AskFor words (Show page) = words ≡ page_word page ∷ []

-- the words ask for a command, perhaps with words behind it that are in no row of its own table
abbrev pub IsCommand : List (List ℕ) → Type 0
IsCommand words = (command : Command) × AskFor words command

-- the words ask for a run of a script
abbrev pub IsRunCommand : List (List ℕ) → Type 0
IsRunCommand words = (asked : RunAsked) × AskFor words (Run asked)

-- the first word is `uci`
abbrev pub IsForUci : List (List ℕ) → Type 0
IsForUci words = (rest : List (List ℕ)) × (words ≡ codes "uci" ∷ rest)

-- the words of `uci` are in a row of its table
abbrev pub HasRow : Command → Type 0
HasRow (Start devices) = ⊤
HasRow (Uci words) = asks words ≡ true
HasRow (Run asked) = ⊤
HasRow (Gen count) = ⊤
HasRow (Show page) = ⊤

-- the words are in the table of commands
abbrev pub IsInTable : List (List ℕ) → Type 0
IsInTable words = (command : Command) × AskFor words command × HasRow command

-- the words ask for some page
abbrev pub IsPageCommand : List (List ℕ) → Type 0
IsPageCommand words = (page : Page) × AskFor words (Show page)

-- the command reads the input
abbrev pub ReadsInput : Command → Type 0
ReadsInput (Start devices) = ⊤
ReadsInput (Uci words) = reads words ≡ true
ReadsInput (Run asked) = HasAcl asked
ReadsInput (Gen count) = ⊥
ReadsInput (Show page) = ⊥

-- the command calls the kernel
abbrev pub CallsKernel : Command → Type 0
CallsKernel (Start devices) = ⊤
CallsKernel (Uci words) = ⊥
CallsKernel (Run asked) = HasAcl asked
CallsKernel (Gen count) = ⊤
CallsKernel (Show page) = ⊥

-- the command opens the folders of packages and of staged changes
abbrev pub OpensFolders : Command → Type 0
OpensFolders (Start devices) = ⊥
OpensFolders (Uci words) = asks words ≡ true
OpensFolders (Run asked) = HasAcl asked
OpensFolders (Gen count) = ⊥
OpensFolders (Show page) = ⊥

-- the command asks the clock for its moment
abbrev pub AsksClock : Command → Type 0
AsksClock (Start devices) = ⊥
AsksClock (Uci words) = asks words ≡ true
AsksClock (Run asked) = ⊥
AsksClock (Gen count) = ⊥
AsksClock (Show page) = ⊥

-- the command makes sessions, with the words of the random source
abbrev pub MakesSessions : Command → Type 0
MakesSessions (Start devices) = ⊥
MakesSessions (Uci words) = ⊥
MakesSessions (Run asked) = HasAcl asked
MakesSessions (Gen count) = ⊥
MakesSessions (Show page) = ⊥

-- Memory may be lacking behind lines that were written, where the run ends as one that lacks memory and no other way. A
-- run of `uci` and one of a script have endings of their own.
abbrev pub WritesFirst : Command → Type 0
WritesFirst (Start devices) = ⊥
WritesFirst (Uci words) = ⊥
WritesFirst (Run asked) = ⊥
WritesFirst (Gen count) = ⊤
WritesFirst (Show page) = ⊥

-- the words ask for no command of this kind
abbrev pub AskForNone : (Command → Type 0) → List (List ℕ) → Type 0
AskForNone kind words = (command : Command) → AskFor words command → kind command → ⊥
