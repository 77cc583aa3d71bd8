-- Where the real devices of a command are.
use Rattle.std.specs.Prelude.{ℕ, ◌≡◌, List, [], Option, Some, None, codes, unwrap_or, if◌then◌else◌, Result, Ok, Err}
use Rattle.ubus_acl.specs.declared.acl.Acl.{Acl}
use Rattle.ubus_acl.specs.declared.access_error.AclError.{AclError}
use Rattle.ubus_acl.specs.Form.{acl_of}
use Rattle.uci_cli.specs.declared.options.Options.{Options}
use Rattle.uci_cli.specs.declared.command.Command.{Command}
use Rattle.uci_cli.specs.Command.{reads_input}
use Rattle.uci_cli.specs.Words.{asked_of}
use Rattle.plane_main.specs.declared.command.Command.{Command as Asking}
use Rattle.plane_main.specs.declared.command.Command.TheVariants.{Start, Uci, Run, Gen, Show}
use Rattle.plane_main.specs.declared.run_words.RunAsked.{RunAsked}
use Rattle.plane_main.specs.declared.locations.Locations.{Locations}
use Rattle.plane_main.specs.Command.{AskFor, HasRow}

-- no folders, no socket and no input, under the user and the group `root`
abbrev pub nowhere : Locations
nowhere = record { files = []; staged = []; socket = None; input = None; user = codes "root"; group = codes "root" }

-- the folders that the options of `uci` name, and the file of its input, where the command reads one
abbrev pub named_by : Options → Command → Locations → Locations
named_by options command locations = record locations {
  files = options.files;
  staged = options.staged;
  input = if reads_input command then options.input else None;
}

-- where the words of `uci` ask for a command
abbrev pub folders_of : Options → Option Command → Locations → Option Locations
folders_of options None locations = None
folders_of options (Some command) locations = Some (named_by options command locations)

abbrev pub folders : List (List ℕ) → Locations → Option Locations
folders words locations = let asked = asked_of words in folders_of asked.options asked.command locations

-- the folders of a run of a script; it opens none where its access list does not read
abbrev pub folders_with : Result Acl AclError → RunAsked → Locations → Locations
folders_with (Ok acl) asked locations = record locations { files = asked.files; staged = asked.staged }
folders_with (Err why) asked locations = locations

abbrev pub folders_of_run : RunAsked → Locations → Locations
folders_of_run asked = folders_with (acl_of asked.acl) asked

abbrev pub places_of : Asking → Locations
places_of (Start devices) = nowhere
places_of (Uci words) = unwrap_or (folders words nowhere) nowhere
places_of (Run asked) = folders_of_run asked nowhere
places_of (Gen count) = nowhere
places_of (Show page) = nowhere

-- the places of the command that the words ask for
pub record IsPlaced (words : List (List ℕ)) (locations : Locations) : Type 0 where
  pub command : Asking
  pub asked : AskFor words command
  pub row : HasRow command
  pub places : locations ≡ places_of command
