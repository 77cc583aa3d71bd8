-- What a line of a script asks of the plane of interfaces.
use Rattle.std.specs.Prelude.{ℕ, List, [], Option, Some, None}
use Rattle.uci_tree.specs.declared.package.Package.{Package}
use Rattle.net_conf.specs.Conf.{conf}
use Rattle.net_conf.specs.Limits.{passed_limit}
use Rattle.net_rules.specs.declared.event.Event.{Event}
use Rattle.net_rules.specs.declared.event.Event.TheVariants as event
use Rattle.script_lines.specs.declared.line_error.LineError.{LineError}
use Rattle.script_lines.specs.declared.line_error.LineError.TheVariants as error

-- An event, or what is shown of all interfaces, of an interface, of a device or of a radio. Or it asks
-- nothing of the plane: a text is shown, and then the line may be refused.
pub data NetLine : Type 0 where
  happens : Event → NetLine
  dump : NetLine
  interface : List ℕ → NetLine
  device : List ℕ → NetLine
  radio : List ℕ → NetLine
  tells : List ℕ → Option LineError → NetLine

-- it is refused, and nothing is shown
abbrev pub refused : LineError → NetLine
refused e = NetLine.tells [] (Some e)

-- nothing is shown, and it is not refused
abbrev pub nothing : NetLine
nothing = NetLine.tells [] None

-- the rows of two packages are loaded, unless a list of them is too long
abbrev pub load_within : Package → Package → Option ℕ → NetLine
load_within network wireless None = NetLine.happens (event.Load (conf network wireless))
load_within network wireless (Some number) = refused (error.Limit number)

abbrev pub load_line : Package → Package → NetLine
load_line network wireless =
    load_within network wireless (passed_limit (conf network wireless))
