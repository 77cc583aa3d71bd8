-- Lines of scripts that no caller asks.
use Rattle.std.specs.Prelude.{List, Option, Some, ⊤}
use Rattle.std.specs.List.{AllByRecursion}
use Rattle.uci_text.specs.declared.line.Line.{Line}
use Rattle.script_lines.specs.declared.script_line.ScriptLine.{ScriptLine}
use Rattle.script_lines.specs.declared.script_line.ScriptLine.TheVariants as line
use Rattle.script_lines.specs.Lines.{line_of}

-- the line calls no method, and is none of a client of the bus
abbrev pub IsPlain : Option ScriptLine → Type 0
IsPlain (Some (line.Call session object method json)) = ⊥
IsPlain (Some (line.OpenClient client user group)) = ⊥
IsPlain (Some (line.ClientBytes client bytes)) = ⊥
IsPlain (Some (line.CloseClient client)) = ⊥
IsPlain _ = ⊤

-- no line of a script does
abbrev pub ArePlain : List Line → Type 0
ArePlain lines = AllByRecursion (λ line. IsPlain (line_of line.words)) lines
