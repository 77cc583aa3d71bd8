use Rattle.std.proofs.Common.{◌≡◌, ◌++◌, take, drop}
use Rattle.uci_cli.specs.Show.{shown, shown_behind}
use Rattle.uci_cli.proofs.show.show_package.Given as goal

-- what is written, and what the sections from here on will add
abbrev pub invariant-loop-place : goal.invariant-loop-place
invariant-loop-place l = l.out.items ++ shown_behind l.options l.«package».name (take l.place l.sections) (drop l.place l.sections) ≡ shown l.options l.«package»
