use Rattle.std.proofs.Common.{◌≡◌, drop}
use Rattle.std.specs.Option.{option_copied}
use Rattle.ubus_table.specs.Arguments as spec
use Rattle.ubus_send.proofs.arguments.argument.Given as goal

-- the value so far, or that of a later argument
abbrev pub invariant-loop-attr : goal.invariant-loop-attr
invariant-loop-attr l = spec.argument_or (option_copied l.found) l.name (drop l.attr-index l.args) ≡ spec.argument l.name l.args
