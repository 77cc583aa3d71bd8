use Rattle.std.proofs.Common.{◌≡◌, drop}
use Rattle.net_rows.specs.Options as spec
use Rattle.net_rows.proofs.options.value_of.Given as goal

-- the options so far have other names
abbrev pub invariant-loop-option : goal.invariant-loop-option
invariant-loop-option l = spec.value_of l.name l.options ≡ spec.value_of l.name (drop l.option-index l.options)
