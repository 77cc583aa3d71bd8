use Rattle.std.proofs.Common.{◌≡◌, ◌++◌, drop}
use Rattle.net_rules.specs.After.{without_device}
use Rattle.net_after.proofs.changes.without_device.Given as goal

abbrev pub invariant-loop-entry : goal.invariant-loop-entry
invariant-loop-entry l = l.others ++ without_device l.name (drop l.entry-index l.devices) ≡ without_device l.name l.devices
