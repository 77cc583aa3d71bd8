use Rattle.std.proofs.Common.{◌≡◌, drop}
use Rattle.std.specs.Prelude.{filter}
use Rattle.kern_model.specs.Name.{is_name}
use Rattle.net_devices.specs.EachOnce.{with_names}
use Rattle.net_devices.specs.Said as spec
use Rattle.net_devices.proofs.said.port_names.Given as goal

-- the names so far, with those of the other words
abbrev pub invariant-loop-word : goal.invariant-loop-word
invariant-loop-word l = with_names l.ports (filter is_name (drop l.word-index l.words)) ≡ spec.port_names l.words
