use Rattle.std.proofs.Common.{◌≡◌, drop}
use Rattle.std.specs.Prelude.{filter, not}
use Rattle.kern_model.specs.Name.{is_name}
use Rattle.net_devices.specs.EachOnce.{with_names}
use Rattle.net_devices.specs.Said as spec
use Rattle.net_devices.proofs.said.bad_ports.Given as goal

-- the words so far, with the others
abbrev pub invariant-loop-word : goal.invariant-loop-word
invariant-loop-word l = with_names l.ports (filter (λ word. not (is_name word)) (drop l.word-index l.words)) ≡ spec.bad_ports l.words
