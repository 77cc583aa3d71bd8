use Rattle.std.proofs.Common.{◌≡◌, [], drop}
use Rattle.std.specs.List.{flat_map}
use Rattle.net_devices.specs.EachOnce.{with_names}
use Rattle.net_devices.specs.Names as spec
use Rattle.net_devices.proofs.names.all_names.Given as goal

-- the names of the sections so far, with those of the others
abbrev pub invariant-loop-section : goal.invariant-loop-section
invariant-loop-section l = with_names l.names (flat_map spec.own_name (drop l.section-index l.said)) ≡ with_names [] (flat_map spec.own_name l.said)

-- the names so far, with those that the other sections mention
abbrev pub invariant-loop-saying : goal.invariant-loop-saying
invariant-loop-saying l = with_names l.names (flat_map (spec.mentioned_by l.said) (drop l.saying-index l.said)) ≡ spec.names l.said
