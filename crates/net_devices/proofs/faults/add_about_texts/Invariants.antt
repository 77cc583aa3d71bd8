use Rattle.std.proofs.Common.{◌≡◌, ◌++◌, map, drop}
use Rattle.net_devices.specs.Faults as spec
use Rattle.net_devices.proofs.faults.add_about_texts.Given as goal

-- the faults so far, and then those of the other texts
abbrev pub invariant-loop-text : goal.invariant-loop-text
invariant-loop-text l = l.faults ++ map (spec.about l.name) (drop l.text-index l.texts) ≡ l.initial.faults ++ map (spec.about l.name) l.texts
