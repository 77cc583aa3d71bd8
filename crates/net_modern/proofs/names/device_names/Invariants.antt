use Rattle.std.proofs.Common.{◌≡◌, ℕ, ◌||◌, List, drop}
use Rattle.net_modern.specs.Names.{is_among}
use Rattle.net_modern.specs.Rules.{has_device}
use Rattle.net_modern.proofs.names.device_names.Given as goal

-- the names so far, and those of the other sections
abbrev pub invariant-loop-section : goal.invariant-loop-section
invariant-loop-section l = (name : List ℕ) → (is_among l.names name || has_device (drop l.section-index l.sections) name) ≡ has_device l.sections name
