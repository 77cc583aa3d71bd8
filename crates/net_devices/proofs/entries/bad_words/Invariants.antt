use Rattle.std.proofs.Common.{◌≡◌, drop}
use Rattle.std.specs.Prelude.{filter, not}
use Rattle.net_devices.specs.EachOnce.{with_names}
use Rattle.net_devices.specs.Entries as spec
use Rattle.net_devices.proofs.entries.bad_words.Given as goal

-- the words so far, with the others
abbrev pub invariant-loop-word : goal.invariant-loop-word
invariant-loop-word l = with_names l.bad (filter (λ word. not (spec.is_entry word)) (drop l.word-index l.words)) ≡ spec.bad_words l.words
