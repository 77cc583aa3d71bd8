use Rattle.std.proofs.Common.{◌≡◌, length, map, string_bytes}
use Rattle.plane_main.specs.RunWords.{no_options, options_of}
use Rattle.plane_main.proofs.run_words.read_options.Given as goal

-- what is left, behind what was given, says what all of it does
abbrev pub invariant-loop-word : goal.invariant-loop-word
invariant-loop-word l =
    options_of l.given (map string_bytes l.rest) ≡ options_of no_options (map string_bytes l.fn.words)

abbrev pub decreases-loop-word : goal.decreases-loop-word
decreases-loop-word l = length l.rest
