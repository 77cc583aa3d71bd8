use Rattle.std.proofs.Common.{◌≡◌, drop, length}
use Rattle.uci_types.specs.Values.{in_some, in_all, in_each_word}
use Rattle.uci_types.proofs.judge.+accepts.Given as goal

-- the parts so far did not decide it
abbrev pub invariant-some_accepts-loop-part : goal.invariant-some_accepts-loop-part
invariant-some_accepts-loop-part l = in_some (drop l.part-index l.parts) l.value ≡ in_some l.parts l.value

abbrev pub invariant-all_accept-loop-part : goal.invariant-all_accept-loop-part
invariant-all_accept-loop-part l = in_all (drop l.part-index l.parts) l.value ≡ in_all l.parts l.value

-- the words so far did not decide it
abbrev pub invariant-each_word_accepted-loop-word : goal.invariant-each_word_accepted-loop-word
invariant-each_word_accepted-loop-word l = in_each_word l.datatype l.rest ≡ in_each_word l.datatype l.value

abbrev pub decreases-each_word_accepted-loop-word : goal.decreases-each_word_accepted-loop-word
decreases-each_word_accepted-loop-word l = length l.rest
