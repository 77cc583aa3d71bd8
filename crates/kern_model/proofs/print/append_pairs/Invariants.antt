use Rattle.std.proofs.Common.{◌≡◌, ◌≤◌, ◌+◌, ◌*◌, ◌++◌, take, flat_map, codes}
use Rattle.kern_model.specs.Line.{hex_pair}
use Rattle.kern_model.proofs.print.append_pairs.Given as goal

-- the pairs so far stand behind what stood before the loop
abbrev pub invariant-loop-byte : goal.invariant-loop-byte
invariant-loop-byte l = record {
  written : take l.end l.into ≡ take l.initial.end l.initial.into ++ flat_map (λ b. codes ":" ++ hex_pair b) (take l.byte-index l.rest);
  fits : l.end ≤ l.initial.end + 3 * l.byte-index;
}
