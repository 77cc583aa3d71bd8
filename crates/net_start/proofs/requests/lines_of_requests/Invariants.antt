use Rattle.std.proofs.Common.{ℕ, ◌≡◌, ◌++◌, length}
use Rattle.net_start.specs.Inputs.{lines_of_requests}
use Rattle.net_start.proofs.requests.lines_of_requests.Given as goal

-- the lines so far, and those of what is still to be told
abbrev pub invariant-loop-notice : goal.invariant-loop-notice
invariant-loop-notice l = record {
  lines : l.lines.items ++ lines_of_requests l.fn.net.inputs.conf l.net.notices
      ≡ lines_of_requests l.fn.net.inputs.conf l.fn.net.notices;
  inputs : l.net.inputs ≡ l.fn.net.inputs;
  held : l.net.held ≡ l.fn.net.held;
}

abbrev pub decreases-loop-notice : goal.decreases-loop-notice
decreases-loop-notice l = length l.net.notices
