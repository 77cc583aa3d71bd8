use Rattle.std.proofs.Common.{◌≡◌, ◌-◌, ◌*◌, ◌<◌, ◌≤◌, ℕ, slice_index}
use Rattle.net_addr.specs.Network.{without_low_bits}
use Rattle.net_addr.proofs.network.clear_hosts.Given as goal

abbrev pub invariant-loop-i : goal.invariant-loop-i
invariant-loop-i l =
    ((j : ℕ) → j < l.i → slice_index l.octets j ≡ without_low_bits (8 - (l.kept - 8 * j)) (slice_index l.initial.octets j))
    × ((j : ℕ) → l.i ≤ j → slice_index l.octets j ≡ slice_index l.initial.octets j)
