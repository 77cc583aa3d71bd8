-- The plane, by what it follows.
use Rattle.std.specs.FinSet as set
use Rattle.net_rebuild.specs.SettlingState.{held_of}
use Rattle.net_rebuild.specs.Follower.{Follower}
use Rattle.net_rebuild.specs.InStep.{inputs_of}
use Rattle.net_plane.specs.Network.{Network}

-- what is kept of a network, as the plane shows it
abbrev pub network_of : Follower → Network
network_of f = record {
  inputs = inputs_of f;
  held = set.items (held_of f.settling);
  notices = f.notices.items;
  loads = f.settling.graph.loads;
}
