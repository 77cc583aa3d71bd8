-- Nodes with the devices and the claims of their names.
use Rattle.std.specs.Prelude.{ℕ, ◌≤◌, List, [], ◌∷◌, All, is_some, false}
use Rattle.std.specs.Option.{option_map_or}
use Rattle.use_counts.specs.Held.{Member}
use Rattle.graph_rules.specs.State.{Named}

-- each name has as many claims as a node may have
abbrev pub HasFewClaims : List Named → Type 0
HasFewClaims names = All (λ n. n.claims ≤ 1024) names

-- a node with the device and the claims of a name
abbrev pub told_member : Member → Named → Member
told_member p n =
    record p {
      present = is_some n.device;
      carrier = option_map_or (λ device. device.carrier) n.device false;
      claims = n.claims;
    }

-- the first nodes with those of the names
abbrev pub told_members : List Member → List Named → List Member
told_members [] names = []
told_members (p ∷ ps) [] = p ∷ ps
told_members (p ∷ ps) (n ∷ ns) = told_member p n ∷ told_members ps ns
