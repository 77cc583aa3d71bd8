-- Which names are available, and which have link.
use Rattle.std.specs.Prelude.{ℕ, List, Bool, false, not, ◌&&◌, ◌||◌, is_some}
use Rattle.std.specs.List.{list_any}
use Rattle.std.specs.Option.{option_map_or}
use Rattle.net_rules.specs.Levels.{by_levels}
use Rattle.net_rules.specs.Facts.{Facts}
use Rattle.net_rules.specs.Standing.{Standing, Broken, Alone, Over, Ports, standing_at}

abbrev pub is_present : Facts → List ℕ → Bool
is_present facts name = is_some (facts.device name)

abbrev pub has_carrier : Facts → List ℕ → Bool
has_carrier facts name = option_map_or (λ device. device.carrier) (facts.device name) false

-- By what is below, whether a name is available: a plain name where it is present, a VLAN where its
-- lower is, a bridge where it needs no port or a port of its own is. A made name that is present is
-- taken, and not available.
abbrev pub opens : Bool → (List ℕ → Bool) → Standing → Bool
opens present below Broken = false
opens present below (Alone sound) = present && sound
opens present below (Over lower id) = not present && below lower
opens present below (Ports empty ports) = not present && (empty || list_any below ports)

abbrev pub opens_at : Facts → (List ℕ → Bool) → List ℕ → Bool
opens_at facts below name = opens (is_present facts name) below (standing_at facts name)

-- a name is available; the answer looks eight levels down
unfoldable pub available : Facts → List ℕ → Bool
available facts name = by_levels 8 (opens_at facts) name

-- By what is below, whether a name has link: a plain name where it is present with carrier, a VLAN
-- where it is available and its lower has link, a bridge where it is available and a port of its
-- own has link.
abbrev pub links : Bool → Bool → (List ℕ → Bool) → Standing → Bool
links carrier ready below Broken = false
links carrier ready below (Alone sound) = carrier
links carrier ready below (Over lower id) = ready && below lower
links carrier ready below (Ports empty ports) = ready && list_any below ports

abbrev pub links_at : Facts → (List ℕ → Bool) → List ℕ → Bool
links_at facts below name =
    links (has_carrier facts name) (available facts name) below (standing_at facts name)

-- a name has link; the answer looks eight levels down
unfoldable pub link : Facts → List ℕ → Bool
link facts name = by_levels 8 (links_at facts) name
