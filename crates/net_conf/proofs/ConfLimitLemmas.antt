-- Lists that pass no limit.
use Rattle.std.proofs.Common.{◌≡◌, ◌≤◌, ℕ, true, false, Bool, cond, length, Option, Some, None, refl}
use Rattle.std.specs.Prelude.{nat_lt}
use Rattle.kern_model.proofs.TestLemmas.{above_test}
use Rattle.net_rows.specs.declared.rows.Conf.{Conf}
use Rattle.net_devices.specs.declared.devices.TheConstants.{MOST_NAMES}
use Rattle.net_devices.specs.declared.bridge_vlans.TheConstants.{MOST_VLAN_ROWS, MOST_VLAN_ENTRIES}
use Rattle.net_devices.specs.BridgeVlans.{entry_count}
use Rattle.net_conf.specs.declared.limits.TheConstants.{MOST_INTERFACES, MOST_ROUTES, MOST_RADIOS, MOST_WIFI_ROWS}
use Rattle.net_conf.specs.Limits.{over_or, wifi_count, vlan_limit, later_limit, passed_limit}

not_over : (b : Bool) (most : ℕ) (later : Option ℕ) → cond {A = Option ℕ} b (Some most) later ≡ None → (b ≡ false) × (later ≡ None)
not_over true most later h = cc h
not_over false most later h = (refl, h)

-- the list is no longer than that, and what comes behind passes no limit
within : (most count : ℕ) (later : Option ℕ) → over_or most count later ≡ None → (count ≤ most) × (later ≡ None)
within most count later h = let parts = not_over (nat_lt most count) most later h in (above_test most count parts.0, parts.1)

pub record AreFew (conf : Conf) : Type 0 where
  pub interfaces : length conf.interfaces ≤ MOST_INTERFACES
  pub names : length conf.names ≤ MOST_NAMES
  pub routes : length conf.routes ≤ MOST_ROUTES
  pub radios : length conf.radios ≤ MOST_RADIOS
  pub wifi : wifi_count conf.radios ≤ MOST_WIFI_ROWS
  pub vlans : length conf.vlans ≤ MOST_VLAN_ROWS
  pub entries : entry_count conf.vlans ≤ MOST_VLAN_ENTRIES

pub are_few : (conf : Conf) → passed_limit conf ≡ None → AreFew conf
are_few conf h =
    let names = over_or MOST_NAMES (length conf.names) (later_limit conf) in
    let one = within MOST_INTERFACES (length conf.interfaces) names h in
    let two = within MOST_NAMES (length conf.names) (later_limit conf) one.1 in
    let radios = over_or MOST_RADIOS (length conf.radios) (over_or MOST_WIFI_ROWS (wifi_count conf.radios) (vlan_limit conf)) in
    let three = within MOST_ROUTES (length conf.routes) radios two.1 in
    let four = within MOST_RADIOS (length conf.radios) (over_or MOST_WIFI_ROWS (wifi_count conf.radios) (vlan_limit conf)) three.1 in
    let five = within MOST_WIFI_ROWS (wifi_count conf.radios) (vlan_limit conf) four.1 in
    let six = within MOST_VLAN_ROWS (length conf.vlans) (over_or MOST_VLAN_ENTRIES (entry_count conf.vlans) None) five.1 in
    let seven = within MOST_VLAN_ENTRIES (entry_count conf.vlans) None six.1 in
    record { interfaces = one.0; names = two.0; routes = three.0; radios = four.0; wifi = five.0; vlans = six.0; entries = seven.0 }
