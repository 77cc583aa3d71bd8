-- What each name stands on: the rows of names together with the ports of radios.
use Rattle.std.specs.Prelude.{ℕ, List, [], ◌∷◌, ◌++◌, Bool, true, false, not, Some, None, bytes_eq}
use Rattle.std.specs.List.{list_any}
use Rattle.net_rows.specs.declared.rows.NameRow.{NameRow}
use Rattle.net_rows.specs.declared.rows.NameKind.{NameKind}
use Rattle.net_rows.specs.declared.rows.NameKind.TheVariants.{Plain, Bridge, Vlan}
use Rattle.net_rules.specs.Facts.{Facts}
use Rattle.net_rules.specs.Rows.{row_at}
use Rattle.net_rules.specs.RadioPorts.{radio_ports_of}

-- What a name is: a made one that a fault makes unavailable; one that is there or not, and may be
-- available; a VLAN of an id over a name; or a bridge with its own ports.
pub data Standing : Type 0 where
  Broken : Standing
  Alone : (sound : Bool) → Standing
  Over : (lower : List ℕ) → (id : ℕ) → Standing
  Ports : (empty : Bool) → (ports : List (List ℕ)) → Standing

-- by the kind and whether a fault makes the name unavailable; the last list is that of a bridge's
-- ports of radios
abbrev pub standing_of : NameKind → Bool → List (List ℕ) → Standing
standing_of Plain broken more = Alone (not broken)
standing_of (Bridge empty ports) true more = Broken
standing_of (Bridge empty ports) false more = Ports empty (ports ++ more)
standing_of (Vlan lower id) true more = Broken
standing_of (Vlan None id) false more = Broken
standing_of (Vlan (Some lower) id) false more = Over lower id

abbrev pub standing_of_row : NameRow → List (List ℕ) → Standing
standing_of_row row more = standing_of row.kind row.broken more

abbrev pub standing_at : Facts → List ℕ → Standing
standing_at facts name = standing_of_row (row_at facts.conf.names name) (radio_ports_of facts name)

-- the names on which one stands
abbrev pub lowers_of : Standing → List (List ℕ)
lowers_of Broken = []
lowers_of (Alone sound) = []
lowers_of (Over lower id) = lower ∷ []
lowers_of (Ports empty ports) = ports

-- one name stands on the other
abbrev pub stands : Facts → List ℕ → List ℕ → Bool
stands facts lower upper =
    list_any (λ name. bytes_eq name lower) (lowers_of (standing_at facts upper))
