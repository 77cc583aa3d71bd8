-- What calls of a graph ask of their arguments.
use Rattle.std.specs.Prelude.{ℕ, ◌≡◌, ◌≤◌, ◌<◌, ◌^◌, List, ◌++◌, Contains, map, length, Option, Some, None, true}
use Rattle.std.specs.Prelude.{unwrap_or}
use Rattle.plane_words.specs.Distinct.{AreDistinct}
use Rattle.kern_model.specs.declared.object.Call.{Call}
use Rattle.net_rows.specs.declared.rows.Conf.{Conf}
use Rattle.net_rows.specs.declared.rows.NameRow.{NameRow}
use Rattle.net_rules.specs.Rows.{row_at, names_of, is_plain_kind, is_bridge_kind, ports_of_kind}
use Rattle.net_rules.specs.Sound.{IsSound}
use Rattle.graph_rules.specs.declared.ids.RadioPort.{RadioPort}
use Rattle.graph_rules.specs.State.{State, empty}
use Rattle.graph_rules.specs.Calls.{next_take_in, next_put_in}

-- an id is that of a name
abbrev pub IsId : State → ℕ → Type 0
IsId s id = id < length s.known.names

-- Ports that radios may have beside some rows and names: each goes to a bridge, is a plain name, stands
-- once, and is owned by no bridge of the rows.
pub record ArePorts (rows : List NameRow) (names : List (List ℕ)) (radio : List RadioPort)
    : Type 0 where
  pub bridges : (p : RadioPort) → Contains radio p
      → is_bridge_kind (row_at rows p.bridge).kind ≡ true
  pub plain : (p : RadioPort) → Contains radio p → is_plain_kind (row_at rows p.port).kind ≡ true
  pub known : (p : RadioPort) → Contains radio p → Contains names p.port
  pub once : AreDistinct (map (λ p. p.port) radio)
  pub free : (p : RadioPort) → Contains radio p → (row : NameRow) → Contains rows row
      → Contains (ports_of_kind row.kind) p.port → ⊥

-- the most names that a configuration may have
abbrev pub most_names : ℕ
most_names = 4096

-- Rows, further plain names and ports of radios that can be loaded: sound rows of no more names than a
-- configuration has; no name twice, and no port twice at its bridge.
pub record CanLoad (conf : Conf) (plain : List (List ℕ)) (radio : List RadioPort) : Type 0 where
  pub sound : IsSound conf
  pub few : length conf.names ≤ most_names
  pub once : AreDistinct (names_of conf ++ plain)
  pub ports_once : (row : NameRow) → Contains conf.names row → AreDistinct (ports_of_kind row.kind)
  pub ports : ArePorts conf.names (names_of conf ++ plain) radio

-- a graph that can be followed by another: the count of loads has room
abbrev pub CountsOn : Option State → Type 0
CountsOn old = (unwrap_or old empty).loads < 2 ^ 63

-- the call is the first that takes, or where there is none the first that puts
pub data IsNext (s : State) (call : Call) : Type 0 where
  takes : next_take_in s ≡ Some call → IsNext s call
  puts : next_take_in s ≡ None → next_put_in s ≡ Some call → IsNext s call
