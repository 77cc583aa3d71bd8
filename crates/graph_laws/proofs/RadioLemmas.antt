-- The ports that radios of a network have may be ports of a graph.
use Rattle.std.proofs.Common.{◌≡◌, ℕ, List, [], ◌∷◌, map, Bool, true, false, cond, Contains, Option, Some, None, refl, ap, sym, subst, ◌∙◌}
use Rattle.std.specs.Prelude.{◌&&◌, not, bytes_eq}
use Rattle.std.specs.List.{list_any, filter_map}
use Rattle.std.specs.Option.{option_and_then}
use Rattle.plane_words.specs.Distinct.{AreDistinct}
use Rattle.kern_model.proofs.MemberLemmas.{map_member}
use Rattle.kern_model.proofs.TestLemmas.{both, not_true, of_any, same_bytes, from_filter_map}
use Rattle.net_rows.specs.declared.rows.NameRow.{NameRow}
use Rattle.net_rows.specs.declared.rows.InterfaceRow.{InterfaceRow}
use Rattle.net_rules.specs.Facts.{Facts}
use Rattle.net_rules.specs.Rows.{is_plain, is_bridge, is_named_port, ports_of_kind, interface_named}
use Rattle.net_rules.specs.RadioPorts.{AnsweredPort, RadioPort, answered_ports, joined, radio_ports}
use Rattle.net_rules.proofs.ListLemmas.{within_firsts}
use Rattle.net_rules.proofs.StandingLemmas.{answered_is_plain}
use Rattle.graph_rules.specs.declared.ids.RadioPort.{RadioPort as GivenPort}
use Rattle.graph_rules.specs.Answers.{port_of}
use Rattle.graph_rules.specs.Conditions.{ArePorts}
use Rattle.graph_laws.proofs.ListLemmas.{firsts_once}

-- what joins a bridge
record Joins (facts : Facts) (answered : AnsweredPort) (joins : RadioPort) : Type 0 where
  same_port : answered.port ≡ joins.port
  bridge : is_bridge facts.conf joins.bridge ≡ true
  free : is_named_port facts.conf answered.port ≡ true → ⊥

joins_bridge : (facts : Facts) (answered : AnsweredPort) (joins : RadioPort) (bridge : List ℕ) (b : Bool) → (is_bridge facts.conf bridge && not (is_named_port facts.conf answered.port)) ≡ b
    → cond b (Some (record { bridge = bridge; port = answered.port })) None ≡ Some joins → Joins facts answered joins
joins_bridge facts answered joins bridge true is h =
    let parts = both (is_bridge facts.conf bridge) (not (is_named_port facts.conf answered.port)) is in
    let same : bridge ≡ joins.bridge = cc h in
    record {
      same_port = cc h;
      bridge = subst (λ (z : List ℕ). is_bridge facts.conf z ≡ true) same parts.0;
      free = not_true (is_named_port facts.conf answered.port) parts.1;
    }
joins_bridge facts answered joins bridge false is h = cc h

joins_device : (facts : Facts) (answered : AnsweredPort) (joins : RadioPort) (device : Option (List ℕ)) → option_and_then (λ bridge.
    cond (is_bridge facts.conf bridge && not (is_named_port facts.conf answered.port)) (Some (record { bridge = bridge; port = answered.port })) None) device ≡ Some joins → Joins facts answered joins
joins_device facts answered joins None h = cc h
joins_device facts answered joins (Some bridge) h = joins_bridge facts answered joins bridge (is_bridge facts.conf bridge && not (is_named_port facts.conf answered.port)) refl h

joins_interface : (facts : Facts) (answered : AnsweredPort) (joins : RadioPort) (row : Option InterfaceRow) → option_and_then (λ r. option_and_then (λ bridge.
    cond (is_bridge facts.conf bridge && not (is_named_port facts.conf answered.port)) (Some (record { bridge = bridge; port = answered.port })) None) r.device) row ≡ Some joins → Joins facts answered joins
joins_interface facts answered joins None h = cc h
joins_interface facts answered joins (Some row) h = joins_device facts answered joins row.device h

-- a port that radios have
record IsPort (facts : Facts) (joins : RadioPort) : Type 0 where
  bridge : is_bridge facts.conf joins.bridge ≡ true
  plain : is_plain facts.conf joins.port ≡ true
  free : is_named_port facts.conf joins.port ≡ true → ⊥

is_port : (facts : Facts) (joins : RadioPort) → Contains (radio_ports facts) joins → IsPort facts joins
is_port facts joins h =
    let given = from_filter_map (joined facts) (answered_ports facts) joins (within_firsts (λ (k : RadioPort). k.port) (filter_map (joined facts) (answered_ports facts)) joins h) in
    let is : Joins facts given.source joins = joins_interface facts given.source joins (interface_named facts.conf given.source.interface) given.gives in
    record {
      bridge = is.bridge;
      plain = subst (λ (z : List ℕ). is_plain facts.conf z ≡ true) is.same_port (answered_is_plain facts given.source given.member);
      free = subst (λ (z : List ℕ). is_named_port facts.conf z ≡ true → ⊥) is.same_port is.free;
    }

same_ports : (radio : List GivenPort) → map (λ (p : GivenPort). p.port) radio ≡ map (λ (j : RadioPort). j.port) (map port_of radio)
same_ports [] = refl
same_ports (p ∷ ps) = ap (λ (z : List (List ℕ)). p.port ∷ z) (same_ports ps)

module _ (facts : Facts) (names : List (List ℕ)) (radio : List GivenPort) (same : map port_of radio ≡ radio_ports facts) where
  of_radio : (p : GivenPort) → Contains radio p → IsPort facts (port_of p)
  of_radio p h = is_port facts (port_of p) (subst (λ (js : List RadioPort). Contains js (port_of p)) same (map_member port_of radio p h))

  once : AreDistinct (map (λ (p : GivenPort). p.port) radio)
  once =
      subst AreDistinct (sym (same_ports radio ∙ ap (map (λ (j : RadioPort). j.port)) same))
      (firsts_once (λ (j : RadioPort). j.port) (filter_map (joined facts) (answered_ports facts)))

  free : (p : GivenPort) → Contains radio p → (row : NameRow) → Contains facts.conf.names row → Contains (ports_of_kind row.kind) p.port → ⊥
  free p h row member own = (of_radio p h).free
      (of_any (λ (r : NameRow). list_any (λ other. bytes_eq other p.port) (ports_of_kind r.kind)) facts.conf.names row member
      (of_any (λ (other : List ℕ). bytes_eq other p.port) (ports_of_kind row.kind) p.port own (same_bytes p.port p.port refl)))

  pub are_ports : ((p : GivenPort) → Contains radio p → Contains names p.port) → ArePorts facts.conf.names names radio
  are_ports known = record {
    bridges = λ p h. (of_radio p h).bridge;
    plain = λ p h. (of_radio p h).plain;
    known = known;
    once = once;
    free = free;
  }
