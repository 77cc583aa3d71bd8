-- Rows that are read can be loaded.
use Rattle.std.proofs.Common.{◌≡◌, ℕ, List, [], ◌++◌, map, Contains, None, refl, sym, subst}
use Rattle.uci_tree.specs.declared.package.Package.{Package}
use Rattle.kern_model.proofs.MemberLemmas.{none_in_nil}
use Rattle.net_rows.specs.declared.rows.Conf.{Conf}
use Rattle.net_rows.specs.declared.rows.NameRow.{NameRow}
use Rattle.net_rules.specs.Facts.{Facts}
use Rattle.net_rules.specs.RadioPorts.{radio_ports}
use Rattle.net_rules.specs.Rows.{names_of}
use Rattle.net_rules.specs.Sound.{IsSound}
use Rattle.net_modern.specs.Rewriting.{modern}
use Rattle.net_devices.specs.Counted.{counted, all_said}
use Rattle.net_devices.specs.Devices.{all_names}
use Rattle.net_conf.specs.Conf.{conf}
use Rattle.net_conf.specs.Limits.{passed_limit}
use Rattle.net_conf.proofs.ReadLemmas.{said_are_read}
use Rattle.net_conf.proofs.LevelLemmas.{sound_levels}
use Rattle.net_conf.proofs.NameLemmas.{sound_names}
use Rattle.net_conf.proofs.VlanLemmas.{sound_vlans}
use Rattle.net_conf.proofs.OnceLemmas.{names_read_once, ports_read_once}
use Rattle.net_conf.proofs.ConfLimitLemmas.{are_few}
use Rattle.graph_rules.specs.declared.ids.RadioPort.{RadioPort}
use Rattle.graph_rules.specs.Answers.{port_of}
use Rattle.graph_rules.specs.Conditions.{ArePorts, CanLoad}
use Rattle.graph_laws.specs.Knowing.{AreFurther}
use Rattle.graph_laws.proofs.ListLemmas.{distinct_both}
use Rattle.graph_laws.proofs.RadioLemmas.{are_ports}

-- rows that are read are sound
pub read_sound : (network wireless : Package) → IsSound (conf network wireless)
read_sound network wireless = record {
  levels = sound_levels (conf network wireless) (all_said (modern network).sections) (all_names (modern network).sections) refl;
  names = sound_names (conf network wireless) (all_said (modern network).sections) refl (said_are_read (counted (modern network).sections));
  vlans = sound_vlans (conf network wireless) (all_said (modern network).sections) (modern network).sections refl;
}

no_ports : (rows : List NameRow) (names : List (List ℕ)) → ArePorts rows names []
no_ports rows names = record {
  bridges = λ p h. absurd (none_in_nil p h);
  plain = λ p h. absurd (none_in_nil p h);
  known = λ p h. absurd (none_in_nil p h);
  once = tt;
  free = λ p h. absurd (none_in_nil p h);
}

module _ (network wireless : Package) (within : passed_limit (conf network wireless) ≡ None) where
  pub can_load : (plain : List (List ℕ)) (radio : List RadioPort) → AreFurther (conf network wireless) plain → ArePorts (conf network wireless).names (names_of (conf network wireless) ++ plain) radio
      → CanLoad (conf network wireless) plain radio
  can_load plain radio further ports = record {
    sound = read_sound network wireless;
    few = (are_few (conf network wireless) within).names;
    once = distinct_both (names_of (conf network wireless)) plain (names_read_once network wireless) further.once (λ name in_rows in_plain. further.rowless name in_plain in_rows);
    ports_once = ports_read_once network wireless;
    ports = ports;
  }

  pub can_load_alone : CanLoad (conf network wireless) [] []
  can_load_alone = can_load [] [] (record { once = tt; rowless = λ name h. absurd (none_in_nil name h) }) (no_ports (conf network wireless).names (names_of (conf network wireless) ++ []))

-- with the ports of the network's radios
pub can_load_radios : (network wireless : Package) (facts : Facts) (plain : List (List ℕ)) (radio : List RadioPort) → facts.conf ≡ conf network wireless → passed_limit facts.conf ≡ None → AreFurther facts.conf plain → map port_of radio
    ≡ radio_ports facts → ((p : RadioPort) → Contains radio p → Contains (names_of facts.conf ++ plain) p.port) → CanLoad facts.conf plain radio
can_load_radios network wireless facts plain radio is within further same known =
    let ports : ArePorts facts.conf.names (names_of facts.conf ++ plain) radio = are_ports facts (names_of facts.conf ++ plain) radio same known in
    subst (λ (rows : Conf). CanLoad rows plain radio) (sym is)
    (can_load network wireless (subst (λ (rows : Conf). passed_limit rows ≡ None) is within) plain radio
    (subst (λ (rows : Conf). AreFurther rows plain) is further)
    (subst (λ (rows : Conf). ArePorts rows.names (names_of rows ++ plain) radio) is ports))
