-- The ports that radios tell for an interface.
use Rattle.std.specs.Prelude.{ℕ, List, [], Option, if◌then◌else◌, bytes_eq}
use Rattle.std.specs.List.{find}
use Rattle.std.specs.Option.{option_map}
use Rattle.std.specs.BTreeMap.{get}
use Rattle.std.specs.Ordering.{nat_cmp}
use Rattle.std.specs.Cmp.Lexicographic.{slice_cmp}
use Rattle.net_rows.specs.declared.rows.RadioRow.{RadioRow}
use Rattle.net_rules.specs.RadioPorts.{AnsweredPort, ports_of_radio}
use Rattle.net_view.specs.Places.{is_place}
use Rattle.net_looks.specs.declared.look.Look.{Look}
use Rattle.net_looks.specs.Look.{facts_at}

-- the port of the first answer for an interface
abbrev pub port_for : List ℕ → List AnsweredPort → Option (List ℕ)
port_for interface answered =
    option_map (λ a. a.port) (find (λ a. bytes_eq a.interface interface) answered)

-- what the radio at a place tells, where it is the first of its name
abbrev pub told_at : Look → ℕ → RadioRow → List AnsweredPort
told_at look place radio =
    if is_place place (get (slice_cmp nat_cmp) look.reach.now.radios radio.name)
    then ports_of_radio (facts_at look) radio else []
