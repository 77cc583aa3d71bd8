-- What the names, rows and ports of radios of every graph keep.
use Rattle.std.specs.Prelude.{ℕ, ◌≡◌, ◌++◌, List, [], map, Contains}
use Rattle.plane_words.specs.Distinct.{AreDistinct}
use Rattle.net_rows.specs.declared.rows.Conf.{Conf}
use Rattle.net_rows.specs.declared.rows.NameRow.{NameRow}
use Rattle.net_rules.specs.Rows.{ports_of_kind}
use Rattle.net_rules.specs.Sound.{HasSoundLevels, HasSoundNames}
use Rattle.graph_rules.specs.State.{Known, names_in}
use Rattle.graph_rules.specs.Conditions.{ArePorts}

-- a configuration with the rows of names alone
abbrev pub conf_of : List NameRow → Conf
conf_of rows =
    record { interfaces = []; devices = []; routes = []; radios = []; names = rows; vlans = [] }

-- names, each once, of which those of the rows come first, in the order of the rows
pub record BeginWithRows (names : List (List ℕ)) (rows : List NameRow) : Type 0 where
  pub once : AreDistinct names
  pub plain : List (List ℕ)
  pub front : names ≡ map (λ row. row.name) rows ++ plain

-- The rows are sound and their names come first. No port stands twice at its bridge, and radios have
-- ports that they may have.
pub record IsSound (s : Known) : Type 0 where
  pub levels : HasSoundLevels (conf_of s.rows)
  pub standing : HasSoundNames (conf_of s.rows)
  pub names : BeginWithRows (names_in s) s.rows
  pub ports_once : (row : NameRow) → Contains s.rows row → AreDistinct (ports_of_kind row.kind)
  pub ports : ArePorts s.rows (names_in s) s.radio
