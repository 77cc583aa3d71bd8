-- Which names a graph knows.
use Rattle.std.specs.Prelude.{ℕ, List, Contains}
use Rattle.plane_words.specs.Distinct.{AreDistinct}
use Rattle.net_rows.specs.declared.rows.Conf.{Conf}
use Rattle.net_rules.specs.Rows.{names_of}
use Rattle.graph_rules.specs.State.{Known, names_in}
use Rattle.graph_rules.specs.Answers.{row_names}

-- the names of its rows are among its names
abbrev pub KnowsRows : Known → Type 0
KnowsRows s = (name : List ℕ) → Contains (row_names s) name → Contains (names_in s) name

-- names beside those of rows: each stands once, and has no row
pub record AreFurther (rows : Conf) (plain : List (List ℕ)) : Type 0 where
  pub once : AreDistinct plain
  pub rowless : (name : List ℕ) → Contains plain name → Contains (names_of rows) name → ⊥
