-- Rows that were read.
use Rattle.std.specs.Prelude.{◌≡◌, None}
use Rattle.uci_tree.specs.declared.package.Package.{Package}
use Rattle.net_rows.specs.declared.rows.Conf.{Conf}
use Rattle.net_conf.specs.Conf.{conf}
use Rattle.net_conf.specs.Limits.{passed_limit}

-- these are the rows of a `network` package and a `wireless` one, and they pass no limit
pub record AreRead (rows : Conf) : Type 0 where
  pub network : Package
  pub wireless : Package
  pub read : rows ≡ conf network wireless
  pub within : passed_limit rows ≡ None
