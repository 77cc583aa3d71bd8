use Rattle.std.proofs.Common.{Bor}
use Rattle.net_rows.specs.declared.rows.RouteRow.{RouteRow}
use Rattle.net_view.proofs.PlaceLemmas.{read_at}
use Rattle.net_looks.proofs.giving.route_row.Goals as goal

pub returns : goal.returns
returns c = read_at (λ (x : Bor RouteRow). x.now) c.args.routes.now c.args.place c.get.result c.get.ensures.lookup
