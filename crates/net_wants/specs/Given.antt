-- What is added for an interface that is up.
use Rattle.std.specs.Prelude.{ℕ, List}
use Rattle.kern_model.specs.declared.object.Object.{Object}
use Rattle.kern_model.specs.declared.object.Object.TheVariants as object
use Rattle.net_rows.specs.declared.rows.RouteRow.{RouteRow}
use Rattle.net_rules.specs.declared.answer.AnswerRoute.{AnswerRoute}
use Rattle.net_rules.specs.Want.{main_table}

-- a route of an answer, on a device
abbrev pub answer_route : List ℕ → AnswerRoute → Object
answer_route dev r = object.Route
    (record { target = r.target; via = r.via; dev = dev; metric = r.metric; table = main_table })

-- a route of a section, on a device
abbrev pub route_on : List ℕ → RouteRow → Object
route_on dev r = object.Route (record { target = r.target; via = r.via; dev = dev; metric = r.metric; table = r.table })
