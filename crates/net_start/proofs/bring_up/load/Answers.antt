use Rattle.std.proofs.Common.{◌≡◌, ◌∙◌, ap}
use Rattle.net_conf.specs.Conf.{conf}
use Rattle.net_rules.specs.declared.event.Event.TheVariants as event
use Rattle.net_rules.specs.Notices.{notices}
use Rattle.net_rules.specs.Moment.{Moment}
use Rattle.net_rules.proofs.MomentLemmas.{conf_follows}
use Rattle.net_start.specs.Inputs.{rows_of, loading, lines_of_requests}
use Rattle.net_start.proofs.SettlingLemmas.{retold}
use Rattle.net_start.proofs.bring_up.load.Goals as goal

pub returns-clause-requests : goal.returns-clause-requests
returns-clause-requests c =
    let network = c.args.network.now in
    let before = c.args.net.now.inputs in
    let taken = c.in-Ok.ensures.ok in
    let silent = ap (conf network) c.no_wireless.ensures in
    let rows : c.load.new.self.inputs.conf ≡ rows_of network =
    ap (λ (m : Moment). m.inputs.conf) taken.moment
    ∙ (conf_follows before (event.Load (conf network c.no_wireless.result)) ∙ silent) in
    let told = taken.notices ∙ ap (λ rows. notices before (event.Load rows)) silent in
    retold c.lines_of_requests.result (λ v. v.items)
    (lines_of_requests c.load.new.self.inputs.conf c.load.new.self.notices)
    (lines_of_requests (rows_of network) (notices before (loading network)))
    (ap (λ rows. lines_of_requests rows c.load.new.self.notices) rows
    ∙ ap (lines_of_requests (rows_of network)) told) c.lines_of_requests.ensures.lines
