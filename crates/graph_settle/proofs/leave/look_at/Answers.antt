use Rattle.std.proofs.Common.{ap, ◌∙◌}
use Rattle.graph_rules.specs.Calls.{loses_link_in}
use Rattle.graph_settle.proofs.LeaveLemmas.{looked}
use Rattle.graph_settle.proofs.leave.look_at.Goals as goal

pub returns : goal.returns
returns c g at =
    c.note_lost_link.ensures
    ∙ looked c.args.graph.now c.args.gifts.now c.args.place c.gift.result g c.gift.ensures at c.loses_link-loses_link.result (c.loses_link-loses_link.ensures ∙ ap (loses_link_in c.args.graph.now) c.name.ensures)
