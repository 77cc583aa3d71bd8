use Rattle.std.proofs.Common.{◌++◌, ◌∷◌}
use Rattle.ubus_table.specs.Served.{frame}
use Rattle.ubus_send.specs.Fits.{fits}
use Rattle.ubus_broker.proofs.laws.at_most_one_status.Goals as goal

pub returns : goal.returns
returns c = λ acl earlier later client message out now invoke ran.
    (c.sent_as_defined.ensures acl (earlier ++ frame client message ∷ later) out now ran, c.at_most_one_status.ensures fits acl earlier later client message invoke)
