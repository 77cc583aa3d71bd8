use Rattle.std.proofs.Common.{sym}
use Rattle.given_objects.proofs.TableLemmas.{key_of}
use Rattle.given_objects.proofs.OrderedLemmas.{gift_at_key, no_gift_at}
use Rattle.given_objects.proofs.order.gift_of.Goals as goal

pub returns-in_default : goal.returns-in_default
returns-in_default c = no_gift_at (key_of c.args.object.now) c.args.table.now.entries c.in_default.ensures.found

pub returns : goal.returns
returns c = gift_at_key (key_of c.args.object.now) c.args.table.now.entries c.requires c.in-Some.place c.gift_at.result (sym c.in-Some.ensures.index) c.gift_at.ensures
