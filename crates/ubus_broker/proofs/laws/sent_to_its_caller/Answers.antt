use Rattle.std.proofs.Common.{◌++◌, ◌∷◌, sym, ◌∙◌, refl}
use Rattle.ubus_table.specs.Table.{nobody}
use Rattle.ubus_table.specs.Served.{frame}
use Rattle.ubus_table.specs.Run.{after}
use Rattle.ubus_send.specs.Fits.{fits}
use Rattle.ubus_broker.proofs.RanLemmas.{Alike, alike, joined, same_client}
use Rattle.ubus_broker.proofs.laws.sent_to_its_caller.Goals as goal

pub returns : goal.returns
returns c = λ acl earlier later number client message first second before now asks ran there more.
    let one : Alike (nobody acl) earlier first before = alike c.places_change_nothing.ensures (nobody acl) (nobody acl) earlier first before refl ran in (
      c.sent_as_defined.ensures acl (earlier ++ frame number message ∷ later) (first ++ second) now
          (joined (nobody acl) before now earlier (frame number message ∷ later) first second ran more),
      c.sent_to_its_caller.ensures fits acl earlier later number client message asks
          (sym (same_client before (after fits (nobody acl) earlier) number one.knows) ∙ there),
    )
