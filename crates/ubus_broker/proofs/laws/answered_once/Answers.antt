use Rattle.std.proofs.Common.{◌++◌, ◌∷◌, sym, ◌∙◌, refl}
use Rattle.ubus_table.specs.Table.{nobody}
use Rattle.ubus_table.specs.Served.{BusEvent, frame}
use Rattle.ubus_table.specs.Run.{after}
use Rattle.ubus_send.specs.Fits.{fits}
use Rattle.ubus_broker.specs.Ran.{Ran}
use Rattle.ubus_broker.proofs.RanLemmas.{Alike, alike, joined, same_client, same_ends}
use Rattle.ubus_broker.proofs.laws.answered_once.Goals as goal

pub returns : goal.returns
returns c = λ acl earlier between later event number object client message first second third before middle now asks on ran there more stays ends rest.
    let call : BusEvent = frame number message in
    let one : Alike (nobody acl) earlier first before = alike c.places_change_nothing.ensures (nobody acl) (nobody acl) earlier first before refl ran in
    let until : Ran (nobody acl) (earlier ++ call ∷ between) (first ++ second) middle = joined (nobody acl) before middle earlier (call ∷ between) first second ran more in
    let two : Alike (nobody acl) (earlier ++ call ∷ between) (first ++ second) middle =
    alike c.places_change_nothing.ensures (nobody acl) (nobody acl) (earlier ++ call ∷ between) (first ++ second) middle refl until in (
      c.sent_as_defined.ensures acl (earlier ++ call ∷ between ++ event ∷ later) (first ++ second ++ third) now
          (joined (nobody acl) middle now (earlier ++ call ∷ between) (event ∷ later) (first ++ second) third until rest),
      c.answered_once.ensures fits acl earlier between later event number object client message asks on
          (sym (same_client before (after fits (nobody acl) earlier) number one.knows) ∙ there) stays
          (same_ends middle (after fits (nobody acl) (earlier ++ call ∷ between)) number message.seq object event two.knows ends),
    )
