use Rattle.std.proofs.Common.{ℕ, List, IfOk, ◌≡◌, refl, subst}
use Rattle.ubus_state.specs.Pairs.{owner_pair}
use Rattle.ubus_state.specs.Rising.{object_number}
use Rattle.ubus_state.proofs.ObjectLemmas.{numbers_in}
use Rattle.ubus_state.proofs.RisingLemmas.{climbs}
use Rattle.ubus_state.proofs.object_rows.ObjectRows.numbers_of.Goals as goal

pub returns : goal.returns
returns c =
    subst (λ (found : List ℕ). IfOk c.seconds_of.result (λ numbers. numbers.items ≡ found))
    (numbers_in object_number owner_pair (λ object. refl) c.args.self.now.rows.items c.args.self.now.by_owner c.args.client (climbs object_number c.args.self.now.rows.items c.args.self.now.rising.0) c.seconds_of.ensures.ordered
    c.args.self.now.owned)
    c.seconds_of.ensures.seconds
