use Rattle.std.proofs.Common.{arith, ◌≤◌, ◌+◌, ◌^◌, length, refl, sym, subst}
use Rattle.net_rules.specs.Inputs.{facts_of}
use Rattle.graph_settle.specs.SettlingState.{SettlingState}
use Rattle.given_objects.specs.Gifts.{Gifts, givers_of}
use Rattle.net_gifts.specs.Giving.{gives}
use Rattle.claim_moves.specs.Claiming.{CanMove}
use Rattle.net_states.proofs.PlaceLemmas.{at_within, member_at}
use Rattle.net_states.proofs.CountLemmas.{can_move, is_given, may_give, places_after, counts_alone, counted_still}
use Rattle.net_states.proofs.BecomeLemmas.{stands, tied_still}
use Rattle.net_states.proofs.states.States.put_state.Goals as goal

pub withdraw-requires-clause-given : goal.withdraw-requires-clause-given
withdraw-requires-clause-given g c = λ row o there.
    let inputs = c.args.inputs.now.inputs in
    let is = stands inputs c.args.self.now c.args.place c.index.result.now c.requires.tied c.requires.place c.index.ensures in
    is_given inputs c.args.self.now.list.items c.args.place row c.index.result.now c.args.new there is c.args.settling.now.gifts c.requires.counted.counted.givers o

pub move_claims-requires : goal.move_claims-requires
move_claims-requires g c =
    let inputs = c.args.inputs.now.inputs in
    let states = c.args.self.now in
    let is = stands inputs states c.args.place c.index.result.now c.requires.tied c.requires.place c.index.ensures in
    let found = at_within inputs.conf.interfaces c.args.place c.requires.place in
    let can = c.requires.can found.0 c.index.result.now found.1 is in
    let few : length states.list.items ≤ 1024 = omega (arith, c.requires.tied.noted.size, c.requires.counted.room.rows) in
    subst (λ (s : SettlingState). CanMove s.graph.known c.index.result.now c.args.new) (sym c.withdraw.ensures.kept)
    (can_move states.list.items c.args.place c.index.result.now c.args.new is c.args.settling.now.graph.known few c.requires.counted.counted.claims can.device can.known)

pub give-requires-clause-places : goal.give-requires-clause-places
give-requires-clause-places g c = λ row there.
    let inputs = c.args.inputs.now.inputs in
    let is = stands inputs c.args.self.now c.args.place c.index.result.now c.requires.tied c.requires.place c.index.ensures in
    places_after c.args.settling.now.gifts c.withdraw.new.settling.gifts (gives (facts_of inputs) row c.index.result.now) (gives (facts_of inputs) row c.args.new) (c.withdraw.ensures.gifts row there)
    (c.requires.can row c.index.result.now there is).places

pub give-requires-clause-few : goal.give-requires-clause-few
give-requires-clause-few g c = λ row o there.
    let inputs = c.args.inputs.now.inputs in
    subst (λ (gs : Gifts). givers_of gs o + length (gives (facts_of inputs) row c.args.new) ≤ 2 ^ 62) (sym (c.withdraw.ensures.gifts row there))
    (may_give inputs c.args.self.now.list.items c.args.settling.now.gifts c.requires.counted.counted.givers c.requires.counted.room row c.args.new (gives (facts_of inputs) row c.index.result.now)
    (member_at inputs.conf.interfaces c.args.place row there) o)

pub returns-clause-tied : goal.returns-clause-tied
returns-clause-tied g c =
    let inputs = c.args.inputs.now.inputs in
    let states = c.args.self.now in
    let is = stands inputs states c.args.place c.index.result.now c.requires.tied c.requires.place c.index.ensures in
    let found = at_within inputs.conf.interfaces c.args.place c.requires.place in
    let can = c.requires.can found.0 c.index.result.now found.1 is in
    tied_still inputs states _ c.args.place found.0 c.index.result.now c.args.new found.1 is refl refl can.first can.device can.number can.unused c.requires.tied

pub returns-clause-counted : goal.returns-clause-counted
returns-clause-counted g c =
    let inputs = c.args.inputs.now.inputs in
    let is = stands inputs c.args.self.now c.args.place c.index.result.now c.requires.tied c.requires.place c.index.ensures in
    let found = at_within inputs.conf.interfaces c.args.place c.requires.place in
    let can = c.requires.can found.0 c.index.result.now found.1 is in
    counted_still inputs c.args.self.now.list.items c.args.place found.0 c.index.result.now c.args.new found.1 is c.args.settling.now c.withdraw.new.settling c.give.new.settling c.move_claims.new.graph
    (c.withdraw.ensures.gifts found.0 found.1) c.withdraw.ensures.kept c.move_claims.ensures.moves c.move_claims.ensures.stays (c.give.ensures.gifts found.0 found.1) c.give.ensures.kept c.requires.counted can.places

pub returns-clause-stays : goal.returns-clause-stays
returns-clause-stays g c =
    let inputs = c.args.inputs.now.inputs in
    let is = stands inputs c.args.self.now c.args.place c.index.result.now c.requires.tied c.requires.place c.index.ensures in
    let found = at_within inputs.conf.interfaces c.args.place c.requires.place in
    counts_alone inputs c.args.self.now.list.items c.args.place found.0 c.index.result.now c.args.new found.1 is c.args.settling.now c.withdraw.new.settling c.give.new.settling c.move_claims.new.graph
    (c.withdraw.ensures.gifts found.0 found.1) c.withdraw.ensures.kept c.move_claims.ensures.moves c.move_claims.ensures.stays (c.give.ensures.gifts found.0 found.1) c.give.ensures.kept
