use Rattle.std.proofs.Common.{◌≡◌, ◌≤◌, ◌+◌, ◌^◌, List, fold, length, true, ap, sym, subst, ◌∙◌}
use Rattle.kern_model.specs.declared.object.Object.{Object}
use Rattle.net_rows.specs.declared.rows.Conf.{Conf}
use Rattle.net_rows.specs.declared.rows.InterfaceRow.{InterfaceRow}
use Rattle.net_rules.specs.Inputs.{facts_of}
use Rattle.given_objects.specs.Gifts.{givers_of}
use Rattle.given_objects.specs.Changes.{given_once_more}
use Rattle.net_gifts.specs.Giving.{gives, HavePlaces}
use Rattle.net_states.proofs.PlaceLemmas.{at_within, read_same}
use Rattle.net_states.proofs.CountLemmas.{gives_up}
use Rattle.net_states.proofs.states.States.give.Goals as goal

pub give_all-requires-clause-places : goal.give_all-requires-clause-places
give_all-requires-clause-places c =
    let inputs = c.args.inputs.now.inputs in
    let all : c.as_slice.result.now ≡ inputs.conf.interfaces = c.as_slice.ensures ∙ ap (λ (conf : Conf). conf.interfaces) c.conf.ensures.rows in
    let found = at_within inputs.conf.interfaces c.args.place c.requires.place in
    let same : c.index-as_slice-place.result ≡ found.0 = read_same inputs.conf.interfaces c.as_slice.result.now c.args.place c.index-as_slice-place.result found.0 all c.requires.place c.index-as_slice-place.is found.1 in
    let up : c.args.state.now.is_up ≡ true = c.if-not-state.false in
    subst (λ (os : List Object). HavePlaces c.args.settling.now.gifts os) (gives_up inputs c.index-as_slice-place.result c.args.state.now c.in-Some.l3_device up c.in-Some.is)
    (subst (λ (row : InterfaceRow). HavePlaces c.args.settling.now.gifts (gives (facts_of inputs) row c.args.state.now)) (sym same)
    (c.requires.places found.0 found.1))

pub give_all-requires-clause-few : goal.give_all-requires-clause-few
give_all-requires-clause-few c = λ o member.
    let inputs = c.args.inputs.now.inputs in
    let all : c.as_slice.result.now ≡ inputs.conf.interfaces = c.as_slice.ensures ∙ ap (λ (conf : Conf). conf.interfaces) c.conf.ensures.rows in
    let found = at_within inputs.conf.interfaces c.args.place c.requires.place in
    let same : c.index-as_slice-place.result ≡ found.0 = read_same inputs.conf.interfaces c.as_slice.result.now c.args.place c.index-as_slice-place.result found.0 all c.requires.place c.index-as_slice-place.is found.1 in
    let up : c.args.state.now.is_up ≡ true = c.if-not-state.false in
    subst (λ (os : List Object). givers_of c.args.settling.now.gifts o + length os ≤ 2 ^ 62) (gives_up inputs c.index-as_slice-place.result c.args.state.now c.in-Some.l3_device up c.in-Some.is)
    (subst (λ (row : InterfaceRow). givers_of c.args.settling.now.gifts o + length (gives (facts_of inputs) row c.args.state.now) ≤ 2 ^ 62) (sym same)
    (c.requires.few found.0 o found.1))

pub returns-clause-gifts : goal.returns-clause-gifts
returns-clause-gifts c = λ row there.
    let inputs = c.args.inputs.now.inputs in
    let all : c.as_slice.result.now ≡ inputs.conf.interfaces = c.as_slice.ensures ∙ ap (λ (conf : Conf). conf.interfaces) c.conf.ensures.rows in
    let same : c.index-as_slice-place.result ≡ row = read_same inputs.conf.interfaces c.as_slice.result.now c.args.place c.index-as_slice-place.result row all c.requires.place c.index-as_slice-place.is there in
    let up : c.args.state.now.is_up ≡ true = c.if-not-state.false in
    c.give_all.ensures
    ∙ ap (λ (os : List Object). fold given_once_more c.args.settling.now.gifts os) (sym (gives_up inputs c.index-as_slice-place.result c.args.state.now c.in-Some.l3_device up c.in-Some.is))
    ∙ ap (λ (x : InterfaceRow). fold given_once_more c.args.settling.now.gifts (gives (facts_of inputs) x c.args.state.now)) same
