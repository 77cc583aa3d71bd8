use Rattle.std.proofs.Common.{◌≡◌, ◌≤◌, List, fold, true, ap, sym, subst, ◌∙◌}
use Rattle.kern_model.specs.declared.object.Object.{Object}
use Rattle.net_rows.specs.declared.rows.Conf.{Conf}
use Rattle.net_rows.specs.declared.rows.InterfaceRow.{InterfaceRow}
use Rattle.net_rules.specs.Inputs.{facts_of}
use Rattle.given_objects.specs.Gifts.{givers_of}
use Rattle.given_objects.specs.Changes.{given_once_less}
use Rattle.net_gifts.specs.Giving.{times_in, gives}
use Rattle.net_states.proofs.PlaceLemmas.{at_within, read_same}
use Rattle.net_states.proofs.CountLemmas.{gives_up}
use Rattle.net_states.proofs.states.States.withdraw.Goals as goal

pub withdraw_all-requires-clause-given : goal.withdraw_all-requires-clause-given
withdraw_all-requires-clause-given c = λ o.
    let inputs = c.args.inputs.now.inputs in
    let all : c.as_slice.result.now ≡ inputs.conf.interfaces = c.as_slice.ensures ∙ ap (λ (conf : Conf). conf.interfaces) c.conf.ensures.rows in
    let found = at_within inputs.conf.interfaces c.args.place c.requires.place in
    let same : c.index-as_slice-place.result ≡ found.0 = read_same inputs.conf.interfaces c.as_slice.result.now c.args.place c.index-as_slice-place.result found.0 all c.requires.place c.index-as_slice-place.is found.1 in
    let up : c.args.state.now.is_up ≡ true = c.if-not-state.false in
    subst (λ (os : List Object). times_in o os ≤ givers_of c.args.settling.now.gifts o) (gives_up inputs c.index-as_slice-place.result c.args.state.now c.in-Some.l3_device up c.in-Some.is)
    (subst (λ (row : InterfaceRow). times_in o (gives (facts_of inputs) row c.args.state.now) ≤ givers_of c.args.settling.now.gifts o) (sym same)
    (c.requires.given found.0 o found.1))

pub returns-clause-gifts : goal.returns-clause-gifts
returns-clause-gifts c = λ row there.
    let inputs = c.args.inputs.now.inputs in
    let all : c.as_slice.result.now ≡ inputs.conf.interfaces = c.as_slice.ensures ∙ ap (λ (conf : Conf). conf.interfaces) c.conf.ensures.rows in
    let same : c.index-as_slice-place.result ≡ row = read_same inputs.conf.interfaces c.as_slice.result.now c.args.place c.index-as_slice-place.result row all c.requires.place c.index-as_slice-place.is there in
    let up : c.args.state.now.is_up ≡ true = c.if-not-state.false in
    c.withdraw_all.ensures
    ∙ ap (λ (os : List Object). fold given_once_less c.args.settling.now.gifts os) (sym (gives_up inputs c.index-as_slice-place.result c.args.state.now c.in-Some.l3_device up c.in-Some.is))
    ∙ ap (λ (x : InterfaceRow). fold given_once_less c.args.settling.now.gifts (gives (facts_of inputs) x c.args.state.now)) same
