use Rattle.std.proofs.Common.{◌≡◌, true, ap, sym, ◌∙◌}
use Rattle.net_rules.specs.declared.state.InterfaceState.{InterfaceState}
use Rattle.net_rules.proofs.MoveLemmas.{some_is}
use Rattle.net_states.proofs.PlaceLemmas.{at_within}
use Rattle.net_states.proofs.BecomeLemmas.{stands, can_next, follows_next, follows_idle}
use Rattle.net_states.proofs.states.States.refresh_one.Goals as goal

pub put_state-requires-clause-can : goal.put_state-requires-clause-can
put_state-requires-clause-can g c = λ row st there is.
    let inputs = c.args.inputs.now.inputs in
    let states = c.args.self.now in
    let same : c.index.result.now ≡ st = some_is c.index.result.now st (sym (stands inputs states c.args.place c.index.result.now c.requires.tied c.requires.place c.index.ensures) ∙ is) in
    let first : st.is_first ≡ true = ap (λ (s : InterfaceState). s.is_first) (sym same) ∙ c.if-index.true in
    can_next inputs states c.args.settling.now c.requires.tied c.requires.counted c.args.place row st c.next_state-new.result there is first (c.next_state-new.ensures row st there is first)

pub returns-then-index-clause-follows : goal.returns-then-index-clause-follows
returns-then-index-clause-follows g c =
    let inputs = c.args.inputs.now.inputs in
    let states = c.args.self.now in
    let old = c.index.result.now in
    let is = stands inputs states c.args.place old c.requires.tied c.requires.place c.index.ensures in
    let found = at_within inputs.conf.interfaces c.args.place c.requires.place in
    follows_next inputs states c.put_state.new.self.list.items c.requires.tied c.args.place found.0 old c.next_state-new.result found.1 is c.if-index.true (c.next_state-new.ensures found.0 old found.1 is c.if-index.true)
    c.put_state.ensures.list

pub returns-else-index-clause-follows : goal.returns-else-index-clause-follows
returns-else-index-clause-follows g c =
    let inputs = c.args.inputs.now.inputs in
    let is = stands inputs c.args.self.now c.args.place c.index.result.now c.requires.tied c.requires.place c.index.ensures in
    follows_idle inputs c.args.self.now c.requires.tied c.args.place c.index.result.now is c.if-index.false
