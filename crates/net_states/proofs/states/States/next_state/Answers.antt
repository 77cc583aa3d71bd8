use Rattle.std.proofs.Common.{◌≡◌, ap, sym, ◌∙◌}
use Rattle.net_rows.specs.declared.rows.Conf.{Conf}
use Rattle.net_rows.specs.declared.rows.InterfaceRow.{InterfaceRow}
use Rattle.net_rules.specs.Inputs.{facts_of}
use Rattle.net_rules.specs.Interfaces.{is_claimed, is_up, l3_device_of}
use Rattle.net_rules.specs.declared.state.InterfaceState.{InterfaceState}
use Rattle.net_rules.proofs.MoveLemmas.{some_is}
use Rattle.net_states.proofs.PlaceLemmas.{read_same}
use Rattle.net_states.proofs.BecomeLemmas.{stands, device_noted}
use Rattle.net_states.proofs.states.States.next_state.Goals as goal

pub returns : goal.returns
returns c = λ row st there is first.
    let inputs = c.args.inputs.now.inputs in
    let states = c.args.self.now in
    let all : c.as_slice.result.now ≡ inputs.conf.interfaces = c.as_slice.ensures ∙ ap (λ (conf : Conf). conf.interfaces) c.conf.ensures.rows in
    let read : c.index-as_slice-place.result ≡ row = read_same inputs.conf.interfaces c.as_slice.result.now c.args.place c.index-as_slice-place.result row all c.requires.place c.index-as_slice-place.is there in
    let same : c.index.result.now ≡ st = some_is c.index.result.now st (sym (stands inputs states c.args.place c.index.result.now c.requires.tied c.requires.place c.index.ensures) ∙ is) in
    record {
      is = record {
        device = ap (λ (s : InterfaceState). s.device) same ∙ device_noted inputs states c.requires.tied c.args.place row st there is first;
        l3_device = c.l3_device_of.ensures ∙ ap (λ (x : InterfaceRow). l3_device_of (facts_of inputs) x) read;
        claimed = c.is_claimed.ensures ∙ ap (λ (x : InterfaceRow). is_claimed (facts_of inputs) x) read;
        up = c.is_up.ensures ∙ ap (λ (x : InterfaceRow). is_up (facts_of inputs) x) read;
      };
      first = ap (λ (s : InterfaceState). s.is_first) same;
      number = ap (λ (s : InterfaceState). s.number) same;
    }
