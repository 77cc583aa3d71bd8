use Rattle.std.proofs.Common.{◌≡◌, Some, None, length, rules, ap, ◌∙◌}
use Rattle.std.specs.Prelude.{is_none}
use Rattle.net_rules.specs.Inputs.{open_radio}
use Rattle.net_rules.specs.Refusal as spec
use Rattle.net_refused.proofs.LookLemmas.{radio_lacks, radio_known}
use Rattle.net_refused.proofs.radios.radio_refusal.Goals as goal

pub returns-then-is_none : goal.returns-then-is_none
returns-then-is_none c =
    let inputs = c.args.inputs.now.inputs in
    let none : c.is_none.result ≡ is_none c.radio_place.result = search rules in
    radio_lacks inputs c.args.radio.now c.args.number c.args.ports.now c.radio_place.result (c.radio_place.ensures inputs c.requires) c.is_none.result none c.if-is_none.true

pub returns-in-Some : goal.returns-in-Some
returns-in-Some c =
    let inputs = c.args.inputs.now.inputs in
    let asked = c.in-Some.asked.now in
    let none : c.is_none.result ≡ is_none c.radio_place.result = search rules in
    let told : c.asked_refusal.result ≡ spec.or_else (spec.stale_number c.args.number (Some asked.number)) (spec.wrong_ports (length c.args.ports.now) (Some asked)) = search rules in
    told
    ∙ radio_known inputs c.args.radio.now c.args.number c.args.ports.now c.radio_place.result (c.radio_place.ensures inputs c.requires) c.is_none.result none c.if-is_none.false (Some asked)
    (c.in-Some.ensures ∙ ap (λ os. open_radio os c.args.radio.now) c.radios.ensures)

pub returns-in-None : goal.returns-in-None
returns-in-None c =
    let inputs = c.args.inputs.now.inputs in
    let none : c.is_none.result ≡ is_none c.radio_place.result = search rules in
    c.stale_number.ensures
    ∙ radio_known inputs c.args.radio.now c.args.number c.args.ports.now c.radio_place.result (c.radio_place.ensures inputs c.requires) c.is_none.result none c.if-is_none.false None
    (c.in-None.ensures ∙ ap (λ os. open_radio os c.args.radio.now) c.radios.ensures)
