use Rattle.std.proofs.Common.{sym, ◌∙◌}
use Rattle.state_requests.proofs.LosingLemmas.{none_left, needed_none, unasked_none, is_open, known_left, number_lost, reach_left, between_left}
use Rattle.state_requests.proofs.losing.lose_request.Goals as goal

pub returns-then-needs_request-clause-number : goal.returns-then-needs_request-clause-number
returns-then-needs_request-clause-number c = sym (needed_none c.args.inputs.now c.args.states.now c.requires.tied c.args.place c.requires.place c.needs_request.ensures.once c.needs_request.result c.needs_request.ensures.needs
    c.if-needs_request.true)

pub returns-then-needs_request-clause-inputs : goal.returns-then-needs_request-clause-inputs
returns-then-needs_request-clause-inputs c =
    let k = c.args.inputs.now in
    none_left k c.args.states.now c.requires.tied c.args.place c.requires.place c.needs_request.ensures.once c.needs_request.result c.needs_request.ensures.needs
    (needed_none k c.args.states.now c.requires.tied c.args.place c.requires.place c.needs_request.ensures.once c.needs_request.result c.needs_request.ensures.needs c.if-needs_request.true)

pub returns-in_default-clause-number : goal.returns-in_default-clause-number
returns-in_default-clause-number c = sym (unasked_none c.args.inputs.now c.args.states.now c.requires.tied c.args.place c.requires.place c.needs_request.ensures.once c.needs_request.result c.needs_request.ensures.needs c.index.result.now
    c.index.ensures c.in_default.is)

pub returns-in_default-clause-inputs : goal.returns-in_default-clause-inputs
returns-in_default-clause-inputs c =
    let k = c.args.inputs.now in
    none_left k c.args.states.now c.requires.tied c.args.place c.requires.place c.needs_request.ensures.once c.needs_request.result c.needs_request.ensures.needs
    (unasked_none k c.args.states.now c.requires.tied c.args.place c.requires.place c.needs_request.ensures.once c.needs_request.result c.needs_request.ensures.needs c.index.result.now c.index.ensures c.in_default.is)

pub returns-in_default-close-clause-inputs : goal.returns-in_default-close-clause-inputs
returns-in_default-close-clause-inputs c = absurd (is_open c.args.inputs.now c.args.states.now c.requires.tied c.args.place c.requires.place c.needs_request.ensures.once c.needs_request.result c.needs_request.ensures.needs
    c.index.result.now
    c.index.ensures c.in-Some.number c.in-Some.is (sym c.close.ensures.found ∙ c.in_default-close.is))

pub returns-in_default-close-clause-number : goal.returns-in_default-close-clause-number
returns-in_default-close-clause-number c = absurd (is_open c.args.inputs.now c.args.states.now c.requires.tied c.args.place c.requires.place c.needs_request.ensures.once c.needs_request.result c.needs_request.ensures.needs
    c.index.result.now
    c.index.ensures c.in-Some.number c.in-Some.is (sym c.close.ensures.found ∙ c.in_default-close.is))

pub returns-in_default-close-clause-between : goal.returns-in_default-close-clause-between
returns-in_default-close-clause-between c = absurd (is_open c.args.inputs.now c.args.states.now c.requires.tied c.args.place c.requires.place c.needs_request.ensures.once c.needs_request.result c.needs_request.ensures.needs
    c.index.result.now
    c.index.ensures c.in-Some.number c.in-Some.is (sym c.close.ensures.found ∙ c.in_default-close.is))

pub returns-clause-inputs : goal.returns-clause-inputs
returns-clause-inputs c =
    known_left c.args.inputs.now c.args.states.now c.requires.tied c.args.place c.requires.place c.needs_request.ensures.once c.needs_request.result c.needs_request.ensures.needs c.index.result.now c.index.ensures c.in-Some.number
    c.in-Some.is
    c.if-needs_request.false c.in-Some-close.closed (sym c.close.ensures.found ∙ c.in-Some-close.is)
    c.close.new.self c.close.ensures.left

pub returns-clause-number : goal.returns-clause-number
returns-clause-number c = sym (number_lost c.args.inputs.now c.args.states.now c.requires.tied c.args.place c.requires.place c.needs_request.ensures.once c.needs_request.result c.needs_request.ensures.needs c.index.result.now
    c.index.ensures
    c.in-Some.number c.in-Some.is c.if-needs_request.false c.in-Some-close.closed (sym c.close.ensures.found ∙ c.in-Some-close.is))

pub returns-clause-between : goal.returns-clause-between
returns-clause-between c = λ places touched between.
    let k = c.args.inputs.now in
    let is = sym c.close.ensures.found ∙ c.in-Some-close.is in
    let reached = reach_left k c.args.states.now c.requires.tied c.args.place c.requires.place c.needs_request.ensures.once c.needs_request.result c.needs_request.ensures.needs c.index.result.now c.index.ensures c.in-Some.number
    c.in-Some.is
    c.if-needs_request.false c.in-Some-close.closed is c.set_l3_device.new.self c.l3_device_told.result c.l3_device_told.ensures c.set_l3_device.ensures.told in
    between_left k c.args.states.now c.requires.tied c.args.place c.requires.place c.needs_request.ensures.once c.needs_request.result c.needs_request.ensures.needs c.index.result.now c.index.ensures c.in-Some.number c.in-Some.is
    c.if-needs_request.false
    c.in-Some-close.closed is c.keep_request.new.states c.set_l3_device.new.self reached c.keep_request.ensures.list c.keep_request.ensures.spare c.keep_request.ensures.others
    c.close.new.self c.close.ensures.left places c.args.settling.now touched between
