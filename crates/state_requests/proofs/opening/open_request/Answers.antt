use Rattle.std.proofs.Common.{◌≡◌, ap}
use Rattle.net_rules.specs.declared.request.InterfaceRequest.{InterfaceRequest}
use Rattle.net_rules.specs.declared.state.InterfaceState.{InterfaceState}
use Rattle.state_requests.proofs.OpeningLemmas.{read_twice, none_after, none_more, is_at_hand, opens_new, opens_named, known_after, told_after, between_after}
use Rattle.state_requests.proofs.opening.open_request.Goals as goal

pub returns-then-not-lacks_request-clause-inputs : goal.returns-then-not-lacks_request-clause-inputs
returns-then-not-lacks_request-clause-inputs c = none_after c.args.inputs.now c.args.states.now c.requires.tied c.args.place c.requires.place c.lacks_request.result c.lacks_request.ensures c.if-not-lacks_request.true

pub returns-then-not-lacks_request-clause-told : goal.returns-then-not-lacks_request-clause-told
returns-then-not-lacks_request-clause-told c = none_more c.args.inputs.now c.args.states.now c.requires.tied c.args.place c.requires.place c.lacks_request.result c.lacks_request.ensures c.if-not-lacks_request.true c.args.notices.now.items

pub returns-in_default-clause-inputs : goal.returns-in_default-clause-inputs
returns-in_default-clause-inputs c = absurd (is_at_hand c.args.inputs.now c.args.states.now c.requires.tied c.args.place c.requires.place c.lacks_request.result c.lacks_request.ensures c.if-not-lacks_request.false c.take_request.result
    c.take_request.ensures.taken c.in_default.is)

pub returns-in_default-clause-between : goal.returns-in_default-clause-between
returns-in_default-clause-between c = absurd (is_at_hand c.args.inputs.now c.args.states.now c.requires.tied c.args.place c.requires.place c.lacks_request.result c.lacks_request.ensures c.if-not-lacks_request.false c.take_request.result
    c.take_request.ensures.taken c.in_default.is)

pub returns-in_default-clause-told : goal.returns-in_default-clause-told
returns-in_default-clause-told c = absurd (is_at_hand c.args.inputs.now c.args.states.now c.requires.tied c.args.place c.requires.place c.lacks_request.result c.lacks_request.ensures c.if-not-lacks_request.false c.take_request.result
    c.take_request.ensures.taken c.in_default.is)

pub open-number-requires-clause-new : goal.open-number-requires-clause-new
open-number-requires-clause-new c =
    let k = c.args.inputs.now in
    let spare : InterfaceRequest = c.in-Some.request in
    let request : InterfaceRequest = record spare { device = c.index-2.result.now.device } in
    let request_is : request ≡ record spare { device = c.index.result.now.device } =
    ap (λ (s : InterfaceState). let a : InterfaceRequest = record spare { device = s.device } in a)
    (read_twice k c.args.states.now c.requires.tied c.args.place c.requires.place c.lacks_request.result c.lacks_request.ensures c.take_request.new.states c.index.result.now c.index-2.result.now c.take_request.ensures.others c.index.ensures
    c.index-2.ensures) in
    opens_new k c.args.states.now c.requires.tied c.args.place c.requires.place c.lacks_request.result c.lacks_request.ensures c.if-not-lacks_request.false c.index.result.now c.index.ensures spare request c.take_request.result
    c.take_request.ensures.taken
    c.in-Some.is request_is

pub open-number-requires-clause-named : goal.open-number-requires-clause-named
open-number-requires-clause-named c =
    let k = c.args.inputs.now in
    let spare : InterfaceRequest = c.in-Some.request in
    let request : InterfaceRequest = record spare { device = c.index-2.result.now.device } in
    let request_is : request ≡ record spare { device = c.index.result.now.device } =
    ap (λ (s : InterfaceState). let a : InterfaceRequest = record spare { device = s.device } in a)
    (read_twice k c.args.states.now c.requires.tied c.args.place c.requires.place c.lacks_request.result c.lacks_request.ensures c.take_request.new.states c.index.result.now c.index-2.result.now c.take_request.ensures.others c.index.ensures
    c.index-2.ensures) in
    opens_named k c.args.states.now c.requires.tied c.args.place c.requires.place c.lacks_request.result c.lacks_request.ensures c.if-not-lacks_request.false c.index.result.now c.index.ensures spare request c.take_request.result
    c.take_request.ensures.taken
    c.in-Some.is request_is

pub returns-clause-inputs : goal.returns-clause-inputs
returns-clause-inputs c =
    let k = c.args.inputs.now in
    let spare : InterfaceRequest = c.in-Some.request in
    let request : InterfaceRequest = record spare { device = c.index-2.result.now.device } in
    let request_is : request ≡ record spare { device = c.index.result.now.device } =
    ap (λ (s : InterfaceState). let a : InterfaceRequest = record spare { device = s.device } in a)
    (read_twice k c.args.states.now c.requires.tied c.args.place c.requires.place c.lacks_request.result c.lacks_request.ensures c.take_request.new.states c.index.result.now c.index-2.result.now c.take_request.ensures.others c.index.ensures
    c.index-2.ensures) in
    known_after k c.args.states.now c.requires.tied c.args.place c.requires.place c.lacks_request.result c.lacks_request.ensures c.if-not-lacks_request.false c.index.result.now c.index.ensures spare request c.take_request.result
    c.take_request.ensures.taken
    c.in-Some.is request_is c.open-number.new.self c.open-number.ensures.opened

pub returns-clause-told : goal.returns-clause-told
returns-clause-told c =
    let k = c.args.inputs.now in
    let spare : InterfaceRequest = c.in-Some.request in
    let request : InterfaceRequest = record spare { device = c.index-2.result.now.device } in
    let request_is : request ≡ record spare { device = c.index.result.now.device } =
    ap (λ (s : InterfaceState). let a : InterfaceRequest = record spare { device = s.device } in a)
    (read_twice k c.args.states.now c.requires.tied c.args.place c.requires.place c.lacks_request.result c.lacks_request.ensures c.take_request.new.states c.index.result.now c.index-2.result.now c.take_request.ensures.others c.index.ensures
    c.index-2.ensures) in
    told_after k c.args.states.now c.requires.tied c.args.place c.requires.place c.lacks_request.result c.lacks_request.ensures c.if-not-lacks_request.false c.index.result.now c.index.ensures spare request c.take_request.result
    c.take_request.ensures.taken
    c.in-Some.is request_is c.args.notices.now.items c.tell_one.new.notices.items c.open-number.result c.open-number.ensures.number c.tell_one.ensures.told

pub returns-clause-between : goal.returns-clause-between
returns-clause-between c = λ places touched between.
    let k = c.args.inputs.now in
    let spare : InterfaceRequest = c.in-Some.request in
    let request : InterfaceRequest = record spare { device = c.index-2.result.now.device } in
    let request_is : request ≡ record spare { device = c.index.result.now.device } =
    ap (λ (s : InterfaceState). let a : InterfaceRequest = record spare { device = s.device } in a)
    (read_twice k c.args.states.now c.requires.tied c.args.place c.requires.place c.lacks_request.result c.lacks_request.ensures c.take_request.new.states c.index.result.now c.index-2.result.now c.take_request.ensures.others c.index.ensures
    c.index-2.ensures) in
    between_after k c.args.states.now c.requires.tied c.args.place c.requires.place c.lacks_request.result c.lacks_request.ensures c.if-not-lacks_request.false c.index.result.now c.index.ensures spare request c.take_request.result
    c.take_request.ensures.taken
    c.in-Some.is request_is c.take_request.new.states c.keep_request.new.states c.open-number.result c.open-number.ensures.number c.take_request.ensures.left c.take_request.ensures.others c.keep_request.ensures.list
    c.keep_request.ensures.spare
    c.keep_request.ensures.others
    c.open-number.new.self c.open-number.ensures.opened places c.args.settling.now touched between
