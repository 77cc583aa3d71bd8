use Rattle.std.proofs.Common.{ℕ, ◌≡◌, List, map, filter, Option, Some, ap, sym, subst, ◌∙◌}
use Rattle.std.specs.Prelude.{slice_get}
use Rattle.std.specs.Option.{option_and_then, option_copied}
use Rattle.net_rows.specs.declared.rows.Conf.{Conf}
use Rattle.net_rows.specs.declared.rows.InterfaceRow.{InterfaceRow}
use Rattle.net_rows.specs.declared.rows.RouteRow.{RouteRow}
use Rattle.net_rules.specs.declared.answer.Answer.{Answer}
use Rattle.net_rules.specs.RadioPorts.{device_of}
use Rattle.net_rules.specs.Interfaces.{device_or_own}
use Rattle.net_rules.specs.Inputs.{facts_of}
use Rattle.net_wants.specs.Grouped.{is_route_named}
use Rattle.gift_places.specs.Expecting.{listed_given, with_places}
use Rattle.state_requests.proofs.PlaceLemmas.{read_same}
use Rattle.state_requests.proofs.BecomeLemmas.{stands, device_noted}
use Rattle.net_follow.specs.Answering.{heard, l3_device_by}
use Rattle.net_follow.proofs.AwaitLemmas.{on_ok}
use Rattle.net_follow.proofs.MoreLemmas.{none_given, all_given}
use Rattle.net_follow.proofs.awaiting.expect_answer.Goals as goal

pub returns-in_default-clause-places : goal.returns-in_default-clause-places
returns-in_default-clause-places c = λ row there.
    let inputs = c.args.inputs.now.inputs in
    let answer : Answer = c.args.answer.now in
    let all : c.as_slice.result.now ≡ inputs.conf.interfaces = c.as_slice.ensures ∙ ap (λ (conf : Conf). conf.interfaces) c.conf-conf.ensures.rows in
    let read : c.index-as_slice-place.result ≡ row = read_same inputs.conf.interfaces c.as_slice.result.now c.args.place c.index-as_slice-place.result row all c.requires.place c.index-as_slice-place.is there in
    let is = stands inputs c.args.states.now c.args.place c.index.result.now c.requires.tied c.requires.place c.index.ensures in
    let device : c.index.result.now.device ≡ device_of (facts_of inputs) row = device_noted inputs c.args.states.now c.requires.tied c.args.place row c.index.result.now there is (c.requires.first c.index.result.now is) in
    let l3_device : c.l3_device_of.result ≡ l3_device_by (facts_of inputs) row answer =
    c.l3_device_of.ensures
    ∙ ap (λ (x : InterfaceRow). device_or_own (option_and_then (λ (a : Answer). a.device) (heard x answer)) c.index.result.now.device) read
    ∙ ap (device_or_own (option_and_then (λ (a : Answer). a.device) (heard row answer))) device in
    none_given (facts_of inputs) row answer c.args.gifts.now (l3_device_by (facts_of inputs) row answer) (sym l3_device ∙ c.in_default.is)

pub returns-clause-places : goal.returns-clause-places
returns-clause-places c = λ row there.
    let inputs = c.args.inputs.now.inputs in
    let answer : Answer = c.args.answer.now in
    let all : c.as_slice.result.now ≡ inputs.conf.interfaces = c.as_slice.ensures ∙ ap (λ (conf : Conf). conf.interfaces) c.conf-conf.ensures.rows in
    let read : c.index-as_slice-place.result ≡ row = read_same inputs.conf.interfaces c.as_slice.result.now c.args.place c.index-as_slice-place.result row all c.requires.place c.index-as_slice-place.is there in
    let is = stands inputs c.args.states.now c.args.place c.index.result.now c.requires.tied c.requires.place c.index.ensures in
    let device : c.index.result.now.device ≡ device_of (facts_of inputs) row = device_noted inputs c.args.states.now c.requires.tied c.args.place row c.index.result.now there is (c.requires.first c.index.result.now is) in
    let l3_device : c.l3_device_of.result ≡ l3_device_by (facts_of inputs) row answer =
    c.l3_device_of.ensures
    ∙ ap (λ (x : InterfaceRow). device_or_own (option_and_then (λ (a : Answer). a.device) (heard x answer)) c.index.result.now.device) read
    ∙ ap (device_or_own (option_and_then (λ (a : Answer). a.device) (heard row answer))) device in
    let routes : c.as_slice-routes.result.now ≡ inputs.conf.routes = c.as_slice-routes.ensures ∙ ap (λ (conf : Conf). conf.routes) c.conf-conf.ensures.rows in
    let places : List ℕ = c.routes_of-places.result.now in
    let told : Option Answer = option_copied c.heard.result in
    let named : map (slice_get inputs.conf.routes) places ≡ map Some (filter (is_route_named inputs.conf row.name) inputs.conf.routes) =
    subst (λ (x : InterfaceRow). map (slice_get inputs.conf.routes) places ≡ map Some (filter (is_route_named inputs.conf x.name) inputs.conf.routes)) read (c.routes_of-places.ensures inputs c.requires.tied.reach) in
    on_ok c.expect_given.result
    (λ ok. all_given (facts_of inputs) row answer c.args.gifts.now c.expect_given.new.gifts (l3_device_by (facts_of inputs) row answer) c.in-Some.dev told places (sym l3_device ∙ c.in-Some.is)
    (c.heard.ensures ∙ ap (λ (x : InterfaceRow). heard x answer) read) named
    (ok
    ∙ ap (λ (rs : List RouteRow). with_places c.args.gifts.now (listed_given c.index-as_slice-place.result told rs places c.in-Some.dev)) routes
    ∙ ap (λ (x : InterfaceRow). with_places c.args.gifts.now (listed_given x told inputs.conf.routes places c.in-Some.dev)) read)) c.expect_given.ensures.ok
