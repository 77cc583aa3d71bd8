use Rattle.std.proofs.Common.{◌≡◌, ◌∙◌, ap, sym, subst, Some, None, List, ℕ, Option}
use Rattle.std.specs.Prelude.{IfSome, IfNone}
use Rattle.std.specs.Option.{option_map}
use Rattle.serde_json.specs.View.{view}
use Rattle.answer_json.specs.PortsJson.{ArePorts}
use Rattle.net_rules.specs.declared.event.Event.TheVariants as event
use Rattle.script_lines.specs.declared.line_error.LineError.TheVariants as error
use Rattle.net_plane.specs.Network.{moment_of}
use Rattle.step_net.specs.NetLine.{NetLine}
use Rattle.plane_step.specs.Means.{json_of, RadioRequests}
use Rattle.step_net.specs.Taken.{IsActed}
use Rattle.step_net.proofs.RequestLemmas.{happening_requests}
use Rattle.step_net.proofs.TakenLemmas.{told_takes}
use Rattle.step_net.proofs.AnswerLemmas.{takes_this, takes_refused}
use Rattle.plane_step.proofs.answer.answer_radio.Goals as goal

pub returns-in_default-found-clause-takes : goal.returns-in_default-found-clause-takes
returns-in_default-found-clause-takes c =
    let json : None ≡ json_of c.args.json.now = sym (ap (option_map view) c.in_default-found.is) ∙ c.in-Ok.ensures in
    takes_refused (RadioRequests c.args.number c.args.radio c.args.request c.args.json.now)
    (error.BadLine c.args.number) c.args.net.now c.refuse_line.result (RadioRequests.no_json (sym json))
    c.requires c.refuse_line.ensures

pub returns-in-Some-read-clause-takes : goal.returns-in-Some-read-clause-takes
returns-in-Some-read-clause-takes c =
    let json : Some (view c.in-Some.value) ≡ json_of c.args.json.now = sym (ap (option_map view) c.in-Some.is) ∙ c.in-Ok.ensures in
    let what = event.Radio c.args.radio c.args.request c.in-Some-read.ports in
    takes_this IsActed (RadioRequests c.args.number c.args.radio c.args.request c.args.json.now)
    (NetLine.happens what) c.args.net.now c.take_radio.new.net c.tell.result
    (RadioRequests.answer (view c.in-Some.value) c.in-Some-read.ports (sym json)
    (subst (λ read. IfSome read (ArePorts (view c.in-Some.value))) c.in-Some-read.is c.in-Ok-read_ports.ensures.found))
    (happening_requests (moment_of c.args.net.now) what tt)
    (told_takes (NetLine.happens what) c.args.net.now c.take_radio.new.net c.take_radio.result c.tell.result c.take_radio.ensures.takes c.tell.ensures)

pub returns-in-None-clause-takes : goal.returns-in-None-clause-takes
returns-in-None-clause-takes c =
    let json : Some (view c.in-Some.value) ≡ json_of c.args.json.now = sym (ap (option_map view) c.in-Some.is) ∙ c.in-Ok.ensures in
    takes_refused (RadioRequests c.args.number c.args.radio c.args.request c.args.json.now)
    (error.BadLine c.args.number) c.args.net.now c.refuse_line-in-None.result
    (RadioRequests.no_answer (view c.in-Some.value) (sym json)
    (subst (λ read. IfNone read ((told : List (Option (List ℕ))) → ArePorts (view c.in-Some.value) told → ⊥)) c.in-None.is c.in-Ok-read_ports.ensures.none))
    c.requires c.refuse_line-in-None.ensures
