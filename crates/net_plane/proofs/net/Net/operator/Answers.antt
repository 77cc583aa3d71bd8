use Rattle.std.proofs.Common.{◌≡◌, None, Some, refl, sym, ◌∙◌}
use Rattle.net_rules.specs.declared.event.Event.TheVariants as event
use Rattle.net_rules.specs.declared.refusal.Refusal.TheVariants as refused
use Rattle.net_rules.specs.Refusal.{refusal}
use Rattle.net_plane.specs.declared.net_error.NetError.TheVariants as error
use Rattle.net_plane.specs.Network.{moment_of}
use Rattle.net_plane.proofs.AnswerLemmas.{answers_refused, answers_free, at_error}
use Rattle.net_plane.proofs.EventLemmas.{kernel_stays}
use Rattle.net_plane.proofs.NamedLemmas.{operator_state_refused, operator_state_free}
use Rattle.net_plane.proofs.net.Net.operator.Goals as goal

pub operator_state-requires-clause-place : goal.operator_state-requires-clause-place
operator_state-requires-clause-place c = sym c.place_of.ensures ∙ c.in-Some.is

pub returns-in-Some-clause-refused : goal.returns-in-Some-clause-refused
returns-in-Some-clause-refused c =
    let moment = moment_of c.args.self.now in
    let free : refusal moment (event.Operator c.args.interface c.args.up) ≡ None = operator_state_free moment c.args.interface c.args.up c.in-Some.place (sym c.place_of.ensures ∙ c.in-Some.is) in
    answers_free (Unit {0}) (refusal moment (event.Operator c.args.interface c.args.up)) c.operator_state.result free c.operator_state.ensures.causes

pub returns-in-Some-clause-ready : goal.returns-in-Some-clause-ready
returns-in-Some-clause-ready c = λ e is memory. at_error (Unit {0}) c.operator_state.result e is c.operator_state.ensures.ready

pub returns-in-None-clause-refused : goal.returns-in-None-clause-refused
returns-in-None-clause-refused c =
    let moment = moment_of c.args.self.now in
    let why : refusal moment (event.Operator c.args.interface c.args.up) ≡ Some refused.NoInterface = operator_state_refused moment c.args.interface c.args.up (sym c.place_of.ensures ∙ c.in-None.is) in
    answers_refused (Unit {0}) (refusal moment (event.Operator c.args.interface c.args.up)) refused.NoInterface error.NoInterface why refl

pub returns-in-None-clause-ready : goal.returns-in-None-clause-ready
returns-in-None-clause-ready c = λ e is memory. cc (is, memory)

pub returns-in-None-clause-kernel : goal.returns-in-None-clause-kernel
returns-in-None-clause-kernel c = kernel_stays c.args.self.now c.args.self.now refl
