use Rattle.std.proofs.Common.{refl, sym, ◌∙◌}
use Rattle.net_rules.specs.declared.event.Event.TheVariants as event
use Rattle.net_rules.specs.Refusal.{refusal}
use Rattle.net_plane.specs.Network.{moment_of}
use Rattle.net_plane.proofs.AnswerLemmas.{answers_refused, answers_free}
use Rattle.net_plane.proofs.EventLemmas.{kernel_stays}
use Rattle.net_plane.proofs.net.Net.radio.Goals as goal

pub take_ports-requires : goal.take_ports-requires
take_ports-requires c = record { free = sym c.refusal_of_ports.ensures ∙ c.in-None.is }

pub returns-in-Some-clause-refused : goal.returns-in-Some-clause-refused
returns-in-Some-clause-refused c = answers_refused (Unit {0}) (refusal (moment_of c.args.self.now) (event.Radio c.args.radio c.args.number c.args.ports)) c.in-Some.why c.of.result (sym c.refusal_of_ports.ensures ∙ c.in-Some.is) c.of.ensures

pub returns-in-Some-clause-kernel : goal.returns-in-Some-clause-kernel
returns-in-Some-clause-kernel c = kernel_stays c.args.self.now c.args.self.now refl

pub returns-in-None-clause-refused : goal.returns-in-None-clause-refused
returns-in-None-clause-refused c = answers_free (Unit {0}) (refusal (moment_of c.args.self.now) (event.Radio c.args.radio c.args.number c.args.ports)) c.take_ports.result (sym c.refusal_of_ports.ensures ∙ c.in-None.is)
    c.take_ports.ensures.causes
