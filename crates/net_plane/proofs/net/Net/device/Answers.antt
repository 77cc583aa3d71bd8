use Rattle.std.proofs.Common.{sym, ◌∙◌}
use Rattle.net_plane.proofs.AnswerLemmas.{fails_refused, fails_free, tells_refused}
use Rattle.net_plane.proofs.net.Net.device.Goals as goal

pub tell-requires-clause-free : goal.tell-requires-clause-free
tell-requires-clause-free g c = sym c.refusal_of.ensures ∙ c.in-None.is

pub returns-in-Some-clause-refused : goal.returns-in-Some-clause-refused
returns-in-Some-clause-refused g c = fails_refused (Unit {0}) _ c.in-Some.why c.of.result (g.K.Kernel.faults c.args.kernel.now) (g.K.Kernel.faults c.args.kernel.now) (sym c.refusal_of.ensures ∙ c.in-Some.is) c.of.ensures

pub returns-in-Some-clause-asked : goal.returns-in-Some-clause-asked
returns-in-Some-clause-asked g c = tells_refused (Unit {0}) c.args.event.now (g.K.Kernel.asked c.args.kernel.now) c.in-Some.why c.of.result c.of.ensures

pub returns-in-None-clause-refused : goal.returns-in-None-clause-refused
returns-in-None-clause-refused g c = fails_free (Unit {0}) _ (g.K.Kernel.faults c.args.kernel.now) (g.K.Kernel.faults c.tell.new.kernel) c.tell.result (sym c.refusal_of.ensures ∙ c.in-None.is) c.tell.ensures.causes
