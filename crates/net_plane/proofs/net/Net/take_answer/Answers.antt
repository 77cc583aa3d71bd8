use Rattle.std.proofs.Common.{refl, sym, ◌∙◌}
use Rattle.net_plane.specs.Network.{moment_of}
use Rattle.net_plane.proofs.EventLemmas.{kernel_stays}
use Rattle.net_plane.proofs.NamedLemmas.{answer_placed}
use Rattle.net_plane.proofs.net.Net.take_answer.Goals as goal

pub answer_at-requires-clause-place : goal.answer_at-requires-clause-place
answer_at-requires-clause-place c = sym c.place_of.ensures ∙ c.in-Some.is

-- an answer that is free is for an interface with a place
pub returns-in-None-clause-causes : goal.returns-in-None-clause-causes
returns-in-None-clause-causes c = absurd (answer_placed (moment_of c.args.self.now) c.args.interface c.args.number c.args.answer c.requires.free (sym c.place_of.ensures ∙ c.in-None.is))

pub returns-in-None-clause-kernel : goal.returns-in-None-clause-kernel
returns-in-None-clause-kernel c = kernel_stays c.args.self.now c.args.self.now refl
