use Rattle.std.proofs.Common.{refl}
use Rattle.graph_objects.specs.Deciders.{deciders}
use Rattle.graph_objects.proofs.DeciderLemmas.{none_new}
use Rattle.graph_objects.proofs.growth.keep_held.Goals as goal

pub keep-requires-clause-fits : goal.keep-requires-clause-fits
keep-requires-clause-fits c = c.requires.fits c.in-Some.object c.in-Some.is

pub returns-in-None-clause-stay : goal.returns-in-None-clause-stay
returns-in-None-clause-stay c = none_new (deciders c.args.slots.now.entries) (deciders c.args.slots.now.entries) refl
