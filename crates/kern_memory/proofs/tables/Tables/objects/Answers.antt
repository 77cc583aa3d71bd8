use Rattle.std.proofs.Common.{sym, subst}
use Rattle.plane_words.specs.Distinct.{AreDistinct}
use Rattle.kern_memory.proofs.EqLemmas.{distinct_of_unique}
use Rattle.kern_memory.proofs.tables.Tables.objects.Goals as goal

pub returns-clause-once : goal.returns-clause-once
returns-clause-once c = subst AreDistinct (sym c.as_slice.ensures.keys) (distinct_of_unique c.self.inside.objects.keys c.as_slice.ensures.unique)
