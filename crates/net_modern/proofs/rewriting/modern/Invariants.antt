use Rattle.std.proofs.Common.{◌≡◌}
use Rattle.std.specs.Vec.Iter.{into_iter_items}
use Rattle.net_modern.specs.Names.{AreNames}
use Rattle.net_modern.specs.State.{progress_of}
use Rattle.net_modern.specs.Rewriting.{sections_now, after_sections, at_start}
use Rattle.net_modern.proofs.rewriting.modern.Given as goal

-- the package so far, and the sections that are left; the names are those of the package as it is now
abbrev pub invariant-loop-section : goal.invariant-loop-section
invariant-loop-section l = record {
  so_far : after_sections (progress_of l.progress) (into_iter_items l.section-iterator) ≡ after_sections (at_start l.fn.network.made) l.fn.network.sections;
  names : AreNames l.progress.names (sections_now (progress_of l.progress) (into_iter_items l.section-iterator));
}
