use Rattle.std.proofs.Common.{arith, ◌*◌, ◌/◌, ◌<◌, length, ap, ◌∙◌}
use Rattle.std.proofs.lemmas.List.{get_or_read}
use Rattle.use_counts.specs.Marked.{mark}
use Rattle.use_counts.proofs.MarkLemmas.{removed, removed_other}
use Rattle.use_counts.proofs.marks.Marks.remove.Goals as goal

pub returns-clause-here : goal.returns-clause-here
returns-clause-here c = removed c.self.inside.words.items c.args.number c.index_mut.result.now (omega (arith, c.requires, ap length c.self.view_is))

pub returns-clause-others : goal.returns-clause-others
returns-clause-others c n differs =
    let words = c.self.inside.words.items in
    let within : c.args.number < 64 * length words = omega (arith, c.requires, ap length c.self.view_is) in
    removed_other words c.args.number c.index_mut.result.now within (get_or_read words (c.args.number / 64) c.index_mut.result.now (omega arith) c.index_mut.ensures.value 0) n differs
    ∙ ap (λ ws. mark ws n) c.self.view_is
