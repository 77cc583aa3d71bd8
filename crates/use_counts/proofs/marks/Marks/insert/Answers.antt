use Rattle.std.proofs.Common.{arith, ◌*◌, ◌/◌, ◌<◌, length, ap, ◌∙◌}
use Rattle.std.proofs.lemmas.List.{get_or_read}
use Rattle.use_counts.specs.Marked.{mark}
use Rattle.use_counts.proofs.MarkLemmas.{inserted, inserted_other}
use Rattle.use_counts.proofs.marks.Marks.insert.Goals as goal

pub returns-then-self-clause-here : goal.returns-then-self-clause-here
returns-then-self-clause-here c = inserted c.self.inside.words.items c.args.number c.index_mut.result.now (omega (arith, c.requires, ap length c.self.view_is))

pub returns-then-self-clause-others : goal.returns-then-self-clause-others
returns-then-self-clause-others c n differs =
    let words = c.self.inside.words.items in
    let within : c.args.number < 64 * length words = omega (arith, c.requires, ap length c.self.view_is) in
    inserted_other words c.args.number c.index_mut.result.now within (get_or_read words (c.args.number / 64) c.index_mut.result.now (omega arith) c.index_mut.ensures.value 0) n differs
    ∙ ap (λ ws. mark ws n) c.self.view_is

pub returns-else-self-clause-here : goal.returns-else-self-clause-here
returns-else-self-clause-here c = inserted c.self.inside.words.items c.args.number c.index_mut.result.now (omega (arith, c.requires, ap length c.self.view_is))

pub returns-else-self-clause-others : goal.returns-else-self-clause-others
returns-else-self-clause-others c n differs =
    let words = c.self.inside.words.items in
    let within : c.args.number < 64 * length words = omega (arith, c.requires, ap length c.self.view_is) in
    inserted_other words c.args.number c.index_mut.result.now within (get_or_read words (c.args.number / 64) c.index_mut.result.now (omega arith) c.index_mut.ensures.value 0) n differs
    ∙ ap (λ ws. mark ws n) c.self.view_is
