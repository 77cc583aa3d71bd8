use Rattle.std.proofs.Common.{map, ap, ◌∙◌}
use Rattle.graph_objects.specs.Marks.{judged}
use Rattle.graph_tables.proofs.ListLemmas.{all_judged}
use Rattle.graph_tables.proofs.judging.judge.Goals as goal

pub returns-clause-wishes : goal.returns-clause-wishes
returns-clause-wishes c =
    all_judged c.args.names.now c.requires.sound c.look.new.used.items c.look.ensures.used c.args.objects.now.wishes c.judge.new.self.wishes c.requires.wishes
    (c.judge.ensures.wishes ∙ ap (λ us. map (judged us) c.args.objects.now.wishes) c.as_slice.ensures.value)
