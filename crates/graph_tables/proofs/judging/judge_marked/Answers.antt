use Rattle.std.proofs.Common.{map, List, Bool, sym, subst, ap, ◌∙◌}
use Rattle.graph_objects.specs.Decided.{StandOnWanted, judged_by}
use Rattle.graph_wishes.specs.Wishes.{mays}
use Rattle.graph_tables.specs.Wished.{wish_in}
use Rattle.graph_tables.specs.Lists.{HaveSame}
use Rattle.graph_tables.proofs.DifferLemmas.{used_now, wishes_now, stand_now}
use Rattle.graph_tables.proofs.judging.judge_marked.Goals as goal

pub judge_ids-requires : goal.judge_ids-requires
judge_ids-requires c =
    let before = c.requires.before in
    subst (λ (us : List Bool). StandOnWanted (map (judged_by us c.args.ids.now) c.args.objects.now.wishes)) (sym c.as_slice.ensures.value)
    (stand_now before.0 c.args.names.now c.args.ids.now c.args.used.now.items c.look_at.new.used.items c.args.objects.now.wishes before.1 c.look_at.ensures.used c.requires.sound)

pub returns-clause-used : goal.returns-clause-used
returns-clause-used c =
    let before = c.requires.before in
    used_now before.0 c.args.names.now c.args.ids.now c.args.used.now.items c.look_at.new.used.items c.args.objects.now.wishes before.1 c.look_at.ensures.used c.requires.sound

pub returns-clause-wishes : goal.returns-clause-wishes
returns-clause-wishes c =
    let before = c.requires.before in
    subst (λ ws. HaveSame ws (map (wish_in c.args.names.now) (mays c.args.names.now))) (sym (c.judge_ids.ensures.wishes ∙ ap (λ (us : List Bool). map (judged_by us c.args.ids.now) c.args.objects.now.wishes) c.as_slice.ensures.value))
    (wishes_now before.0 c.args.names.now c.args.ids.now c.args.used.now.items c.look_at.new.used.items c.args.objects.now.wishes before.1 c.look_at.ensures.used c.requires.sound)
