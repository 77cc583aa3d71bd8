use Rattle.std.proofs.Common.{[], ◌∷◌, List, ℕ, take, get_or, ap, sym, subst, ◌∙◌}
use Rattle.std.proofs.lemmas.List.{take_all}
use Rattle.graph_objects.specs.Changed.{each_slot, judged_slot_by}
use Rattle.graph_objects.specs.Deciders.{AreListed, deciders}
use Rattle.graph_objects.proofs.DeciderLemmas.{decided_deciders}
use Rattle.graph_objects.proofs.JudgeLemmas.{each_none, each_next}
use Rattle.graph_objects.proofs.judging.judge_each.Goals as goal

pub loop-id-init : goal.loop-id-init
loop-id-init c = sym (each_none c.args.used.now c.args.slots.now.entries)

pub judge_id-requires : goal.judge_id-requires
judge_id-requires c =
    subst (AreListed c.args.by_id.now) (sym (ap deciders c.loop-id.invariant ∙ decided_deciders c.args.used.now (take c.loop-id.id-index c.args.ids.now) c.args.slots.now.entries)) c.requires

pub loop-id-preserved : goal.loop-id-preserved
loop-id-preserved c =
    c.judge_id.ensures
    ∙ ap (each_slot (judged_slot_by c.args.used.now (get_or c.args.ids.now c.loop-id.id-index 0 ∷ []))) c.loop-id.invariant
    ∙ each_next c.args.used.now c.args.ids.now c.loop-id.id-index c.args.slots.now.entries c.loop-id-test.true

pub returns : goal.returns
returns c =
    c.loop-id.invariant
    ∙ ap (λ (ns : List ℕ). each_slot (judged_slot_by c.args.used.now ns) c.args.slots.now.entries) (take_all c.loop-id.id-index c.args.ids.now c.loop-id-test.false)
