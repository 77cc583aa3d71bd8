use Rattle.std.proofs.Common.{rules, ◌≡◌, ap, ◌∙◌}
use Rattle.std.specs.Prelude.{not, ◌||◌, filter}
use Rattle.std.specs.Ordering.{eq_by_cmp}
use Rattle.std.specs.FinSet as set
use Rattle.std.proofs.lemmas.Fn.{filter_same}
use Rattle.kern_model.specs.ObjectOrder.{Objects, object_cmp, set_of}
use Rattle.kern_model.specs.Kernel.{replaces}
use Rattle.kern_memory.proofs.ObjectLemmas.{set_of_filter, with_object, replaced_after, replaces_none}
use Rattle.kern_memory.proofs.objects.put.Goals as goal

pub returns-then-is_value-clause-ok : goal.returns-then-is_value-clause-ok
returns-then-is_value-clause-ok c =
    let ks = c.args.objects.now.keys in
    let o = c.args.object.now in
    let kept : c.retain.new.self.keys ≡ filter (λ x. not (replaces o x) || eq_by_cmp object_cmp o x) c.insert.new.self.keys =
    filter_same _ _ _ (λ x b f' k. search rules) _ _ c.retain.ensures.filtered in
    ap set_of kept
    ∙ set_of_filter (λ x. not (replaces o x) || eq_by_cmp object_cmp o x) c.insert.new.self.keys
    ∙ ap (λ (s : Objects). set.retain s (λ x. not (replaces o x) || eq_by_cmp object_cmp o x)) (with_object ks c.insert.new.self.keys o c.in_ok-_added.ensures.updates.0)
    ∙ replaced_after (set_of ks) o

pub returns-else-is_value-clause-ok : goal.returns-else-is_value-clause-ok
returns-else-is_value-clause-ok c =
    let ks = c.args.objects.now.keys in
    let o = c.args.object.now in
    with_object ks c.insert.new.self.keys o c.in_ok-_added.ensures.updates.0
    ∙ replaces_none (set_of ks) o (c.is_value.ensures c.if-is_value.false)
