use Rattle.std.proofs.Common.{arith, ◌≡◌, ◌<◌, ◌+◌, ◌-◌, ap, sym, subst, ◌∙◌, cond, length}
use Rattle.std.specs.Prelude.{not, Some, is_some}
use Rattle.std.specs.FinSet as set
use Rattle.std.proofs.lemmas.Option.{get_or_from_slice_get}
use Rattle.kern_model.specs.AdmissionTest.{is_at}
use Rattle.kern_model.specs.ObjectOrder.{set_of}
use Rattle.kern_memory.proofs.ObjectLemmas.{without_object}
use Rattle.kern_memory.proofs.AtLemmas.{some_of, NoneFrom, retained_without, one_more, none_after, all_stay}
use Rattle.kern_memory.proofs.objects.remove_at.Goals as goal

pub loop-index-preserved-then-is_at : goal.loop-index-preserved-then-is_at
loop-index-preserved-then-is_at c =
    let ks = c.loop-index.objects.keys in
    let fs = c.swap_remove_index.new.self.keys in
    let name = c.args.name.now in
    let i = c.loop-index.index - 1 in
    let key = c.index.result.now in
    let took : c.swap_remove_index.result ≡ Some key = c.swap_remove_index.ensures.key ∙ c.index.ensures in
    let fewer : length fs + 1 ≡ length ks = subst (λ found. length fs + cond (is_some found) 1 0 ≡ length ks) took c.swap_remove_index.ensures.len in
    let before : c.loop-index.index ≡ i + 1 = omega (arith, c.loop-index-test.true) in
    let kept = c.loop-index.invariant in (
      ap (λ s. set.retain s (λ o. not (is_at name o))) (without_object ks fs key (some_of _ key took c.swap_remove_index.ensures.updates).0)
          ∙ retained_without (set_of ks) key (λ o. not (is_at name o)) (ap not (sym c.is_at.ensures ∙ c.if-is_at.true))
          ∙ kept.0,
      subst (λ xs. NoneFrom name xs i) (sym (some_of _ key took c.swap_remove_index.ensures.keys)) (none_after name ks i key (subst (NoneFrom name ks) before kept.1)),
      omega (arith, fewer, kept.2),
      omega (arith, fewer, kept.3),
      (let room = c.swap_remove_index.ensures.room.0 in omega (arith, room, kept.4)),
    )

pub loop-index-preserved : goal.loop-index-preserved
loop-index-preserved c =
    let ks = c.loop-index.objects.keys in
    let name = c.args.name.now in
    let i = c.loop-index.index - 1 in
    let key = c.index.result.now in
    let before : c.loop-index.index ≡ i + 1 = omega (arith, c.loop-index-test.true) in
    let kept = c.loop-index.invariant in
    let inside : i < length ks = omega (arith, before, kept.2) in (
      kept.0,
      one_more name ks i key (subst (NoneFrom name ks) before kept.1) inside (sym (get_or_from_slice_get ks i key key c.index.ensures)) (sym c.is_at.ensures ∙ c.if-is_at.false),
      omega (arith, inside),
      kept.3,
      kept.4,
    )

pub returns-clause-items : goal.returns-clause-items
returns-clause-items c =
    let ks = c.loop-index.objects.keys in
    let name = c.args.name.now in
    let start : c.loop-index.index ≡ 0 = omega (arith, c.loop-index-test.false) in
    all_stay name ks (subst (NoneFrom name ks) start c.loop-index.invariant.1) ∙ c.loop-index.invariant.0
