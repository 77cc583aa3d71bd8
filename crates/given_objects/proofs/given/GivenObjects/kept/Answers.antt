use Rattle.std.proofs.Common.{arith, ◌≡◌, ◌+◌, ◌++◌, ◌∷◌, [], List, take, fold, filter, ap, sym, ◌∙◌}
use Rattle.std.proofs.lemmas.List.{take_more, take_all}
use Rattle.kern_model.specs.declared.object.Object.{Object}
use Rattle.given_objects.specs.Gifts.{Gifts}
use Rattle.given_objects.specs.Changes.{is_live, with_place}
use Rattle.given_objects.proofs.KeptLemmas.{fold_more}
use Rattle.given_objects.proofs.given.GivenObjects.kept.Goals as goal

pub loop-object-init : goal.loop-object-init
loop-object-init c = record { kept = c.in_ok-kept.ensures }

pub expect-requires : goal.expect-requires
expect-requires c = c.requires c.object-item.result (c.loop-object.object-index, c.loop-object-test.true, sym c.object-item.is)

pub loop-object-preserved : goal.loop-object-preserved
loop-object-preserved c =
    let base : Gifts = filter is_live c.args.self.now in
    let objects : List Object = c.args.keep.now in
    let o : Object = c.object-item.result in
    let front : List Object = take c.loop-object.object-index objects in
    let more : take (c.loop-object.object-index + 1) objects ≡ front ++ o ∷ [] = take_more objects c.loop-object.object-index o c.loop-object-test.true ∙ ap (λ x. front ++ x ∷ []) (sym c.object-item.is) in
    record {
      kept = c.in_ok-expect.ensures.ok ∙ ap (λ gs. with_place gs o) c.loop-object.invariant.kept ∙ sym (ap (fold with_place base) more ∙ fold_more base front o);
    }

pub returns : goal.returns
returns c = c.loop-object.invariant.kept ∙ ap (fold with_place (filter is_live c.args.self.now)) (take_all c.loop-object.object-index c.args.keep.now (omega arith))
