use Rattle.std.proofs.Common.{ap, List, ℕ, ◌∷◌, [], ◌++◌, ◌∙◌}
use Rattle.std.proofs.lemmas.Result.{on_ok_weaker}
use Rattle.uci_tree.specs.declared.package.Value.TheVariants.{Many}
use Rattle.uci_tree.specs.Fold.{appended}
use Rattle.uci_delta.proofs.OptionLemmas.{option_found, put_pushed, put_written}
use Rattle.uci_delta.proofs.options.put_item.Goals as goal

pub returns-in_default-clause-done : goal.returns-in_default-clause-done
returns-in_default-clause-done c = put_pushed c.args.name.now _ (appended c.args.item) c.args.options.now.items _ _
    (option_found _ c.args.options.now.items _ c.args.name.now _ _ c.option_place.ensures c.as_slice.ensures.value c.as_bytes.ensures c.in_default.is) c.in_ok-name.ensures
    (ap Many (c.in_ok-push.ensures.ok ∙ ap (λ (z : List (List ℕ)). z ++ c.args.item ∷ []) c.new-items.ensures)) c.in_ok-push-2.ensures.items

pub returns-clause-done : goal.returns-clause-done
returns-clause-done c = on_ok_weaker c.append_item.result (λ v. put_written c.args.name.now (appended c.args.item) c.args.options.now.items _ c.index_mut.result.now _
    (option_found _ c.args.options.now.items _ c.args.name.now _ _ c.option_place.ensures c.as_slice.ensures.value c.as_bytes.ensures c.in-Some.is) c.index_mut.ensures.value v) c.append_item.ensures.done
