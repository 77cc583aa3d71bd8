use Rattle.std.proofs.Common.{ℕ, ◌+◌, ◌<◌, ◌≡◌, ◌∙◌, List, Some, length, take, map, sym, subst, ap, arith}
use Rattle.serde_json.specs.View.{view, items_of, items_view}
use Rattle.net_addr.specs.declared.address.Addr.{Addr}
use Rattle.answer_json.specs.Members.{AreItems}
use Rattle.answer_json.specs.AnswerJson.{IsPrefix}
use Rattle.answer_json.proofs.ItemLemmas.{items_more, array_not}
use Rattle.answer_json.proofs.answer_json.read_prefixes.Goals as goal

pub loop-item-init : goal.loop-item-init
loop-item-init c =
    subst (λ (prefixes : List (Addr × ℕ)). AreItems IsPrefix
    (items_of (map view (take 0 c.as_slice-item-items.result.now))) prefixes)
    (sym c.new-prefixes.ensures) AreItems.none

pub returns-in_default-read_prefix-clause-none : goal.returns-in_default-read_prefix-clause-none
returns-in_default-read_prefix-clause-none c =
    let h : c.loop-item.item-index < length c.as_slice-item-items.result.now = omega arith in
    array_not IsPrefix _ c.as_slice-item-items.result.now c.loop-item.item-index c.item-item.result
    (sym c.in-Some.ensures ∙ ap (λ vs. Some (items_view vs)) (sym c.as_slice-item-items.ensures.value))
    h c.item-item.is c.in_default-read_prefix.ensures.none

pub loop-item-preserved : goal.loop-item-preserved
loop-item-preserved c =
    let h : c.loop-item.item-index < length c.as_slice-item-items.result.now = omega arith in
    subst (λ (prefixes : List (Addr × ℕ)). AreItems IsPrefix
    (items_of (map view (take (c.loop-item.item-index + 1) c.as_slice-item-items.result.now))) prefixes)
    (sym c.in_ok-push.ensures.ok)
    (items_more IsPrefix _ _ _ _ _ h c.item-item.is c.loop-item.invariant
    c.in-Some-read_prefix.ensures.found)
