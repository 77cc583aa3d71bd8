use Rattle.std.proofs.Common.{arith, ◌≡◌, ◌∷◌, ◌++◌, [], length, List, Bool, false, map, sym, ap, subst, ◌∙◌, length-append}
use Rattle.std.specs.Prelude.{filter, nat_lt}
use Rattle.graph_objects.specs.declared.slot.Wish.{Wish}
use Rattle.use_counts.specs.Uses.{Marking}
use Rattle.graph_rules.specs.State.{Known}
use Rattle.graph_tables.specs.Wishes.{mays}
use Rattle.graph_tables.specs.Wished.{wish_in}
use Rattle.graph_tables.specs.Lists.{AreUsed, HaveSame}
use Rattle.dev_graph.specs.Added.{added}
use Rattle.dev_graph.proofs.GraphLemmas.{same_held}
use Rattle.dev_graph.proofs.PlainLemmas.{as_many, used_more, plain_forgotten}
use Rattle.dev_graph.proofs.graph.add_to.Goals as goal

pub returns-in_err-expect_plain-clause-wishes : goal.returns-in_err-expect_plain-clause-wishes
returns-in_err-expect_plain-clause-wishes c = subst (λ ws. HaveSame ws (map (wish_in c.args.names.now) (mays c.args.names.now))) (sym c.in_err-expect_plain.ensures.err) c.requires.wishes

pub returns-in-Ok-clause-room : goal.returns-in-Ok-clause-room
returns-in-Ok-clause-room c =
    omega (arith, c.requires.room, as_many c.args.names.now c.args.name c.requires.whole c.requires.other, ap (λ (k : Known). length k.names) c.in-Ok.ensures.ok, ap (λ (m : Marking). m.room) c.in_ok-add_room.ensures.ok)

pub returns-in-Ok-clause-size : goal.returns-in-Ok-clause-size
returns-in-Ok-clause-size c =
    let items : c.push_reserved.new.self.items ≡ c.args.used.now.items ++ false ∷ [] = c.push_reserved.ensures.items ∙ ap (λ (us : List Bool). us ++ false ∷ []) c.in_ok-reserve.ensures.items in
    omega (arith, c.requires.size, as_many c.args.names.now c.args.name c.requires.whole c.requires.other, ap (λ (k : Known). length k.names) c.in-Ok.ensures.ok, ap length items, length-append c.args.used.now.items (false ∷ []))

pub returns-in-Ok-clause-used : goal.returns-in-Ok-clause-used
returns-in-Ok-clause-used c =
    let s : Known = c.args.names.now in
    let items : c.push_reserved.new.self.items ≡ c.args.used.now.items ++ false ∷ [] = c.push_reserved.ensures.items ∙ ap (λ (us : List Bool). us ++ false ∷ []) c.in_ok-reserve.ensures.items in
    subst (λ k. AreUsed k c.push_reserved.new.self.items) (sym c.in-Ok.ensures.ok)
    (subst (AreUsed (added s c.args.name)) (sym items) (used_more s c.args.name c.requires.whole c.requires.other c.args.used.now.items c.requires.size c.requires.used))

pub returns-in-Ok-clause-held : goal.returns-in-Ok-clause-held
returns-in-Ok-clause-held c = same_held c.args.objects.now c.expect_plain.new.objects c.in_ok-expect_plain.ensures.held

pub returns-in-Ok-clause-wishes : goal.returns-in-Ok-clause-wishes
returns-in-Ok-clause-wishes c = subst (λ k. HaveSame c.expect_plain.new.objects.wishes (map (wish_in k) (mays k))) (sym c.in-Ok.ensures.ok) c.in_ok-expect_plain.ensures.ok

pub returns-in-Err-clause-held : goal.returns-in-Err-clause-held
returns-in-Err-clause-held c = same_held c.args.objects.now c.forget_from.new.self (c.forget_from.ensures.held ∙ c.in_ok-expect_plain.ensures.held)

pub returns-in-Err-clause-wishes : goal.returns-in-Err-clause-wishes
returns-in-Err-clause-wishes c =
    let s : Known = c.args.names.now in
    let expected : List Wish = c.expect_plain.new.objects.wishes in
    let count : c.len.result ≡ length s.names = c.len.ensures.length ∙ ap length c.names.ensures.names ∙ ap (λ (k : Known). length k.names) c.in-Err.ensures.err in
    let kept : c.forget_from.new.self.wishes ≡ filter (λ (w : Wish). nat_lt w.first (length s.names)) expected = c.forget_from.ensures.wishes ∙ ap (λ n. filter (λ (w : Wish). nat_lt w.first n) expected) count in
    subst (λ k. HaveSame c.forget_from.new.self.wishes (map (wish_in k) (mays k))) (sym c.in-Err.ensures.err)
    (subst (λ ws. HaveSame ws (map (wish_in s) (mays s))) (sym kept) (plain_forgotten s c.args.name c.requires.whole c.requires.other expected c.in_ok-expect_plain.ensures.ok))
