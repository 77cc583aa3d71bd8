use Rattle.std.proofs.Common.{◌≡◌, length, true, false, OnOk, sym, subst, ap, ◌∙◌}
use Rattle.graph_objects.specs.Grown.{CanExpect, HasMore}
use Rattle.dev_graph.specs.Added.{plain_wish}
use Rattle.dev_graph.proofs.PlainLemmas.{dotted_stays, can_expect_plain, expected_or_not}
use Rattle.dev_graph.proofs.adding.expect_plain.Goals as goal

pub expect-requires : goal.expect-requires
expect-requires c =
    let size : c.len-id.result ≡ length c.args.names.now.names = c.len-id.ensures.length ∙ ap length c.names.ensures.names in
    subst (λ id. CanExpect c.args.objects.now.wishes (plain_wish c.args.name id)) (sym size)
    (can_expect_plain c.args.names.now c.args.name c.requires.whole c.requires.other (sym c.is_dotted.ensures ∙ c.if-is_dotted.false) c.args.objects.now.wishes c.requires.wishes)

pub returns-then-is_dotted-clause-ok : goal.returns-then-is_dotted-clause-ok
returns-then-is_dotted-clause-ok c = dotted_stays c.args.names.now c.args.name c.requires.whole c.requires.other c.args.objects.now.wishes (sym c.is_dotted.ensures ∙ c.if-is_dotted.true) c.requires.wishes

pub returns-clause-ok : goal.returns-clause-ok
returns-clause-ok c =
    let size : c.len-id.result ≡ length c.args.names.now.names = c.len-id.ensures.length ∙ ap length c.names.ensures.names in
    expected_or_not c.args.names.now c.args.name c.requires.whole c.requires.other (sym c.is_dotted.ensures ∙ c.if-is_dotted.false) c.args.objects.now.wishes c.requires.wishes c.expect.result c.expect.new.self.wishes
    (subst (λ id. OnOk c.expect.result (HasMore c.args.objects.now.wishes c.expect.new.self.wishes (plain_wish c.args.name id))) size c.expect.ensures.ok)
