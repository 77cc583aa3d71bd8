use Rattle.std.proofs.Common.{Some, None, fold, subst, sym, ap, ◌∙◌}
use Rattle.net_looks.specs.Look.{facts_at}
use Rattle.net_looks.specs.Giving.{changed_once, Can}
use Rattle.net_looks.proofs.GivingLemmas.{own_static, own_answered}
use Rattle.net_looks.proofs.look.Look.change_own.Goals as goal

pub change_options-requires : goal.change_options-requires
change_options-requires c = subst (Can c.args.change c.args.gifts.now) (own_static (facts_at c.args.self.now) c.args.row.now c.args.dev.now c.is_static.result c.is_static.ensures c.if-is_static.true) c.requires

pub returns-then-is_static : goal.returns-then-is_static
returns-then-is_static c = c.change_options.ensures ∙ ap (fold (changed_once c.args.change) c.args.gifts.now)
    (sym (own_static (facts_at c.args.self.now) c.args.row.now c.args.dev.now c.is_static.result c.is_static.ensures c.if-is_static.true))

pub change_answer-requires : goal.change_answer-requires
change_answer-requires c = subst (Can c.args.change c.args.gifts.now)
    (own_answered (facts_at c.args.self.now) c.args.row.now c.args.dev.now c.is_static.result (Some c.in-Some.answer.now) c.is_static.ensures c.if-is_static.false c.in-Some.ensures) c.requires

pub returns-in-Some : goal.returns-in-Some
returns-in-Some c = c.change_answer.ensures ∙ ap (fold (changed_once c.args.change) c.args.gifts.now)
    (sym (own_answered (facts_at c.args.self.now) c.args.row.now c.args.dev.now c.is_static.result (Some c.in-Some.answer.now) c.is_static.ensures c.if-is_static.false c.in-Some.ensures))

pub returns-in-None : goal.returns-in-None
returns-in-None c = ap (fold (changed_once c.args.change) c.args.gifts.now) (sym (own_answered (facts_at c.args.self.now) c.args.row.now c.args.dev.now c.is_static.result None c.is_static.ensures c.if-is_static.false c.in-None.ensures))
