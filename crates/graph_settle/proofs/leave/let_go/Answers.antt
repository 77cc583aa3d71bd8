use Rattle.std.proofs.Common.{refl, sym, ◌∙◌}
use Rattle.graph_settle.proofs.MadeLemmas.{place_of_gift}
use Rattle.graph_settle.proofs.LeaveLemmas.{member_at, left_when, left_unless}
use Rattle.graph_settle.proofs.leave.let_go.Goals as goal

pub note-requires : goal.note-requires
note-requires c = place_of_gift c.args.gifts.now c.gift-gift.result c.gift-gift.result.object (member_at c.args.gifts.now c.args.place c.gift-gift.result c.gift-gift.ensures) refl

pub returns-then-is_left : goal.returns-then-is_left
returns-then-is_left c g at =
    c.note.ensures ∙ left_when c.args.graph.now c.args.gifts.now c.args.place c.gift-gift.result g c.gift-gift.ensures at c.are_gifts.ensures.once (sym c.is_left.ensures ∙ c.if-is_left.true)

pub returns-else-is_left : goal.returns-else-is_left
returns-else-is_left c g at = left_unless c.args.graph.now c.args.gifts.now c.args.place c.gift-gift.result g c.gift-gift.ensures at (sym c.is_left.ensures ∙ c.if-is_left.false)
