use Rattle.std.proofs.Common.{true, ap, ◌∙◌}
use Rattle.given_objects.specs.Gifts.{has_place}
use Rattle.given_objects.specs.Changes.{noted}
use Rattle.given_objects.proofs.PlaceLemmas.{place_itself}
use Rattle.gift_places.proofs.HeldLemmas.{is_held}
use Rattle.gift_places.proofs.held.keep_held.Goals as goal

pub note-requires : goal.note-requires
note-requires c =
    ap (λ gs. has_place gs c.args.gift.now.object) c.in_ok-expect.ensures.ok
    ∙ place_itself c.args.alone.now c.args.gift.now.object

pub returns-in_ok-expect : goal.returns-in_ok-expect
returns-in_ok-expect c =
    c.note.ensures
    ∙ ap (λ gs. noted gs c.args.gift.now.object true) c.in_ok-expect.ensures.ok
    ∙ is_held c.args.alone.now c.args.gift.now c.requires.new c.if-gift.true
