use Rattle.std.proofs.Common.{ℕ, List, Option, ◌≡◌, true, subst}
use Rattle.net_rules.specs.Rows.{is_name}
use Rattle.claim_moves.specs.Claiming.{MovesNamed}
use Rattle.claim_moves.proofs.ClaimLemmas.{third_can, moved_all}
use Rattle.claim_moves.proofs.moving.move_claims.Goals as goal

pub move_named-requires-3-clause-few : goal.move_named-requires-3-clause-few
move_named-requires-3-clause-few g c = λ q is.
    let before = c.apart_from-before.ensures in
    let now = c.apart_from-now.ensures in
    let second = subst (λ (o : Option (List ℕ)). MovesNamed o c.args.old.now c.args.new.now c.move_named.new.graph.known c.move_named-2.new.graph.known) before c.move_named-2.ensures.moves in
    let named_so = subst (λ (o : Option (List ℕ)). is_name o q ≡ true) now is in
    (third_can c.args.old.now c.args.new.now c.args.graph.now c.move_named.new.graph c.move_named-2.new.graph c.move_named.ensures.moves c.move_named.ensures.stays second c.move_named-2.ensures.stays c.requires q
    named_so).few

pub returns-clause-moves : goal.returns-clause-moves
returns-clause-moves g c =
    let before = c.apart_from-before.ensures in
    let now = c.apart_from-now.ensures in
    let second = subst (λ (o : Option (List ℕ)). MovesNamed o c.args.old.now c.args.new.now c.move_named.new.graph.known c.move_named-2.new.graph.known) before c.move_named-2.ensures.moves in
    let third = subst (λ (o : Option (List ℕ)). MovesNamed o c.args.old.now c.args.new.now c.move_named-2.new.graph.known c.move_named-3.new.graph.known) now c.move_named-3.ensures.moves in
    moved_all c.args.old.now c.args.new.now c.args.graph.now.known c.move_named.new.graph.known c.move_named-2.new.graph.known c.move_named-3.new.graph.known c.requires.device c.move_named.ensures.moves second third
