use Rattle.std.proofs.Common.{ℕ, List, ap, sym, ◌∙◌}
use Rattle.net_rows.proofs.WordLemmas.{on_ok_then}
use Rattle.net_reach.specs.Groups.{is_last}
use Rattle.net_reach.proofs.GroupLemmas.{kept_last, new_last}
use Rattle.net_reach.proofs.groups.add_last.Goals as goal

pub returns-then-is_last : goal.returns-then-is_last
returns-then-is_last c = kept_last c.args.groups.now c.args.name.now c.args.place (ap (λ (z : List ℕ). is_last z c.args.place) (sym c.places_at.ensures) ∙ sym c.is_last.ensures ∙ c.if-is_last.true)

pub returns : goal.returns
returns c = on_ok_then c.add_place.result (λ put. new_last c.args.groups.now c.add_place.new.groups c.args.name.now c.args.place
    (ap (λ (z : List ℕ). is_last z c.args.place) (sym c.places_at.ensures) ∙ sym c.is_last.ensures ∙ c.if-is_last.false) put) c.add_place.ensures
