use Rattle.std.proofs.Common.{ℕ, List, false, refl}
use Rattle.std.specs.Prelude.{◌||◌, bytes_eq}
use Rattle.std.specs.List.{list_any}
use Rattle.net_rows.proofs.WordLemmas.{on_ok_then}
use Rattle.net_reach.proofs.GroupLemmas.{gains_none, gains_as}
use Rattle.net_reach.proofs.above.add_ports.Goals as goal

pub returns : goal.returns
returns c =
    let own : List (List ℕ) = c.args.own.now in
    let joined : List (List ℕ) = c.args.joined.now in
    let none = gains_none c.args.above.now (λ q. false) c.args.place (λ q. refl) in
    let first = c.in_ok-add_each.ensures c.args.above.now (λ q. false) c.requires none in
    on_ok_then c.add_each-2.result (λ gains.
    gains_as c.args.above.now c.add_each-2.new.above
    (λ q. (false || list_any (λ n. bytes_eq n q) own) || list_any (λ n. bytes_eq n q) joined)
    (λ q. list_any (λ n. bytes_eq n q) own || list_any (λ n. bytes_eq n q) joined) c.args.place gains (λ q. refl))
    (c.add_each-2.ensures c.args.above.now (λ q. false || list_any (λ n. bytes_eq n q) own) c.requires first)
