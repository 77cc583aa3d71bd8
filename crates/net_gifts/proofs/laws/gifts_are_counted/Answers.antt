use Rattle.net_rows.specs.declared.rows.InterfaceRow.{InterfaceRow}
use Rattle.net_rules.specs.declared.state.InterfaceState.{InterfaceState}
use Rattle.net_gifts.specs.Giving.{gives}
use Rattle.net_gifts.proofs.TimesLemmas.{times_move, times_part, times_most, gives_agree}
use Rattle.net_gifts.proofs.GivenLemmas.{gives_are}
use Rattle.net_gifts.proofs.laws.gifts_are_counted.Goals as goal

pub returns-clause-rules : goal.returns-clause-rules
returns-clause-rules c = gives_are

pub returns-clause-moves : goal.returns-clause-moves
returns-clause-moves c = λ facts rows states place row old new o at is. times_move (λ (e : InterfaceRow × InterfaceState). gives facts e.0 e.1) rows states place row old new o at is

pub returns-clause-part : goal.returns-clause-part
returns-clause-part c = λ facts rows states place row st o at is. times_part (λ (e : InterfaceRow × InterfaceState). gives facts e.0 e.1) rows states place row st o at is

pub returns-clause-few : goal.returns-clause-few
returns-clause-few c = λ facts rows states most o each. times_most (λ (e : InterfaceRow × InterfaceState). gives facts e.0 e.1) rows states most o each

pub returns-clause-same : goal.returns-clause-same
returns-clause-same c = λ before now rows states agree. gives_agree (λ (e : InterfaceRow × InterfaceState). gives now e.0 e.1) (λ (e : InterfaceRow × InterfaceState). gives before e.0 e.1) rows states agree
