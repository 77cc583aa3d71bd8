use Rattle.net_conf.proofs.ConfLimitLemmas.{are_few}
use Rattle.net_conf.proofs.once_laws.rows_within_limits_are_few.Goals as goal

pub returns : goal.returns
returns c = record {
  names = λ rows h. (are_few rows h).names;
  interfaces = λ rows h. (are_few rows h).interfaces;
  routes = λ rows h. (are_few rows h).routes;
  radios = λ rows h. ((are_few rows h).radios, (are_few rows h).wifi);
  vlans = λ rows h. ((are_few rows h).vlans, (are_few rows h).entries);
}
