use Rattle.std.proofs.NetLemmas.Texts.{IsZeroRun-longest_zero_run, longest_zero_run_first}
use Rattle.net_addr.proofs.laws.first_longest_run.Goals as goal

pub returns : goal.returns
returns c = λ groups. record {
  zeros = IsZeroRun-longest_zero_run groups;
  longest = λ start len run. (longest_zero_run_first groups start len run).0;
  first = λ start len run. (longest_zero_run_first groups start len run).1;
}
