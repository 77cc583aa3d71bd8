use Rattle.rpc_uci.proofs.StateLemmas.{states_are_one}
use Rattle.rpc_uci.proofs.laws.one_state.Goals as goal

pub returns : goal.returns
returns c = states_are_one
