use Rattle.net_modern.proofs.OnceLemmas.{once}
use Rattle.net_modern.proofs.laws.rewritten_once.Goals as goal

pub returns : goal.returns
returns c = once
