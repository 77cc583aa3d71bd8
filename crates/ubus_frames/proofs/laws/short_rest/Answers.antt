use Rattle.ubus_frames.proofs.DivisionLemmas as lemmas
use Rattle.ubus_frames.proofs.laws.short_rest.Goals as goal

pub returns : goal.returns
returns c = λ rest u. lemmas.short_rest rest u
