use Rattle.std.proofs.Common.{ℕ, Err, sym, subst}
use Rattle.rpc_uci.specs.Sight.{Sees}
use Rattle.rpc_uci.specs.Done.{IsStatusFor}
use Rattle.rpc_uci.proofs.SightLemmas.{unseen}
use Rattle.rpc_uci.proofs.seeing.see.Goals as goal

pub returns-in-Err-clause-unseen : goal.returns-in-Err-clause-unseen
returns-in-Err-clause-unseen c =
    subst (IsStatusFor (λ (status : ℕ). Sees c.args.store.now c.args.holder c.args.name.now (Err status))) (sym c.refused.ensures)
    (unseen c.args.store.now c.args.holder c.args.name.now c.in-Err.error c.in-Err.ensures.refused)
