use Rattle.std.proofs.Common.{◌≡◌, ◌+◌, length, refl}
use Rattle.std.proofs.lemmas.List.{nil_from_length}
use Rattle.uci_text.specs.declared.stop.Stop.TheVariants.{Quote}
use Rattle.uci_text.proofs.PieceLemmas.{single_open, single_takes, stopped}
use Rattle.uci_text.proofs.piece.read_single.Goals as goal

pub returns-in_default-clause-stopped : goal.returns-in_default-clause-stopped
returns-in_default-clause-stopped c = λ stop e n.
    let same : Quote (length c.args.inside.now + 1) ≡ stop = cc in
    stopped _ _ _ (single_open _ _ _ _ c.split.ensures (nil_from_length _ c.in_default.ensures.cases) refl) same

pub returns-clause-found : goal.returns-clause-found
returns-clause-found c = single_takes _ _ _ _ _ _ _ c.split.ensures c.in-Some.ensures.cases.0 c.in_ok-extend_from_slice.ensures.items
