use Rattle.std.proofs.Common.{◌≡◌, ◌+◌, length, refl}
use Rattle.std.proofs.lemmas.List.{nil_from_length}
use Rattle.uci_text.specs.declared.stop.Stop.TheVariants.{Quote}
use Rattle.uci_text.proofs.PieceLemmas.{double_run, double_pair, double_closes, double_open, double_open_pair, stopped}
use Rattle.uci_text.proofs.piece.read_double.Goals as goal

pub returns-in_default-clause-stopped : goal.returns-in_default-clause-stopped
returns-in_default-clause-stopped c = λ stop e n.
    let same : Quote (length c.args.inside.now + 1) ≡ stop = cc in
    stopped _ _ _ (double_open _ _ _ _ _ (double_run _ _ _ _ _ _ _ c.loop-mark.invariant c.split.ensures c.in_ok-extend_from_slice.ensures.items) (nil_from_length _ c.in_default.ensures.cases) refl) same

pub returns-then-mark-eq34-clause-found : goal.returns-then-mark-eq34-clause-found
returns-then-mark-eq34-clause-found c = double_closes _ _ _ _ _ _ (double_run _ _ _ _ _ _ _ c.loop-mark.invariant c.split.ensures c.in_ok-extend_from_slice.ensures.items) c.in-Some.ensures.cases.0 c.if-mark-eq34.true

pub returns-in_default-split_first-clause-stopped : goal.returns-in_default-split_first-clause-stopped
returns-in_default-split_first-clause-stopped c = λ stop e n.
    let same : Quote (length c.args.inside.now + 1) ≡ stop = cc in
    stopped _ _ _ (double_open_pair _ _ _ _ _ _ _ (double_run _ _ _ _ _ _ _ c.loop-mark.invariant c.split.ensures c.in_ok-extend_from_slice.ensures.items) c.split.ensures.outside c.in-Some.ensures.cases.0 c.if-mark-eq34.false
    (nil_from_length _ c.in_default-split_first.ensures.cases) refl) same

pub loop-mark-preserved : goal.loop-mark-preserved
loop-mark-preserved c = double_pair _ _ _ _ _ _ _ _ _ (double_run _ _ _ _ _ _ _ c.loop-mark.invariant c.split.ensures c.in_ok-extend_from_slice.ensures.items) c.split.ensures.outside c.in-Some.ensures.cases.0 c.if-mark-eq34.false
    c.in-Some-split_first.ensures.cases.0 c.in_ok-push_escaped.ensures
