use Rattle.std.proofs.Common.{ℕ, List, Some, ap, sym, subst, ◌∙◌}
use Rattle.uci_staged.specs.declared.change.StagedChange.{StagedChange}
use Rattle.uci_delta.specs.Printed.{lines_of}
use Rattle.uci_staged.specs.Change.{deltas_in, kept_text, reverted}
use Rattle.uci_staged.specs.Kept.{HasFilled}
use Rattle.uci_staged.proofs.KeptLemmas.{reverted_on}
use Rattle.uci_staged.proofs.staged.Staged.revert.Goals as goal

pub returns-in-Ok-clause-on : goal.returns-in-Ok-clause-on
returns-in-Ok-clause-on g c =
    let old = g.T.Disk.view c.args.disk.now in
    let new = g.T.Disk.view c.keep.new.disk in
    let file = c.args.file in
    let on = reverted_on old new c.args.holder file c.args.path.now c.args.self.now.changes.items c.revert.new.changes.items (g.met.T.Disk.sound c.args.disk.now) c.in-Ok.ensures.follows c.requires.number c.requires.on.lines
    c.requires.on.kept c.revert.ensures
    (λ own. subst (λ (l : List StagedChange). HasFilled old new file (kept_text file (Some c.args.path.now) l)) c.as_slice.ensures.value (c.in-Ok.ensures.filled own))
    (λ other. ap g.T.Disk.view (c.in-Ok.ensures.aside other)) in
    record { lines = on.0; kept = on.1 }

pub returns-in-Ok-clause-text : goal.returns-in-Ok-clause-text
returns-in-Ok-clause-text g c = λ own.
    let file = c.args.file in
    let path = c.args.path.now in
    let changes = c.args.self.now.changes.items in
    let old = g.T.Disk.view c.args.disk.now in
    let new = g.T.Disk.view c.keep.new.disk in
    let after = c.revert.ensures ∙ ap (λ (h : ℕ). reverted h file path changes) own in
    subst (HasFilled old new file) (ap (λ (l : List StagedChange). kept_text file (Some path) l) c.as_slice.ensures.value ∙ sym (ap (λ (l : List StagedChange). lines_of (deltas_in 0 file l)) after)) (c.in-Ok.ensures.filled own)
