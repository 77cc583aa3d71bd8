use Rattle.std.proofs.Common.{List, None, ap, sym, subst, ◌∙◌}
use Rattle.std.specs.List.{AllByRecursion}
use Rattle.uci_text.proofs.ClassLemmas.{each-append}
use Rattle.uci_delta.specs.Shape.{HasShape}
use Rattle.uci_staged.specs.declared.change.StagedChange.{StagedChange}
use Rattle.uci_delta.specs.Printed.{lines_of}
use Rattle.uci_staged.specs.Change.{deltas_in, kept_text}
use Rattle.uci_staged.specs.Kept.{HasFilled}
use Rattle.uci_staged.proofs.ChangeLemmas.{each_shape, all_stay}
use Rattle.uci_staged.proofs.KeptLemmas.{staged_more}
use Rattle.uci_staged.proofs.staged.Staged.stage.Goals as goal

pub keep-requires-clause-shapes : goal.keep-requires-clause-shapes
keep-requires-clause-shapes g c =
    let changes = c.args.self.now.changes.items in
    subst (AllByRecursion (λ (change : StagedChange). HasShape change.delta)) (sym (c.as_slice.ensures.value ∙ c.in-Ok.ensures.items))
    (each-append (λ (change : StagedChange). HasShape change.delta) changes _ (each_shape (g.T.Disk.view c.args.disk.now).names changes c.requires.on.lines) (c.requires.change.line.shape, tt))

pub returns-in-Ok-keep-clause-on : goal.returns-in-Ok-keep-clause-on
returns-in-Ok-keep-clause-on g c =
    let old = g.T.Disk.view c.args.disk.now in
    let new = g.T.Disk.view c.keep.new.disk in
    let file = c.args.change.file in
    let on = staged_more old new c.args.self.now.changes.items c.push.new.self.items c.args.change (g.met.T.Disk.sound c.args.disk.now) c.in-Ok-keep.ensures.follows c.requires.on.lines c.requires.on.kept c.requires.change
    c.in-Ok.ensures.items
    (λ own. subst (λ (l : List StagedChange). HasFilled old new file (kept_text file None l)) c.as_slice.ensures.value (c.in-Ok-keep.ensures.filled own))
    (λ other. ap g.T.Disk.view (c.in-Ok-keep.ensures.aside other)) in
    record { lines = on.0; kept = on.1 }

pub returns-in-Ok-keep-clause-text : goal.returns-in-Ok-keep-clause-text
returns-in-Ok-keep-clause-text g c = λ own.
    let file = c.args.change.file in
    let filled = c.in-Ok-keep.ensures.filled own in
    let old = g.T.Disk.view c.args.disk.now in
    let new = g.T.Disk.view c.keep.new.disk in
    subst (HasFilled old new file) (ap (λ (l : List StagedChange). kept_text file None l) c.as_slice.ensures.value ∙ ap (λ (l : List StagedChange). lines_of (deltas_in 0 file l)) (all_stay 0 file c.push.new.self.items)) filled
