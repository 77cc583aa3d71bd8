use Rattle.std.proofs.Common.{ℕ, List, inl, inr, refl, sym, subst}
use Rattle.uci_tool.specs.Ends.{streams_of}
use Rattle.uci_tool.specs.Folder.{folder_of}
use Rattle.uci_tool.specs.Shut.{IsShut}
use Rattle.uci_tool.specs.Run.{not_opened, opened}
use Rattle.uci_tool.specs.Folders.{Stops}
use Rattle.uci_tool.proofs.FolderRunLemmas.{moment_is, shut_is, ends_before, found, held, stops_found, stops_over, told_of}
use Rattle.uci_tool.proofs.run.run_over.Goals as goal

pub returns-in-Ok-clause-ended : goal.returns-in-Ok-clause-ended
returns-in-Ok-clause-ended g c =
    let words : List (List ℕ) = c.args.words.now in
    let now = c.now-now.result in
    let streams = streams_of g.S.Source c.args.input.now c.uci.new.input g.O.Sink c.args.out.now c.uci.new.out g.E.Sink c.args.err.now c.uci.new.err in
    let old = g.D.Disk.view c.args.files.now in
    let mid = g.D.Disk.view c.open.new.files in
    let new = g.D.Disk.view c.uci.new.files in
    let staged_old = g.T.Disk.view c.args.staged.now in
    let staged_mid = g.T.Disk.view c.open.new.staged in
    let staged_new = g.T.Disk.view c.uci.new.staged in
    let opening = c.in-Ok.ensures in
    let ends = c.uci.ensures in
    let stops : Stops words now streams (folder_of c.in-Ok.store) old new =
    elim ends.images as (λ _. Stops words now streams (folder_of c.in-Ok.store) old new) [
      | inl same ↦ stops_found g.D.Disk.view words now streams (folder_of c.in-Ok.store) c.args.files.now c.open.new.files c.uci.new.files same opening.images
      | inr (text, is, among) ↦ stops_over words now streams c.in-Ok.store old mid new opening.same opening.images opening.files opening.ready text is among
    ] in
    opened c.requires.some now (moment_is _ _ now c.now-now.ensures.advances) (folder_of c.in-Ok.store) (folder_of c.uci.new.store)
    (found old mid staged_old staged_mid now c.in-Ok.store opening.same opening.reads opening.gives opening.files opening.staged opening.own opening.ready)
    c.uci.result
    (ends_before words (folder_of c.in-Ok.store) (folder_of c.uci.new.store) streams old mid new staged_old staged_mid staged_new c.uci.result opening.same.later opening.reads.later ends.ended)
    refl
    (λ whole. held new staged_new c.uci.new.store ends.files ends.staged (ends.ready whole))
    stops

pub returns-in-Err-clause-ended : goal.returns-in-Err-clause-ended
returns-in-Err-clause-ended g c =
    let now = c.now-now.result in
    let old = g.D.Disk.view c.args.files.now in
    let new = g.D.Disk.view c.open.new.files in
    let staged_old = g.T.Disk.view c.args.staged.now in
    let staged_new = g.T.Disk.view c.open.new.staged in
    let shut = c.shut_of-shut.result in
    not_opened c.requires.some now (moment_is _ _ now c.now-now.ensures.advances) shut
    (subst (λ s. IsShut s now old new staged_old staged_new) (sym c.shut_of-shut.ensures) (shut_is old new staged_old staged_new now c.in-Err.error c.in-Err.ensures.refused))
    c.status.ensures refl
    (told_of c.args.quiet c.args.words.now _ _ _ c.requires.quiet c.text.ensures c.tell.ensures)
    c.in-Err.ensures.images
