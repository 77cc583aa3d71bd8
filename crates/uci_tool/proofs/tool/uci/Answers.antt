use Rattle.std.proofs.Common.{ap, refl}
use Rattle.uci_tool.specs.declared.tool.UciEnd.{UciEnd}
use Rattle.uci_tool.specs.Ends.{source_of, streams_of}
use Rattle.uci_tool.specs.Folder.{folder_of}
use Rattle.uci_store.specs.Store.{has_failed}
use Rattle.uci_tool.proofs.RunLemmas.{usage_ends, carried_ends, cut_ends, ready_by}
use Rattle.uci_tool.proofs.SilentLemmas.{silent_end}
use Rattle.uci_tool.proofs.StopLemmas.{whole_stops}
use Rattle.uci_tool.proofs.tool.uci.Goals as goal

pub returns-in_default-command-clause-ended : goal.returns-in_default-command-clause-ended
returns-in_default-command-clause-ended g c =
    let files = g.D.Disk.view c.args.files.now in
    let staged = g.T.Disk.view c.args.staged.now in
    usage_ends c.args.words.now c.in-Ok.asked (folder_of c.args.store.now) (streams_of g.S.Source c.args.input.now c.args.input.now g.O.Sink c.args.out.now c.args.out.now g.E.Sink c.args.err.now c.tell.new.err) files files staged staged _
    c.in-Ok.ensures c.in_default-command.is refl refl c.tell.ensures.told

pub returns-in-Ok-run-clause-ended : goal.returns-in-Ok-run-clause-ended
returns-in-Ok-run-clause-ended g c =
    carried_ends c.args.words.now c.in-Ok.asked c.in-Some.command (folder_of c.args.store.now) (folder_of c.run.new.store)
    (streams_of g.S.Source c.args.input.now c.run.new.input g.O.Sink c.args.out.now c.end_with.new.out g.E.Sink c.args.err.now c.end_with.new.err)
    (g.D.Disk.view c.args.files.now) (g.D.Disk.view c.run.new.files) (g.T.Disk.view c.args.staged.now) (g.T.Disk.view c.run.new.staged) c.in-Ok-run.report c.end_with.result c.in-Ok.ensures c.in-Some.is c.in-Ok-run.ensures.runs
    c.end_with.ensures.ends

pub returns-clause-ended : goal.returns-clause-ended
returns-clause-ended g c =
    cut_ends c.args.words.now c.in-Ok.asked c.in-Some.command (folder_of c.args.store.now) (folder_of c.run.new.store)
    (streams_of g.S.Source c.args.input.now c.run.new.input g.O.Sink c.args.out.now c.args.out.now g.E.Sink c.args.err.now c.end_short-in-Err.new.err)
    (g.D.Disk.view c.args.files.now) (g.D.Disk.view c.run.new.files) (g.T.Disk.view c.args.staged.now) (g.T.Disk.view c.run.new.staged) c.in-Err.cut c.end_short-in-Err.result c.in-Ok.ensures c.in-Some.is c.in-Err.ensures.runs
    c.in-Err.ensures.leaves.cause refl c.end_short-in-Err.ensures.end c.end_short-in-Err.ensures.told

pub returns-clause-ready : goal.returns-clause-ready
returns-clause-ready g c = ready_by c.in-Err.cut c.end_short-in-Err.result.status (has_failed c.run.new.store) (ap (λ (z : UciEnd). z.status) c.end_short-in-Err.ensures.end) c.in-Err.ensures.leaves.closes

pub returns-in-Ok-run-clause-silent : goal.returns-in-Ok-run-clause-silent
returns-in-Ok-run-clause-silent g c zero =
    c.end_with.ensures.silent zero
    (silent_end c.in-Ok.asked.options.quiet c.in-Ok.asked.options c.in-Some.command (folder_of c.args.store.now) (folder_of c.run.new.store) _ _ _ c.in-Ok-run.report c.end_with.result c.in-Ok-run.ensures.runs c.end_with.ensures.ends zero)

pub returns-in-Ok-run-clause-images : goal.returns-in-Ok-run-clause-images
returns-in-Ok-run-clause-images g c = whole_stops g.D.Disk.view c.args.words.now c.in-Ok.asked c.in-Some.command c.args.store.now (source_of g.S.Source c.args.input.now c.run.new.input) c.args.files.now c.run.new.files c.in-Ok.ensures
    c.in-Some.is c.in-Ok-run.ensures.images

pub returns-clause-images : goal.returns-clause-images
returns-clause-images g c = whole_stops g.D.Disk.view c.args.words.now c.in-Ok.asked c.in-Some.command c.args.store.now (source_of g.S.Source c.args.input.now c.run.new.input) c.args.files.now c.run.new.files c.in-Ok.ensures c.in-Some.is
    c.in-Err.ensures.images
