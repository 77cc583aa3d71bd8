use Rattle.std.proofs.Common.{List, ◌≡◌, Some, Ok, subst, rules}
use Rattle.uci_delta.specs.declared.delta.Delta.{Delta}
use Rattle.uci_store.specs.Store.{names_of, has_failed, file_of}
use Rattle.uci_store.specs.Batch.{all_taken}
use Rattle.uci_store.proofs.BatchLemmas.{batch_lines, batch_not_kept}
use Rattle.uci_store.proofs.store.Store.stage_all.Goals as goal

pub stage_all-requires-clause-changes : goal.stage_all-requires-clause-changes
stage_all-requires-clause-changes g c =
    batch_lines c.args.self.now (g.T.Disk.view c.args.staged.now) c.in_ok-view.view c.take_all.new.tree c.args.holder c.in-Some.file c.args.«package».now c.args.deltas.items c.requires.on c.in-Some.ensures.low c.in-Some.ensures.number
    c.in-Some.ensures.name c.in_ok-view.ensures.valid c.requires.one
    (subst (λ (l : List Delta). all_taken c.in_ok-view.view l ≡ Ok c.take_all.new.tree) c.as_slice.ensures.value c.in-Ok.ensures.done)

pub returns-in-Ok-stage_all-clause-done : goal.returns-in-Ok-stage_all-clause-done
returns-in-Ok-stage_all-clause-done g c =
    let number : file_of (names_of c.args.self.now) c.args.«package».now ≡ Some c.in-Some.file = search rules in
    record {
      ready = c.in_ok-refuse_failed.ensures.ready;
      file = c.in-Some.file;
      number = number;
      view = c.in_ok-view.view;
      seen = c.in_ok-view.ensures.seen;
      taken = c.take_all.new.tree;
      takes = subst (λ (l : List Delta). all_taken c.in_ok-view.view l ≡ Ok c.take_all.new.tree) c.as_slice.ensures.value c.in-Ok.ensures.done;
      staged = c.in-Ok-stage_all.ensures.done;
    }

pub returns-clause-refused : goal.returns-clause-refused
returns-clause-refused g c =
    let number : file_of (names_of c.args.self.now) c.args.«package».now ≡ Some c.in-Some.file = search rules in
    batch_not_kept c.args.self.now c.args.holder c.in-Some.file c.args.«package».now c.args.deltas.items c.in_ok-view.view c.take_all.new.tree (g.T.Disk.view c.args.staged.now) (g.T.Disk.view c.stage_all.new.disk)
    (has_failed c.args.self.now) (has_failed c.failed_by.new.self) c.in-Err-stage_all.error c.failed_by.result c.in_ok-refuse_failed.ensures.ready number c.in_ok-view.ensures.seen
    (subst (λ (l : List Delta). all_taken c.in_ok-view.view l ≡ Ok c.take_all.new.tree) c.as_slice.ensures.value c.in-Ok.ensures.done)
    c.in-Err-stage_all.ensures.refused c.failed_by.ensures.answer
