use Rattle.uci_store.specs.Store.{has_failed}
use Rattle.rpc_objects.proofs.UciLemmas.{ready_behind, rose_after, store_called}
use Rattle.rpc_objects.proofs.uci_call.serve_call.Goals as goal

pub returns-clause-served : goal.returns-clause-served
returns-clause-served g c = record {
  called = c.serve-called.result;
  store = store_called c.args.now c.args.sessions.now c.args.method.now c.args.args.now c.args.store.now c.serve-called.new.store
      (g.D.Disk.view c.args.files.now) (g.T.Disk.view c.args.staged.now) c.serve-called.result c.requires.open c.serve-called.ensures.done;
  told = c.answer_uci.ensures.told;
}

pub returns-clause-disks : goal.returns-clause-disks
returns-clause-disks g c = record {
  files = c.serve-called.ensures.files;
  staged = c.serve-called.ensures.staged;
  names = c.serve-called.ensures.names;
  same = c.serve-called.ensures.same;
  follows = c.serve-called.ensures.follows;
  ready = ready_behind c.serve-called.result c.answer_uci.result (has_failed c.serve-called.new.store)
      (g.D.Disk.view c.args.files.now) (g.D.Disk.view c.serve-called.new.files)
      (g.T.Disk.view c.args.staged.now) (g.T.Disk.view c.serve-called.new.staged)
      (c.answer_uci.ensures.disk.1) c.serve-called.ensures.cause;
}

pub returns-clause-cause : goal.returns-clause-cause
returns-clause-cause g c = λ failed. rose_after c.serve-called.result (has_failed c.serve-called.new.store)
    (g.D.Disk.view c.args.files.now) (g.D.Disk.view c.serve-called.new.files)
    (g.T.Disk.view c.args.staged.now) (g.T.Disk.view c.serve-called.new.staged)
    (c.answer_uci.ensures.disk.0 failed) c.serve-called.ensures.cause
