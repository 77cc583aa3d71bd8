use Rattle.std.proofs.Common.{◌≡◌}
use Rattle.uci_tool.specs.Ends.{source_of}
use Rattle.uci_tool.specs.Folder.{folder_of}
use Rattle.uci_tool.specs.Folders.{IsFound}
use Rattle.uci_tool.proofs.FolderRunLemmas.{found}
use Rattle.net_settle.specs.Outside.{outside_of}
use Rattle.rpc_objects.specs.Passed.{StaysOrStopsIn}
use Rattle.plane_step.specs.ScriptPasses.{ScriptPasses}
use Rattle.plane_run.specs.Run.{Seen}
use Rattle.plane_run.proofs.RunLemmas.{over_ends, stops_as_found, images_over, stops_over}
use Rattle.plane_run.proofs.run.run_script.Goals as goal

pub returns-in-Ok-clause-ended : goal.returns-in-Ok-clause-ended
returns-in-Ok-clause-ended g c =
    let words = g.R.Random.words c.args.random.now in
    let files = g.D.Disk.view c.args.files.now in
    let staged = g.T.Disk.view c.args.staged.now in
    let mid = g.D.Disk.view c.open.new.files in
    let staged_mid = g.T.Disk.view c.open.new.staged in
    let store = c.in-Ok.store in
    let opening = c.in-Ok.ensures in
    let seen : Seen = record {
      first = record {
        now = c.args.now;
        acl = c.args.acl;
        words = words;
        files = files;
        staged = staged;
        before = outside_of g.O.Sink g.K.Kernel c.args.out.now c.args.kernel.now;
      };
      input = source_of g.S.Source c.args.input.now c.run_over.new.input;
      files_now = g.D.Disk.view c.run_over.new.files;
      staged_now = g.T.Disk.view c.run_over.new.staged;
      after = outside_of g.O.Sink g.K.Kernel c.run_over.new.out c.run_over.new.kernel;
    } in
    over_ends seen mid staged_mid store opening.same.later opening.reads.later
    (found files mid staged staged_mid c.args.now store opening.same opening.reads opening.gives opening.files
    opening.staged opening.own opening.ready)
    (c.run_over.new.files ≡ c.open.new.files)
    (stops_as_found g.D.Disk.view c.args.now c.args.acl words staged seen.first.before store c.args.files.now
    c.open.new.files c.run_over.new.files opening.images)
    (λ start lines. StaysOrStopsIn store g.D.Disk.view c.open.new.files c.run_over.new.files
    (ScriptPasses start words lines))
    (images_over g.D.Disk.view c.args.now c.args.acl words staged seen.first.before store c.args.files.now
    c.open.new.files c.run_over.new.files opening.images opening.same opening.files opening.ready)
    c.run_over.result c.run_over.ensures.runs

pub returns-in-Ok-clause-stops : goal.returns-in-Ok-clause-stops
returns-in-Ok-clause-stops g c =
    let words = g.R.Random.words c.args.random.now in
    let files = g.D.Disk.view c.args.files.now in
    let staged = g.T.Disk.view c.args.staged.now in
    let mid = g.D.Disk.view c.open.new.files in
    let staged_mid = g.T.Disk.view c.open.new.staged in
    let store = c.in-Ok.store in
    let opening = c.in-Ok.ensures in
    let is : IsFound files staged c.args.now (folder_of store) =
    found files mid staged staged_mid c.args.now store opening.same opening.reads opening.gives opening.files
    opening.staged opening.own opening.ready in
    stops_over g.D.Disk.view c.args.now c.args.acl words staged
    (outside_of g.O.Sink g.K.Kernel c.args.out.now c.args.kernel.now) store c.args.files.now c.open.new.files
    c.run_over.new.files opening.images (source_of g.S.Source c.args.input.now c.run_over.new.input)
    opening.same opening.files opening.ready is c.run_over.ensures.images
