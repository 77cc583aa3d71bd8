use Rattle.std.proofs.Common.{ℕ, ◌≡◌, Option, refl, ap, ◌∙◌}
use Rattle.uci_tool.specs.Ends.{source_of}
use Rattle.uci_tool.proofs.FolderRunLemmas.{held}
use Rattle.net_settle.specs.Outside.{outside_of}
use Rattle.net_plane.specs.Network.{moment_of}
use Rattle.rpc_objects.specs.Passed.{StaysOrStopsIn}
use Rattle.bus_clients.specs.Bus.{part_of}
use Rattle.plane_outside.specs.Supply.{supply_of}
use Rattle.plane_step.specs.Kept.{faults_of}
use Rattle.plane_step.specs.ScriptPasses.{ScriptPasses}
use Rattle.plane_run.specs.Parts.{Over, no_rows}
use Rattle.plane_run.proofs.RunLemmas.{net_over, went_over, stops_after, no_spare}
use Rattle.plane_run.proofs.run.run_over.Goals as goal

pub returns-in-Ok-open_net-clause-runs : goal.returns-in-Ok-open_net-clause-runs
returns-in-Ok-open_net-clause-runs g c =
    let source = g.R.Random.words c.args.random.now in
    let files = g.D.Disk.view c.carry_script.new.files in
    let staged = g.T.Disk.view c.carry_script.new.staged in
    let callers = c.in-Ok-new.callers in
    let over : Over = record {
      now = c.args.now;
      acl = c.args.acl;
      words = source;
      store = c.args.store.now;
      input = source_of g.S.Source c.args.input.now c.carry_script.new.input;
      disks = faults_of (g.D.Disk.view c.args.files.now) files (g.T.Disk.view c.args.staged.now) staged;
      stays = c.carry_script.new.files ≡ c.args.files.now;
      images = λ start lines. StaysOrStopsIn c.args.store.now g.D.Disk.view c.args.files.now
          c.carry_script.new.files (ScriptPasses start source lines);
      files_now = files;
      staged_now = staged;
      before = outside_of g.O.Sink g.K.Kernel c.args.out.now c.args.kernel.now;
      after = outside_of g.O.Sink g.K.Kernel c.carry_script.new.out c.carry_script.new.kernel;
    } in
    went_over over
    (λ words start lines. StaysOrStopsIn c.args.store.now g.D.Disk.view c.args.files.now
    c.carry_script.new.files (ScriptPasses start words lines))
    callers.sessions (part_of callers.bus) (supply_of callers.spare.word source)
    c.in-Ok-new.ensures.sessions c.in-Ok-new.ensures.bus
    (ap (λ (spare : Option ℕ). supply_of spare source) c.in-Ok-new.ensures.spare ∙ no_spare source)
    (outside_of g.O.Sink g.K.Kernel c.open_net.new.out c.open_net.new.kernel) c.in-Ok.rows.0
    c.in-Ok.rows.1 (moment_of c.open_net.new.net) c.carry_script.result c.in-Ok.ensures.found.0
    c.in-Ok.ensures.found.1 c.in-Ok-open_net.ensures.opens c.in-Ok-open_net.ensures.of.objects
    c.in-Ok-open_net.ensures.due c.carry_script.ensures.goes c.carry_script.ensures.due

pub returns-in-Ok-open_net-clause-images : goal.returns-in-Ok-open_net-clause-images
returns-in-Ok-open_net-clause-images g c =
    let source = g.R.Random.words c.args.random.now in
    let files = g.D.Disk.view c.carry_script.new.files in
    let staged = g.T.Disk.view c.carry_script.new.staged in
    let callers = c.in-Ok-new.callers in
    let over : Over = record {
      now = c.args.now;
      acl = c.args.acl;
      words = source;
      store = c.args.store.now;
      input = source_of g.S.Source c.args.input.now c.carry_script.new.input;
      disks = faults_of (g.D.Disk.view c.args.files.now) files (g.T.Disk.view c.args.staged.now) staged;
      stays = c.carry_script.new.files ≡ c.args.files.now;
      images = λ start lines. StaysOrStopsIn c.args.store.now g.D.Disk.view c.args.files.now
          c.carry_script.new.files (ScriptPasses start source lines);
      files_now = files;
      staged_now = staged;
      before = outside_of g.O.Sink g.K.Kernel c.args.out.now c.args.kernel.now;
      after = outside_of g.O.Sink g.K.Kernel c.carry_script.new.out c.carry_script.new.kernel;
    } in
    stops_after over
    (λ words start lines. StaysOrStopsIn c.args.store.now g.D.Disk.view c.args.files.now
    c.carry_script.new.files (ScriptPasses start words lines))
    callers.sessions (part_of callers.bus) (supply_of callers.spare.word source)
    c.in-Ok-new.ensures.sessions c.in-Ok-new.ensures.bus
    (ap (λ (spare : Option ℕ). supply_of spare source) c.in-Ok-new.ensures.spare ∙ no_spare source)
    g.D.Disk.view c.args.files.now c.carry_script.new.files over.before
    (outside_of g.O.Sink g.K.Kernel c.open_net.new.out c.open_net.new.kernel) c.in-Ok.rows.0
    c.in-Ok.rows.1 (moment_of c.open_net.new.net) c.in-Ok.ensures.found.0 c.in-Ok.ensures.found.1
    c.in-Ok-open_net.ensures.opens c.carry_script.ensures.images

pub returns-clause-runs : goal.returns-clause-runs
returns-clause-runs g c =
    let source = g.R.Random.words c.args.random.now in
    let files = g.D.Disk.view c.args.files.now in
    let staged = g.T.Disk.view c.args.staged.now in
    let opening = c.requires.open in
    let over : Over = record {
      now = c.args.now;
      acl = c.args.acl;
      words = source;
      store = c.args.store.now;
      input = source_of g.S.Source c.args.input.now c.args.input.now;
      disks = faults_of files files staged staged;
      stays = c.args.files.now ≡ c.args.files.now;
      images = λ start lines. StaysOrStopsIn c.args.store.now g.D.Disk.view c.args.files.now
          c.args.files.now (ScriptPasses start source lines);
      files_now = files;
      staged_now = staged;
      before = outside_of g.O.Sink g.K.Kernel c.args.out.now c.args.kernel.now;
      after = outside_of g.O.Sink g.K.Kernel c.open_net.new.out c.open_net.new.kernel;
    } in
    net_over (Unit {0}) over c.in-Ok.rows.0 c.in-Ok.rows.1 (moment_of c.open_net.new.net)
    c.in-Err-open_net.end c.in-Ok.ensures.found.0 c.in-Ok.ensures.found.1
    c.in-Err-open_net.ensures.opens refl
    (held files staged c.args.store.now opening.files opening.staged opening.ready)

pub returns-in_default-clause-runs : goal.returns-in_default-clause-runs
returns-in_default-clause-runs g c =
    let opening = c.requires.open in
    no_rows tt refl refl
    (held (g.D.Disk.view c.args.files.now) (g.T.Disk.view c.args.staged.now) c.args.store.now opening.files
    opening.staged opening.ready)
