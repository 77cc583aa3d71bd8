use Rattle.std.proofs.Common.{ℕ, List, Option, Some, None, inl, refl, ap, sym, subst, ◌∙◌}
use Rattle.script_lines.specs.declared.script_line.ScriptLine.{ScriptLine}
use Rattle.script_lines.specs.declared.script_line.ScriptLine.TheVariants as line
use Rattle.script_lines.specs.declared.line_error.LineError.TheVariants as error
use Rattle.step_net.specs.Taken.{telled_of}
use Rattle.uci_tool.specs.Folder.{folder_of}
use Rattle.uci_tool.specs.Stops.{StaysOrStops}
use Rattle.plane_step.specs.FilesMoved.{files_moved}
use Rattle.plane_step.specs.Faults.{faults_of}
use Rattle.plane_step.specs.LineDone.{Front, Read, Behind, CarriesUci}
use Rattle.step_net.proofs.RequestLemmas.{asks_nothing}
use Rattle.plane_step.proofs.ActLemmas.{refused_does}
use Rattle.plane_step.proofs.CommandLemmas.{uci_does}
use Rattle.plane_step.proofs.LiftLemmas.{other_stays, is_of_net, net_lifts, read_lifts, at_lifts}
use Rattle.plane_step.proofs.StoreLemmas.{stays_itself}
use Rattle.plane_step.proofs.plain_line.act_on.Goals as goal

pub returns-in_default-clause-does : goal.returns-in_default-clause-does
returns-in_default-clause-does g c =
    let front : Front = record { now = c.args.moment.now; store = c.args.store.now; net = c.args.net.now } in
    let kernel = telled_of g.K.Kernel c.args.kernel.now c.args.kernel.now in
    let files = g.D.Disk.view c.args.files.now in
    let staged = g.T.Disk.view c.args.staged.now in
    let disks = faults_of files files staged staged in
    let read : Read = record { front = front; number = c.args.number; line = None } in
    let behind : Behind = record { now = front.now; store = front.store; net = front.net; kernel = kernel } in
    read_lifts front c.args.number c.args.line None behind disks c.or_memory.result c.in_default.is
    (net_lifts read front.net kernel disks c.refuse_line.result c.or_memory.result c.or_memory.ensures refl
    (refused_does read (error.BadLine c.args.number) kernel c.refuse_line.result refl c.requires.told
    (asks_nothing (g.K.Kernel.asked c.args.kernel.now) (g.K.Kernel.faults c.args.kernel.now))
    c.refuse_line.ensures))

pub returns-in-At-clause-does : goal.returns-in-At-clause-does
returns-in-At-clause-does g c =
    let front : Front = record { now = c.args.moment.now; store = c.args.store.now; net = c.args.net.now } in
    let kernel = telled_of g.K.Kernel c.args.kernel.now c.args.kernel.now in
    let staged = g.T.Disk.view c.args.staged.now in
    let disks = faults_of (g.D.Disk.view c.args.files.now) (g.D.Disk.view c.go_to.new.files) staged staged in
    let behind : Behind = record { now = c.go_to.new.moment; store = c.go_to.new.store; net = c.go_to.new.net; kernel = kernel } in
    read_lifts front c.args.number c.args.line (Some (line.At c.in-At.next)) behind disks c.go_to.result
    (c.in-Some.is ∙ ap Some c.in-At.is)
    (at_lifts front c.args.number c.in-At.next c.go_to.new.moment c.go_to.new.store c.go_to.new.net kernel
    disks c.go_to.result
    (asks_nothing (g.K.Kernel.asked c.args.kernel.now) (g.K.Kernel.faults c.args.kernel.now))
    c.go_to.ensures.goes)

pub returns-in-At-clause-images : goal.returns-in-At-clause-images
returns-in-At-clause-images g c =
    subst (λ (read : Option ScriptLine). StaysOrStops c.args.store.now g.D.Disk.view c.args.files.now c.go_to.new.files
    (files_moved c.args.moment.now (folder_of c.args.store.now) read).passes)
    (sym (c.in-Some.is ∙ ap Some c.in-At.is)) c.go_to.ensures.images

pub returns-in-Uci-clause-does : goal.returns-in-Uci-clause-does
returns-in-Uci-clause-does g c =
    let front : Front = record { now = c.args.moment.now; store = c.args.store.now; net = c.args.net.now } in
    let kernel = telled_of g.K.Kernel c.args.kernel.now c.args.kernel.now in
    let disks = faults_of (g.D.Disk.view c.args.files.now) (g.D.Disk.view c.carry_uci.new.files)
    (g.T.Disk.view c.args.staged.now) (g.T.Disk.view c.carry_uci.new.staged) in
    let behind : Behind = record { now = front.now; store = c.carry_uci.new.store; net = front.net; kernel = kernel } in
    read_lifts front c.args.number c.args.line (Some (line.Uci c.in-Uci.words)) behind disks
    c.carry_uci.result (c.in-Some.is ∙ ap Some c.in-Uci.is)
    (uci_does front c.args.number c.in-Uci.words c.carry_uci.new.store kernel disks c.carry_uci.result
    c.requires.told
    (asks_nothing (g.K.Kernel.asked c.args.kernel.now) (g.K.Kernel.faults c.args.kernel.now))
    (subst (λ (ws : List (List ℕ)). CarriesUci c.args.number ws (folder_of c.args.store.now)
    (folder_of c.carry_uci.new.store) disks c.carry_uci.result) c.as_slice.ensures c.carry_uci.ensures.carries))

pub returns-in-Uci-clause-images : goal.returns-in-Uci-clause-images
returns-in-Uci-clause-images g c =
    subst (λ (read : Option ScriptLine). StaysOrStops c.args.store.now g.D.Disk.view c.args.files.now c.carry_uci.new.files
    (files_moved c.args.moment.now (folder_of c.args.store.now) read).passes)
    (sym (c.in-Some.is ∙ ap Some c.in-Uci.is))
    (subst (λ (ws : List (List ℕ)). StaysOrStops c.args.store.now g.D.Disk.view c.args.files.now c.carry_uci.new.files
    (files_moved c.args.moment.now (folder_of c.args.store.now) (Some (line.Uci ws))).passes)
    c.as_slice.ensures c.carry_uci.ensures.images)

pub returns-in_default-line : goal.returns-in_default-line
returns-in_default-line g c =
    let front : Front = record { now = c.args.moment.now; store = c.args.store.now; net = c.args.net.now } in
    let kernel = telled_of g.K.Kernel c.args.kernel.now c.act_on_net.new.kernel in
    let files = g.D.Disk.view c.args.files.now in
    let staged = g.T.Disk.view c.args.staged.now in
    let disks = faults_of files files staged staged in
    let other = c.in-Some.line in
    let of = is_of_net other c.in_default-line.not-At c.in_default-line.not-Uci in
    let read : Read = record { front = front; number = c.args.number; line = Some other } in
    let behind : Behind = record { now = front.now; store = front.store; net = c.act_on_net.new.net; kernel = kernel } in
    let all = c.or_memory-in_default-line.result in
    record {
      does = read_lifts front c.args.number c.args.line (Some other) behind disks all
          c.in-Some.is
          (net_lifts read c.act_on_net.new.net kernel disks c.act_on_net.result all
          c.or_memory-in_default-line.ensures (other_stays front.now (folder_of front.store) other of)
          (c.act_on_net.ensures.does of front.now));
      disks = stays_itself all c.args.store.now files staged c.requires.open;
      images = inl refl;
      of = c.act_on_net.ensures.of;
      calls = c.act_on_net.ensures.calls;
    }
