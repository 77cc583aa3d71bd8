use Rattle.uci_tool.proofs.StopLemmas.{import_images, other_images}
use Rattle.uci_tool.specs.Folder.{folder_of}
use Rattle.uci_tool.specs.Import.{import_done}
use Rattle.uci_tool.specs.Passes.{step_to}
use Rattle.uci_tool.specs.Stops.{StaysOrStops}
use Rattle.std.proofs.Common.{ℕ, List, subst}
use Rattle.uci_tool.proofs.tool.carry.Goals as goal

pub returns-in-Import-clause-images : goal.returns-in-Import-clause-images
returns-in-Import-clause-images g c = import_images g.D.Disk.view c.args.options.now c.args.store.now c.args.files.now c.import.new.files c.args.command.now c.in-Import.name c.args.text.now c.in-Import.is
    (subst (λ (z : List ℕ). StaysOrStops c.args.store.now g.D.Disk.view c.args.files.now c.import.new.files (step_to (folder_of c.args.store.now) (import_done c.args.options.now (folder_of c.args.store.now) z c.args.text.now)))
    c.as_bytes.ensures c.import.ensures.images)

pub returns-in_default-clause-images : goal.returns-in_default-clause-images
returns-in_default-clause-images g c = other_images g.D.Disk.view c.args.options.now c.args.store.now c.args.files.now c.carry_out.new.files c.args.command.now c.args.text.now c.in_default.not-Import c.in_default.not-Batch
    c.carry_out.ensures.images
