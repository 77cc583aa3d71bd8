use Rattle.uci_tool.specs.Folder.{folder_of}
use Rattle.uci_tool.specs.Import.{replaced, merge_done}
use Rattle.uci_tool.specs.Merging.{merged}
use Rattle.uci_tool.specs.Seen.{if_ok}
use Rattle.uci_tree.specs.declared.package.Package.{Package}
use Rattle.uci_cli.specs.declared.refusal.Refusal.{Refusal}
use Rattle.std.proofs.Common.{Result, ap}
use Rattle.uci_tool.proofs.StopLemmas.{images_to}
use Rattle.uci_tool.proofs.importing.merge_over.Goals as goal

pub returns-in-Ok-clause-images : goal.returns-in-Ok-clause-images
returns-in-Ok-clause-images g c = images_to g.D.Disk.view c.args.store.now c.args.files.now c.replace_by.new.files (folder_of c.args.store.now) (if_ok (merged c.in-Ok.view c.args.input.now) (replaced (folder_of c.args.store.now)))
    (merge_done (folder_of c.args.store.now) c.args.name.now c.args.input.now)
    (ap (λ (z : Result Package Refusal). if_ok z (λ view. if_ok (merged view c.args.input.now) (replaced (folder_of c.args.store.now)))) c.in-Ok.ensures) c.replace_by.ensures.images
