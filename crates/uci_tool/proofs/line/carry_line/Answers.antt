use Rattle.uci_tool.specs.Folder.{folder_of}
use Rattle.uci_tool.proofs.CarryLemmas.{line_front}
use Rattle.std.proofs.Common.{◌≡◌, Option, Some, subst, rules}
use Rattle.uci_cli.specs.declared.command.Command.{Command}
use Rattle.uci_cli.specs.Command.{command_of}
use Rattle.uci_tool.specs.Passes.{asked_passes}
use Rattle.uci_tool.specs.Stops.{StaysOrStops}
use Rattle.uci_tool.proofs.line.carry_line.Goals as goal

pub returns-in-Err-clause-carries : goal.returns-in-Err-clause-carries
returns-in-Err-clause-carries g c = line_front c.args.options.now (folder_of c.args.store.now) c.args.line.now.words

pub returns-in-Ok-Some-clause-images : goal.returns-in-Ok-Some-clause-images
returns-in-Ok-Some-clause-images g c =
    let known : Some c.in-Ok-Some.command ≡ command_of c.args.line.now.words = search rules in
    subst (λ (z : Option Command). StaysOrStops c.args.store.now g.D.Disk.view c.args.files.now c.carry_out.new.files (asked_passes c.args.options.now (folder_of c.args.store.now) z)) known c.carry_out.ensures.images
