use Rattle.uci_tool.specs.Folder.{folder_of}
use Rattle.uci_tool.specs.Passes.{lines_passes}
use Rattle.uci_tool.specs.Stops.{StaysOrStops}
use Rattle.uci_tool.proofs.JoinLemmas.{LinesSoFar}
use Rattle.uci_tool.proofs.line.carry_lines.Given as goal

-- the lines before this one are carried out
abbrev pub invariant-loop-line : goal.invariant-loop-line
invariant-loop-line g l = record {
  so : LinesSoFar l.options l.fn.store l.store (g.D.Disk.view l.fn.files) (g.D.Disk.view l.files) (g.T.Disk.view l.fn.staged) (g.T.Disk.view l.staged) l.lines l.line-index l.output.items l.told.items l.refusal;
  images : StaysOrStops l.fn.store g.D.Disk.view l.fn.files l.files (lines_passes l.options (folder_of l.fn.store) l.lines);
}
