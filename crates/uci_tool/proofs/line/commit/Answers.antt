use Rattle.std.proofs.Common.{ℕ, List, Option, Some, sym, subst}
use Rattle.uci_tool.specs.Answers.{IsAmong}
use Rattle.uci_tool.specs.Folder.{folder_of}
use Rattle.uci_tool.specs.Passes.{of_commit}
use Rattle.uci_tool.proofs.CarryLemmas.{commit_cut}
use Rattle.uci_tool.specs.Stops.{StaysOrStops}
use Rattle.uci_tool.proofs.line.commit.Goals as goal

pub returns-in_default-clause-carries : goal.returns-in_default-clause-carries
returns-in_default-clause-carries g c = subst (λ (z : Option (List ℕ)). IsAmong (folder_of c.commit_each.new.store) (of_commit (folder_of c.args.store.now) z)) (sym c.in-None.is)
    (commit_cut c.in-Ok.refusal (folder_of c.args.store.now) (folder_of c.commit_each.new.store) c.in-Ok.ensures.carries)

pub returns-in-Some-clause-images : goal.returns-in-Some-clause-images
returns-in-Some-clause-images g c = subst (λ (z : Option (List ℕ)). StaysOrStops c.args.store.now g.D.Disk.view c.args.files.now c.commit_package.new.files (of_commit (folder_of c.args.store.now) z)) (sym c.in-Some.is)
    (subst (λ (z : List ℕ). StaysOrStops c.args.store.now g.D.Disk.view c.args.files.now c.commit_package.new.files (of_commit (folder_of c.args.store.now) (Some z))) c.as_bytes.ensures c.commit_package.ensures.images)
