use Rattle.std.proofs.Common.{List, ℕ}
use Rattle.uci_cli.specs.declared.refusal.Refusal.TheVariants.{Invalid}
use Rattle.uci_tool.specs.declared.stop.Stop.TheVariants.{Refused}
use Rattle.uci_tool.specs.Folder.{folder_of}
use Rattle.uci_tool.specs.Staging.{cut_word, stage_cut}
use Rattle.uci_tool.proofs.AnswerLemmas.{changes_go_on, changes_stop}
use Rattle.uci_tool.proofs.StageLemmas.{rests}
use Rattle.uci_tool.proofs.staging.stage_word.Goals as goal

pub returns-in-Some-clause-changes : goal.returns-in-Some-clause-changes
returns-in-Some-clause-changes g c = changes_go_on (cut_word c.args.verb c.args.word.now) (c.in-Some.path.now, c.in-Some.value.now) (λ (parts : List ℕ × List ℕ). stage_cut c.args.verb (folder_of c.args.store.now) parts.0 parts.1)
    c.stage_cut.result (folder_of c.args.store.now) (folder_of c.stage_cut.new.store) c.in-Some.ensures c.stage_cut.ensures.changes

pub returns-in-None-clause-changes : goal.returns-in-None-clause-changes
returns-in-None-clause-changes g c = changes_stop (cut_word c.args.verb c.args.word.now) (Refused Invalid) (λ (parts : List ℕ × List ℕ). stage_cut c.args.verb (folder_of c.args.store.now) parts.0 parts.1) (folder_of c.args.store.now)
    c.in-None.ensures

pub returns-in-None-clause-stages : goal.returns-in-None-clause-stages
returns-in-None-clause-stages g c = rests (Refused Invalid) (cut_word c.args.verb c.args.word.now) c.args.store.now (g.T.Disk.view c.args.staged.now) c.in-None.ensures c.requires
