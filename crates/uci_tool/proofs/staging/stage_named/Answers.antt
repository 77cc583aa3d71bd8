use Rattle.std.proofs.Common.{Err, List, ℕ, ap, sym, subst, ◌∙◌}
use Rattle.uci_tool.specs.Answers.{Answers}
use Rattle.uci_tool.specs.Staging.{name_in, staged_with}
use Rattle.uci_tool.specs.Folder.{folder_of}
use Rattle.uci_tool.proofs.AnswerLemmas.{changes_go_on, changes_stop}
use Rattle.uci_tool.proofs.StageLemmas.{rests}
use Rattle.uci_tool.proofs.staging.stage_named.Goals as goal

pub returns-in-Ok-clause-changes : goal.returns-in-Ok-clause-changes
returns-in-Ok-clause-changes g c =
    let folder = folder_of c.args.store.now in
    changes_go_on (name_in folder c.args.«package» c.args.reference) c.in-Ok.section (λ section. staged_with folder (record { «package» = c.args.«package»; section = section; option = c.args.option; change = c.args.change })) c.stage.result
    folder (folder_of c.stage.new.store)
    (sym (ap (λ (z : List ℕ). name_in folder z c.args.reference) c.as_bytes.ensures) ∙ c.in-Ok.ensures) c.stage.ensures.changes

pub returns-in-Err-clause-changes : goal.returns-in-Err-clause-changes
returns-in-Err-clause-changes g c =
    let folder = folder_of c.args.store.now in
    changes_stop (name_in folder c.args.«package» c.args.reference) c.in-Err.stop (λ section. staged_with folder (record { «package» = c.args.«package»; section = section; option = c.args.option; change = c.args.change })) folder
    (subst (λ (z : List ℕ). Answers {A = List ℕ} (Err c.in-Err.stop) (name_in folder z c.args.reference)) c.as_bytes.ensures c.in-Err.ensures)

pub returns-in-Err-clause-stages : goal.returns-in-Err-clause-stages
returns-in-Err-clause-stages g c = rests c.in-Err.stop (name_in (folder_of c.args.store.now) c.as_bytes.result.now c.args.reference) c.args.store.now (g.T.Disk.view c.args.staged.now) c.in-Err.ensures c.requires
