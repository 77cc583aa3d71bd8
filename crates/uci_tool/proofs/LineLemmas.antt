-- Lines of `batch` that follow one another.
use Rattle.std.proofs.Common.{ℕ, ◌≡◌, inl, inr, List, [], ◌∷◌, ◌++◌, Option, Some, None, refl, ap, sym, ◌∙◌, append_assoc}
use Rattle.uci_text.specs.declared.line.Line.{Line}
use Rattle.uci_cli.specs.declared.options.Options.{Options}
use Rattle.uci_cli.specs.declared.refusal.Refusal.{Refusal}
use Rattle.uci_tool.specs.Folder.{Folder}
use Rattle.uci_tool.specs.Line.{Carried, first_refusal, then_done, line_done, lines_done}
use Rattle.uci_tool.specs.Answers.{IsAmong}

carried_from : List ℕ → List ℕ → Option Refusal → Folder → Carried
carried_from output told refusal after = record { output = output; told = told; refusal = refusal; after = after }

first_of_three : (a b c : Option Refusal) → first_refusal (first_refusal a b) c ≡ first_refusal a (first_refusal b c)
first_of_three None b c = refl
first_of_three (Some refusal) b c = refl

-- it does not matter how lines are put together
pub then_assoc : (a b c : Carried) → then_done (then_done a b) c ≡ then_done a (then_done b c)
unfolding carried_from
then_assoc a b c =
    ap (λ (z : List ℕ). carried_from z ((a.told ++ b.told) ++ c.told) (first_refusal (first_refusal a.refusal b.refusal) c.refusal) c.after) (append_assoc a.output b.output c.output)
    ∙ ap (λ (z : List ℕ). carried_from (a.output ++ (b.output ++ c.output)) z (first_refusal (first_refusal a.refusal b.refusal) c.refusal) c.after) (append_assoc a.told b.told c.told)
    ∙ ap (λ (z : Option Refusal). carried_from (a.output ++ (b.output ++ c.output)) (a.told ++ (b.told ++ c.told)) z c.after) (first_of_three a.refusal b.refusal c.refusal)

-- the next line goes to those that were carried out
pub line_step : (options : Options) (front one : Carried) (folder : Folder) (line : Line) (lines : List Line) → line_done options folder line.words ≡ one → then_done (then_done front one) (lines_done options one.after lines)
    ≡ then_done front (lines_done options folder (line ∷ lines))
line_step options front one folder line lines e =
    then_assoc front one (lines_done options one.after lines)
    ∙ ap (λ (z : Carried). then_done front (then_done z (lines_done options z.after lines))) (sym e)

-- a folder of a part is one of the whole
pub among_front : (found : Folder) (front behind : List Folder) → IsAmong found front → IsAmong found (front ++ behind)
among_front found [] behind h = absurd h
among_front found (folder ∷ front) behind (inl e) = inl e
among_front found (folder ∷ front) behind (inr h) = inr (among_front found front behind h)

pub among_behind : (found : Folder) (front behind : List Folder) → IsAmong found behind → IsAmong found (front ++ behind)
among_behind found [] behind h = h
among_behind found (folder ∷ front) behind h = inr (among_behind found front behind h)
