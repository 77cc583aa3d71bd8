-- A text is a package in one way at most.
use Rattle.std.proofs.Common.{ℕ, ◌≡◌, List, length, Ok, sym, ap, ◌∙◌}
use Rattle.uci_text.specs.declared.cmd.Cmd.{Cmd}
use Rattle.uci_text.specs.Commands.{SpellsCommands}
use Rattle.uci_text.proofs.CommandsLemmas.{commands_are_one}
use Rattle.uci_tree.specs.declared.package.Package.{Package}
use Rattle.uci_tree.specs.declared.package.Section.{Section}
use Rattle.uci_tree.specs.declared.sections.Sections.{Sections}
use Rattle.uci_tree.specs.Fold.{Draft, nothing, after_all}
use Rattle.uci_tree.specs.Slots.{sections_of}
use Rattle.uci_tree.specs.Index.{draft_of}
use Rattle.uci_tree.specs.Reading.{Reads}

tree_from : List ℕ → List Section → ℕ → Package
tree_from name sections made = record { name = name; sections = sections; made = made }

pub read_as : (name text named : List ℕ) (commands listed : List Cmd) (state : Sections) (sections : List Section) (made : ℕ) → SpellsCommands text commands → listed ≡ commands → after_all nothing listed ≡ Ok (draft_of state) → named ≡ name
    → sections ≡ sections_of state.sections.items → made ≡ length state.sections.items → Reads name text (record { name = named; sections = sections; made = made })
unfolding tree_from
read_as name text named commands listed state sections made s l f n i m = record {
  commands = commands;
  spelled = s;
  draft = draft_of state;
  folded = ap (λ (z : List Cmd). after_all nothing z) (sym l) ∙ f;
  is = ap (λ (z : List ℕ). tree_from z sections made) n ∙ ap (λ (z : List Section). tree_from name z made) i ∙ ap (λ (z : ℕ). tree_from name (sections_of state.sections.items) z) m;
}

pub one_tree : (name text : List ℕ) (tree other : Package) → Reads name text tree → Reads name text other → other ≡ tree
unfolding tree_from
one_tree name text tree other r s =
    let commands = commands_are_one text r.commands s.commands r.spelled s.spelled in
    let both : Ok s.draft ≡ Ok r.draft = sym s.folded ∙ ap (λ (z : List Cmd). after_all nothing z) commands ∙ r.folded in
    let same : s.draft ≡ r.draft = cc in
    s.is ∙ ap (λ (z : Draft). tree_from name z.sections z.made) same ∙ sym r.is
