-- A text is a package exactly where it has no fault.
use Rattle.std.proofs.Common.{ℕ, ◌≡◌, ◌⊎◌, inl, inr, List, Result, Ok, Err, refl, sym, ap, ◌∙◌}
use Rattle.std.specs.Prelude.{IsSome}
use Rattle.uci_text.specs.declared.cmd.Cmd.{Cmd}
use Rattle.uci_text.specs.declared.text_error.TextError.{TextError}
use Rattle.uci_text.specs.declared.text_error.TextError.TheVariants as text_error
use Rattle.uci_text.specs.Commands.{SpellsCommands, IsFirstCommandFault}
use Rattle.uci_text.proofs.MemoryLemmas.{command_fault_is_no_memory}
use Rattle.uci_text.proofs.CommandsLemmas.{commands_are_one}
use Rattle.uci_text.proofs.FirstLemmas.{command_fault_is_one, no_commands, commands_or_fault}
use Rattle.uci_tree.specs.declared.package.Package.{Package}
use Rattle.uci_tree.specs.declared.tree_error.TreeError.{TreeError}
use Rattle.uci_tree.specs.declared.tree_error.TreeError.TheVariants.{Text, NoSection, Memory}
use Rattle.uci_tree.specs.Fold.{Draft, nothing, after_all}
use Rattle.uci_tree.specs.Fault.{fault_of}
use Rattle.uci_tree.specs.Reading.{Reads, HasTreeFault}

one_outcome : (text : List ℕ) (commands others : List Cmd) (a b : Result Draft ℕ) → SpellsCommands text commands → SpellsCommands text others → after_all nothing commands ≡ a → after_all nothing others ≡ b → b ≡ a
one_outcome text commands others a b s t e f = sym f ∙ ap (λ (z : List Cmd). after_all nothing z) (commands_are_one text commands others s t) ∙ e

pub tree_fault_is_one : (text : List ℕ) (error other : TreeError) → HasTreeFault text error → HasTreeFault text other → other ≡ error
tree_fault_is_one text (Text error) (Text other) h g = ap (λ z. Text z) (command_fault_is_one text error other h g)
tree_fault_is_one text (Text error) (NoSection line) h g = absurd (no_commands text error g.commands h g.spelled)
tree_fault_is_one text (NoSection line) (Text error) h g = absurd (no_commands text error h.commands g h.spelled)
tree_fault_is_one text (NoSection line) (NoSection other) h g =
    let e : ◌≡◌ {A = Result Draft ℕ} (Err other) (Err line) = one_outcome text h.commands g.commands (Err line) (Err other) h.spelled g.spelled h.folded g.folded in
    cc
tree_fault_is_one text Memory other h g = absurd h
tree_fault_is_one text (Text error) Memory h g = absurd g
tree_fault_is_one text (NoSection line) Memory h g = absurd g

pub no_package : (name text : List ℕ) (error : TreeError) (tree : Package) → HasTreeFault text error → Reads name text tree → ⊥
no_package name text (Text error) tree h r = no_commands text error r.commands h r.spelled
no_package name text (NoSection line) tree h r =
    let e : ◌≡◌ {A = Result Draft ℕ} (Ok r.draft) (Err line) = one_outcome text h.commands r.commands (Err line) (Ok r.draft) h.spelled r.spelled h.folded r.folded in
    cc
no_package name text Memory tree h r = h

folded : (name text : List ℕ) (commands : List Cmd) (outcome : Result Draft ℕ) → SpellsCommands text commands → after_all nothing commands ≡ outcome
    → ((tree : Package) × Reads name text tree) ⊎ ((error : TreeError) × HasTreeFault text error)
folded name text commands (Ok draft) s e = inl (record { name = name; sections = draft.sections; made = draft.made }, record { commands = commands; spelled = s; draft = draft; folded = e; is = refl })
folded name text commands (Err line) s e = inr (NoSection line, record { commands = commands; spelled = s; folded = e })

pub package_or_fault : (name text : List ℕ) → ((tree : Package) × Reads name text tree) ⊎ ((error : TreeError) × HasTreeFault text error)
package_or_fault name text = elim (commands_or_fault text) [ inl c ↦ folded name text c.0 (after_all nothing c.0) c.1 refl | inr f ↦ inr (Text f.0, f.1) ]

text_fault_has_reason : (text : List ℕ) (error : TextError) → IsFirstCommandFault text error → IsSome (fault_of (Text error))
text_fault_has_reason text (text_error.BadWord line) first = refl
text_fault_has_reason text (text_error.OpenQuote line) first = refl
text_fault_has_reason text (text_error.UnknownCommand line) first = refl
text_fault_has_reason text (text_error.ArgumentCount line) first = refl
text_fault_has_reason text (text_error.BadName line) first = refl
text_fault_has_reason text text_error.Memory first = absurd (command_fault_is_no_memory _ first.bad first.fault)

pub fault_has_reason : (text : List ℕ) (error : TreeError) → HasTreeFault text error → IsSome (fault_of error)
fault_has_reason text (Text error) h = text_fault_has_reason text error h
fault_has_reason text (NoSection line) h = refl
fault_has_reason text Memory h = absurd h
