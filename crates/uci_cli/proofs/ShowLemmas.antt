-- How the sections of a package are shown one after another.
use Rattle.std.proofs.Common.{ℕ, suc, ◌≡◌, ◌<◌, ◌+◌, List, [], ◌∷◌, ◌++◌, length, take, drop, get_or, add-one, drop-cons, ap, sym, ◌∙◌, append_assoc}
use Rattle.std.proofs.Math.Seq.{take-suc}
use Rattle.uci_tree.specs.declared.package.Section.{Section}
use Rattle.uci_cli.specs.declared.options.Options.{Options}
use Rattle.uci_cli.specs.Show.{shown_section, shown_behind}

-- the sections from a place on are the one there and those behind it
pub from_here : (sections : List Section) (place : ℕ) (section : Section) → place < length sections → section ≡ get_or sections place section → drop place sections ≡ section ∷ drop (place + 1) sections
from_here sections place section inside is = rw add-one (drop-cons sections place section inside ∙ ap (λ y. y ∷ drop (suc place) sections) (sym is))

pub up_to_here : (sections : List Section) (place : ℕ) (section : Section) → place < length sections → section ≡ get_or sections place section → take (place + 1) sections ≡ take place sections ++ section ∷ []
up_to_here sections place section inside is = rw add-one (take-suc sections place section inside ∙ ap (λ y. take place sections ++ y ∷ []) (sym is))

pub section_step : (options : Options) (name out more : List ℕ) (sections : List Section) (place : ℕ) (section : Section) → place < length sections → section ≡ get_or sections place section → more ≡ out
    ++ shown_section options name (take place sections) section
    → more ++ shown_behind options name (take (place + 1) sections) (drop (place + 1) sections) ≡ out ++ shown_behind options name (take place sections) (drop place sections)
section_step options name out more sections place section inside is grown =
    let lines : List ℕ = shown_section options name (take place sections) section in
    let behind : List ℕ = shown_behind options name (take place sections ++ section ∷ []) (drop (place + 1) sections) in
    ap (λ (z : List ℕ). z ++ shown_behind options name (take (place + 1) sections) (drop (place + 1) sections)) grown
    ∙ ap (λ (z : List Section). (out ++ lines) ++ shown_behind options name z (drop (place + 1) sections)) (up_to_here sections place section inside is)
    ∙ append_assoc out lines behind
    ∙ ap (λ (z : List Section). out ++ shown_behind options name (take place sections) z) (sym (from_here sections place section inside is))
