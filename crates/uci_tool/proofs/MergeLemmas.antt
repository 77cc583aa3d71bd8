-- Commands behind the sections of a package.
use Rattle.std.proofs.Common.{ℕ, ◌≡◌, ◌≢◌, ◌<◌, List, [], ◌∷◌, length, get_or, set, Option, Some, Ok, refl, ap, sym, ◌∙◌}
use Rattle.uci_tree.specs.declared.package.Opt.{Opt}
use Rattle.uci_tree.specs.declared.package.Section.{Section}
use Rattle.uci_tree.specs.declared.package.Value.TheVariants.{One}
use Rattle.uci_tree.specs.Fold.{Draft, changed_at, put, with_option, with_options, with_options_at, without}
use Rattle.uci_tree.proofs.FoldLemmas.{write_changed}

draft_from : List Section → ℕ → Option ℕ → Draft
draft_from sections made current = record { sections = sections; made = made; current = current }

-- a section is written at its place
pub draft_changed : (sections : List Section) (place made : ℕ) (change : Section → Section) (old new : Section) (current : Option ℕ) → place < length sections → old ≡ get_or sections place old → new ≡ change old
    → let d : Draft = record { sections = set sections place new; made = made; current = current } in let e : Draft = record { sections = changed_at place change sections; made = made; current = current } in d ≡ e
unfolding draft_from
draft_changed sections place made change old new current within is becomes =
    ap (λ (z : Section). draft_from (set sections place z) made current) becomes
    ∙ ap (λ (z : List Section). draft_from z made current) (write_changed place change sections old within is)

section_from : Section → List Opt → Section
section_from section options = record section { options = options }

pub options_made : (sections : List Section) (place line made : ℕ) (change : List Opt → List Opt) (old : Section) (options : List Opt) (current : Option ℕ) → current ≡ Some place → place < length sections → old ≡ get_or sections place old
    → options ≡ change old.options
    → let d : Draft = record { sections = sections; made = made; current = current } in let e : Draft = record { sections = set sections place (record old { options = options }); made = made; current = current } in
    with_options d line change ≡ Ok e
unfolding draft_from section_from
options_made sections place line made change old options current there within is becomes =
    ap (λ (z : Option ℕ). with_options_at (draft_from sections made current) line change z) there
    ∙ ap (λ (z : Draft). Ok z) (sym (draft_changed sections place made (λ (section : Section). record section { options = change section.options }) old (record old { options = options }) current within is
    (ap (λ (z : List Opt). section_from old z) becomes)))

-- an option is given a value, or an empty one
pub option_given : (name value : List ℕ) (options new : List Opt) → value ≢ [] → new ≡ put name (λ before. One value) options → new ≡ with_option name value options
option_given name [] options new some is = absurd (some refl)
option_given name (byte ∷ bytes) options new some is = is

pub option_dropped : (name value : List ℕ) (options new : List Opt) → value ≡ [] → new ≡ without name options → new ≡ with_option name value options
option_dropped name [] options new none is = is
option_dropped name (byte ∷ bytes) options new none is = absurd (let e : ◌≡◌ {A = List ℕ} (byte ∷ bytes) [] = none in cc)
