-- What the commands of a text make of a package, one after another (OpenWrt's UCI files). That a section which goes on
-- takes the new type, and that an empty value removes an option, are rules of our own.
use Rattle.std.specs.Prelude.{ℕ, zero, suc, ◌+◌, Bool, true, false, List, [], ◌∷◌, ◌++◌, length, Option, Some, None}
use Rattle.std.specs.Prelude.{Result, Ok, Err, if◌then◌else◌, bytes_eq}
use Rattle.uci_text.specs.declared.cmd.Cmd.{Cmd}
use Rattle.uci_text.specs.declared.cmd.Cmd.TheVariants.{Package as PackageCmd, Config, Item, ListItem}
use Rattle.uci_tree.specs.declared.package.Value.{Value}
use Rattle.uci_tree.specs.declared.package.Value.TheVariants.{One, Many}
use Rattle.uci_tree.specs.declared.package.Opt.{Opt}
use Rattle.uci_tree.specs.declared.package.Section.{Section}
use Rattle.uci_tree.specs.Anonymous.{anonymous_name}
use Rattle.uci_tree.specs.Find.{named_place}

-- the list with the item at this place changed
abbrev pub changed_at : {X : Type 0} → ℕ → (X → X) → List X → List X
changed_at place change [] = []
changed_at zero change (x ∷ xs) = change x ∷ xs
changed_at (suc place) change (x ∷ xs) = x ∷ changed_at place change xs

-- the options with this one's value made anew from what it was, at its place, or at the end where there was none
abbrev pub put : List ℕ → (Option Value → Value) → List Opt → List Opt
put name change [] = record { name = name; value = change None } ∷ []
put name change (option ∷ options) = if bytes_eq option.name name
    then record option { value = change (Some option.value) } ∷ options else option ∷ put name change options

-- the options without the first one of this name
abbrev pub without : List ℕ → List Opt → List Opt
without name [] = []
without name (option ∷ options) = if bytes_eq option.name name then options else option ∷ without name options

-- `option` gives a value, and an empty one removes the option
abbrev pub with_option : List ℕ → List ℕ → List Opt → List Opt
with_option name [] options = without name options
with_option name (byte ∷ bytes) options = put name (λ before. One (byte ∷ bytes)) options

-- `list` appends to a list, makes a value the first item of one, or begins one
abbrev pub appended : List ℕ → Option Value → Value
appended item None = Many (item ∷ [])
appended item (Some (One value)) = Many (value ∷ item ∷ [])
appended item (Some (Many items)) = Many (items ++ item ∷ [])

abbrev pub with_item : List ℕ → List ℕ → List Opt → List Opt
with_item name item options = put name (appended item) options

-- a package while its commands are read: its sections, how many were added, and the place of the section that the
-- latest `config` named
pub record Draft : Type 0 where
  pub sections : List Section
  pub made : ℕ
  pub current : Option ℕ

abbrev pub nothing : Draft
nothing = record { sections = []; made = 0; current = None }

-- a section begins at the end
abbrev pub added : Draft → List ℕ → Bool → List ℕ → Draft
added draft name anonymous kind = record {
  sections = draft.sections ++ record { name = name; anonymous = anonymous; kind = kind; options = [] } ∷ [];
  made = draft.made + 1;
  current = Some (length draft.sections);
}

-- the section at a place goes on, with this type
abbrev pub reopened : Draft → ℕ → List ℕ → Draft
reopened draft place kind = record {
  sections = changed_at place (λ section. record section { kind = kind }) draft.sections;
  made = draft.made;
  current = Some place;
}

abbrev pub named_config : Draft → List ℕ → List ℕ → Option ℕ → Draft
named_config draft kind name None = added draft name false kind
named_config draft kind name (Some place) = reopened draft place kind

-- `config`: the first section of the name goes on, and else a section begins, which without a name is anonymous
abbrev pub configured : Draft → List ℕ → Option (List ℕ) → Draft
configured draft kind None = added draft (anonymous_name (draft.made + 1) kind) true kind
configured draft kind (Some name) = named_config draft kind name (named_place draft.sections name)

-- the options of the current section change; where there is none, the line is told
abbrev pub with_options_at : Draft → ℕ → (List Opt → List Opt) → Option ℕ → Result Draft ℕ
with_options_at draft line change None = Err line
with_options_at draft line change (Some place) =
    Ok (record draft {
      sections =
          changed_at place (λ section. record section { options = change section.options }) draft.sections;
    })

abbrev pub with_options : Draft → ℕ → (List Opt → List Opt) → Result Draft ℕ
with_options draft line change = with_options_at draft line change draft.current

-- what a command makes of a draft; the name of a package is passed over
abbrev pub after : Draft → Cmd → Result Draft ℕ
after draft (PackageCmd line name) = Ok draft
after draft (Config line kind name) = Ok (configured draft kind name)
after draft (Item line name value) = with_options draft line (with_option name value)
after draft (ListItem line name item) = with_options draft line (with_item name item)

abbrev pub goes_on : Result Draft ℕ → (Draft → Result Draft ℕ) → Result Draft ℕ
goes_on (Err line) next = Err line
goes_on (Ok draft) next = next draft

-- what commands make of a draft, or the line of the first option or list that stands before any section
abbrev pub after_all : Draft → List Cmd → Result Draft ℕ
after_all draft [] = Ok draft
after_all draft (cmd ∷ cmds) = goes_on (after draft cmd) (λ next. after_all next cmds)
