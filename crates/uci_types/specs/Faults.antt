-- Which options of a package break which rule.
use Rattle.std.specs.Prelude.{ℕ, ◌+◌, Bool, true, false, if◌then◌else◌, bytes_eq}
use Rattle.std.specs.Prelude.{List, [], ◌∷◌, ◌++◌, Option, Some, None}
use Rattle.std.specs.List.{list_all}
use Rattle.uci_tree.specs.declared.package.Value.{Value}
use Rattle.uci_tree.specs.declared.package.Value.TheVariants.{One, Many}
use Rattle.uci_tree.specs.declared.package.Section.{Section}
use Rattle.net_rows.specs.Options.{value_of}
use Rattle.uci_types.specs.declared.datatype.Datatype.{Datatype}
use Rattle.uci_types.specs.declared.rule.Rule.{Rule}
use Rattle.uci_types.specs.declared.fault.Fault.{Fault}
use Rattle.uci_types.specs.Values.{in_set}

-- a text is in the datatype's set, or each item of a list is
abbrev pub is_accepted : Datatype → Value → Bool
is_accepted datatype (One text) = in_set datatype text
is_accepted datatype (Many items) = list_all (in_set datatype) items

-- what is wrong with an option: its value, or that it is missing where the rule requires it
abbrev pub breach : Rule → Option Value → Option Bool
breach rule None = if rule.required then Some true else None
breach rule (Some value) = if is_accepted rule.datatype value then None else Some false

abbrev pub fault_at : ℕ → ℕ → Option Bool → List Fault
fault_at section rule None = []
fault_at section rule (Some missing) = record { section = section; rule = rule; missing = missing } ∷ []

-- the fault of a section by a rule, which looks at the sections of its type
abbrev pub rule_faults : ℕ → Section → ℕ → Rule → List Fault
rule_faults at section place rule =
    if bytes_eq section.kind rule.kind
    then fault_at at place (breach rule (value_of rule.option section.options))
    else []

-- the faults of a section by rules, of which the first one has this place
abbrev pub section_faults : ℕ → Section → ℕ → List Rule → List Fault
section_faults at section place [] = []
section_faults at section place (rule ∷ rules) =
    rule_faults at section place rule ++ section_faults at section (place + 1) rules

-- the faults of sections, of which the first one has this place
abbrev pub faults_from : ℕ → List Section → List Rule → List Fault
faults_from at [] rules = []
faults_from at (section ∷ sections) rules = section_faults at section 0 rules ++ faults_from (at + 1) sections rules

-- the faults of a package's sections by section, and of each by rule
abbrev pub faults : List Section → List Rule → List Fault
faults sections rules = faults_from 0 sections rules
