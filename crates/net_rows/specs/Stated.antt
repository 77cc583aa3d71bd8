-- What an option gives where one text is asked: a list does not read.
use Rattle.std.specs.Prelude.{ℕ, List, Option, Some, None, if◌then◌else◌}
use Rattle.uci_tree.specs.declared.package.Value.{Value}
use Rattle.kern_model.specs.Name.{is_name}
use Rattle.net_rows.specs.Options.{single}
use Rattle.net_rows.specs.declared.stated.Stated.{Stated}
use Rattle.net_rows.specs.declared.stated.Stated.TheVariants.{Absent, Unread, Read}

-- what was read, or that it did not read
abbrev pub read_or_not : {X : Type 0} → Option X → Stated X
read_or_not None = Unread
read_or_not (Some x) = Read x

-- what a text gives by a reader
abbrev pub stated_text : {X : Type 0} → (List ℕ → Option X) → Option (List ℕ) → Stated X
stated_text read None = Unread
stated_text read (Some text) = read_or_not (read text)

-- what a value gives by a reader; where there is none the option is absent
abbrev pub stated : {X : Type 0} → (List ℕ → Option X) → Option Value → Stated X
stated read None = Absent
stated read (Some value) = stated_text read (single value)

-- a device name
abbrev pub name_of : List ℕ → Option (List ℕ)
name_of text = if is_name text then Some text else None
