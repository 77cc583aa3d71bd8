-- The table of commands: their first words, how many arguments each has, and what these may be (OpenWrt's UCI file
-- syntax).
use Rattle.std.specs.Prelude.{ℕ, ◌≡◌, ◌<◌, ◌⊎◌, List, [], ◌∷◌, length, slice_index_or, codes, Option, Some, None}
use Rattle.uci_text.specs.declared.byte_class.ByteClass.{ByteClass}
use Rattle.uci_text.specs.declared.byte_class.ByteClass.TheVariants.{Name, PackageName, Printable}
use Rattle.uci_text.specs.declared.keyword.Keyword.{Keyword}
use Rattle.uci_text.specs.declared.keyword.Keyword.TheVariants.{Package, Config, Item, ListItem}
use Rattle.uci_text.specs.declared.cmd.Cmd.{Cmd}
use Rattle.uci_text.specs.declared.cmd.Cmd.TheVariants.{Package as PackageCmd, Config as ConfigCmd, Item as ItemCmd}
use Rattle.uci_text.specs.declared.cmd.Cmd.TheVariants.{ListItem as ListItemCmd}
use Rattle.uci_text.specs.declared.text_error.TextError.{TextError}
use Rattle.uci_text.specs.declared.text_error.TextError.TheVariants.{UnknownCommand, ArgumentCount, BadName}
use Rattle.uci_text.specs.ByteClass.{AllIn}

-- the first word of a command of the kind: in full, or its first letter
abbrev pub Begins : Keyword → List ℕ → Type 0
Begins Package word = (word ≡ codes "package") ⊎ (word ≡ codes "p")
Begins Config word = (word ≡ codes "config") ⊎ (word ≡ codes "c")
Begins Item word = (word ≡ codes "option") ⊎ (word ≡ codes "o")
Begins ListItem word = (word ≡ codes "list") ⊎ (word ≡ codes "l")

-- how many words there are with the first one: a package has one argument, the others have one or two
abbrev pub IsCount : Keyword → ℕ → Type 0
IsCount Package count = count ≡ 2
IsCount Config count = (count ≡ 2) ⊎ (count ≡ 3)
IsCount Item count = (count ≡ 2) ⊎ (count ≡ 3)
IsCount ListItem count = (count ≡ 2) ⊎ (count ≡ 3)

-- one or more bytes of the class
abbrev pub IsNameOf : ByteClass → List ℕ → Type 0
IsNameOf class bytes = (0 < length bytes) × AllIn class bytes

-- what the arguments may be: a package's name; a type and a section's name, which may be empty; an option's name and
-- any value
abbrev pub AreNamed : Keyword → List ℕ → List ℕ → Type 0
AreNamed Package name more = IsNameOf PackageName name
AreNamed Config kind name = IsNameOf Printable kind × AllIn Name name
AreNamed Item name value = IsNameOf Name name
AreNamed ListItem name value = IsNameOf Name name

-- an empty name of a section is none
abbrev pub section_name : List ℕ → Option (List ℕ)
section_name [] = None
section_name (byte ∷ bytes) = Some (byte ∷ bytes)

-- the command of this kind with these arguments
abbrev pub cmd_of : Keyword → ℕ → List ℕ → List ℕ → Cmd
cmd_of Package line name more = PackageCmd line name
cmd_of Config line kind name = ConfigCmd line kind (section_name name)
cmd_of Item line name value = ItemCmd line name value
cmd_of ListItem line name value = ListItemCmd line name value

-- the word at this place, from 0; one that is missing is empty
abbrev pub word_at : List (List ℕ) → ℕ → List ℕ
word_at words place = slice_index_or words place []

-- the words are a command of this kind
pub record IsKind (keyword : Keyword) (words : List (List ℕ)) : Type 0 where
  pub begins : Begins keyword (word_at words 0)
  pub count : IsCount keyword (length words)
  pub named : AreNamed keyword (word_at words 1) (word_at words 2)

-- the words on this line are this command
pub record IsCmd (line : ℕ) (words : List (List ℕ)) (cmd : Cmd) : Type 0 where
  pub keyword : Keyword
  pub is : IsKind keyword words
  pub cmd_is : cmd ≡ cmd_of keyword line (word_at words 1) (word_at words 2)

-- The words on this line are no command, and this is told: of a first word that is of no kind, and else of the number
-- of arguments, and else of an argument that is not what it stands for.
pub data HasWordsFault (line : ℕ) (words : List (List ℕ)) (error : TextError) : Type 0 where
  of_first : ((keyword : Keyword) → Begins keyword (word_at words 0) → ⊥) → error ≡ UnknownCommand line
      → HasWordsFault line words error
  of_count : (keyword : Keyword) → Begins keyword (word_at words 0) → (IsCount keyword (length words) → ⊥) → error
      ≡ ArgumentCount line → HasWordsFault line words error
  of_name : (keyword : Keyword) → Begins keyword (word_at words 0) → IsCount keyword (length words)
      → (AreNamed keyword (word_at words 1) (word_at words 2) → ⊥) → error ≡ BadName line
      → HasWordsFault line words error
