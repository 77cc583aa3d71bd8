-- Words of texts (OpenWrt's lists, which may be texts with spaces).
use Rattle.std.specs.Prelude.{ℕ, List, ◌==◌, not, length, filter}
use Rattle.std.specs.List.{flat_map, slice_split}
use Rattle.uci_tree.specs.declared.package.Value.{Value}
use Rattle.uci_tree.specs.declared.package.Value.TheVariants.{One, Many}

-- what stands between the words of a text
abbrev pub space : ℕ
space = 32

-- the parts that are not empty
abbrev pub kept : List (List ℕ) → List (List ℕ)
kept parts = filter (λ part. not (length part == 0)) parts

-- what stands between the spaces of a text, but for what is empty
abbrev pub words : List ℕ → List (List ℕ)
words text = kept (slice_split (λ byte. byte == space) text)

-- the words of a text; an item of a list stays whole
abbrev pub item_words : Value → List (List ℕ)
item_words (One text) = words text
item_words (Many items) = items

-- the words of a text, or of all items of a list
abbrev pub words_of : Value → List (List ℕ)
words_of (One text) = words text
words_of (Many items) = flat_map words items
