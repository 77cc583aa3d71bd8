-- The words that a source of random words gives from now on, and which of them were used.
use Rattle.std.specs.Prelude.{ℕ, zero, suc, ◌≡◌, ◌+◌, List, [], ◌∷◌, Option, Some, None, ⊤}
use Rattle.std.specs.Option.{option_map}

-- what the k-th word from now is, for each k from 0, where that is told
abbrev pub Supply : Type 0
Supply = Option (ℕ → ℕ)

-- a word, and then these
abbrev pub ahead : ℕ → (ℕ → ℕ) → ℕ → ℕ
ahead word words zero = word
ahead word words (suc k) = words k

-- a word that was taken from the source and not used goes before those of the source
abbrev pub spare_first : Option ℕ → (ℕ → ℕ) → ℕ → ℕ
spare_first None words = words
spare_first (Some word) words = ahead word words

abbrev pub supply_of : Option ℕ → Supply → Supply
supply_of spare source = option_map (spare_first spare) source

-- these words were the next ones, and others follow
abbrev pub AreNext : (ℕ → ℕ) → List ℕ → (ℕ → ℕ) → Type 0
AreNext words [] others = (k : ℕ) → others k ≡ words k
AreNext words (word ∷ used) others = (word ≡ words 0) × AreNext (λ k. words (k + 1)) used others

-- these words were used up
abbrev pub Uses : Supply → List ℕ → Supply → Type 0
Uses None used after = after ≡ None
Uses (Some words) used after = (others : ℕ → ℕ) × (after ≡ Some others) × AreNext words used others

-- the next word
abbrev pub IsFirst : Supply → ℕ → Type 0
IsFirst None word = ⊤
IsFirst (Some words) word = word ≡ words 0
