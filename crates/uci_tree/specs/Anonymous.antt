-- The names of anonymous sections: of the form that OpenWrt's libuci gives them, by a rule of our own.
use Rattle.std.specs.Prelude.{ℕ, ◌+◌, ◌*◌, ◌%◌, List, ◌++◌, fold, codes}
use Rattle.plane_words.specs.Numeral.{hex}

-- the hash of a type, below 65,536
abbrev pub type_hash : List ℕ → ℕ
type_hash kind = fold (λ hash byte. (33 * hash + byte) % 65536) 5381 kind

-- the name of the section that was added as this one, from 1, and has this type
abbrev pub anonymous_name : ℕ → List ℕ → List ℕ
anonymous_name ordinal kind = codes "cfg" ++ hex 2 ordinal ++ hex 4 (type_hash kind)
