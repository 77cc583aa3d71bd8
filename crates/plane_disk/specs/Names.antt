-- The names of the files of a disk.
use Rattle.std.specs.Prelude.{ℕ, ◌≡◌, ◌≤◌, ◌<◌, ◌+◌, ◌||◌, true, List, [], length, slice_index_or, Bool, nat_eq, codes}
use Rattle.std.specs.Ordering.{nat_cmp}
use Rattle.std.specs.Cmp.Lexicographic.{slice_cmp}
use Rattle.std.specs.declared.cmp.Ordering.TheVariants.{Less}
use Rattle.std.specs.List.{list_all}
use Rattle.std.specs.Char.{is_ascii_alphanumeric}

-- a letter, a digit, `_` or `-`
abbrev pub is_package_byte : ℕ → Bool
is_package_byte byte = is_ascii_alphanumeric byte || nat_eq byte 95 || nat_eq byte 45

-- the name of a package of which a folder can hold the file: 1 to 255 such bytes
pub record IsPackageName (name : List ℕ) : Type 0 where
  pub some : 0 < length name
  pub short : length name ≤ 255
  pub plain : list_all is_package_byte name ≡ true

-- the name of a file, by its number
abbrev pub name_at : List (List ℕ) → ℕ → List ℕ
name_at names file = slice_index_or names file []

-- a file has the name of a package, which comes before the next one in byte order
pub record IsPlaced (names : List (List ℕ)) (file : ℕ) : Type 0 where
  pub named : IsPackageName (name_at names file)
  pub in_order : file + 1 < length names
      → slice_cmp nat_cmp (name_at names file) (name_at names (file + 1)) ≡ Less

-- the names of the files of a disk: the two that no package has, then packages in byte order, each once
pub record AreDiskNames (names : List (List ℕ)) : Type 0 where
  pub some : 2 ≤ length names
  pub gates : name_at names 0 ≡ codes ".plane-gates"
  pub snapshot : name_at names 1 ≡ codes ".plane-snapshot"
  pub packages : (file : ℕ) → 2 ≤ file → file < length names → IsPlaced names file
