-- What is known of the values of a field.
use Rattle.std.specs.Prelude.{ℕ, ◌≡◌, ◌<◌, List, ◌∷◌, length}
use Rattle.http_requests.specs.declared.fields.Found.{Found}
use Rattle.http_requests.specs.declared.fields.Found.TheVariants.{Nothing, One, Several}

-- all values are those found, and then those that are left
abbrev pub IsFound : List (List ℕ) → Found → List (List ℕ) → Type 0
IsFound all Nothing left = all ≡ left
IsFound all (One value) left = all ≡ value.now ∷ left
IsFound all Several left = 1 < length all
