-- The first row of a name, and its place.
use Rattle.std.proofs.Common.{ℕ, zero, suc, ◌≡◌, List, [], ◌∷◌, ◌++◌, take, Bool, true, false, cond, Option, Some, None, refl, ap, sym, subst, ◌∙◌}
use Rattle.std.specs.Prelude.{not, ◌||◌, ◌==◌, bytes_eq, slice_get}
use Rattle.std.specs.List.{list_any}
use Rattle.std.specs.Option.{option_map, option_map_or}
use Rattle.std.proofs.lemmas.Bool.Decides.{Decides-eqb}
use Rattle.kern_model.proofs.TestLemmas.{bytes_same, same_bytes}
use Rattle.uci_tree.proofs.FoldLemmas.{position-cons}
use Rattle.net_rows.specs.declared.rows.InterfaceRow.{InterfaceRow}
use Rattle.known_inputs.specs.Steps.{place_of}
use Rattle.net_rules.specs.States.{is_first}
use Rattle.net_rules.proofs.MoveLemmas.{some_is}
use Rattle.asked_places.specs.Touched.{has, names_of_rows, is_touched}

-- the place in a list that begins with a name
abbrev pub behind : Bool → Option ℕ → Option ℕ
behind b rest = cond {A = Option ℕ} b (Some 0) (option_map (λ k. suc k) rest)

place_cons : (row : InterfaceRow) (rows : List InterfaceRow) (name : List ℕ) → place_of (names_of_rows (row ∷ rows)) name ≡ behind (bytes_eq row.name name) (place_of (names_of_rows rows) name)
place_cons row rows name = position-cons (λ other. bytes_eq other name) row.name (names_of_rows rows)

-- the first row of a name is at the place of the name
pub place_of_first : (rows : List InterfaceRow) (place : ℕ) (row : InterfaceRow) → slice_get rows place ≡ Some row → is_first rows place row.name ≡ true → place_of (names_of_rows rows) row.name ≡ Some place
place_of_first [] place row at first = cc at
place_of_first (r ∷ rs) zero row at first =
    let same : r.name ≡ row.name = ap (λ (x : InterfaceRow). x.name) (some_is r row at) in
    place_cons r rs row.name
    ∙ ap (λ b. behind b (place_of (names_of_rows rs) row.name)) (same_bytes r.name row.name same)
place_of_first (r ∷ rs) (suc k) row at first = by (bytes_eq r.name row.name) refl first (λ h. place_of_first rs k row at h)
  where
    by : (b : Bool) → bytes_eq r.name row.name ≡ b → not (b || list_any (λ x. bytes_eq x.name row.name) (take k rs)) ≡ true
        → (not (list_any (λ x. bytes_eq x.name row.name) (take k rs)) ≡ true → place_of (names_of_rows rs) row.name ≡ Some k) → place_of (names_of_rows (r ∷ rs)) row.name ≡ Some (suc k)
    by true is h rest = cc h
    by false is h rest =
        place_cons r rs row.name
        ∙ ap (λ b. behind b (place_of (names_of_rows rs) row.name)) is
        ∙ ap (behind false) (rest h)

-- a row that stands at the place of its name
pub record StandsAt (rows : List InterfaceRow) (place : ℕ) (name : List ℕ) : Type 0 where
  pub row : InterfaceRow
  pub at : slice_get rows place ≡ Some row
  pub named : row.name ≡ name
  pub first : is_first rows place name ≡ true

-- where the place of a name is, its first row stands
pub first_at_place : (rows : List InterfaceRow) (name : List ℕ) (place : ℕ) → place_of (names_of_rows rows) name ≡ Some place → StandsAt rows place name
first_at_place [] name place is = cc is
first_at_place (r ∷ rs) name place is = by (bytes_eq r.name name) (place_of (names_of_rows rs) name) refl refl (sym (place_cons r rs name) ∙ is) (λ k at. first_at_place rs name k at)
  where
    by : (b : Bool) (rest : Option ℕ) → bytes_eq r.name name ≡ b → place_of (names_of_rows rs) name ≡ rest → behind b rest ≡ Some place → ((k : ℕ) → place_of (names_of_rows rs) name ≡ Some k → StandsAt rs k name)
        → StandsAt (r ∷ rs) place name
    by true rest same at h further =
        let zero_is : 0 ≡ place = some_is 0 place h in
        subst (λ k. StandsAt (r ∷ rs) k name) zero_is (record { row = r; at = refl; named = bytes_same r.name name same; first = refl })
    by false None same at h further = cc h
    by false (Some k) same at h further =
        let next_is : suc k ≡ place = some_is (suc k) place h in
        let later = further k at in
        subst (λ j. StandsAt (r ∷ rs) j name) next_is (record {
          row = later.row;
          at = later.at;
          named = later.named;
          first = ap (λ b. not (b || list_any (λ x. bytes_eq x.name name) (take k rs))) same ∙ later.first;
        })

-- ---- places among others

pub has_behind : (xs ys : List ℕ) (place : ℕ) → has (xs ++ ys) place ≡ (has xs place || has ys place)
has_behind [] ys place = refl
has_behind (x ∷ xs) ys place = by (place == x) (has_behind xs ys place)
  where
    by : (b : Bool) → has (xs ++ ys) place ≡ (has xs place || has ys place) → (b || has (xs ++ ys) place) ≡ ((b || has xs place) || has ys place)
    by true rest = refl
    by false rest = rest

pub touched_behind : (rows : List InterfaceRow) (xs ys : List ℕ) (name : List ℕ) → is_touched rows (xs ++ ys) name ≡ (is_touched rows xs name || is_touched rows ys name)
touched_behind rows xs ys name = by (place_of (names_of_rows rows) name)
  where
    by : (o : Option ℕ) → option_map_or (has (xs ++ ys)) o false ≡ (option_map_or (has xs) o false || option_map_or (has ys) o false)
    by None = refl
    by (Some place) = has_behind xs ys place

-- the one of its own place
pub touched_one : (rows : List InterfaceRow) (place : ℕ) (name : List ℕ) → is_touched rows (place ∷ []) name ≡ true → place_of (names_of_rows rows) name ≡ Some place
touched_one rows place name h = by (place_of (names_of_rows rows) name) refl h
  where
    by : (o : Option ℕ) → place_of (names_of_rows rows) name ≡ o → option_map_or (has (place ∷ [])) o false ≡ true → place_of (names_of_rows rows) name ≡ Some place
    by None is h = cc h
    by (Some k) is h = is ∙ ap (λ (n : ℕ). Some n) ((Decides-eqb k place).0 (alone (k == place) h))
      where
        alone : (b : Bool) → (b || false) ≡ true → b ≡ true
        alone true h = refl
        alone false h = h

pub touches_one : (rows : List InterfaceRow) (place : ℕ) (name : List ℕ) → place_of (names_of_rows rows) name ≡ Some place → is_touched rows (place ∷ []) name ≡ true
touches_one rows place name is =
    ap (λ (o : Option ℕ). option_map_or (has (place ∷ [])) o false) is
    ∙ ap (λ b. b || false) ((Decides-eqb place place).1 refl)
