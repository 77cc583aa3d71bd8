-- The places of first rows, and what is touched at a place.
use Rattle.std.proofs.Common.{arith, ℕ, ◌≡◌, ◌==◌, List, map, slice_get, Contains, true, false, Option, Some, None, refl, ap, sym, ◌∙◌}
use Rattle.std.specs.Option.{option_and_then, option_map_or}
use Rattle.std.proofs.lemmas.Bool.Decides.{nat_tests}
use Rattle.kern_model.proofs.TestLemmas.{of_any}
use Rattle.net_rows.specs.declared.rows.InterfaceRow.{InterfaceRow}
use Rattle.net_rows.specs.declared.rows.Conf.{Conf}
use Rattle.net_rules.specs.Rows.{interfaces_of, interface_named}
use Rattle.net_rules.proofs.OnceLemmas.{found_firsts, once_firsts, found_once}
use Rattle.net_view.specs.Places.{place_of}
use Rattle.net_view.proofs.PlaceLemmas.{at_place}
use Rattle.asked_places.specs.Touched.{has, is_touched}

abbrev pub names_in : Conf → List (List ℕ)
names_in conf = map (λ (row : InterfaceRow). row.name) conf.interfaces

-- the first row of a name stands at its place
pub record StandsAt (conf : Conf) (row : InterfaceRow) : Type 0 where
  pub place : ℕ
  pub is : place_of (names_in conf) row.name ≡ Some place
  pub found : slice_get conf.interfaces place ≡ Some row

stands_by : (conf : Conf) (row : InterfaceRow) (place : Option ℕ) → place_of (names_in conf) row.name ≡ place → option_and_then (slice_get conf.interfaces) place ≡ Some row → StandsAt conf row
stands_by conf row None is found = cc found
stands_by conf row (Some place) is found = record { place = place; is = is; found = found }

pub first_stands : (conf : Conf) (row : InterfaceRow) → Contains (interfaces_of conf) row → StandsAt conf row
first_stands conf row member =
    let key : InterfaceRow → List ℕ = λ r. r.name in
    let first : interface_named conf row.name ≡ Some row = sym (found_firsts key conf.interfaces row.name) ∙ found_once key (interfaces_of conf) (once_firsts key conf.interfaces) row member in
    stands_by conf row (place_of (names_in conf) row.name) refl (at_place key conf.interfaces row.name ∙ first)

-- what stands at one of some places is touched
pub itself : (n : ℕ) → (n == n) ≡ true
itself n = let same : n ≡ n = refl in grind (arith, nat_tests, same)

pub has_member : (places : List ℕ) (place : ℕ) → Contains places place → has places place ≡ true
has_member places place member = of_any (λ other. place == other) places place member (itself place)

pub touched_at : (rows : List InterfaceRow) (places : List ℕ) (name : List ℕ) (place : ℕ) → place_of (map (λ (row : InterfaceRow). row.name) rows) name ≡ Some place → Contains places place → is_touched rows places name ≡ true
touched_at rows places name place is member = ap (λ (o : Option ℕ). option_map_or (has places) o false) is ∙ has_member places place member
