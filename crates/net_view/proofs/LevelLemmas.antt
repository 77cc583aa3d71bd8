-- What is told of names, level by level.
use Rattle.std.proofs.Common.{◌≡◌, ℕ, zero, suc, ◌+◌, List, [], ◌∷◌, ◌++◌, map, get_or, Bool, true, false, cond, Option, Some, None, refl, sym, ap, ◌∙◌, subst, arith, add-one}
use Rattle.std.specs.Prelude.{not, ◌&&◌, ◌||◌, bytes_eq, is_some, is_none, nat_lt}
use Rattle.std.specs.List.{list_any, slice_get}
use Rattle.std.specs.Option.{option_map, option_and_then}
use Rattle.std.specs.Ordering.{nat_cmp}
use Rattle.std.specs.Cmp.Lexicographic.{slice_cmp}
use Rattle.std.specs.BTreeMap.{BTreeMap, get}
use Rattle.uci_tree.proofs.FoldLemmas.{position-cons}
use Rattle.kern_model.proofs.TestLemmas.{bytes_same, above_test}
use Rattle.net_rows.specs.declared.dotted.VlanParts.{VlanParts}
use Rattle.net_rows.specs.Dotted.{vlan_parts}
use Rattle.net_rows.specs.declared.rows.NameRow.{NameRow}
use Rattle.net_rows.specs.declared.rows.NameKind.{NameKind}
use Rattle.net_rows.specs.declared.rows.NameKind.TheVariants.{Plain, Bridge, Vlan}
use Rattle.net_rules.specs.Facts.{Facts}
use Rattle.net_rules.specs.Levels.{by_levels}
use Rattle.net_rules.specs.Rows.{names_of}
use Rattle.net_rules.specs.RadioPorts.{radio_ports_of}
use Rattle.net_rules.specs.Standing.{standing_of, standing_of_row}
use Rattle.net_rules.specs.Available.{is_present, has_carrier, available, link, opens, opens_at, links, links_at}
use Rattle.net_view.specs.Places.{place_of, HasPlaces, named}
use Rattle.net_view.specs.declared.levels.Question.{Question}
use Rattle.net_view.specs.declared.levels.Question.TheVariants as asked
use Rattle.net_view.specs.declared.levels.Told.{Told}
use Rattle.net_view.specs.Levels.{step_of, test_of, IsTold, IsToldBy, without_row, below_option}
use Rattle.net_view.proofs.PlaceLemmas.{at_place}
use Rattle.net_view.proofs.PortLemmas.{row_is, row_is_none}

pub and_true : (b : Bool) → (b && true) ≡ b
and_true true = refl
and_true false = refl

pub and_false : (b : Bool) → (b && false) ≡ false
and_false true = refl
and_false false = refl

-- ---- a name without a row

none_opens : (present : Bool) (parts : Option VlanParts) (below : List ℕ → Bool) (more : List (List ℕ)) → opens present below (standing_of (cond (is_some parts) (Vlan None 0) Plain) (is_some parts) more) ≡ (present && is_none parts)
none_opens present None below more = refl
none_opens present (Some parts) below more = sym (and_false present)

none_links : (carrier ready : Bool) (parts : Option VlanParts) (below : List ℕ → Bool) (more : List (List ℕ)) → links carrier ready below (standing_of (cond (is_some parts) (Vlan None 0) Plain) (is_some parts) more)
    ≡ (carrier && is_none parts)
none_links carrier ready None below more = sym (and_true carrier)
none_links carrier ready (Some parts) below more = sym (and_false carrier)

pub opens_without_row : (facts : Facts) (below : List ℕ → Bool) (name : List ℕ) → ◌≡◌ {A = Option NameRow} None (named (λ r. r.name) facts.conf.names name) → without_row facts asked.Available name ≡ opens_at facts below name
opens_without_row facts below name none =
    sym (ap (λ r. opens (is_present facts name) below (standing_of_row r (radio_ports_of facts name))) (row_is_none facts.conf.names name none)
    ∙ none_opens (is_present facts name) (vlan_parts name) below (radio_ports_of facts name))

pub links_without_row : (facts : Facts) (below : List ℕ → Bool) (name : List ℕ) → ◌≡◌ {A = Option NameRow} None (named (λ r. r.name) facts.conf.names name) → without_row facts asked.Link name ≡ links_at facts below name
links_without_row facts below name none =
    sym (ap (λ r. links (has_carrier facts name) (available facts name) below (standing_of_row r (radio_ports_of facts name))) (row_is_none facts.conf.names name none)
    ∙ none_links (has_carrier facts name) (available facts name) (vlan_parts name) below (radio_ports_of facts name))

step_without_row : (facts : Facts) (question : Question) (below : List ℕ → Bool) (name : List ℕ) → ◌≡◌ {A = Option NameRow} None (named (λ r. r.name) facts.conf.names name) → without_row facts question name
    ≡ step_of facts question below name
step_without_row facts asked.Available below name none = opens_without_row facts below name none
step_without_row facts asked.Link below name none = links_without_row facts below name none

positive : (n : ℕ) (b : Bool) → nat_lt 0 (suc n) ≡ b → nat_lt 0 (suc n) ≡ true
positive n true h = h
positive n false h = let low = above_test 0 (suc n) h in absurd (omega arith)

pub told_without_row : (facts : Facts) (question : Question) (levels : ℕ) (name : List ℕ) → ◌≡◌ {A = Option NameRow} None (named (λ r. r.name) facts.conf.names name) → (nat_lt 0 levels && without_row facts question name)
    ≡ by_levels levels (step_of facts question) name
unfolding by_levels
told_without_row facts question zero name none = refl
told_without_row facts question (suc levels) name none = ap (λ b. b && without_row facts question name) (positive levels (nat_lt 0 (suc levels)) refl) ∙ step_without_row facts question (by_levels levels (step_of facts question)) name none

-- ---- a name with a row

told_step : (test : List ℕ → Bool) (other name : List ℕ) (names : List (List ℕ)) (b : Bool) → bytes_eq other name ≡ b → (p : Option ℕ) (place : ℕ) → cond {A = Option ℕ} b (Some 0) (option_map (λ k. suc k) p) ≡ Some place
    → ((k : ℕ) → p ≡ Some k → get_or (map test names) k false ≡ test name) → get_or (map test (other ∷ names)) place false ≡ test name
told_step test other name names true same p place h later = let first : 0 ≡ place = cc h in subst (λ k. get_or (map test (other ∷ names)) k false ≡ test name) first (ap test (bytes_same other name same))
told_step test other name names false same None place h later = cc h
told_step test other name names false same (Some k) place h later = let next : suc k ≡ place = cc h in subst (λ n. get_or (map test (other ∷ names)) n false ≡ test name) next (later k refl)

pub told_at : (test : List ℕ → Bool) → (names : List (List ℕ)) (name : List ℕ) (place : ℕ) → place_of names name ≡ Some place → get_or (map test names) place false ≡ test name
told_at test [] name place h = cc h
told_at test (other ∷ names) name place h =
    told_step test other name names (bytes_eq other name) refl (place_of names name) place (sym (position-cons (λ o. bytes_eq o name) other names) ∙ h) (λ k found. told_at test names name k found)

pub told_by_row : (facts : Facts) (told : Told) (places : BTreeMap (List ℕ) ℕ) (name : List ℕ) (place : ℕ) (answers : List Bool) (answer : Bool) → IsTold facts told → HasPlaces places (names_of facts.conf) → Some place
    ≡ get (slice_cmp nat_cmp) places name → answers ≡ told.by_row.items → answer ≡ get_or answers place false → answer ≡ test_of facts told name
told_by_row facts told places name place answers answer is has found all read =
    read ∙ ap (λ (z : List Bool). get_or z place false) (all ∙ is) ∙ told_at (test_of facts told) (names_of facts.conf) name place (sym (found ∙ has name))

pub told_by_none : (facts : Facts) (told : Told) (places : BTreeMap (List ℕ) ℕ) (name : List ℕ) → HasPlaces places (names_of facts.conf) → None ≡ get (slice_cmp nat_cmp) places name
    → (nat_lt 0 told.levels && without_row facts told.question name) ≡ test_of facts told name
told_by_none facts told places name has none =
    told_without_row facts told.question told.levels name (ap (option_and_then (slice_get facts.conf.names)) (none ∙ has name) ∙ at_place (λ row. row.name) facts.conf.names name)

-- ---- one step

pub opens_with_row : (facts : Facts) (below : List ℕ → Bool) (name : List ℕ) (row : NameRow) → Some row ≡ named (λ r. r.name) facts.conf.names name → opens (is_present facts name) below (standing_of_row row (radio_ports_of facts name))
    ≡ opens_at facts below name
opens_with_row facts below name row is = sym (ap (λ r. opens (is_present facts name) below (standing_of_row r (radio_ports_of facts name))) (row_is facts.conf.names name row is))

pub links_with_row : (facts : Facts) (below : List ℕ → Bool) (name : List ℕ) (row : NameRow) (ready : Bool) → ready ≡ available facts name → Some row ≡ named (λ r. r.name) facts.conf.names name
    → links (has_carrier facts name) ready below (standing_of_row row (radio_ports_of facts name)) ≡ links_at facts below name
links_with_row facts below name row ready now is =
    ap (λ b. links (has_carrier facts name) b below (standing_of_row row (radio_ports_of facts name))) now
    ∙ sym (ap (λ r. links (has_carrier facts name) (available facts name) below (standing_of_row r (radio_ports_of facts name))) (row_is facts.conf.names name row is))

pub standing_is : (row : NameRow) (kind : NameKind) (broken : Bool) (more : List (List ℕ)) → row.kind ≡ kind → row.broken ≡ broken → standing_of_row row more ≡ standing_of kind broken more
standing_is row kind broken more p q = ap (λ k. standing_of k row.broken more) p ∙ ap (λ b. standing_of kind b more) q

broken_kind : (present : Bool) (below : List ℕ → Bool) (kind : NameKind) (more : List (List ℕ)) → false ≡ opens present below (standing_of kind true more)
broken_kind present below Plain more = sym (and_false present)
broken_kind present below (Bridge empty ports) more = refl
broken_kind present below (Vlan lower id) more = refl

pub broken_opens : (present : Bool) (below : List ℕ → Bool) (row : NameRow) (more : List (List ℕ)) → row.broken ≡ true → false ≡ opens present below (standing_of_row row more)
broken_opens present below row more broken = broken_kind present below row.kind more ∙ sym (ap (opens present below) (standing_is row row.kind true more refl broken))

pub plain_opens : (present : Bool) (below : List ℕ → Bool) (row : NameRow) (more : List (List ℕ)) → row.kind ≡ Plain → row.broken ≡ false → present ≡ opens present below (standing_of_row row more)
plain_opens present below row more kind sound = sym (ap (opens present below) (standing_is row Plain false more kind sound) ∙ and_true present)

pub bridge_opens : (present : Bool) (below : List ℕ → Bool) (row : NameRow) (empty : Bool) (ports more : List (List ℕ)) → row.kind ≡ Bridge empty ports → row.broken ≡ false → (not present && (empty || list_any below (ports ++ more)))
    ≡ opens present below (standing_of_row row more)
bridge_opens present below row empty ports more kind sound = sym (ap (opens present below) (standing_is row (Bridge empty ports) false more kind sound))

pub vlan_opens : (present : Bool) (below : List ℕ → Bool) (row : NameRow) (lower : Option (List ℕ)) (id : ℕ) (more : List (List ℕ)) → row.kind ≡ Vlan lower id → row.broken ≡ false → (not present && below_option below lower)
    ≡ opens present below (standing_of_row row more)
vlan_opens present below row lower id more kind sound = over lower ∙ sym (ap (opens present below) (standing_is row (Vlan lower id) false more kind sound))
  where
    over : (lower : Option (List ℕ)) → (not present && below_option below lower) ≡ opens present below (standing_of (Vlan lower id) false more)
    over None = and_false (not present)
    over (Some name) = refl

-- the same for link
pub plain_links : (carrier ready : Bool) (below : List ℕ → Bool) (row : NameRow) (more : List (List ℕ)) → row.kind ≡ Plain → carrier ≡ links carrier ready below (standing_of_row row more)
plain_links carrier ready below row more kind = sym (ap (links carrier ready below) (standing_is row Plain row.broken more kind refl))

pub bridge_links : (carrier ready : Bool) (below : List ℕ → Bool) (row : NameRow) (empty : Bool) (ports more : List (List ℕ)) → row.kind ≡ Bridge empty ports → (broken : Bool) → row.broken ≡ broken
    → (not broken && (ready && list_any below (ports ++ more))) ≡ links carrier ready below (standing_of_row row more)
bridge_links carrier ready below row empty ports more kind true broken = sym (ap (links carrier ready below) (standing_is row (Bridge empty ports) true more kind broken))
bridge_links carrier ready below row empty ports more kind false broken = sym (ap (links carrier ready below) (standing_is row (Bridge empty ports) false more kind broken))

pub vlan_links : (carrier ready : Bool) (below : List ℕ → Bool) (row : NameRow) (lower : Option (List ℕ)) (id : ℕ) (more : List (List ℕ)) → row.kind ≡ Vlan lower id → (broken : Bool) → row.broken ≡ broken
    → (not broken && (ready && below_option below lower)) ≡ links carrier ready below (standing_of_row row more)
vlan_links carrier ready below row lower id more kind true broken = sym (ap (links carrier ready below) (standing_is row (Vlan lower id) true more kind broken))
vlan_links carrier ready below row None id more kind false broken = and_false ready ∙ sym (ap (links carrier ready below) (standing_is row (Vlan None id) false more kind broken))
vlan_links carrier ready below row (Some lower) id more kind false broken = sym (ap (links carrier ready below) (standing_is row (Vlan (Some lower) id) false more kind broken))

-- ---- one level more

pub no_level : (step : (List ℕ → Bool) → List ℕ → Bool) (rows : List NameRow) → map (λ (row : NameRow). false) rows ≡ map (by_levels 0 step) (map (λ (row : NameRow). row.name) rows)
unfolding by_levels
no_level step [] = refl
no_level step (row ∷ rows) = ap (λ (z : List Bool). false ∷ z) (no_level step rows)

level_up : (step : (List ℕ → Bool) → List ℕ → Bool) (level : ℕ) (rows : List NameRow) → map (λ (row : NameRow). step (by_levels level step) row.name) rows ≡ map (by_levels (suc level) step) (map (λ (row : NameRow). row.name) rows)
unfolding by_levels
level_up step level [] = refl
level_up step level (row ∷ rows) = ap (λ (z : List Bool). step (by_levels level step) row.name ∷ z) (level_up step level rows)

-- answers that are made of those of one level less
pub one_level_more : (facts : Facts) (question : Question) (level : ℕ) (below told : Told) (names : List NameRow) → IsToldBy facts question level below → names ≡ facts.conf.names → told.question ≡ question → told.levels ≡ level + 1
    → told.by_row.items ≡ map (λ (row : NameRow). step_of facts question (test_of facts below) row.name) names → IsToldBy facts question (level + 1) told
one_level_more facts question level below told names is all requests levels made = record {
  question = requests;
  levels = levels;
  right = made
      ∙ ap (map (λ (row : NameRow). step_of facts question (test_of facts below) row.name)) all
      ∙ ap (λ (t : List ℕ → Bool). map (λ (row : NameRow). step_of facts question t row.name) facts.conf.names) (test_is below level is.question is.levels)
      ∙ level_up (step_of facts question) level facts.conf.names
      ∙ ap (λ (n : ℕ). map (by_levels n (step_of facts question)) (names_of facts.conf)) (sym (add-one level))
      ∙ ap (λ (t : List ℕ → Bool). map t (names_of facts.conf)) (sym (test_is told (level + 1) requests levels));
}
  where
    test_is : (t : Told) (n : ℕ) → t.question ≡ question → t.levels ≡ n → test_of facts t ≡ by_levels n (step_of facts question)
    test_is t n p q = ap (λ (k : Question). by_levels t.levels (step_of facts k)) p ∙ ap (λ (k : ℕ). by_levels k (step_of facts question)) q

pub tells_available : (facts : Facts) (told : Told) (name : List ℕ) → IsToldBy facts asked.Available 8 told → test_of facts told name ≡ available facts name
unfolding available
tells_available facts told name is = ap (λ (k : Question). by_levels told.levels (step_of facts k) name) is.question ∙ ap (λ (k : ℕ). by_levels k (opens_at facts) name) is.levels

pub tells_link : (facts : Facts) (told : Told) (name : List ℕ) → IsToldBy facts asked.Link 8 told → test_of facts told name ≡ link facts name
unfolding link
tells_link facts told name is = ap (λ (k : Question). by_levels told.levels (step_of facts k) name) is.question ∙ ap (λ (k : ℕ). by_levels k (links_at facts) name) is.levels
