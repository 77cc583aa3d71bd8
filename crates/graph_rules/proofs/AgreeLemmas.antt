-- a graph that agrees with facts answers as they say
use Rattle.std.proofs.Common.{arith, ℕ, zero, suc, ◌+◌, ◌≡◌, ◌&&◌, ◌||◌, not, Bool, true, false, cond, nat_lt, List, [], ◌∷◌, length, map, filter, is_some, bytes_eq, refl, sym, ap, ◌∙◌}
use Rattle.std.proofs.lemmas.Bool.{lt-ltb}
use Rattle.std.specs.List.{list_any}
use Rattle.std.specs.Option.{option_map_or}
use Rattle.net_rules.specs.Facts.{Facts}
use Rattle.net_rules.specs.Levels.{by_levels}
use Rattle.net_rules.specs.Rows.{row_at, interfaces_of, names_of}
use Rattle.net_rules.specs.Standing.{Standing, Broken, Alone, Over, Ports, standing_of_row, standing_at, lowers_of, stands}
use Rattle.net_rules.specs.Available.{is_present, opens, opens_at, available, links, links_at, link}
use Rattle.net_rules.specs.Used.{uses, serves_at, used, users}
use Rattle.graph_rules.specs.State.{Known, device_in, claims_in}
use Rattle.graph_rules.specs.Answers.{given_ports, port_of, standing_in, stands_in, has_device, opens_in, available_in, links_in, link_in, row_names, serves_in, used_in, users_in}
use Rattle.graph_rules.specs.Agreeing.{Agrees}
use Rattle.net_rules.specs.Available as rules

same_levels : (f g : (List ℕ → Bool) → List ℕ → Bool) → ((h k : List ℕ → Bool) → ((n : List ℕ) → h n ≡ k n) → (n : List ℕ) → f h n ≡ g k n) → (levels : ℕ) (n : List ℕ) → by_levels levels f n ≡ by_levels levels g n
unfolding by_levels
same_levels f g same zero n = refl
same_levels f g same (suc levels) n = same (by_levels levels f) (by_levels levels g) (same_levels f g same levels) n

any_same : {X : Type 0} (p q : X → Bool) → ((x : X) → p x ≡ q x) → (xs : List X) → list_any p xs ≡ list_any q xs
any_same p q same [] = refl
any_same p q same (x ∷ xs) = ap (λ b. b || list_any p xs) (same x) ∙ ap (λ b. q x || b) (any_same p q same xs)

filter_step : {X : Type 0} (b : Bool) (x : X) (ys zs : List X) → ys ≡ zs → cond b (x ∷ ys) ys ≡ cond b (x ∷ zs) zs
filter_step b x ys zs e = ap (λ ws. cond b (x ∷ ws) ws) e

pub filter_same : {X : Type 0} (p q : X → Bool) → ((x : X) → p x ≡ q x) → (xs : List X) → filter p xs ≡ filter q xs
filter_same p q same [] = refl
filter_same p q same (x ∷ xs) = ap (λ b. cond b (x ∷ filter p xs) (filter p xs)) (same x) ∙ filter_step (q x) x (filter p xs) (filter q xs) (filter_same p q same xs)

some_step : (b : Bool) (X : Type 0) (x : X) (xs : List X) (t : Bool) → nat_lt 0 (length xs) ≡ t → nat_lt 0 (length (cond b (x ∷ xs) xs)) ≡ (b || t)
some_step true X x xs t e = lt-ltb 0 (suc (length xs)) (omega arith)
some_step false X x xs t e = e

pub some_passes : {X : Type 0} (p : X → Bool) (xs : List X) → nat_lt 0 (length (filter p xs)) ≡ list_any p xs
some_passes p [] = refl
some_passes {X} p (x ∷ xs) = some_step (p x) X x (filter p xs) (list_any p xs) (some_passes p xs)

opens_same : (present : Bool) (h k : List ℕ → Bool) → ((n : List ℕ) → h n ≡ k n) → (st : Standing) → opens present h st ≡ opens present k st
opens_same present h k same Broken = refl
opens_same present h k same (Alone sound) = refl
opens_same present h k same (Over lower id) = ap (λ b. not present && b) (same lower)
opens_same present h k same (Ports empty ports) = ap (λ b. not present && (empty || b)) (any_same h k same ports)

links_same : (carrier ready : Bool) (h k : List ℕ → Bool) → ((n : List ℕ) → h n ≡ k n) → (st : Standing) → links carrier ready h st ≡ links carrier ready k st
links_same carrier ready h k same Broken = refl
links_same carrier ready h k same (Alone sound) = refl
links_same carrier ready h k same (Over lower id) = ap (λ b. ready && b) (same lower)
links_same carrier ready h k same (Ports empty ports) = ap (λ b. ready && b) (any_same h k same ports)

pub standing_same : (facts : Facts) (s : Known) → Agrees facts s → (name : List ℕ) → standing_in s name ≡ standing_at facts name
standing_same facts s a name =
    ap (λ rows. standing_of_row (row_at rows name) (given_ports (map port_of s.radio) name)) a.rows
    ∙ ap (λ radio. standing_of_row (row_at facts.conf.names name) (given_ports radio name)) a.radio

opens_step : (facts : Facts) (s : Known) → Agrees facts s → (h k : List ℕ → Bool) → ((n : List ℕ) → h n ≡ k n) → (n : List ℕ) → opens_in s h n ≡ opens_at facts k n
opens_step facts s a h k same n =
    ap (λ d. opens (is_some d) h (standing_in s n)) (a.devices n)
    ∙ ap (opens (is_present facts n) h) (standing_same facts s a n)
    ∙ opens_same (is_present facts n) h k same (standing_at facts n)

pub available_same : (facts : Facts) (s : Known) → Agrees facts s → (name : List ℕ) → available_in s name ≡ available facts name
unfolding available_in available
available_same facts s a name = same_levels (opens_in s) (opens_at facts) (opens_step facts s a) 8 name

links_step : (facts : Facts) (s : Known) → Agrees facts s → (h k : List ℕ → Bool) → ((n : List ℕ) → h n ≡ k n) → (n : List ℕ) → links_in s h n ≡ links_at facts k n
links_step facts s a h k same n =
    ap (λ d. links (option_map_or (λ device. device.carrier) d false) (available_in s n) h (standing_in s n)) (a.devices n)
    ∙ ap (λ b. links (rules.has_carrier facts n) b h (standing_in s n)) (available_same facts s a n)
    ∙ ap (links (rules.has_carrier facts n) (available facts n) h) (standing_same facts s a n)
    ∙ links_same (rules.has_carrier facts n) (available facts n) h k same (standing_at facts n)

pub link_same : (facts : Facts) (s : Known) → Agrees facts s → (name : List ℕ) → link_in s name ≡ link facts name
unfolding link_in link
link_same facts s a name = same_levels (links_in s) (links_at facts) (links_step facts s a) 8 name

stands_same : (facts : Facts) (s : Known) → Agrees facts s → (lower upper : List ℕ) → stands_in s lower upper ≡ stands facts lower upper
stands_same facts s a lower upper = ap (λ st. list_any (λ name. bytes_eq name lower) (lowers_of st)) (standing_same facts s a upper)

rows_same : (facts : Facts) (s : Known) → Agrees facts s → row_names s ≡ names_of facts.conf
rows_same facts s a = ap (map (λ row. row.name)) a.rows

claimed_same : (facts : Facts) (s : Known) → Agrees facts s → (name : List ℕ) → nat_lt 0 (claims_in s name) ≡ list_any (uses facts name) (interfaces_of facts.conf)
claimed_same facts s a name = ap (nat_lt 0) (a.claims name) ∙ some_passes (uses facts name) (interfaces_of facts.conf)

serves_step : (facts : Facts) (s : Known) → Agrees facts s → (h k : List ℕ → Bool) → ((n : List ℕ) → h n ≡ k n) → (n : List ℕ) → serves_in s h n ≡ serves_at facts k n
serves_step facts s a h k same n =
    let uppers = list_any (λ upper. stands_in s n upper && h upper) (row_names s) in
    ap (λ b. b && (nat_lt 0 (claims_in s n) || uppers)) (available_same facts s a n)
    ∙ ap (λ b. available facts n && (b || uppers)) (claimed_same facts s a n)
    ∙ ap (λ names. available facts n && (list_any (uses facts n) (interfaces_of facts.conf) || list_any (λ upper. stands_in s n upper && h upper) names)) (rows_same facts s a)
    ∙ ap (λ b. available facts n && (list_any (uses facts n) (interfaces_of facts.conf) || b))
    (any_same (λ upper. stands_in s n upper && h upper) (λ upper. stands facts n upper && k upper) (λ upper. ap (λ b. b && h upper) (stands_same facts s a n upper) ∙ ap (λ b. stands facts n upper && b) (same upper))
    (names_of facts.conf))

pub used_same : (facts : Facts) (s : Known) → Agrees facts s → (name : List ℕ) → used_in s name ≡ used facts name
unfolding used_in used
used_same facts s a name = same_levels (serves_in s) (serves_at facts) (serves_step facts s a) 8 name

pub users_same : (facts : Facts) (s : Known) → Agrees facts s → (name : List ℕ) → users_in s name ≡ users facts name
users_same facts s a name =
    let above = λ (names : List (List ℕ)). length (filter (λ upper. stands_in s name upper && used_in s upper) names) in
    let uppers : above (row_names s) ≡ length (filter (λ upper. stands facts name upper && used facts upper) (names_of facts.conf)) =
    ap above (rows_same facts s a) ∙ ap length (filter_same (λ upper. stands_in s name upper && used_in s upper) (λ upper. stands facts name upper && used facts upper)
    (λ upper. ap (λ b. b && used_in s upper) (stands_same facts s a name upper) ∙ ap (λ b. stands facts name upper && b) (used_same facts s a upper)) (names_of facts.conf)) in
    ap (λ b. cond b (claims_in s name + above (row_names s)) 0) (available_same facts s a name)
    ∙ ap (λ n. cond (available facts name) (n + above (row_names s)) 0) (a.claims name)
    ∙ ap (λ n. cond (available facts name) (length (filter (uses facts name) (interfaces_of facts.conf)) + n) 0) uppers
