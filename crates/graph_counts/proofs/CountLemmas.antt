-- the counts of a graph answer as its names do
use Rattle.std.proofs.Common.{arith, ⊎_elim, ℕ, zero, suc, ◌+◌, ◌<◌, ◌≡◌, ◌==◌, ◌&&◌, ◌||◌, not, Bool, true, false, cond, nat_lt, List, [], ◌∷◌, length, map, filter, bytes_eq, slice_index_or, refl, sym, ap, ◌∙◌}
use Rattle.std.proofs.lemmas.Bool.{cases_eq, eq-eqb, ne_eqb, lt-ltb}
use Rattle.std.proofs.lemmas.List.{length-append}
use Rattle.std.proofs.lemmas.List.Elements.{filter-append}
use Rattle.std.proofs.lemmas.List.Sums.{passes_at_first}
use Rattle.std.specs.List.{AllByRecursion, list_any}
use Rattle.std.specs.Cmp.Lexicographic.{bytes_decides}
use Rattle.use_counts.specs.NodeRule.{is_used}
use Rattle.use_counts.specs.Network.{Network, member_at}
use Rattle.use_counts.specs.Rows as counts
use Rattle.net_rules.specs.Levels.{by_levels}
use Rattle.net_rules.specs.Standing.{Standing, Broken, Alone, Over, Ports, lowers_of}
use Rattle.net_rules.specs.Available.{opens, links}
use Rattle.graph_rules.specs.State.{Known, claims_in, names_in}
use Rattle.graph_rules.specs.Answers.{standing_in, stands_in, has_device, has_carrier, opens_in, available_in, links_in, link_in, row_names, serves_in, used_in, users_in}
use Rattle.graph_counts.specs.Counted.{id_of, name_of, by_id, HasIds, IsCounted}
use Rattle.graph_rules.proofs.AgreeLemmas.{some_passes}

each_name : {P Q : List ℕ → Type 0} → ((n : List ℕ) → P n → Q n) → (ns : List (List ℕ)) → AllByRecursion P ns → AllByRecursion Q ns
each_name f [] h = h
each_name f (n ∷ ns) h = (f n h.0, each_name f ns h.1)

-- the name of the id of a name
pub back : (names : List (List ℕ)) (n : List ℕ) → id_of names n < length names → slice_index_or names (id_of names n) [] ≡ n
back names n h = (bytes_decides (slice_index_or names (id_of names n) []) n).0 (passes_at_first (λ other. bytes_eq other n) names [] h)

pub standing_map : (f : List ℕ → counts.Standing) (ns : List (List ℕ)) (k : ℕ) → k < length ns → counts.standing_at (map f ns) k ≡ f (slice_index_or ns k [])
standing_map f [] k h = absurd (omega (arith, h))
standing_map f (n ∷ ns) zero h = refl
standing_map f (n ∷ ns) (suc k) h = standing_map f ns k (omega (arith, h))

standing_is : (s : Known) (net : Network) (c : IsCounted s net) (id : ℕ) → id < length (names_in s) → counts.standing_at (counts.joined net.ports c.rows) id ≡ by_id (names_in s) (standing_in s (name_of s id))
standing_is s net c id h = ap (λ ss. counts.standing_at ss id) c.stand ∙ standing_map (λ n. by_id (names_in s) (standing_in s n)) (names_in s) id h

any_map : (f : ℕ → Bool) (g : List ℕ → Bool) (names ports : List (List ℕ)) → AllByRecursion (λ p. f (id_of names p) ≡ g p) ports → list_any f (map (id_of names) ports) ≡ list_any g ports
any_map f g names [] h = refl
any_map f g names (p ∷ ps) h = ap (λ b. b || list_any f (map (id_of names) ps)) h.0 ∙ ap (λ b. g p || b) (any_map f g names ps h.1)

opens_tie : (present : Bool) (f : ℕ → Bool) (g : List ℕ → Bool) (names : List (List ℕ)) (st : Standing) → AllByRecursion (λ p. f (id_of names p) ≡ g p) (lowers_of st) → counts.row_opens present f (by_id names st) ≡ opens present g st
opens_tie present f g names Broken h = refl
opens_tie present f g names (Alone sound) h = refl
opens_tie present f g names (Over lower id) h = ap (λ b. not present && b) h.0
opens_tie present f g names (Ports empty ports) h = ap (λ b. not present && (empty || b)) (any_map f g names ports h)

links_tie : (carries ready : Bool) (f : ℕ → Bool) (g : List ℕ → Bool) (names : List (List ℕ)) (st : Standing) → AllByRecursion (λ p. f (id_of names p) ≡ g p) (lowers_of st) → counts.row_links carries ready f (by_id names st)
    ≡ links carries ready g st
links_tie carries ready f g names Broken h = refl
links_tie carries ready f g names (Alone sound) h = refl
links_tie carries ready f g names (Over lower id) h = ap (λ b. ready && b) h.0
links_tie carries ready f g names (Ports empty ports) h = ap (λ b. ready && b) (any_map f g names ports h)

not_equal : (b : Bool) → (b ≡ true → ⊥) → b ≡ false
not_equal true n = absurd (n refl)
not_equal false n = refl

names_tie : (f : ℕ → Bool) (g : List ℕ → Bool) (names : List (List ℕ)) (st : Standing) → AllByRecursion (λ p. f (id_of names p) ≡ g p) (lowers_of st) → list_any f (counts.lowers_of (by_id names st)) ≡ list_any g (lowers_of st)
names_tie f g names Broken h = refl
names_tie f g names (Alone sound) h = refl
names_tie f g names (Over lower id) h = ap (λ b. b || false) h.0
names_tie f g names (Ports empty ports) h = any_map f g names ports h

and_swap : (a b : Bool) → (a && b) ≡ (b && a)
and_swap true true = refl
and_swap true false = refl
and_swap false true = refl
and_swap false false = refl

kept_more : {X : Type 0} (b : Bool) (x : X) (xs : List X) → length (cond b (x ∷ xs) xs) ≡ cond b 1 0 + length xs
kept_more true x xs = omega arith
kept_more false x xs = omega arith

filter_more : {X : Type 0} (p : X → Bool) (x : X) (xs : List X) → length (filter p (x ∷ xs)) ≡ cond (p x) 1 0 + length (filter p xs)
filter_more p x xs = kept_more (p x) x (filter p xs)

none_on : (s : Known) (lower : List ℕ) (g : List ℕ → Bool) (ns : List (List ℕ)) → AllByRecursion (λ n. lowers_of (standing_in s n) ≡ []) ns → length (filter (λ n. stands_in s lower n && g n) ns) ≡ 0
none_on s lower g [] h = refl
none_on s lower g (n ∷ ns) h =
    let none : stands_in s lower n ≡ false = ap (list_any (λ name. bytes_eq name lower)) h.0 in
    let here = ap (λ b. let m : ℕ = cond (b && g n) 1 0 in m) none in
    omega (arith, filter_more (λ n. stands_in s lower n && g n) n ns, here, none_on s lower g ns h.1)

more_than_none : (a n : ℕ) → nat_lt 0 (a + n) ≡ (nat_lt 0 a || nat_lt 0 n)
more_than_none zero n = ap (nat_lt 0) (let same : zero + n ≡ n = omega arith in same)
more_than_none (suc a) n = lt-ltb 0 (suc a + n) (omega arith) ∙ sym (ap (λ b. b || nat_lt 0 n) (lt-ltb 0 (suc a) (omega arith)))

module _ (s : Known) (net : Network) (h : HasIds s) (c : IsCounted s net) where
  -- what is known by ids is known of what a name stands on
  at_lowers : (f : ℕ → Bool) (g : List ℕ → Bool) → ((id : ℕ) → id < length (names_in s) → f id ≡ g (name_of s id)) → (name : List ℕ) → AllByRecursion (λ p. f (id_of (names_in s) p) ≡ g p) (lowers_of (standing_in s name))
  at_lowers f g same name = each_name (λ n within. same (id_of (names_in s) n) within ∙ ap g (back (names_in s) n within)) (lowers_of (standing_in s name)) (h.lowers name)

  available_levels : (levels id : ℕ) → id < length (names_in s) → counts.by_levels levels (λ below k. counts.row_opens (counts.present_at net k) below (counts.standing_at (counts.joined net.ports c.rows) k)) id
      ≡ by_levels levels (opens_in s) (name_of s id)
  unfolding counts.by_levels by_levels
  available_levels zero id within = refl
  available_levels (suc levels) id within =
      let below = counts.by_levels levels (λ below k. counts.row_opens (counts.present_at net k) below (counts.standing_at (counts.joined net.ports c.rows) k)) in
      ap (λ b. counts.row_opens b below (counts.standing_at (counts.joined net.ports c.rows) id)) (c.told id within).present
      ∙ ap (counts.row_opens (has_device s (name_of s id)) below) (standing_is s net c id within)
      ∙ opens_tie (has_device s (name_of s id)) below (by_levels levels (opens_in s)) (names_in s) (standing_in s (name_of s id)) (at_lowers below (by_levels levels (opens_in s)) (available_levels levels) (name_of s id))

  pub available_alike : (id : ℕ) → id < length (names_in s) → counts.row_available (counts.joined net.ports c.rows) net id ≡ available_in s (name_of s id)
  unfolding available_in
  available_alike id within = available_levels 8 id within

  link_levels : (levels id : ℕ) → id < length (names_in s) → counts.by_levels levels
      (λ below k. counts.row_links (counts.carries_at net k) (counts.row_available (counts.joined net.ports c.rows) net k) below (counts.standing_at (counts.joined net.ports c.rows) k)) id ≡ by_levels levels (links_in s) (name_of s id)
  unfolding counts.by_levels by_levels
  link_levels zero id within = refl
  link_levels (suc levels) id within =
      let below = counts.by_levels levels (λ below k. counts.row_links (counts.carries_at net k) (counts.row_available (counts.joined net.ports c.rows) net k) below (counts.standing_at (counts.joined net.ports c.rows) k)) in
      let name = name_of s id in
      ap (λ b. counts.row_links b (counts.row_available (counts.joined net.ports c.rows) net id) below (counts.standing_at (counts.joined net.ports c.rows) id)) (c.told id within).carrier
      ∙ ap (λ b. counts.row_links (has_carrier s name) b below (counts.standing_at (counts.joined net.ports c.rows) id)) (available_alike id within)
      ∙ ap (counts.row_links (has_carrier s name) (available_in s name) below) (standing_is s net c id within)
      ∙ links_tie (has_carrier s name) (available_in s name) below (by_levels levels (links_in s)) (names_in s) (standing_in s name) (at_lowers below (by_levels levels (links_in s)) (link_levels levels) name)

  pub link_alike : (id : ℕ) → id < length (names_in s) → counts.row_link (counts.joined net.ports c.rows) net id ≡ link_in s (name_of s id)
  unfolding link_in
  link_alike id within = link_levels 8 id within

  -- a name has the id exactly where it is the name of the id
  same_id : (k : ℕ) → k < length (names_in s) → (l : List ℕ) → id_of (names_in s) l < length (names_in s) → (id_of (names_in s) l == k) ≡ bytes_eq l (name_of s k)
  same_id k within l has =
      ⊎_elim
      (λ (e : id_of (names_in s) l ≡ k). eq-eqb (id_of (names_in s) l) k e ∙ sym ((bytes_decides l (name_of s k)).1 (sym (back (names_in s) l has) ∙ ap (λ i. slice_index_or (names_in s) i []) e)))
      (λ ne. ne_eqb (id_of (names_in s) l) k ne ∙ sym (not_equal (bytes_eq l (name_of s k)) (λ t. ne (ap (id_of (names_in s)) ((bytes_decides l (name_of s k)).0 t) ∙ h.once k within))))
      (cases_eq (id_of (names_in s) l) k)

  stands_alike : (k : ℕ) → k < length (names_in s) → (n : List ℕ) → counts.names (by_id (names_in s) (standing_in s n)) k ≡ stands_in s (name_of s k) n
  stands_alike k within n = names_tie (λ l. l == k) (λ l. bytes_eq l (name_of s k)) (names_in s) (standing_in s n) (each_name (same_id k within) (lowers_of (standing_in s n)) (h.lowers n))

  over_list : (f : ℕ → Bool) (g : List ℕ → Bool) (k : ℕ) → k < length (names_in s) → (ns : List (List ℕ)) (u : ℕ) → ((i : ℕ) → i < length ns → f (u + i) ≡ g (slice_index_or ns i []))
      → counts.standing_on f k u (map (λ n. by_id (names_in s) (standing_in s n)) ns) ≡ length (filter (λ n. stands_in s (name_of s k) n && g n) ns)
  over_list f g k within [] u same = refl
  over_list f g k within (n ∷ ns) u same =
      let first : f u ≡ g n = ap f (let there : u ≡ u + 0 = omega arith in there) ∙ same 0 (omega arith) in
      let here = ap (λ b. let m : ℕ = cond (b && counts.names (by_id (names_in s) (standing_in s n)) k) 1 0 in m) first
      ∙ ap (λ b. let m : ℕ = cond (g n && b) 1 0 in m) (stands_alike k within n)
      ∙ ap (λ b. let m : ℕ = cond b 1 0 in m) (and_swap (g n) (stands_in s (name_of s k) n)) in
      let rest = over_list f g k within ns (u + 1) (λ i hi. ap f (let there : (u + 1) + i ≡ u + suc i = omega arith in there) ∙ same (suc i) (omega (arith, hi))) in
      omega (arith, here, rest, filter_more (λ n. stands_in s (name_of s k) n && g n) n ns)

  uppers_alike : (f : ℕ → Bool) (g : List ℕ → Bool) → ((id : ℕ) → id < length (names_in s) → f id ≡ g (name_of s id)) → (k : ℕ) → k < length (names_in s)
      → counts.standing_on f k 0 (counts.joined net.ports c.rows) ≡ length (filter (λ n. stands_in s (name_of s k) n && g n) (row_names s))
  uppers_alike f g same k within =
      let p = λ (n : List ℕ). stands_in s (name_of s k) n && g n in
      let all = ap (counts.standing_on f k 0) c.stand ∙ over_list f g k within (names_in s) 0 (λ i hi. ap f (let there : 0 + i ≡ i = omega arith in there) ∙ same i hi) in
      let parts = ap (λ ns. length (filter p ns)) h.front ∙ ap length (filter-append p (row_names s) h.plain) in
      omega (arith, all, parts, length-append (filter p (row_names s)) (filter p h.plain), none_on s (name_of s k) g h.plain h.alone)

  used_levels : (levels id : ℕ) → id < length (names_in s)
      → counts.by_levels levels (λ above k. is_used (counts.row_available (counts.joined net.ports c.rows) net k) ((member_at net.members k).claims + counts.standing_on above k 0 (counts.joined net.ports c.rows))) id
      ≡ by_levels levels (serves_in s) (name_of s id)
  unfolding counts.by_levels by_levels
  used_levels zero id within = refl
  used_levels (suc levels) id within =
      let f = counts.by_levels levels (λ above k. is_used (counts.row_available (counts.joined net.ports c.rows) net k) ((member_at net.members k).claims + counts.standing_on above k 0 (counts.joined net.ports c.rows))) in
      let g = by_levels levels (serves_in s) in
      let name = name_of s id in
      let above = counts.standing_on f id 0 (counts.joined net.ports c.rows) in
      ap (λ b. is_used b ((member_at net.members id).claims + above)) (available_alike id within)
      ∙ ap (λ n. is_used (available_in s name) (n + above)) (c.told id within).claims
      ∙ ap (λ n. is_used (available_in s name) (claims_in s name + n)) (uppers_alike f g (used_levels levels) id within)
      ∙ ap (λ b. available_in s name && b) (more_than_none (claims_in s name) (length (filter (λ n. stands_in s name n && g n) (row_names s))))
      ∙ ap (λ b. available_in s name && (nat_lt 0 (claims_in s name) || b)) (some_passes (λ n. stands_in s name n && g n) (row_names s))

  pub used_alike : (id : ℕ) → id < length (names_in s) → counts.row_used (counts.joined net.ports c.rows) net id ≡ used_in s (name_of s id)
  unfolding used_in
  used_alike id within = used_levels 8 id within

  pub users_alike : (id : ℕ) → id < length (names_in s) → counts.row_users (counts.joined net.ports c.rows) net id ≡ users_in s (name_of s id)
  users_alike id within =
      let name = name_of s id in
      let above = counts.standing_on (counts.row_used (counts.joined net.ports c.rows) net) id 0 (counts.joined net.ports c.rows) in
      ap (λ b. cond b ((member_at net.members id).claims + above) 0) (available_alike id within)
      ∙ ap (λ n. cond (available_in s name) (n + above) 0) (c.told id within).claims
      ∙ ap (λ n. cond (available_in s name) (claims_in s name + n) 0) (uppers_alike (counts.row_used (counts.joined net.ports c.rows) net) (used_in s) used_alike id within)
