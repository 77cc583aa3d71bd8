-- the network of what is known stands as the names do
use Rattle.std.proofs.Common.{arith, ⊎_elim, ℕ, zero, suc, ◌+◌, ◌<◌, ◌≤◌, ◌≡◌, ◌≢◌, ◌==◌, ◌&&◌, Bool, true, false, cond, not, is_some, List, [], ◌∷◌, ◌++◌, map, filter, length, Contains, Option, Some, None, bytes_eq, slice_index_or, refl}
use Rattle.std.proofs.Common.{sym, ap, subst, ◌∙◌}
use Rattle.std.specs.List.{AllByRecursion}
use Rattle.std.specs.Option.{option_map_or, option_and_then}
use Rattle.std.proofs.lemmas.Bool.{cases_eq, eq-eqb, ne_eqb}
use Rattle.std.proofs.lemmas.List.{map-append, append-nil, length-map}
use Rattle.std.proofs.lemmas.List.Elements.{Contains-append_cases}
use Rattle.std.proofs.lemmas.List.Sums.{sum_by-cons}
use Rattle.kern_model.specs.declared.object.Device.{Device}
use Rattle.kern_model.proofs.MemberLemmas.{here, there, member_of_all, all_members, map_member, member_of_map}
use Rattle.kern_model.proofs.TestLemmas.{bytes_same, same_bytes, false_of_not}
use Rattle.kern_calls.proofs.FilterLemmas.{from_filter}
use Rattle.net_rules.proofs.ListLemmas.{within_filter}
use Rattle.plane_words.specs.Distinct.{AreDistinct}
use Rattle.net_rows.specs.declared.rows.NameRow.{NameRow}
use Rattle.net_rows.specs.declared.rows.NameKind.{NameKind}
use Rattle.net_rows.specs.declared.rows.NameKind.TheVariants.{Plain, Bridge, Vlan}
use Rattle.net_rules.specs.RadioPorts.{RadioPort}
use Rattle.net_rules.specs.Rows.{row_at, is_bridge_kind, ports_of_kind}
use Rattle.net_rules.specs.Standing.{Standing, Broken, Alone, Over, Ports, standing_of, standing_of_row, lowers_of}
use Rattle.use_counts.specs.declared.node.Edge.{Edge}
use Rattle.use_counts.specs.NodeRule.{occurs}
use Rattle.use_counts.specs.Held.{Member}
use Rattle.use_counts.specs.Edges.{lower_end, upper_end, far_ends}
use Rattle.use_counts.specs.Network.{member_at}
use Rattle.use_counts.specs.Rows as counts
use Rattle.graph_rules.specs.declared.ids.RadioPort.{RadioPort as GivenPort}
use Rattle.graph_rules.specs.State.{Named, Known, named_in, name_list, names_in}
use Rattle.graph_rules.specs.Answers.{port_of, given_ports, standing_in, row_names}
use Rattle.graph_rules.specs.After.{no_name}
use Rattle.graph_counts.specs.Counted.{id_of, name_of, by_id, standings_by_id, own_standing, port_edge, port_edges, joins_sound, member_in, network_of, IsToldAlike, IsCounted}
use Rattle.graph_counts.specs.Sound.{IsSound}
use Rattle.graph_counts.proofs.CountLemmas.{back, standing_map}
use Rattle.graph_counts.proofs.IdLemmas.{id_within, id_at, at_member, one_name, found_at, own_row}
use Rattle.graph_counts.proofs.SoundLemmas.{rowless_lowers, bridge_row, bridge_named, given_by, in_front, lower_known, plain_rowless, rows_distinct}

-- what a name stands on by its row alone
abbrev pub own_at : List (List ℕ) → List NameRow → List ℕ → counts.Standing
own_at names rows name = own_standing names (row_at rows name)

kind_same : (xs ys : List (List ℕ)) (st : Standing) → counts.kind_of (by_id xs st) ≡ counts.kind_of (by_id ys st)
kind_same xs ys Broken = refl
kind_same xs ys (Alone sound) = refl
kind_same xs ys (Over lower id) = refl
kind_same xs ys (Ports empty ports) = refl

pub lowers_by_id : (names : List (List ℕ)) (st : Standing) → counts.lowers_of (by_id names st) ≡ map (id_of names) (lowers_of st)
lowers_by_id names Broken = refl
lowers_by_id names (Alone sound) = refl
lowers_by_id names (Over lower id) = refl
lowers_by_id names (Ports empty ports) = refl

kinds_at : (rows : List NameRow) (names : List (List ℕ)) (ns : List Named) (k : ℕ) → (member_at (map (member_in rows) ns) k).kind ≡ counts.kind_of (counts.standing_at (map (own_at names rows) (name_list ns)) k)
kinds_at rows names [] k = refl
kinds_at rows names (n ∷ ns) zero = kind_same [] names (standing_of_row (row_at rows n.name) [])
kinds_at rows names (n ∷ ns) (suc k) = kinds_at rows names ns k

-- rows that stand on nothing have no edges
no_edges : (u : ℕ) (ss : List counts.Standing) → AllByRecursion (λ st. counts.lowers_of st ≡ []) ss → counts.edges_from u ss ≡ []
no_edges u [] h = refl
no_edges u (s ∷ ss) h = ap (λ ls. map (counts.edge u) ls ++ counts.edges_from (u + 1) ss) h.0 ∙ no_edges (u + 1) ss h.1

edges_front : (u : ℕ) (xs ys : List counts.Standing) → AllByRecursion (λ st. counts.lowers_of st ≡ []) ys → counts.edges_from u (xs ++ ys) ≡ counts.edges_from u xs
edges_front u [] ys h = no_edges u ys h
edges_front u (x ∷ xs) ys h = ap (λ (es : List Edge). map (counts.edge u) (counts.lowers_of x) ++ es) (edges_front (u + 1) xs ys h)

rows_own : (names : List (List ℕ)) (rows rs : List NameRow) → ((r : NameRow) → Contains rs r → row_at rows r.name ≡ r) → map (own_at names rows) (map (λ r. r.name) rs) ≡ map (own_standing names) rs
rows_own names rows [] h = refl
rows_own names rows (r ∷ rs) h =
    ap (λ (q : NameRow). own_standing names q ∷ map (own_at names rows) (map (λ (q : NameRow). q.name) rs)) (h r (here r rs))
    ∙ ap (λ (ss : List counts.Standing). own_standing names r ∷ ss) (rows_own names rows rs (λ q m. h q (there r rs q m)))

stand_case : (names : List (List ℕ)) (kind : NameKind) (broken : Bool) (more : List (List ℕ)) (ids : List ℕ) → (broken ≡ false → ids ≡ map (id_of names) more) → counts.with_more (by_id names (standing_of kind broken [])) ids
    ≡ by_id names (standing_of kind broken more)
stand_case names Plain broken more ids h = refl
stand_case names (Bridge empty ports) true more ids h = refl
stand_case names (Bridge empty ports) false more ids h =
    ap (λ (ps : List (List ℕ)). counts.Ports empty (map (id_of names) ps ++ ids)) (append-nil ports)
    ∙ ap (λ (ks : List ℕ). counts.Ports empty (map (id_of names) ports ++ ks)) (h refl)
    ∙ ap (counts.Ports empty) (sym (map-append (id_of names) ports more))
stand_case names (Vlan lower id) true more ids h = refl
stand_case names (Vlan None id) false more ids h = refl
stand_case names (Vlan (Some lower) id) false more ids h = refl

far_step : (names : List (List ℕ)) (i : ℕ) (js b : Bool) (p : GivenPort) (F : List GivenPort) (G : List RadioPort) → (id_of names p.bridge == i) ≡ b → (b ≡ true → js ≡ true)
    → map lower_end (filter (λ (e : Edge). e.upper == i) (map (port_edge names) F)) ≡ map (id_of names) (map (λ joins. joins.port) G)
    → map lower_end (filter (λ (e : Edge). e.upper == i) (map (port_edge names) (cond js (p ∷ F) F))) ≡ map (id_of names) (map (λ joins. joins.port) (cond b (port_of p ∷ G) G))
far_step names i true true p F G t h rest =
    ap (λ c. map lower_end (cond c (port_edge names p ∷ filter (λ (e : Edge). e.upper == i) (map (port_edge names) F)) (filter (λ (e : Edge). e.upper == i) (map (port_edge names) F)))) t
    ∙ ap (λ (ks : List ℕ). id_of names p.port ∷ ks) rest
far_step names i true false p F G t h rest =
    ap (λ c. map lower_end (cond c (port_edge names p ∷ filter (λ (e : Edge). e.upper == i) (map (port_edge names) F)) (filter (λ (e : Edge). e.upper == i) (map (port_edge names) F)))) t
    ∙ rest
far_step names i false true p F G t h rest = absurd (let no_yes = h refl in cc no_yes)
far_step names i false false p F G t h rest = rest

same_id : (names : List (List ℕ)) (x y : List ℕ) → Contains names x → Contains names y → (id_of names x == id_of names y) ≡ bytes_eq x y
same_id names x y hx hy =
    ⊎_elim
    (λ (e : id_of names x ≡ id_of names y). eq-eqb (id_of names x) (id_of names y) e ∙ sym (same_bytes x y (one_name names x y hx hy e)))
    (λ ne. ne_eqb (id_of names x) (id_of names y) ne ∙ sym (false_of_not (bytes_eq x y) (λ yes. ne (ap (id_of names) (bytes_same x y yes)))))
    (cases_eq (id_of names x) (id_of names y))

-- the ports of radios at a name that no fault makes unavailable
far_given : (names : List (List ℕ)) (rows : List NameRow) (name : List ℕ) → Contains names name → (row_at rows name).broken ≡ false → (radio : List GivenPort) → ((p : GivenPort) → Contains radio p → Contains names p.bridge)
    → far_ends lower_end upper_end (port_edges names rows radio) (id_of names name) ≡ map (id_of names) (given_ports (map port_of radio) name)
unfolding far_ends
far_given names rows name inside sound [] known = refl
far_given names rows name inside sound (p ∷ ps) known =
    far_step names (id_of names name) (joins_sound rows p) (bytes_eq p.bridge name) p (filter (joins_sound rows) ps) (filter (λ joins. bytes_eq joins.bridge name) (map port_of ps))
    (same_id names p.bridge name (known p (here p ps)) inside)
    (λ yes. ap (λ n. not (row_at rows n).broken) (bytes_same p.bridge name yes) ∙ ap not sound)
    (far_given names rows name inside sound ps (λ q m. known q (there p ps q m)))

joined_map : (ports : List Edge) (f g : List ℕ → counts.Standing) (u : ℕ) (ns : List (List ℕ))
    → ((i : ℕ) → i < length ns → counts.with_more (f (slice_index_or ns i [])) (far_ends lower_end upper_end ports (u + i)) ≡ g (slice_index_or ns i [])) → counts.joined_from u ports (map f ns) ≡ map g ns
joined_map ports f g u [] h = refl
joined_map ports f g u (n ∷ ns) h =
    let first : counts.with_more (f n) (far_ends lower_end upper_end ports u) ≡ g n =
    ap (λ k. counts.with_more (f n) (far_ends lower_end upper_end ports k)) (let e : u ≡ u + 0 = omega arith in e) ∙ h 0 (omega arith) in
    ap (λ (st : counts.Standing). st ∷ counts.joined_from (u + 1) ports (map f ns)) first
    ∙ ap (λ (ss : List counts.Standing). g n ∷ ss) (joined_map ports f g (u + 1) ns
    (λ i hi. ap (λ k. counts.with_more (f (slice_index_or ns i [])) (far_ends lower_end upper_end ports k)) (let e : (u + 1) + i ≡ u + suc i = omega arith in e) ∙ h (suc i) (omega (arith, hi))))

sound_bridge : (names : List (List ℕ)) (kind : NameKind) (broken : Bool) → is_bridge_kind kind ≡ true → broken ≡ false → counts.is_bridge (by_id names (standing_of kind broken [])) ≡ true
sound_bridge names Plain broken is e = cc is
sound_bridge names (Bridge empty ports) true is e = cc e
sound_bridge names (Bridge empty ports) false is e = refl
sound_bridge names (Vlan lower id) broken is e = cc is

false_of_not_true : (b : Bool) → not b ≡ true → b ≡ false
false_of_not_true true h = cc h
false_of_not_true false h = refl

pub member_there : (rows : List NameRow) (ns : List Named) (k : ℕ) → k < length ns → member_at (map (member_in rows) ns) k ≡ member_in rows (slice_index_or ns k no_name)
member_there rows [] k h = absurd (omega (arith, h))
member_there rows (n ∷ ns) zero h = refl
member_there rows (n ∷ ns) (suc k) h = member_there rows ns k (omega (arith, h))

carried : (d : Option Device) → (is_some d && option_map_or (λ device. device.carrier) d false) ≡ option_map_or (λ device. device.carrier) d false
carried None = refl
carried (Some device) = refl

none_occur : (names : List (List ℕ)) (k : ℕ) (xs : List (List ℕ)) → ((y : List ℕ) → Contains xs y → id_of names y ≢ k) → occurs k (map (id_of names) xs) ≡ 0
none_occur names k [] h = refl
none_occur names k (x ∷ xs) h =
    let here_not = ap (λ b. let n : ℕ = cond b 1 0 in n) (ne_eqb (id_of names x) k (h x (here x xs))) in
    omega (arith, sum_by-cons (λ (n : ℕ). cond (n == k) 1 0) (id_of names x) (map (id_of names) xs), here_not, none_occur names k xs (λ y m. h y (there x xs y m)))

occur_once : (names : List (List ℕ)) (k : ℕ) (xs : List (List ℕ)) → AreDistinct xs → ((y : List ℕ) → Contains xs y → Contains names y) → occurs k (map (id_of names) xs) ≤ 1
occur_once names k [] d h = omega arith
occur_once names k (x ∷ xs) d h =
    let more = sum_by-cons (λ (n : ℕ). cond (n == k) 1 0) (id_of names x) (map (id_of names) xs) in
    ⊎_elim
    (λ (e : id_of names x ≡ k).
    let one = ap (λ b. let n : ℕ = cond b 1 0 in n) (eq-eqb (id_of names x) k e) in
    let none = none_occur names k xs (λ y m f. member_of_all (λ z. z ≢ x) xs y d.0 m (one_name names y x (h y (there x xs y m)) (h x (here x xs)) (f ∙ sym e))) in
    omega (arith, more, one, none))
    (λ ne.
    let none = ap (λ b. let n : ℕ = cond b 1 0 in n) (ne_eqb (id_of names x) k ne) in
    omega (arith, more, none, occur_once names k xs d.1 (λ y m. h y (there x xs y m))))
    (cases_eq (id_of names x) k)

distinct_append : (xs ys : List (List ℕ)) → AreDistinct xs → AreDistinct ys → ((x : List ℕ) → Contains xs x → Contains ys x → ⊥) → AreDistinct (xs ++ ys)
distinct_append [] ys dx dy h = dy
distinct_append (x ∷ xs) ys dx dy h = (
  all_members (λ y. y ≢ x) (xs ++ ys) (λ y m. ⊎_elim (λ (a : Contains xs y). member_of_all (λ z. z ≢ x) xs y dx.0 a) (λ (b : Contains ys y) (e : y ≡ x). h x (here x xs) (subst (Contains ys) e b)) (Contains-append_cases xs ys y m)),
  distinct_append xs ys dx.1 dy (λ y a b. h y (there x xs y a) b),
)

given_distinct_step : (b : Bool) (p : GivenPort) (ps : List GivenPort) (rest : List RadioPort) → ((y : List ℕ) → Contains (map (λ joins. joins.port) rest) y → Contains (map (λ q. q.port) ps) y)
    → AllByRecursion (λ other. other ≢ p.port) (map (λ q. q.port) ps) → AreDistinct (map (λ joins. joins.port) rest) → AreDistinct (map (λ joins. joins.port) (cond b (port_of p ∷ rest) rest))
given_distinct_step true p ps rest within first d = (all_members (λ y. y ≢ p.port) (map (λ (joins : RadioPort). joins.port) rest) (λ y m. member_of_all (λ z. z ≢ p.port) (map (λ (q : GivenPort). q.port) ps) y first (within y m)), d)
given_distinct_step false p ps rest within first d = d

given_distinct : (radio : List GivenPort) (bridge : List ℕ) → AreDistinct (map (λ p. p.port) radio) → AreDistinct (given_ports (map port_of radio) bridge)
given_distinct [] bridge d = tt
given_distinct (p ∷ ps) bridge d =
    given_distinct_step (bytes_eq p.bridge bridge) p ps (filter (λ joins. bytes_eq joins.bridge bridge) (map port_of ps))
    (λ y m. let g = given_by ps bridge y m in subst (Contains (map (λ (q : GivenPort). q.port) ps)) g.is (map_member (λ (q : GivenPort). q.port) ps g.by g.member))
    d.0 (given_distinct ps bridge d.1)

lowers_distinct_case : (kind : NameKind) (broken : Bool) (more : List (List ℕ)) → (is_bridge_kind kind ≡ true → AreDistinct (ports_of_kind kind)) → AreDistinct more
    → ((x : List ℕ) → is_bridge_kind kind ≡ true → Contains (ports_of_kind kind) x → Contains more x → ⊥) → AreDistinct (lowers_of (standing_of kind broken more))
lowers_distinct_case Plain broken more own d apart = tt
lowers_distinct_case (Bridge empty ports) true more own d apart = tt
lowers_distinct_case (Bridge empty ports) false more own d apart = distinct_append ports more (own refl) d (λ x a b. apart x refl a b)
lowers_distinct_case (Vlan lower id) true more own d apart = tt
lowers_distinct_case (Vlan None id) false more own d apart = tt
lowers_distinct_case (Vlan (Some lower) id) false more own d apart = (tt, tt)

all_mapped : {X : Type 0} (P : X → Type 0) (f : List ℕ → X) (ns : List (List ℕ)) → ((n : List ℕ) → P (f n)) → AllByRecursion P (map f ns)
all_mapped P f [] h = tt
all_mapped P f (n ∷ ns) h = (h n, all_mapped P f ns h)

module _ (s : Known) (h : IsSound s) where
  lowers_distinct : (name : List ℕ) → AreDistinct (lowers_of (standing_in s name))
  lowers_distinct name =
      let row = row_at s.rows name in
      lowers_distinct_case row.kind row.broken (given_ports (map port_of s.radio) name)
      (λ is. h.ports_once row (bridge_row s.rows name is))
      (given_distinct s.radio name h.ports.once)
      (λ x is a b. let g = given_by s.radio name x b in h.ports.free g.by g.member row (bridge_row s.rows name is) (subst (Contains (ports_of_kind row.kind)) (sym g.is) a))

  bridge_known : (p : GivenPort) → Contains s.radio p → Contains (names_in s) p.bridge
  bridge_known p m = in_front s h p.bridge (bridge_named s.rows p.bridge (h.ports.bridges p m))

  own_by_id : (name : List ℕ) → Contains (names_in s) name → counts.standing_at (map (own_at (names_in s) s.rows) (names_in s)) (id_of (names_in s) name) ≡ own_at (names_in s) s.rows name
  own_by_id name m =
      let inside = id_within (names_in s) name m in
      standing_map (own_at (names_in s) s.rows) (names_in s) (id_of (names_in s) name) inside ∙ ap (own_at (names_in s) s.rows) (back (names_in s) name inside)

  -- the standings with the ports of radios
  joined_at : (name : List ℕ) → Contains (names_in s) name → counts.with_more (own_at (names_in s) s.rows name) (far_ends lower_end upper_end (port_edges (names_in s) s.rows s.radio) (id_of (names_in s) name))
      ≡ by_id (names_in s) (standing_in s name)
  joined_at name m =
      stand_case (names_in s) (row_at s.rows name).kind (row_at s.rows name).broken (given_ports (map port_of s.radio) name) _ (λ sound. far_given (names_in s) s.rows name m sound s.radio bridge_known)

  pub fixed_edges : (network_of s).fixed ≡ counts.edges_from 0 (map (own_at (names_in s) s.rows) (names_in s))
  fixed_edges =
      let f = own_at (names_in s) s.rows in
      let alone : AllByRecursion (λ (st : counts.Standing). counts.lowers_of st ≡ []) (map f h.names.plain) =
      plain_alone h.names.plain (λ n m. m) in
      sym (ap (counts.edges_from 0) (ap (map f) h.names.front ∙ map-append f (row_names s) h.names.plain)
      ∙ edges_front 0 (map f (row_names s)) (map f h.names.plain) alone
      ∙ ap (counts.edges_from 0) (rows_own (names_in s) s.rows s.rows (λ r m. own_row s.rows r (rows_distinct s h) m)))
    where
      plain_alone : (ns : List (List ℕ)) → ((n : List ℕ) → Contains ns n → Contains h.names.plain n) → AllByRecursion (λ (st : counts.Standing). counts.lowers_of st ≡ []) (map (own_at (names_in s) s.rows) ns)
      plain_alone [] within = tt
      plain_alone (n ∷ ns) within = (
        lowers_by_id (names_in s) (standing_of_row (row_at s.rows n) [])
            ∙ ap (map (id_of (names_in s))) (ap (λ (r : NameRow). lowers_of (standing_of_row r [])) (plain_rowless s h n (within n (here n ns))) ∙ rowless_lowers n []),
        plain_alone ns (λ x m. within x (there n ns x m)),
      )

  joined_is : counts.joined (network_of s).ports (map (own_at (names_in s) s.rows) (names_in s)) ≡ standings_by_id s
  joined_is =
      joined_map (network_of s).ports (own_at (names_in s) s.rows) (λ name. by_id (names_in s) (standing_in s name)) 0 (names_in s) (λ i hi.
      let name = slice_index_or (names_in s) i [] in
      let at : 0 + i ≡ id_of (names_in s) name = (let e : 0 + i ≡ i = omega arith in e) ∙ sym (id_at (names_in s) i h.names.once hi) in
      ap (λ k. counts.with_more (own_at (names_in s) s.rows name) (far_ends lower_end upper_end (network_of s).ports k)) at
      ∙ joined_at name (at_member (names_in s) i hi))

  told_alike : (id : ℕ) → id < length (names_in s) → IsToldAlike s (network_of s) id
  told_alike id within =
      let inside : id < length s.names = omega (arith, within, length-map s.names (λ (n : Named). n.name)) in
      let node = member_there s.rows s.names id inside in
      let found : named_in s.names (name_of s id) ≡ Some (slice_index_or s.names id no_name) = found_at s.names id no_name h.names.once inside in
      let device = ap (option_and_then (λ (n : Named). n.device)) found in
      record {
        present = ap (λ (m : Member). m.present) node ∙ sym (ap is_some device);
        carrier = ap (λ (m : Member). m.present && m.carrier) node ∙ carried (slice_index_or s.names id no_name).device ∙ sym (ap (λ d. option_map_or (λ (x : Device). x.carrier) d false) device);
        claims = ap (λ (m : Member). m.claims) node ∙ sym (ap (λ o. option_map_or (λ (n : Named). n.claims) o 0) found);
      }

  -- the network of what is known is that of its names
  pub is_counted : IsCounted s (network_of s)
  is_counted =
      record {
        rows = map (own_at (names_in s) s.rows) (names_in s);
        are =
            record {
              kinds = kinds_at s.rows (names_in s) s.names;
              fixed = fixed_edges;
              bridges = all_members (λ (e : Edge). counts.is_bridge (counts.standing_at (map (own_at (names_in s) s.rows) (names_in s)) e.upper) ≡ true) (network_of s).ports port_bridge;
              once = subst (AllByRecursion (λ (st : counts.Standing). (k : ℕ) → occurs k (counts.lowers_of st) ≤ 1)) (sym joined_is)
                  (all_mapped (λ (st : counts.Standing). (k : ℕ) → occurs k (counts.lowers_of st) ≤ 1) (λ name. by_id (names_in s) (standing_in s name)) (names_in s) once_at);
            };
        stand = joined_is;
        told = told_alike;
      }
    where
      port_bridge : (e : Edge) → Contains (network_of s).ports e → counts.is_bridge (counts.standing_at (map (own_at (names_in s) s.rows) (names_in s)) e.upper) ≡ true
      port_bridge e m =
          let from = member_of_map (port_edge (names_in s)) (filter (joins_sound s.rows) s.radio) e m in
          let p = from.source in
          let given = within_filter (joins_sound s.rows) s.radio p from.member in
          let sound = false_of_not_true (row_at s.rows p.bridge).broken (from_filter (joins_sound s.rows) s.radio p from.member) in
          ap (λ (x : Edge). counts.is_bridge (counts.standing_at (map (own_at (names_in s) s.rows) (names_in s)) x.upper)) (sym from.same)
          ∙ ap counts.is_bridge (own_by_id p.bridge (bridge_known p given))
          ∙ sound_bridge (names_in s) (row_at s.rows p.bridge).kind (row_at s.rows p.bridge).broken (h.ports.bridges p given) sound

      once_at : (name : List ℕ) (k : ℕ) → occurs k (counts.lowers_of (by_id (names_in s) (standing_in s name))) ≤ 1
      once_at name k =
          subst (λ (ks : List ℕ). occurs k ks ≤ 1) (sym (lowers_by_id (names_in s) (standing_in s name))) (occur_once (names_in s) k (lowers_of (standing_in s name)) (lowers_distinct name) (λ y m. lower_known s h name y m))
