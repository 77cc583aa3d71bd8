-- what sound rows, names and ports of radios give
use Rattle.std.proofs.Common.{⊎_elim, ◌⊎◌, inl, inr, ℕ, ◌<◌, ◌≡◌, Bool, true, false, cond, is_some, List, [], ◌∷◌, ◌++◌, map, filter, length, Contains, Some, None, bytes_eq, refl, sym, ap, subst, ◌∙◌}
use Rattle.std.specs.List.{AllByRecursion}
use Rattle.std.proofs.lemmas.List.Elements.{Contains-append_left, Contains-append_cases}
use Rattle.kern_model.proofs.MemberLemmas.{here, there, first_or_later, none_in_nil, all_members}
use Rattle.kern_model.proofs.TestLemmas.{bytes_same}
use Rattle.plane_words.specs.Distinct.{AreDistinct}
use Rattle.net_rows.specs.Dotted.{vlan_parts}
use Rattle.net_rows.specs.declared.rows.NameRow.{NameRow}
use Rattle.net_rows.specs.declared.rows.NameKind.{NameKind}
use Rattle.net_rows.specs.declared.rows.NameKind.TheVariants.{Plain, Bridge, Vlan}
use Rattle.net_rules.specs.RadioPorts.{RadioPort}
use Rattle.net_rules.specs.Rows.{row_at, rowless, is_bridge_kind}
use Rattle.net_rules.specs.Standing.{standing_of, standing_of_row, lowers_of}
use Rattle.graph_rules.specs.declared.ids.RadioPort.{RadioPort as GivenPort}
use Rattle.graph_rules.specs.State.{Known, names_in}
use Rattle.graph_rules.specs.Answers.{port_of, given_ports, standing_in, row_names}
use Rattle.graph_counts.specs.Counted.{id_of, HasIds}
use Rattle.graph_counts.specs.Sound.{IsSound}
use Rattle.graph_counts.proofs.IdLemmas.{id_within, id_at, apart, no_row, distinct_front}

less_lowers : (b : Bool) (more : List (List ℕ)) → lowers_of (standing_of (cond b (Vlan None 0) Plain) b more) ≡ []
less_lowers true more = refl
less_lowers false more = refl

-- a name without a row stands on nothing
pub rowless_lowers : (name : List ℕ) (more : List (List ℕ)) → lowers_of (standing_of_row (rowless name) more) ≡ []
rowless_lowers name more = less_lowers (is_some (vlan_parts name)) more

less_bridge : (b : Bool) → is_bridge_kind (cond b (Vlan None 0) Plain) ≡ false
less_bridge true = refl
less_bridge false = refl

pub rowless_bridge : (name : List ℕ) → is_bridge_kind (rowless name).kind ≡ false
rowless_bridge name = less_bridge (is_some (vlan_parts name))

-- a bridge has a row
bridge_step : (b : Bool) (r : NameRow) (rs : List NameRow) (found : NameRow) → (is_bridge_kind found.kind ≡ true → Contains rs found) → is_bridge_kind (cond b r found).kind ≡ true → Contains (r ∷ rs) (cond b r found)
bridge_step true r rs found h is = here r rs
bridge_step false r rs found h is = there r rs found (h is)

pub bridge_row : (rows : List NameRow) (name : List ℕ) → is_bridge_kind (row_at rows name).kind ≡ true → Contains rows (row_at rows name)
bridge_row [] name is = absurd (let not_one = rowless_bridge name in cc (is, not_one))
bridge_row (r ∷ rs) name is = bridge_step (bytes_eq r.name name) r rs (row_at rs name) (bridge_row rs name) is

named_step : (b : Bool) (r : NameRow) (rs : List NameRow) (name : List ℕ) (found : NameRow) → bytes_eq r.name name ≡ b → (is_bridge_kind found.kind ≡ true → Contains (map (λ q. q.name) rs) name) → is_bridge_kind (cond b r found).kind ≡ true
    → Contains (map (λ q. q.name) (r ∷ rs)) name
named_step true r rs name found e h is = subst (Contains (r.name ∷ map (λ (q : NameRow). q.name) rs)) (bytes_same r.name name e) (here r.name (map (λ (q : NameRow). q.name) rs))
named_step false r rs name found e h is = there r.name (map (λ (q : NameRow). q.name) rs) name (h is)

pub bridge_named : (rows : List NameRow) (name : List ℕ) → is_bridge_kind (row_at rows name).kind ≡ true → Contains (map (λ q. q.name) rows) name
bridge_named [] name is = absurd (let not_one = rowless_bridge name in cc (is, not_one))
bridge_named (r ∷ rs) name is = named_step (bytes_eq r.name name) r rs name (row_at rs name) refl (bridge_named rs name) is

-- a port that the radios give to a bridge
pub record IsGiven (radio : List GivenPort) (bridge port : List ℕ) : Type 0 where
  pub by : GivenPort
  pub member : Contains radio by
  pub to : by.bridge ≡ bridge
  pub is : by.port ≡ port

later_given : (p : GivenPort) (ps : List GivenPort) (bridge port : List ℕ) → IsGiven ps bridge port → IsGiven (p ∷ ps) bridge port
later_given p ps bridge port g = record { by = g.by; member = there p ps g.by g.member; to = g.to; is = g.is }

given_step : (b : Bool) (p : GivenPort) (ps : List GivenPort) (rest : List RadioPort) (bridge port : List ℕ) → bytes_eq p.bridge bridge ≡ b → (Contains (map (λ joins. joins.port) rest) port → IsGiven ps bridge port)
    → Contains (map (λ joins. joins.port) (cond b (port_of p ∷ rest) rest)) port → IsGiven (p ∷ ps) bridge port
given_step true p ps rest bridge port e h m =
    ⊎_elim
    (λ (same : p.port ≡ port). let g : IsGiven (p ∷ ps) bridge port = record { by = p; member = here p ps; to = bytes_same p.bridge bridge e; is = same } in g)
    (λ (later : Contains (map (λ (joins : RadioPort). joins.port) rest) port). later_given p ps bridge port (h later))
    (first_or_later p.port (map (λ (joins : RadioPort). joins.port) rest) port m)
given_step false p ps rest bridge port e h m = later_given p ps bridge port (h m)

pub given_by : (radio : List GivenPort) (bridge port : List ℕ) → Contains (given_ports (map port_of radio) bridge) port → IsGiven radio bridge port
given_by [] bridge port m = absurd (none_in_nil port m)
given_by (p ∷ ps) bridge port m = given_step (bytes_eq p.bridge bridge) p ps (filter (λ joins. bytes_eq joins.bridge bridge) (map port_of ps)) bridge port refl (given_by ps bridge port) m

-- what a name stands on is of its row, or given by a radio
stood : (kind : NameKind) (broken : Bool) (more : List (List ℕ)) (lower : List ℕ) → Contains (lowers_of (standing_of kind broken more)) lower → Contains (lowers_of (standing_of kind broken [])) lower ⊎ Contains more lower
stood Plain broken more lower m = inl m
stood (Bridge empty ports) true more lower m = inl m
stood (Bridge empty ports) false more lower m =
    ⊎_elim
    (λ (own : Contains ports lower). let e : Contains (ports ++ []) lower ⊎ Contains more lower = inl (Contains-append_left ports [] lower own) in e)
    (λ (given : Contains more lower). let e : Contains (ports ++ []) lower ⊎ Contains more lower = inr given in e)
    (Contains-append_cases ports more lower m)
stood (Vlan lower_name id) true more lower m = inl m
stood (Vlan None id) false more lower m = inl m
stood (Vlan (Some below) id) false more lower m = inl m

module _ (s : Known) (h : IsSound s) where
  pub in_front : (name : List ℕ) → Contains (row_names s) name → Contains (names_in s) name
  in_front name m = subst (λ ns. Contains ns name) (sym h.names.front) (Contains-append_left (row_names s) h.names.plain name m)

  pub lower_known : (name lower : List ℕ) → Contains (lowers_of (standing_in s name)) lower → Contains (names_in s) lower
  lower_known name lower m =
      ⊎_elim
      (λ (own : Contains (lowers_of (standing_of_row (row_at s.rows name) [])) lower). in_front lower (h.standing.named name lower own))
      (λ (given : Contains (given_ports (map port_of s.radio) name) lower).
      let g = given_by s.radio name lower given in subst (Contains (names_in s)) g.is (h.ports.known g.by g.member))
      (stood (row_at s.rows name).kind (row_at s.rows name).broken (given_ports (map port_of s.radio) name) lower m)

  -- a further name has no row
  pub plain_rowless : (name : List ℕ) → Contains h.names.plain name → row_at s.rows name ≡ rowless name
  plain_rowless name m = no_row s.rows name (λ in_rows. apart (row_names s) h.names.plain name (subst AreDistinct h.names.front h.names.once) in_rows m)

  pub rows_distinct : AreDistinct (row_names s)
  rows_distinct = distinct_front (row_names s) h.names.plain (subst AreDistinct h.names.front h.names.once)

  -- further names stand on nothing
  pub plain_alone : AllByRecursion (λ name. lowers_of (standing_in s name) ≡ []) h.names.plain
  plain_alone =
      all_members (λ name. lowers_of (standing_in s name) ≡ []) h.names.plain
      (λ name m. ap (λ (r : NameRow). lowers_of (standing_of_row r (given_ports (map port_of s.radio) name))) (plain_rowless name m) ∙ rowless_lowers name (given_ports (map port_of s.radio) name))

  -- sound names have ids
  pub has_ids : HasIds s
  has_ids =
      record {
        once = λ id within. id_at (names_in s) id h.names.once within;
        plain = h.names.plain;
        front = h.names.front;
        alone = plain_alone;
        lowers = λ name. all_members (λ lower. id_of (names_in s) lower < length (names_in s)) (lowers_of (standing_in s name)) (λ lower m. id_within (names_in s) lower (lower_known name lower m));
      }
