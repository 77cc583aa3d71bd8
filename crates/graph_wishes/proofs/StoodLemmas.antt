-- What is used over sound rows, and that the lower of a used VLAN is.
use Rattle.std.proofs.Common.{arith, ◌≡◌, ◌≤◌, ◌<◌, ◌⊎◌, inl, inr, ℕ, List, [], ◌∷◌, ◌++◌, map, Bool, true, false, cond, not, Contains, Some, None, refl, ap, sym, subst, ◌∙◌}
use Rattle.std.specs.Prelude.{◌&&◌, ◌||◌, bytes_eq, nat_lt}
use Rattle.std.specs.List.{list_any}
use Rattle.std.proofs.lemmas.List.Elements.{Contains-append_left, Contains-append_cases}
use Rattle.kern_model.proofs.MemberLemmas.{here, there, none_in_nil}
use Rattle.kern_model.proofs.TestLemmas.{both, of_both, of_right, from_any, of_any, bytes_same, same_bytes}
use Rattle.net_rows.specs.declared.rows.Conf.{Conf}
use Rattle.net_rows.specs.declared.rows.NameRow.{NameRow}
use Rattle.net_rows.specs.declared.rows.NameKind.{NameKind}
use Rattle.net_rows.specs.declared.rows.NameKind.TheVariants.{Plain, Bridge, Vlan}
use Rattle.net_rules.specs.Rows.{row_at, rowless, is_plain_kind, is_bridge_kind}
use Rattle.net_rules.specs.Standing.{Standing, Over, standing_of, standing_of_row, lowers_of}
use Rattle.net_rules.specs.Available.{opens}
use Rattle.net_rules.specs.Sound.{level_at}
use Rattle.net_rules.proofs.ListLemmas.{and_same, any_same}
use Rattle.net_rules.proofs.LevelLemmas.{IsLocal, follows}
use Rattle.net_rules.proofs.DeviceLemmas.{rank_down, rank_up, opens_same}
use Rattle.graph_rules.specs.State.{Known, claims_in}
use Rattle.graph_rules.specs.Answers.{port_of, given_ports, standing_in, stands_in, has_device, opens_in, available_in, row_names, serves_in, used_in}
use Rattle.graph_counts.specs.Sound.{conf_of, IsSound}
use Rattle.graph_counts.proofs.SoundLemmas.{rowless_lowers, given_by}

-- a name has a row, or that of a name without one
pub row_or_less : (rows : List NameRow) (name : List ℕ) → Contains (map (λ (row : NameRow). row.name) rows) name ⊎ (row_at rows name ≡ rowless name)
row_or_less [] name = inr refl
row_or_less (row ∷ rows) name = go (bytes_eq row.name name) refl (row_or_less rows name)
  where
    others : List (List ℕ)
    others = map (λ (r : NameRow). r.name) rows

    go : (b : Bool) → bytes_eq row.name name ≡ b → Contains others name ⊎ (row_at rows name ≡ rowless name) → Contains (row.name ∷ others) name ⊎ (cond {A = NameRow} b row (row_at rows name) ≡ rowless name)
    go true is rest = inl (subst (Contains (row.name ∷ others)) (bytes_same row.name name is) (here row.name others))
    go false is rest = elim rest as (λ _. Contains (row.name ∷ others) name ⊎ (row_at rows name ≡ rowless name)) [
      | inl member ↦ inl (there row.name others name member)
      | inr less ↦ inr less
    ]

-- what a name stands on is of its row, which is not broken, or given to a bridge by a radio
stood_cases : (kind : NameKind) (broken : Bool) (more : List (List ℕ)) (lower : List ℕ) → Contains (lowers_of (standing_of kind broken more)) lower → (broken ≡ false)
    × (Contains (lowers_of (standing_of kind broken [])) lower ⊎ ((is_bridge_kind kind ≡ true) × Contains more lower))
stood_cases Plain broken more lower h = absurd (none_in_nil lower h)
stood_cases (Bridge empty ports) true more lower h = absurd (none_in_nil lower h)
stood_cases (Bridge empty ports) false more lower h = (
  refl,
  elim (Contains-append_cases ports more lower h) as (λ _. Contains (ports ++ []) lower ⊎ ((true ≡ true) × Contains more lower)) [
    | inl own ↦ inl (Contains-append_left ports [] lower own)
    | inr given ↦ inr (refl, given)
  ],
)
stood_cases (Vlan below id) true more lower h = absurd (none_in_nil lower h)
stood_cases (Vlan None id) false more lower h = absurd (none_in_nil lower h)
stood_cases (Vlan (Some below) id) false more lower h = (refl, inl h)

plain_kind : (kind : NameKind) → is_plain_kind kind ≡ true → kind ≡ Plain
plain_kind Plain h = refl
plain_kind (Bridge empty ports) h = cc h
plain_kind (Vlan lower id) h = cc h

module _ (s : Known) (sound : IsSound s) where
  abbrev rows : Conf
  rows = conf_of s.rows

  abbrev Stands : List ℕ → List ℕ → Type 0
  Stands upper lower = Contains (lowers_of (standing_in s upper)) lower

  record IsBelow (upper lower : List ℕ) : Type 0 where
    rises : level_at rows lower < level_at rows upper
    most : level_at rows upper ≤ 8

  is_below : (upper lower : List ℕ) → Stands upper lower → IsBelow upper lower
  is_below upper lower h =
      let row : NameRow = row_at s.rows upper in
      let cases = stood_cases row.kind row.broken (given_ports (map port_of s.radio) upper) lower h in
      record {
        rises = elim cases.1 as (λ _. level_at rows lower < level_at rows upper) [
          | inl own ↦ sound.levels.rises upper lower own
          | inr given ↦
              let g = given_by s.radio upper lower given.1 in
              let plain : is_plain_kind (row_at s.rows lower).kind ≡ true = subst (λ (n : List ℕ). is_plain_kind (row_at s.rows n).kind ≡ true) g.is (sound.ports.plain g.by g.member) in
              let low : level_at rows lower ≡ 1 = sound.levels.plain lower (plain_kind (row_at s.rows lower).kind plain) in
              let high : 2 ≤ level_at rows upper = sound.levels.bridge upper given.0 in
              omega (arith, low, high)
        ];
        most = sound.levels.most upper cases.0;
      }

  lower_rank : (upper lower : List ℕ) → Stands upper lower → rank_down rows lower < rank_down rows upper
  lower_rank upper lower h =
      let least : 1 ≤ level_at rows lower = sound.levels.least lower in
      let rises = (is_below upper lower h).rises in
      let most = (is_below upper lower h).most in
      omega arith

  upper_rank : (upper lower : List ℕ) → Stands upper lower → rank_up rows upper < rank_up rows lower
  upper_rank upper lower h =
      let rises = (is_below upper lower h).rises in
      let most = (is_below upper lower h).most in
      omega arith

  of_test : (lower upper : List ℕ) → stands_in s lower upper ≡ true → Stands upper lower
  of_test lower upper h =
      let found = from_any (λ (name : List ℕ). bytes_eq name lower) (lowers_of (standing_in s upper)) h in
      subst (Contains (lowers_of (standing_in s upper))) (bytes_same found.passing lower found.passes) found.member

  -- eight levels are enough
  opens_local : IsLocal (opens_in s) (rank_down rows)
  opens_local f g name same = opens_same (has_device s name) f g (standing_in s name) (λ lower h. same lower (lower_rank name lower h))

  available_follows : (name : List ℕ) → available_in s name ≡ opens_in s (available_in s) name
  unfolding available_in
  available_follows name = follows (opens_in s) (rank_down rows) opens_local (λ other. omega arith) name

  serves_local : IsLocal (serves_in s) (rank_up rows)
  serves_local f g name same =
      ap (λ b. available_in s name && (nat_lt 0 (claims_in s name) || b))
      (any_same (λ upper. stands_in s name upper && f upper) (λ upper. stands_in s name upper && g upper) (row_names s)
      (λ upper member. and_same (stands_in s name upper) (f upper) (g upper) (λ on. same upper (upper_rank upper name (of_test name upper on)))))

  used_follows : (name : List ℕ) → used_in s name ≡ serves_in s (used_in s) name
  unfolding used_in
  used_follows name = follows (serves_in s) (rank_up rows) serves_local (λ other. let least = sound.levels.least other in omega arith) name

  -- a name that stands on another has a row
  has_row : (upper lower : List ℕ) → Stands upper lower → Contains (row_names s) upper
  has_row upper lower h = elim (row_or_less s.rows upper) as (λ _. Contains (row_names s) upper) [
    | inl member ↦ member
    | inr less ↦
        let none : lowers_of (standing_in s upper) ≡ [] = ap (λ (r : NameRow). lowers_of (standing_of_row r (given_ports (map port_of s.radio) upper))) less ∙ rowless_lowers upper (given_ports (map port_of s.radio) upper) in
        absurd (none_in_nil lower (subst (λ (ns : List (List ℕ)). Contains ns lower) none h))
  ]

  used_available : (name : List ℕ) → used_in s name ≡ true → available_in s name ≡ true
  used_available name h = (both (available_in s name) (nat_lt 0 (claims_in s name) || list_any (λ upper. stands_in s name upper && used_in s upper) (row_names s)) (sym (used_follows name) ∙ h)).0

  pub used_lower : (name lower : List ℕ) (id : ℕ) → standing_in s name ≡ Over lower id → used_in s name ≡ true → used_in s lower ≡ true
  used_lower name lower id is h =
      let over : opens (has_device s name) (available_in s) (Over lower id) ≡ true = ap (opens (has_device s name) (available_in s)) (sym is) ∙ sym (available_follows name) ∙ used_available name h in
      let ready : available_in s lower ≡ true = (both (not (has_device s name)) (available_in s lower) over).1 in
      let stands : Stands name lower = subst (λ (st : Standing). Contains (lowers_of st) lower) (sym is) (here lower []) in
      let on : stands_in s lower name ≡ true = of_any (λ (other : List ℕ). bytes_eq other lower) (lowers_of (standing_in s name)) lower stands (same_bytes lower lower refl) in
      let above : list_any (λ upper. stands_in s lower upper && used_in s upper) (row_names s) ≡ true =
      of_any (λ (upper : List ℕ). stands_in s lower upper && used_in s upper) (row_names s) name (has_row name lower stands) (of_both (stands_in s lower name) (used_in s name) on h) in
      used_follows lower
      ∙ of_both (available_in s lower) (nat_lt 0 (claims_in s lower) || list_any (λ upper. stands_in s lower upper && used_in s upper) (row_names s)) ready
      (of_right (nat_lt 0 (claims_in s lower)) (list_any (λ upper. stands_in s lower upper && used_in s upper) (row_names s)) above)
