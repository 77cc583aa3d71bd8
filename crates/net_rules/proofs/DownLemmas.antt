-- Where VLANs lead down to: the relation and its test.
use Rattle.std.proofs.Common.{arith, ℕ, ◌≡◌, ◌<◌, ◌≤◌, ◌⊎◌, inl, inr, zero, suc, List, [], ◌∷◌, length, Bool, true, false, Option, Some, None, Contains, refl, ap, sym, subst, ◌∙◌}
use Rattle.std.specs.Prelude.{◌==◌, if◌then◌else◌, bytes_eq}
use Rattle.std.specs.List.{filter_map}
use Rattle.kern_model.specs.Name.{is_name}
use Rattle.kern_model.specs.Standing.{Step, lead_up}
use Rattle.kern_model.proofs.MemberLemmas.{here, there, first_or_later, none_in_nil}
use Rattle.kern_model.proofs.TestLemmas.{both, of_both, either, of_left, of_right, bytes_same, same_bytes, in_filter_map, from_filter_map}
use Rattle.net_rows.specs.Cut.{cut_at_or_behind, last_cut}
use Rattle.net_rows.specs.Dotted.{dot, id_of, parts_of, parts_at, vlan_parts}
use Rattle.net_rows.specs.declared.dotted.VlanParts.{VlanParts}
use Rattle.net_rows.specs.declared.rows.NameRow.{NameRow}
use Rattle.net_rows.specs.declared.rows.NameKind.{NameKind}
use Rattle.net_rows.specs.declared.rows.NameKind.TheVariants.{Plain, Bridge, Vlan}
use Rattle.net_rules.specs.Rows.{row_at, rowless}
use Rattle.net_rules.specs.Standing.{standing_of, Over}
use Rattle.net_rules.specs.Down.{lower_of_kind, lower_of_parts, lower_in, LeadsDown, behind, dotted, all_dotted, names_on_way, step_to, steps_on_way, leads_down}
use Rattle.net_rules.proofs.ListLemmas.{in_join, from_join}

-- steps, one after the other
lead_itself : (steps : List Step) (a : List ℕ) → lead_up steps a a ≡ true
lead_itself [] a = same_bytes a a refl
lead_itself (s ∷ steps) a = of_left (lead_up steps a a) _ (lead_itself steps a)

lead_on : (steps : List Step) (a b c : List ℕ) → lead_up steps a b ≡ true → lead_up steps b c ≡ true → lead_up steps a c ≡ true
lead_on [] a b c p q = same_bytes a c (bytes_same a b p ∙ bytes_same b c q)
lead_on (s ∷ steps) a b c p q =
    elim (either (lead_up steps a b) _ p) as (λ _. lead_up (s ∷ steps) a c ≡ true) [
      | inl past ↦ elim (either (lead_up steps b c) _ q) as (λ _. lead_up (s ∷ steps) a c ≡ true) [
        | inl also ↦ of_left (lead_up steps a c) _ (lead_on steps a b c past also)
        | inr by ↦ let r = both (lead_up steps b s.lower) (lead_up steps s.name c) by in of_right (lead_up steps a c) _ (of_both _ _ (lead_on steps a b s.lower past r.0) r.1)
      ]
      | inr by ↦ let l = both (lead_up steps a s.lower) (lead_up steps s.name b) by in
          elim (either (lead_up steps b c) _ q) as (λ _. lead_up (s ∷ steps) a c ≡ true) [
            | inl also ↦ of_right (lead_up steps a c) _ (of_both _ _ l.0 (lead_on steps s.name b c l.1 also))
            | inr again ↦ let r = both (lead_up steps b s.lower) (lead_up steps s.name c) again in of_right (lead_up steps a c) _ (of_both _ _ l.0 r.1)
          ]
    ]

lead_by : (steps : List Step) (s : Step) → Contains steps s → lead_up steps s.lower s.name ≡ true
lead_by [] s h = absurd (none_in_nil s h)
lead_by (t ∷ steps) s h =
    elim (first_or_later t steps s h) as (λ _. lead_up (t ∷ steps) s.lower s.name ≡ true) [
      | inl same ↦ subst (λ u. lead_up (t ∷ steps) u.lower u.name ≡ true) same (of_right (lead_up steps t.lower t.name) _ (of_both _ _ (lead_itself steps t.lower) (lead_itself steps t.name)))
      | inr later ↦ of_left (lead_up steps s.lower s.name) _ (lead_by steps s later)
    ]

-- the X of X.N is shorter
front_here : (b : Bool) (xs : List ℕ) (n : ℕ) (cut : List ℕ × List ℕ) → (if b then Some ([], xs) else None) ≡ Some cut → length cut.0 < suc n
front_here true xs n cut is = let front : [] ≡ cut.0 = ap (λ o. front_of o) is in subst (λ f. length f < suc n) front (omega arith)
  where
    front_of : Option (List ℕ × List ℕ) → List ℕ
    front_of None = []
    front_of (Some c) = c.0
front_here false xs n cut is = cc is

front_at : (byte x : ℕ) (xs : List ℕ) (inner : Option (List ℕ × List ℕ)) (cut : List ℕ × List ℕ) → ((c : List ℕ × List ℕ) → inner ≡ Some c → length c.0 < length xs) → cut_at_or_behind byte x xs inner ≡ Some cut
    → length cut.0 < length (x ∷ xs)
front_at byte x xs None cut rest is = front_here (x == byte) xs (length xs) cut is
front_at byte x xs (Some c) cut rest is =
    let same : (x ∷ c.0, c.1) ≡ cut = cc is in
    let less = rest c refl in
    subst (λ k. length k.0 < length (x ∷ xs)) same (omega arith)

front_shorter : (byte : ℕ) (text : List ℕ) (cut : List ℕ × List ℕ) → last_cut byte text ≡ Some cut → length cut.0 < length text
front_shorter byte [] cut is = cc is
front_shorter byte (x ∷ xs) cut is = front_at byte x xs (last_cut byte xs) cut (front_shorter byte xs) is

lower_front : (front : List ℕ) (b : Bool) (id : Option ℕ) (parts : VlanParts) → parts_of (if b then Some front else None) id ≡ Some parts → front ≡ parts.lower
lower_front front true None parts is = cc is
lower_front front true (Some n) parts is = let same = ap lower_of_parts is in cc same
lower_front front false id parts is = cc is

lower_at_cut : (n : ℕ) (cut : Option (List ℕ × List ℕ)) (parts : VlanParts) → ((c : List ℕ × List ℕ) → cut ≡ Some c → length c.0 < n) → parts_at cut ≡ Some parts → length parts.lower < n
lower_at_cut n None parts less is = cc is
lower_at_cut n (Some c) parts less is = subst (λ f. length f < n) (lower_front c.0 (is_name c.0) (id_of c.1) parts is) (less c refl)

lower_shorter : (name : List ℕ) (parts : VlanParts) → vlan_parts name ≡ Some parts → length parts.lower < length name
lower_shorter name parts is = lower_at_cut (length name) (last_cut dot name) parts (front_shorter dot name) is

-- the names of the form X.N from one on have with each one its X
dotted_first : (n : ℕ) (name : List ℕ) → Contains (dotted n name) name
dotted_first zero name = here name []
dotted_first (suc n) name = here name (behind (dotted n) (vlan_parts name))

dotted_on : (n : ℕ) (start name : List ℕ) (parts : VlanParts) → length start ≤ n → Contains (dotted n start) name → vlan_parts name ≡ Some parts → Contains (dotted n start) parts.lower
dotted_on zero start name parts few h is =
    elim (first_or_later start [] name h) as (λ _. Contains (dotted zero start) parts.lower) [
      | inl same ↦ let less = lower_shorter start parts (ap vlan_parts same ∙ is) in absurd (omega arith)
      | inr none ↦ absurd (none_in_nil name none)
    ]
dotted_on (suc n) start name parts few h is =
    elim (first_or_later start (behind (dotted n) (vlan_parts start)) name h) as (λ _. Contains (dotted (suc n) start) parts.lower) [
      | inl same ↦ there start (behind (dotted n) (vlan_parts start)) parts.lower (subst (λ o. Contains (behind (dotted n) o) parts.lower) (sym (ap vlan_parts same ∙ is)) (dotted_first n parts.lower))
      | inr later ↦ there start (behind (dotted n) (vlan_parts start)) parts.lower (further n start (vlan_parts start) refl name parts few (λ lower less had. dotted_on n lower name parts less had is) later)
    ]
  where
    further : (n : ℕ) (start : List ℕ) (o : Option VlanParts) → vlan_parts start ≡ o → (name : List ℕ) (parts : VlanParts) → length start ≤ suc n
        → ((lower : List ℕ) → length lower ≤ n → Contains (dotted n lower) name → Contains (dotted n lower) parts.lower) → Contains (behind (dotted n) o) name → Contains (behind (dotted n) o) parts.lower
    further n start None from name parts few rest h = absurd (none_in_nil name h)
    further n start (Some q) from name parts few rest h = let less = lower_shorter start q from in rest q.lower (omega arith) h

-- where the lower of a name comes from: a row says it, or the name is X.N
record RowSays (rows : List NameRow) (lower : List ℕ) : Type 0 where
  row : NameRow
  member : Contains rows row
  says : lower_of_kind row.kind ≡ Some lower

record IsDotted (name lower : List ℕ) : Type 0 where
  parts : VlanParts
  are : vlan_parts name ≡ Some parts
  same : parts.lower ≡ lower

is_dotted : (name lower : List ℕ) (o : Option VlanParts) → vlan_parts name ≡ o → lower_of_parts o ≡ Some lower → IsDotted name lower
is_dotted name lower None from is = cc is
is_dotted name lower (Some parts) from is = record { parts = parts; are = from; same = cc is }

lower_from : (rows : List NameRow) (name lower : List ℕ) → lower_in rows name ≡ Some lower → RowSays rows lower ⊎ IsDotted name lower
lower_from [] name lower is = inr (is_dotted name lower (vlan_parts name) refl is)
lower_from (row ∷ rows) name lower is = from_here row rows name lower (bytes_eq row.name name) (lower_from rows name lower) is
  where
    from_here : (row : NameRow) (rows : List NameRow) (name lower : List ℕ) (b : Bool) → (lower_in rows name ≡ Some lower → RowSays rows lower ⊎ IsDotted name lower) → (if b then lower_of_kind row.kind else lower_in rows name) ≡ Some lower
        → RowSays (row ∷ rows) lower ⊎ IsDotted name lower
    from_here row rows name lower true later is = inl (record { row = row; member = here row rows; says = is })
    from_here row rows name lower false later is = elim (later is) as (λ _. RowSays (row ∷ rows) lower ⊎ IsDotted name lower) [
      | inl said ↦ inl (record { row = said.row; member = there row rows said.row said.member; says = said.says })
      | inr parted ↦ inr parted
    ]

-- the names on the way have with each one its lower
abbrev row_lowers : List NameRow → List (List ℕ)
row_lowers rows = filter_map (λ row. lower_of_kind row.kind) rows

start_on_way : (rows : List NameRow) (start : List ℕ) → Contains (names_on_way rows start) start
start_on_way rows start = in_join all_dotted (start ∷ row_lowers rows) start start (here start (row_lowers rows)) (dotted_first (length start) start)

lower_on_way : (rows : List NameRow) (start name lower : List ℕ) → Contains (names_on_way rows start) name → lower_in rows name ≡ Some lower → Contains (names_on_way rows start) lower
lower_on_way rows start name lower h is =
    elim (lower_from rows name lower is) as (λ _. Contains (names_on_way rows start) lower) [
      | inl said ↦
          let given = in_filter_map (λ row. lower_of_kind row.kind) rows said.row lower said.member said.says in
          in_join all_dotted (start ∷ row_lowers rows) lower lower (there start (row_lowers rows) lower given) (dotted_first (length lower) lower)
      | inr parted ↦
          let from = from_join all_dotted (start ∷ row_lowers rows) name h in
          let on = dotted_on (length from.source) from.source name parted.parts (omega arith) from.among parted.are in
          in_join all_dotted (start ∷ row_lowers rows) from.source lower from.member (subst (Contains (all_dotted from.source)) parted.same on)
    ]

step_up : (rows : List NameRow) (start name lower : List ℕ) → Contains (names_on_way rows start) name → lower_in rows name ≡ Some lower → lead_up (steps_on_way rows start) lower name ≡ true
step_up rows start name lower h is =
    let step : Step = record { lower = lower; name = name } in
    lead_by (steps_on_way rows start) step (in_filter_map (λ other. step_to other (lower_in rows other)) (names_on_way rows start) name step h (ap (step_to name) is))

-- from the relation to its test
led_down : (rows : List NameRow) (start base name : List ℕ) → LeadsDown rows base name → Contains (names_on_way rows start) name → lead_up (steps_on_way rows start) base name ≡ true
led_down rows start base top LeadsDown.itself h = lead_itself (steps_on_way rows start) base
led_down rows start base top (LeadsDown.over name lower is p) h =
    lead_on (steps_on_way rows start) base lower name (led_down rows start base lower p (lower_on_way rows start name lower h is)) (step_up rows start name lower h is)

pub down_test : (rows : List NameRow) (name base : List ℕ) → LeadsDown rows base name → leads_down rows name base ≡ true
unfolding leads_down
down_test rows name base p = led_down rows name base name p (start_on_way rows name)

-- and back
pub down_joined : (rows : List NameRow) (a b c : List ℕ) → LeadsDown rows a b → LeadsDown rows b c → LeadsDown rows a c
down_joined rows a b c p LeadsDown.itself = p
down_joined rows a b c p (LeadsDown.over name lower is q) = LeadsDown.over name lower is (down_joined rows a b lower p q)

step_is : (rows : List NameRow) (name : List ℕ) (lower : Option (List ℕ)) (s : Step) → lower_in rows name ≡ lower → step_to name lower ≡ Some s → LeadsDown rows s.lower s.name
step_is rows name None s from is = cc is
step_is rows name (Some lower) s from is =
    let same : record { lower = lower; name = name } ≡ s = cc is in
    subst (λ t. LeadsDown rows t.lower t.name) same (LeadsDown.over name lower from LeadsDown.itself)

led : (rows : List NameRow) (steps : List Step) → ((s : Step) → Contains steps s → LeadsDown rows s.lower s.name) → (a b : List ℕ) → lead_up steps a b ≡ true → LeadsDown rows a b
led rows [] each a b h = subst (LeadsDown rows a) (bytes_same a b h) LeadsDown.itself
led rows (s ∷ steps) each a b h =
    let others : (t : Step) → Contains steps t → LeadsDown rows t.lower t.name = λ t member. each t (there s steps t member) in
    elim (either (lead_up steps a b) _ h) as (λ _. LeadsDown rows a b) [
      | inl past ↦ led rows steps others a b past
      | inr by ↦
          let parts = both (lead_up steps a s.lower) (lead_up steps s.name b) by in
          down_joined rows a s.name b (down_joined rows a s.lower s.name (led rows steps others a s.lower parts.0) (each s (here s steps))) (led rows steps others s.name b parts.1)
    ]

pub down_of_test : (rows : List NameRow) (name base : List ℕ) → leads_down rows name base ≡ true → LeadsDown rows base name
unfolding leads_down
down_of_test rows name base h =
    led rows (steps_on_way rows name) (λ s member.
    let from = from_filter_map (λ other. step_to other (lower_in rows other)) (names_on_way rows name) s member in
    step_is rows from.source (lower_in rows from.source) s refl from.gives) base name h

-- a VLAN that is not broken has its lower
lower_of_standing : (kind : NameKind) (broken : Bool) (more : List (List ℕ)) (lower : List ℕ) (id : ℕ) → standing_of kind broken more ≡ Over lower id → lower_of_kind kind ≡ Some lower
lower_of_standing Plain broken more lower id is = cc is
lower_of_standing (Bridge empty ports) true more lower id is = cc is
lower_of_standing (Bridge empty ports) false more lower id is = cc is
lower_of_standing (Vlan under n) true more lower id is = cc is
lower_of_standing (Vlan None n) false more lower id is = cc is
lower_of_standing (Vlan (Some under) n) false more lower id is = let same : under ≡ lower = cc is in ap Some same

rowless_over : (b : Bool) (more : List (List ℕ)) (lower : List ℕ) (id : ℕ) → standing_of (if b then Vlan None 0 else Plain) b more ≡ Over lower id → ⊥
rowless_over true more lower id is = cc is
rowless_over false more lower id is = cc is

pub standing_lower : (rows : List NameRow) (name : List ℕ) (more : List (List ℕ)) (lower : List ℕ) (id : ℕ) → standing_of (row_at rows name).kind (row_at rows name).broken more ≡ Over lower id → lower_in rows name ≡ Some lower
standing_lower [] name more lower id is = absurd (rowless_over (rowless name).broken more lower id is)
standing_lower (row ∷ rows) name more lower id is = lower_here row rows name more lower id (bytes_eq row.name name) is (standing_lower rows name more lower id)
  where
    lower_here : (row : NameRow) (rows : List NameRow) (name : List ℕ) (more : List (List ℕ)) (lower : List ℕ) (id : ℕ) (b : Bool) → standing_of (if b then row else row_at rows name).kind (if b then row else row_at rows name).broken more
        ≡ Over lower id → (standing_of (row_at rows name).kind (row_at rows name).broken more ≡ Over lower id → lower_in rows name ≡ Some lower) → (if b then lower_of_kind row.kind else lower_in rows name) ≡ Some lower
    lower_here row rows name more lower id true is later = lower_of_standing row.kind row.broken more lower id is
    lower_here row rows name more lower id false is later = later is
