-- Names over names, and heights.
use Rattle.std.proofs.Common.{ℕ, ◌≡◌, ◌≤◌, ◌+◌, ◌⊎◌, inl, inr, List, [], ◌∷◌, Option, Some, true, Contains, refl, subst, ◌∙◌}
use Rattle.std.specs.FinSet as set
use Rattle.kern_model.specs.declared.object.Mac.{Mac}
use Rattle.kern_model.specs.declared.object.LinkKind.TheVariants.{Vlan}
use Rattle.kern_model.specs.declared.object.Object.{Object}
use Rattle.kern_model.specs.declared.object.Object.TheVariants as object
use Rattle.kern_model.specs.ObjectOrder.{Objects, Has}
use Rattle.kern_model.specs.Standing.{Step, step_of, steps_of, lead_up, is_over, is_vlan_under, height}
use Rattle.kern_model.proofs.MemberLemmas.{here, there, first_or_later, none_in_nil}
use Rattle.kern_model.proofs.SetLemmas.{set_of_item, item_of_set, has_retained, of_retained, size_within, size_within_but}
use Rattle.kern_model.proofs.TestLemmas.{both, of_both, either, of_left, of_right, bytes_same, same_bytes, in_filter_map, from_filter_map}

lead_itself : (steps : List Step) (a : List ℕ) → lead_up steps a a ≡ true
lead_itself [] a = same_bytes a a refl
lead_itself (s ∷ steps) a = of_left (lead_up steps a a) _ (lead_itself steps a)

lead_on : (steps : List Step) (a b c : List ℕ) → lead_up steps a b ≡ true → lead_up steps b c ≡ true → lead_up steps a c ≡ true
lead_on [] a b c p q = same_bytes a c (bytes_same a b p ∙ bytes_same b c q)
lead_on (s ∷ steps) a b c p q =
    elim (either (lead_up steps a b) _ p) as (λ _. lead_up (s ∷ steps) a c ≡ true) [
      | inl past ↦ elim (either (lead_up steps b c) _ q) as (λ _. lead_up (s ∷ steps) a c ≡ true) [
        | inl also ↦ of_left (lead_up steps a c) _ (lead_on steps a b c past also)
        | inr by ↦ let r = both (lead_up steps b s.lower) (lead_up steps s.name c) by in of_right (lead_up steps a c) _ (of_both _ _ (lead_on steps a b s.lower past r.0) r.1)
      ]
      | inr by ↦ let l = both (lead_up steps a s.lower) (lead_up steps s.name b) by in
          elim (either (lead_up steps b c) _ q) as (λ _. lead_up (s ∷ steps) a c ≡ true) [
            | inl also ↦ of_right (lead_up steps a c) _ (of_both _ _ l.0 (lead_on steps s.name b c l.1 also))
            | inr again ↦ let r = both (lead_up steps b s.lower) (lead_up steps s.name c) again in of_right (lead_up steps a c) _ (of_both _ _ l.0 r.1)
          ]
    ]

lead_by : (steps : List Step) (s : Step) → Contains steps s → lead_up steps s.lower s.name ≡ true
lead_by [] s h = absurd (none_in_nil s h)
lead_by (t ∷ steps) s h =
    elim (first_or_later t steps s h) as (λ _. lead_up (t ∷ steps) s.lower s.name ≡ true) [
      | inl same ↦ subst (λ u. lead_up (t ∷ steps) u.lower u.name ≡ true) same (of_right (lead_up steps t.lower t.name) _ (of_both _ _ (lead_itself steps t.lower) (lead_itself steps t.name)))
      | inr later ↦ of_left (lead_up steps s.lower s.name) _ (lead_by steps s later)
    ]

-- the last of the steps that lead to a name
record LastStep (steps : List Step) (a b : List ℕ) : Type 0 where
  last : Step
  member : Contains steps last
  before : lead_up steps a last.lower ≡ true
  ends : last.name ≡ b

behind_first : (s : Step) (steps : List Step) (a b : List ℕ) → lead_up steps a b ≡ true → lead_up (s ∷ steps) a b ≡ true
behind_first s steps a b h = of_left (lead_up steps a b) _ h

through_first : (s : Step) (steps : List Step) (a b : List ℕ) → lead_up steps a s.lower ≡ true → lead_up steps s.name b ≡ true → lead_up (s ∷ steps) a b ≡ true
through_first s steps a b p q = of_right (lead_up steps a b) _ (of_both _ _ p q)

last_step : (steps : List Step) (a b : List ℕ) → lead_up steps a b ≡ true → (a ≡ b) ⊎ LastStep steps a b
last_step [] a b h = inl (bytes_same a b h)
last_step (s ∷ steps) a b h =
    elim (either (lead_up steps a b) _ h) as (λ _. (a ≡ b) ⊎ LastStep (s ∷ steps) a b) [
      | inl past ↦ elim (last_step steps a b past) as (λ _. (a ≡ b) ⊎ LastStep (s ∷ steps) a b) [
        | inl same ↦ inl same
        | inr l ↦ inr (record { last = l.last; member = there s steps l.last l.member; before = behind_first s steps a l.last.lower l.before; ends = l.ends })
      ]
      | inr by ↦ let l = both (lead_up steps a s.lower) (lead_up steps s.name b) by in
          elim (last_step steps s.name b l.1) as (λ _. (a ≡ b) ⊎ LastStep (s ∷ steps) a b) [
            | inl same ↦ inr (record { last = s; member = here s steps; before = behind_first s steps a s.lower l.0; ends = same })
            | inr m ↦ inr (record { last = m.last; member = there s steps m.last m.member; before = through_first s steps a m.last.lower l.0 m.before; ends = m.ends })
          ]
    ]

-- a step and the VLAN that it is
pub has_step : (objects : Objects) (name lower : List ℕ) (id : ℕ) (mac : Option Mac) → Has objects (object.Link name (Vlan lower id mac)) → Contains (steps_of objects) (record { lower = lower; name = name })
has_step objects name lower id mac h = in_filter_map step_of (set.items objects) (object.Link name (Vlan lower id mac)) (record { lower = lower; name = name }) (item_of_set objects (object.Link name (Vlan lower id mac)) h) refl

pub record IsVlanStep (objects : Objects) (s : Step) : Type 0 where
  pub id : ℕ
  pub mac : Option Mac
  pub held : Has objects (object.Link s.name (Vlan s.lower id mac))

vlan_of_step : (objects : Objects) (o : Object) (s : Step) → Has objects o → step_of o ≡ Some s → IsVlanStep objects s
vlan_of_step objects (object.Link n (Vlan l id mac)) s held gives = let same : record { lower = l; name = n } ≡ s = cc gives in subst (IsVlanStep objects) same (record { id = id; mac = mac; held = held })
vlan_of_step objects o s held gives = cc gives

pub step_has : (objects : Objects) (s : Step) → Contains (steps_of objects) s → IsVlanStep objects s
step_has objects s h = let from = from_filter_map step_of (set.items objects) s h in vlan_of_step objects from.source s (set_of_item objects from.source from.member) from.gives

-- names over names
pub over_itself : (objects : Objects) (name : List ℕ) → is_over objects name name ≡ true
over_itself objects name = lead_itself (steps_of objects) name

pub over_on : (objects : Objects) (a b c : List ℕ) → is_over objects a b ≡ true → is_over objects b c ≡ true → is_over objects a c ≡ true
over_on objects a b c p q = lead_on (steps_of objects) a b c p q

pub over_lower : (objects : Objects) (name lower : List ℕ) (id : ℕ) (mac : Option Mac) → Has objects (object.Link name (Vlan lower id mac)) → is_over objects lower name ≡ true
over_lower objects name lower id mac h = lead_by (steps_of objects) (record { lower = lower; name = name }) (has_step objects name lower id mac h)

-- a name over a base is the base, or that of a VLAN whose lower name is over it
pub record IsVlanOver (objects : Objects) (base name : List ℕ) : Type 0 where
  pub lower : List ℕ
  pub id : ℕ
  pub mac : Option Mac
  pub held : Has objects (object.Link name (Vlan lower id mac))
  pub over : is_over objects base lower ≡ true

pub over_cases : (objects : Objects) (base name : List ℕ) → is_over objects base name ≡ true → (base ≡ name) ⊎ IsVlanOver objects base name
over_cases objects base name h = elim (last_step (steps_of objects) base name h) as (λ _. (base ≡ name) ⊎ IsVlanOver objects base name) [
  | inl same ↦ inl same
  | inr l ↦ let v = step_has objects l.last l.member in
      inr (subst (λ n. IsVlanOver objects base n) l.ends (record { lower = l.last.lower; id = v.id; mac = v.mac; held = v.held; over = l.before }))
]

-- heights
pub is_under : (objects : Objects) (name vlan lower : List ℕ) (id : ℕ) (mac : Option Mac) → Has objects (object.Link vlan (Vlan lower id mac)) → is_over objects vlan name ≡ true
    → Has (set.retain objects (is_vlan_under objects name)) (object.Link vlan (Vlan lower id mac))
is_under objects name vlan lower id mac held over = has_retained objects (is_vlan_under objects name) (object.Link vlan (Vlan lower id mac)) held over

pub height_within : (objects : Objects) (name : List ℕ) → height objects name ≤ set.len objects
height_within objects name = size_within (set.retain objects (is_vlan_under objects name)) objects (λ x h. (of_retained objects (is_vlan_under objects name) x h).0)

pub still_under : (objects : Objects) (base name : List ℕ) (o : Object) → is_over objects base name ≡ true → is_vlan_under objects base o ≡ true → is_vlan_under objects name o ≡ true
still_under objects base name (object.Link vlan (Vlan lower id mac)) over h = over_on objects vlan base name h over
still_under objects base name o over h = cc h

-- a VLAN that is not under its own lower name is higher than each name under it
pub higher : (objects : Objects) (base name lower : List ℕ) (id : ℕ) (mac : Option Mac) → Has objects (object.Link name (Vlan lower id mac)) → (is_over objects name lower ≡ true → ⊥) → is_over objects base lower ≡ true → height objects base
    + 1 ≤ height objects name
higher objects base name lower id mac held grounded over =
    let up = over_on objects base lower name over (over_lower objects name lower id mac held) in
    size_within_but (set.retain objects (is_vlan_under objects base)) (set.retain objects (is_vlan_under objects name)) (object.Link name (Vlan lower id mac))
    (λ x h. let was = of_retained objects (is_vlan_under objects base) x h in has_retained objects (is_vlan_under objects name) x was.0 (still_under objects base name x up was.1))
    (is_under objects name name lower id mac held (over_itself objects name))
    (λ h. grounded (over_on objects name base lower (of_retained objects (is_vlan_under objects base) (object.Link name (Vlan lower id mac)) h).1 over))
