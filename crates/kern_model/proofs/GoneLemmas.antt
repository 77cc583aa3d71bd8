-- What goes with a name: the least relation of names over names, and removing VLANs one by one.
use Rattle.std.proofs.Common.{ℕ, ◌≡◌, inl, inr, List, [], ◌∷◌, true, false, Bool, cond, Contains, refl, sym, subst}
use Rattle.std.specs.Prelude.{filter}
use Rattle.kern_model.specs.declared.object.LinkKind.TheVariants.{Vlan}
use Rattle.kern_model.specs.declared.object.Object.{Object}
use Rattle.kern_model.specs.declared.object.Object.TheVariants as object
use Rattle.kern_model.specs.ObjectOrder.{Objects, Has}
use Rattle.kern_model.specs.Standing.{Step, steps_of, lead_up, is_over, IsOver}
use Rattle.kern_model.proofs.MemberLemmas.{here, there, first_or_later, none_in_nil}
use Rattle.kern_model.proofs.TestLemmas.{both, either, bytes_same}
use Rattle.kern_model.proofs.StandingLemmas.{IsVlanStep, step_has, over_itself, over_on, over_lower}

-- the relation and its test
joined : (objects : Objects) (a b c : List ℕ) → IsOver objects a b → IsOver objects b c → IsOver objects a c
joined objects a b c p IsOver.itself = p
joined objects a b c p (IsOver.above name lower id mac held q) = IsOver.above name lower id mac held (joined objects a b lower p q)

led_up : (objects : Objects) (steps : List Step) → ((s : Step) → Contains steps s → IsVlanStep objects s) → (a b : List ℕ) → lead_up steps a b ≡ true → IsOver objects a b
led_up objects [] vlans a b h = subst (IsOver objects a) (bytes_same a b h) IsOver.itself
led_up objects (s ∷ steps) vlans a b h =
    let others : (t : Step) → Contains steps t → IsVlanStep objects t = λ t member. vlans t (there s steps t member) in
    elim (either (lead_up steps a b) _ h) as (λ _. IsOver objects a b) [
      | inl past ↦ led_up objects steps others a b past
      | inr by ↦
          let parts = both (lead_up steps a s.lower) (lead_up steps s.name b) by in
          let v = vlans s (here s steps) in
          joined objects a s.name b (IsOver.above s.name s.lower v.id v.mac v.held (led_up objects steps others a s.lower parts.0)) (led_up objects steps others s.name b parts.1)
    ]

pub is_over_of_test : (objects : Objects) (a b : List ℕ) → is_over objects a b ≡ true → IsOver objects a b
is_over_of_test objects a b h = led_up objects (steps_of objects) (step_has objects) a b h

pub test_of_is_over : (objects : Objects) (a b : List ℕ) → IsOver objects a b → is_over objects a b ≡ true
test_of_is_over objects a b IsOver.itself = over_itself objects a
test_of_is_over objects a b (IsOver.above name lower id mac held p) = over_on objects a lower name (test_of_is_over objects a lower p) (over_lower objects name lower id mac held)

-- a name over another by fewer objects is over it by more
pub more_over : (s t : Objects) → ((x : Object) → Has s x → Has t x) → (a b : List ℕ) → IsOver s a b → IsOver t a b
more_over s t within a b IsOver.itself = IsOver.itself
more_over s t within a b (IsOver.above name lower id mac held p) = IsOver.above name lower id mac (within (object.Link name (Vlan lower id mac)) held) (more_over s t within a lower p)

pub over_more : (s t : Objects) → ((x : Object) → Has s x → Has t x) → (a b : List ℕ) → is_over s a b ≡ true → is_over t a b ≡ true
over_more s t within a b h = test_of_is_over t a b (more_over s t within a b (is_over_of_test s a b h))

-- lists and their filters
kept_step : (p : Object → Bool) (y : Object) (ys : List Object) (x : Object) → (Contains (filter p ys) x → Contains ys x × (p x ≡ true)) → (b : Bool) → p y ≡ b → Contains (cond b (y ∷ filter p ys) (filter p ys)) x → Contains (y ∷ ys) x
    × (p x ≡ true)
kept_step p y ys x rest true is h = elim (first_or_later y (filter p ys) x h) as (λ _. Contains (y ∷ ys) x × (p x ≡ true)) [
  | inl same ↦ (subst (Contains (y ∷ ys)) same (here y ys), subst (λ z. p z ≡ true) same is)
  | inr later ↦ let found = rest later in (there y ys x found.0, found.1)
]
kept_step p y ys x rest false is h = let found = rest h in (there y ys x found.0, found.1)

pub kept_member : (p : Object → Bool) → (xs : List Object) (x : Object) → Contains (filter p xs) x → Contains xs x × (p x ≡ true)
kept_member p [] x h = absurd (none_in_nil x h)
kept_member p (y ∷ ys) x h = kept_step p y ys x (kept_member p ys x) (p y) refl h

kept_first : (b : Bool) (y : Object) (ys : List Object) → b ≡ true → Contains (cond b (y ∷ ys) ys) y
kept_first true y ys h = here y ys
kept_first false y ys h = cc h

kept_later : (b : Bool) (y : Object) (ys : List Object) (x : Object) → Contains ys x → Contains (cond b (y ∷ ys) ys) x
kept_later true y ys x h = there y ys x h
kept_later false y ys x h = h

pub member_kept : (p : Object → Bool) → (xs : List Object) (x : Object) → Contains xs x → p x ≡ true → Contains (filter p xs) x
member_kept p [] x h passes = absurd (none_in_nil x h)
member_kept p (y ∷ ys) x h passes = elim (first_or_later y ys x h) as (λ _. Contains (filter p (y ∷ ys)) x) [
  | inl same ↦ subst (Contains (filter p (y ∷ ys))) same (kept_first (p y) y (filter p ys) (subst (λ z. p z ≡ true) (sym same) passes))
  | inr later ↦ kept_later (p y) y (filter p ys) x (member_kept p ys x later passes)
]
