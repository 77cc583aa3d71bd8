-- What stands at a place of a list.
use Rattle.std.specs.Prelude.{ℕ, zero, suc, ◌≡◌, ◌<◌, List, [], ◌∷◌, remove, slice_get, slice_set, Bool, true, false}
use Rattle.std.specs.Prelude.{Option, Some, None, IfSome, bytes_eq}
use Rattle.std.specs.List.{AllByRecursion}
use Rattle.std.specs.Option.{option_map_or}
use Rattle.kern_model.specs.declared.object.Device.{Device}
use Rattle.kern_model.specs.Kernel.{with_carrier}
use Rattle.net_rules.specs.declared.answer.Answer.{Answer}
use Rattle.net_rules.specs.declared.inputs.OpenInterface.{OpenInterface}

-- none of a list passes a test
abbrev pub NonePass : {X : Type 0} → (X → Bool) → List X → Type 0
NonePass p xs = AllByRecursion (λ x. p x ≡ false) xs

-- the one at a place passes a test, and no other does
abbrev pub OnlyAt : {X : Type 0} → (X → Bool) → List X → ℕ → Type 0
OnlyAt p [] place = ⊥
OnlyAt p (x ∷ xs) zero = (p x ≡ true) × NonePass p xs
OnlyAt p (x ∷ xs) (suc place) = (p x ≡ false) × OnlyAt p xs place

-- a place, where there is one, is that of one of so many
abbrev pub IsWithin : ℕ → Option ℕ → Type 0
IsWithin count place = IfSome place (λ at. at < count)

-- a list without what stands at a place, where there is one
abbrev pub without_place : {X : Type 0} → List X → Option ℕ → List X
without_place xs None = xs
without_place xs (Some place) = remove xs place

-- the devices with the carrier of one at a place, where there is one
abbrev pub carrier_at : Bool → List (List ℕ × Device) → Option ℕ → List (List ℕ × Device)
carrier_at on es None = es
carrier_at on es (Some place) =
    option_map_or (λ e. slice_set es place (e.0, with_carrier on e.1)) (slice_get es place) es

-- a request, where there is one, is that of an interface
abbrev pub is_request_of : List ℕ → Option OpenInterface → Bool
is_request_of name None = false
is_request_of name (Some o) = bytes_eq o.request.name name

-- asks with an answer to the one at a place
abbrev pub answered_at : List OpenInterface → ℕ → Answer → List OpenInterface
answered_at os place answer =
    option_map_or (λ o. slice_set os place (record o { answer = Some answer })) (slice_get os place) os
