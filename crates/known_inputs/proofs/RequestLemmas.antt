-- Open asks as one is answered, or taken out.
use Rattle.std.proofs.Common.{ℕ, zero, suc, ◌≡◌, ◌==◌, List, [], ◌∷◌, map, length, get_or, slice_get, slice_set, Bool, true, false, cond, Option, Some, None, refl, ap, sym, ◌∙◌}
use Rattle.std.specs.Prelude.{bytes_eq, ◌&&◌}
use Rattle.std.specs.List.{find, ItemBy}
use Rattle.std.specs.Option.{option_map, option_map_or}
use Rattle.std.proofs.lemmas.Option.{slice_get_read, slice_get_past}
use Rattle.net_rules.specs.declared.answer.Answer.{Answer}
use Rattle.net_rules.specs.declared.inputs.OpenInterface.{OpenInterface}
use Rattle.net_rules.specs.After.{answered_interface}
use Rattle.known_inputs.specs.Steps.{has_number}
use Rattle.known_inputs.specs.Places.{NonePass, OnlyAt, is_request_of, answered_at}
use Rattle.known_inputs.proofs.PlaceLemmas.{none_changed, only_found, only_changed, only_there, only_within}

-- what is read at a place, and what is taken from there
pub read_at : {R X : Type 0} (now : R → X) (xs : List X) (k : ℕ) (r : Option R) → ItemBy now xs k k r → option_map now r ≡ slice_get xs k
read_at now xs k None h = sym (slice_get_past xs k h.3)
read_at now xs k (Some x) h = sym (slice_get_read xs (length xs) k (now x) refl h.3.0 h.1)

pub taken_is : {X : Type 0} (p : X → Bool) (xs : List X) (k : ℕ) (x : X) → OnlyAt p xs k → x ≡ get_or xs k x → Some x ≡ find p xs
taken_is p xs k x only is = sym (slice_get_read xs (length xs) k x refl (only_within p xs k only) is) ∙ sym (only_found p xs k only)

set_same : {X : Type 0} (xs : List X) (k : ℕ) (x : X) → slice_get xs k ≡ Some x → slice_set xs k x ≡ xs
set_same [] k x at = refl
set_same (y ∷ ys) zero x at = let same : y ≡ x = cc at in ap (λ z. z ∷ ys) (sym same)
set_same (y ∷ ys) (suc k) x at = ap (λ zs. y ∷ zs) (set_same ys k x at)

module _ (interface : List ℕ) (number : ℕ) (answer : Answer) where
  abbrev pub told : OpenInterface → OpenInterface
  told = answered_interface interface number answer

  others_stay : (o : OpenInterface) → has_number number o ≡ false → told o ≡ o
  others_stay o other = by (bytes_eq o.request.name interface) (o.number == number) other
    where
      by : (b n : Bool) → n ≡ false → cond (b && n) (record o { answer = Some answer }) o ≡ o
      by true n h = ap (λ m. cond m (record o { answer = Some answer }) o) h
      by false n h = refl

  pub not_answered : (os : List OpenInterface) → NonePass (has_number number) os → map told os ≡ os
  not_answered os none = none_changed (has_number number) told others_stay os none

  module _ (os : List OpenInterface) (k : ℕ) (only : OnlyAt (has_number number) os k) where
    told_named : (b n : Bool) (o : OpenInterface) → b ≡ true → n ≡ true → cond (b && n) (record o { answer = Some answer }) o ≡ record o { answer = Some answer }
    told_named true n o h g = ap (λ m. cond m (record o { answer = Some answer }) o) g
    told_named false n o h g = cc h

    pub is_answered : is_request_of interface (slice_get os k) ≡ true → answered_at os k answer ≡ map told os
    is_answered named =
        let there = only_there (has_number number) os k only in
        let o : OpenInterface = there.0 in
        let is : bytes_eq o.request.name interface ≡ true = sym (ap (is_request_of interface) there.1) ∙ named in
        ap (λ (found : Option OpenInterface). option_map_or (λ (x : OpenInterface). slice_set os k (record x { answer = Some answer })) found os) there.1
        ∙ ap (slice_set os k) (sym (told_named (bytes_eq o.request.name interface) (o.number == number) o is there.2))
        ∙ sym (only_changed (has_number number) told others_stay os k o only there.1)

    pub of_another : is_request_of interface (slice_get os k) ≡ false → os ≡ map told os
    of_another other =
        let there = only_there (has_number number) os k only in
        let o : OpenInterface = there.0 in
        let is : bytes_eq o.request.name interface ≡ false = sym (ap (is_request_of interface) there.1) ∙ other in
        sym (set_same os k o there.1)
        ∙ ap (slice_set os k) (sym (ap (λ b. cond (b && (o.number == number)) (record o { answer = Some answer }) o) is))
        ∙ sym (only_changed (has_number number) told others_stay os k o only there.1)
