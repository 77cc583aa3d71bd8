-- Options by their places.
use Rattle.std.proofs.Common.{ℕ, zero, suc, ◌≡◌, Bool, true, false, not, cond, nat_eq, List, [], ◌∷◌, ◌++◌, length, get_or, set, Option, Some, None, Result, Ok, Err, position, refl, sym, ap, ◌∙◌, arith}
use Rattle.std.specs.Prelude.{◌&&◌}
use Rattle.std.specs.List.{remove}
use Rattle.std.proofs.lemmas.Bool.Decides.{nat_tests}
use Rattle.uci_text.specs.declared.byte_class.ByteClass.TheVariants.{Name}
use Rattle.std.specs.Option.{option_map}
use Rattle.uci_tree.specs.declared.package.Value.{Value}
use Rattle.uci_tree.specs.declared.package.Value.TheVariants.{Many}
use Rattle.uci_tree.specs.declared.package.Opt.{Opt}
use Rattle.uci_tree.specs.Find.{option_place}
use Rattle.uci_tree.specs.Fold.{put, without}
use Rattle.uci_tree.proofs.FoldLemmas.{position-cons}
use Rattle.uci_delta.specs.declared.delta_error.DeltaError.{DeltaError}
use Rattle.uci_delta.specs.declared.delta_error.DeltaError.TheVariants.{NotFound, Invalid, Duplicate}
use Rattle.uci_delta.specs.First.{made, first_becomes}
use Rattle.uci_delta.specs.Names.{is_name_of, is_value}
use Rattle.uci_delta.specs.Options.{is_option, has_option, option_renamed, list_of, left_of, with_left, without_item, where_valid}
use Rattle.uci_delta.proofs.FirstLemmas.{with_at, becomes_at, becomes_none, place_within, set_is, remove_set, at_place, at_place_is, is_there, not_there}

-- an option with its value made anew
abbrev pub renewed : (Option Value → Value) → Opt → Opt
renewed change option = record option { value = change (Some option.value) }

put_step : (b : Bool) (place : Option ℕ) (change : Option Value → Value) (y : Opt) (ys rest : List Opt) (i : ℕ) (x : Opt) → ((j : ℕ) → place ≡ Some j → x ≡ get_or ys j x → rest ≡ with_at ys j (renewed change x ∷ []))
    → cond {A = Option ℕ} b (Some 0) (option_map (λ k. suc k) place) ≡ Some i → x ≡ get_or (y ∷ ys) i x → cond {A = List Opt} b (renewed change y ∷ ys) (y ∷ rest) ≡ with_at (y ∷ ys) i (renewed change x ∷ [])
put_step true place change y ys rest zero x k e g = ap (λ (z : Opt). renewed change z ∷ ys) (sym g)
put_step true place change y ys rest (suc i) x k e g = absurd (let f : Some 0 ≡ Some (suc i) = e in cc)
put_step false None change y ys rest i x k e g = absurd (let f : ◌≡◌ {A = Option ℕ} None (Some i) = e in cc)
put_step false (Some j) change y ys rest zero x k e g = absurd (let f : Some (suc j) ≡ Some 0 = e in cc)
put_step false (Some j) change y ys rest (suc i) x k e g =
    let f : Some (suc j) ≡ Some (suc i) = e in
    let s : Some j ≡ Some i = cc in
    ap (λ (z : List Opt). y ∷ z) (k i s g)

pub put_at : (name : List ℕ) (change : Option Value → Value) (options : List Opt) (i : ℕ) (x : Opt) → option_place options name ≡ Some i → x ≡ get_or options i x → put name change options ≡ with_at options i (renewed change x ∷ [])
put_at name change [] i x e g = absurd (let f : ◌≡◌ {A = Option ℕ} None (Some i) = e in cc)
put_at name change (y ∷ ys) i x e g = put_step (is_option name y) (position (is_option name) ys) change y ys (put name change ys) i x (λ j s h. put_at name change ys j x s h) (sym (position-cons (is_option name) y ys) ∙ e) g

end_step : (b : Bool) (place : Option ℕ) (new y y2 : Opt) (ys rest : List Opt) → (place ≡ None → rest ≡ ys ++ new ∷ []) → cond {A = Option ℕ} b (Some 0) (option_map (λ k. suc k) place) ≡ None → cond {A = List Opt} b (y2 ∷ ys) (y ∷ rest) ≡ y
    ∷ ys ++ new ∷ []
end_step true place new y y2 ys rest k e = absurd (let f : ◌≡◌ {A = Option ℕ} (Some 0) None = e in cc)
end_step false (Some j) new y y2 ys rest k e = absurd (let f : ◌≡◌ {A = Option ℕ} (Some (suc j)) None = e in cc)
end_step false None new y y2 ys rest k e = ap (λ (z : List Opt). y ∷ z) (k refl)

pub put_none : (name : List ℕ) (change : Option Value → Value) (options : List Opt) → option_place options name ≡ None → put name change options ≡ options ++ record { name = name; value = change None } ∷ []
put_none name change [] e = refl
put_none name change (y ∷ ys) e = end_step (is_option name y) (position (is_option name) ys) (record { name = name; value = change None }) y (renewed change y) ys (put name change ys) (λ s. put_none name change ys s)
    (sym (position-cons (is_option name) y ys) ∙ e)

without_step : (b : Bool) (place : Option ℕ) (y : Opt) (ys rest : List Opt) (i : ℕ) → ((j : ℕ) → place ≡ Some j → rest ≡ remove ys j) → cond {A = Option ℕ} b (Some 0) (option_map (λ k. suc k) place) ≡ Some i
    → cond {A = List Opt} b ys (y ∷ rest) ≡ remove (y ∷ ys) i
without_step true place y ys rest zero k e = refl
without_step true place y ys rest (suc i) k e = absurd (let f : Some 0 ≡ Some (suc i) = e in cc)
without_step false None y ys rest i k e = absurd (let f : ◌≡◌ {A = Option ℕ} None (Some i) = e in cc)
without_step false (Some j) y ys rest zero k e = absurd (let f : Some (suc j) ≡ Some 0 = e in cc)
without_step false (Some j) y ys rest (suc i) k e =
    let f : Some (suc j) ≡ Some (suc i) = e in
    let s : Some j ≡ Some i = cc in
    ap (λ (z : List Opt). y ∷ z) (k i s)

pub without_at : (name : List ℕ) (options : List Opt) (i : ℕ) → option_place options name ≡ Some i → without name options ≡ remove options i
without_at name [] i e = absurd (let f : ◌≡◌ {A = Option ℕ} None (Some i) = e in cc)
without_at name (y ∷ ys) i e = without_step (is_option name y) (position (is_option name) ys) y ys (without name ys) i (λ j s. without_at name ys j s) (sym (position-cons (is_option name) y ys) ∙ e)

same_step : (b : Bool) (place : Option ℕ) (y : Opt) (ys rest : List Opt) → (place ≡ None → rest ≡ ys) → cond {A = Option ℕ} b (Some 0) (option_map (λ k. suc k) place) ≡ None → cond {A = List Opt} b ys (y ∷ rest) ≡ y ∷ ys
same_step true place y ys rest k e = absurd (let f : ◌≡◌ {A = Option ℕ} (Some 0) None = e in cc)
same_step false (Some j) y ys rest k e = absurd (let f : ◌≡◌ {A = Option ℕ} (Some (suc j)) None = e in cc)
same_step false None y ys rest k e = ap (λ (z : List Opt). y ∷ z) (k refl)

pub without_none : (name : List ℕ) (options : List Opt) → option_place options name ≡ None → without name options ≡ options
without_none name [] e = refl
without_none name (y ∷ ys) e = same_step (is_option name y) (position (is_option name) ys) y ys (without name ys) (λ s. without_none name ys s) (sym (position-cons (is_option name) y ys) ∙ e)

-- the place that the code found
pub option_found : (xs options : List Opt) (bytes name : List ℕ) (result answer : Option ℕ) → result ≡ option_place xs bytes → xs ≡ options → bytes ≡ name → result ≡ answer → option_place options name ≡ answer
option_found xs options bytes name result answer h a b e = ap (λ (z : List Opt). option_place z name) (sym a) ∙ ap (option_place xs) (sym b) ∙ sym h ∙ e

pub put_written : (name : List ℕ) (change : Option Value → Value) (options : List Opt) (i : ℕ) (x : Opt) (value : Value) → option_place options name ≡ Some i → x ≡ get_or options i x → value ≡ change (Some x.value)
    → set options i (record { name = x.name; value = value }) ≡ put name change options
put_written name change options i x value e g v =
    ap (λ (z : Value). set options i (record { name = x.name; value = z })) v
    ∙ set_is options i (renewed change x) (place_within (is_option name) options i e)
    ∙ sym (put_at name change options i x e g)

pub put_pushed : (name other : List ℕ) (change : Option Value → Value) (options new : List Opt) (value : Value) → option_place options name ≡ None → other ≡ name → value ≡ change None → new ≡ options
    ++ record { name = other; value = value } ∷ [] → new ≡ put name change options
put_pushed name other change options new value e n v w =
    w
    ∙ ap (λ (z : List ℕ). options ++ record { name = z; value = value } ∷ []) n
    ∙ ap (λ (z : Value). options ++ record { name = name; value = z } ∷ []) v
    ∙ sym (put_none name change options e)

-- a change of name
pub renamed_lacks : (name new : List ℕ) (options : List Opt) → option_place options name ≡ None → option_renamed name new options ≡ Err NotFound
renamed_lacks name new options e = becomes_none (is_option name) NotFound _ options e

abbrev renamed_to : List ℕ → List Opt → Opt → Result (List Opt) DeltaError
renamed_to new options option = cond {A = Result (List Opt) DeltaError} (not (is_name_of Name new)) (Err Invalid) (cond {A = Result (List Opt) DeltaError} (has_option new options) (Err Duplicate) (Ok (record option { name = new } ∷ [])))

renamed_at : (name new : List ℕ) (options : List Opt) (i : ℕ) (x : Opt) → option_place options name ≡ Some i → x ≡ get_or options i x → option_renamed name new options ≡ made (with_at options i) (renamed_to new options x)
renamed_at name new options i x e g = becomes_at (is_option name) NotFound (renamed_to new options) options i x e g

pub renamed_invalid : (name new : List ℕ) (options : List Opt) (i : ℕ) → option_place options name ≡ Some i → is_name_of Name new ≡ false → option_renamed name new options ≡ Err Invalid
renamed_invalid name new options i e n =
    let x : Opt = at_place options i (place_within (is_option name) options i e) in
    renamed_at name new options i x e (at_place_is options i (place_within (is_option name) options i e))
    ∙ ap (λ (t : Bool). made (with_at options i) (cond {A = Result (List Opt) DeltaError} (not t) (Err Invalid) (cond {A = Result (List Opt) DeltaError} (has_option new options) (Err Duplicate) (Ok (record x { name = new } ∷ []))))) n

pub renamed_duplicate : (name new : List ℕ) (options : List Opt) (i k : ℕ) → option_place options name ≡ Some i → is_name_of Name new ≡ true → option_place options new ≡ Some k → option_renamed name new options ≡ Err Duplicate
renamed_duplicate name new options i k e n d =
    let x : Opt = at_place options i (place_within (is_option name) options i e) in
    renamed_at name new options i x e (at_place_is options i (place_within (is_option name) options i e))
    ∙ ap (λ (t : Bool). made (with_at options i) (cond {A = Result (List Opt) DeltaError} (not t) (Err Invalid) (cond {A = Result (List Opt) DeltaError} (has_option new options) (Err Duplicate) (Ok (record x { name = new } ∷ []))))) n
    ∙ ap (λ (t : Bool). made (with_at options i) (cond {A = Result (List Opt) DeltaError} t (Err Duplicate) (Ok (record x { name = new } ∷ [])))) (is_there (option_place options new) k d)

pub renamed_done : (name new other : List ℕ) (options : List Opt) (i : ℕ) (x : Opt) → option_place options name ≡ Some i → x ≡ get_or options i x → is_name_of Name new ≡ true → option_place options new ≡ None → other ≡ new
    → option_renamed name new options ≡ Ok (set options i (record { name = other; value = x.value }))
renamed_done name new other options i x e g n d o =
    renamed_at name new options i x e g
    ∙ ap (λ (t : Bool). made (with_at options i) (cond {A = Result (List Opt) DeltaError} (not t) (Err Invalid) (cond {A = Result (List Opt) DeltaError} (has_option new options) (Err Duplicate) (Ok (record x { name = new } ∷ []))))) n
    ∙ ap (λ (t : Bool). made (with_at options i) (cond {A = Result (List Opt) DeltaError} t (Err Duplicate) (Ok (record x { name = new } ∷ [])))) (not_there (option_place options new) d)
    ∙ ap (λ (z : List Opt). Ok z) (sym (set_is options i (record x { name = new }) (place_within (is_option name) options i e)) ∙ ap (λ (z : List ℕ). set options i (record { name = z; value = x.value })) (sym o))

-- items that go
valid_item : (name item : List ℕ) (valid : Bool) (answer : Result (List Opt) DeltaError) → valid ≡ (is_name_of Name name && is_value item) → valid ≡ true → where_valid name item answer ≡ answer
valid_item name item valid answer v t = ap (λ (z : Bool). cond {A = Result (List Opt) DeltaError} z answer (Err Invalid)) (sym v ∙ t)

pub item_gone : (name item : List ℕ) (options new : List Opt) (i : ℕ) (x y : Opt) (valid : Bool) → valid ≡ (is_name_of Name name && is_value item) → valid ≡ true → option_place options name ≡ Some i → x ≡ get_or options i x
    → left_of item x.value ≡ None → new ≡ remove (set options i y) i → where_valid name item (without_item name item options) ≡ Ok new
item_gone name item options new i x y valid v t e g l w =
    valid_item name item valid (without_item name item options) v t
    ∙ ap (λ (z : Bool). cond {A = Result (List Opt) DeltaError} z (first_becomes (is_option name) NotFound (λ option. Ok (with_left option (left_of item option.value))) options) (Ok options)) (is_there (option_place options name) i e)
    ∙ becomes_at (is_option name) NotFound (λ option. Ok (with_left option (left_of item option.value))) options i x e g
    ∙ ap (λ (z : Option Value). made (with_at options i) (Ok (with_left x z))) l
    ∙ ap (λ (z : List Opt). Ok z) (sym (w ∙ remove_set options i y))

pub item_left : (name item : List ℕ) (options : List Opt) (i : ℕ) (x : Opt) (value : Value) (valid : Bool) → valid ≡ (is_name_of Name name && is_value item) → valid ≡ true → option_place options name ≡ Some i → x ≡ get_or options i x
    → left_of item x.value ≡ Some value → where_valid name item (without_item name item options) ≡ Ok (set options i (record { name = x.name; value = value }))
item_left name item options i x value valid v t e g l =
    valid_item name item valid (without_item name item options) v t
    ∙ ap (λ (z : Bool). cond {A = Result (List Opt) DeltaError} z (first_becomes (is_option name) NotFound (λ option. Ok (with_left option (left_of item option.value))) options) (Ok options)) (is_there (option_place options name) i e)
    ∙ becomes_at (is_option name) NotFound (λ option. Ok (with_left option (left_of item option.value))) options i x e g
    ∙ ap (λ (z : Option Value). made (with_at options i) (Ok (with_left x z))) l
    ∙ ap (λ (z : List Opt). Ok z) (sym (set_is options i (record x { value = value }) (place_within (is_option name) options i e)))

pub list_left : (items left : List (List ℕ)) (b : Bool) → items ≡ left → b ≡ nat_eq (length left) 0 → list_of items ≡ cond {A = Option Value} b None (Some (Many left))
list_left items [] b e h = ap list_of e ∙ ap (λ (z : Bool). cond {A = Option Value} z None (Some (Many []))) (sym h)
list_left items (item ∷ left) b e h =
    let f : nat_eq (length (item ∷ left)) 0 ≡ false = grind (arith, nat_tests) in
    ap list_of e ∙ ap (λ (z : Bool). cond {A = Option Value} z None (Some (Many (item ∷ left)))) (sym (h ∙ f))
