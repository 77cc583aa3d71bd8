-- What a LOOKUP tells.
use Rattle.std.proofs.Common.{ℕ, ◌≡◌, List, [], ◌∷◌, ◌++◌, subst, map, length, Bool, true, false, Option, Some, None, refl, ap, sym, arith, ◌∙◌}
use Rattle.std.specs.Prelude.{◌&&◌, filter, nat_eq}
use Rattle.std.proofs.lemmas.Bool.Decides.{nat_tests}
use Rattle.std.specs.Cmp.Lexicographic.{bytes_decides}
use Rattle.std.specs.declared.cmp.Ordering.{Ordering}
use Rattle.std.specs.declared.cmp.Ordering.TheVariants.{Less, Equal, Greater}
use Rattle.plane_words.specs.InOrder.{placed, put_in}
use Rattle.plane_words.specs.Pattern.{fits_front, is_nothing, star}
use Rattle.plane_words.proofs.PatternLemmas.{fits_front_itself, fitting_is_itself}
use Rattle.ubus_frames.specs.declared.frame.Frame.{Frame}
use Rattle.ubus_table.specs.Table.{Table, is_path_of, same_text}
use Rattle.ubus_table.specs.declared.rows.Object.{Object}
use Rattle.ubus_table.specs.Frames.{with_data}
use Rattle.ubus_table.specs.Refusal.{says, refuses, numbered}
use Rattle.ubus_table.specs.Asked.{by_path as by_object_path, description, fits_path, is_asked, told_of}
use Rattle.ubus_state.specs.Paths.{has_path}
use Rattle.ubus_state.proofs.ListLemmas.{filter_twice}
use Rattle.ubus_state.proofs.PairLemmas.{filter_alike}
use Rattle.ubus_send.specs.Frames.{by_path}

-- nothing is told where no object is asked for
pub told_nothing : (fits : Frame → Bool) (table : Table) (client : ℕ) (request : Frame) (objects : List Object) → map (description request) objects ≡ []
    → told_of fits table client request objects ≡ refuses fits table client request (numbered 4)
told_nothing fits table client request [] h = refl
told_nothing fits table client request (object ∷ objects) h = absurd (cc)

pub told_some : (fits : Frame → Bool) (table : Table) (client : ℕ) (request : Frame) (objects : List Object) → (map (description request) objects ≡ [] → ⊥)
    → told_of fits table client request objects ≡ says table (with_data fits client request (map (description request) objects))
told_some fits table client request [] h = absurd (h refl)
told_some fits table client request (object ∷ objects) h = refl

-- what is told of objects is in the order of the objects
told_at : (r : Ordering) (request : Frame) (object first : Object) (others later : List Object) (put : List Frame) → put ≡ map (description request) later
    → placed r (description request object) (description request first) (map (description request) others) put ≡ map (description request) (placed r object first others later)
told_at Less request object first others later put h = refl
told_at Equal request object first others later put h = refl
told_at Greater request object first others later put h = ap (λ (z : List Frame). description request first ∷ z) h

pub told_in_order : (request : Frame) (object : Object) (objects : List Object) → put_in by_path (description request object) (map (description request) objects) ≡ map (description request) (put_in by_object_path object objects)
told_in_order request object [] = refl
told_in_order request object (first ∷ others) = told_at (by_object_path object first) request object first others (put_in by_object_path object others) (put_in by_path (description request object) (map (description request) others))
    (told_in_order request object others)

-- a list of no length
pub empty_of : {X : Type 0} (items : List X) → length items ≡ 0 → items ≡ []
empty_of [] h = refl
empty_of (item ∷ items) h = absurd (let e = h in omega arith)

-- a pattern that fits itself alone
pub nothing_fits : (text : List ℕ) → is_nothing text ≡ same_text [] text
nothing_fits [] = refl
nothing_fits (byte ∷ text) = refl

-- the last byte of a text is one byte
something_there : (front : List ℕ) (last : ℕ) → front ++ last ∷ [] ≡ [] → ⊥
something_there [] last none = cc
something_there (byte ∷ front) last none = cc

pub last_is : (front others : List ℕ) (last other : ℕ) → front ++ last ∷ [] ≡ others ++ other ∷ [] → last ≡ other
last_is [] [] last other same = cc
last_is [] (byte ∷ others) last other same = absurd (something_there others other (let rest : [] ≡ others ++ other ∷ [] = cc in sym rest))
last_is (byte ∷ front) [] last other same = absurd (something_there front last (let rest : front ++ last ∷ [] ≡ [] = cc in rest))
last_is (byte ∷ front) (first ∷ others) last other same = last_is front others last other (let rest : front ++ last ∷ [] ≡ others ++ other ∷ [] = cc in rest)

no_star : (last : ℕ) → nat_eq last star ≡ false → last ≡ star → ⊥
no_star last apart is = let itself : nat_eq star star ≡ true = refl in cc

pub fits_alone : (front text : List ℕ) (last : ℕ) → nat_eq last star ≡ false → fits_front (front ++ last ∷ []) text ≡ same_text (front ++ last ∷ []) text
fits_alone front text last apart = by_test (fits_front pattern text) (same_text pattern text) refl refl
  where
    pattern : List ℕ
    pattern = front ++ last ∷ []

    itself : fits_front pattern text ≡ true → text ≡ pattern
    itself = fitting_is_itself pattern text (λ others is. no_star last apart (last_is front others last star is))

    by_test : (a b : Bool) → fits_front pattern text ≡ a → same_text pattern text ≡ b → fits_front pattern text ≡ same_text pattern text
    by_test true true fits same = fits ∙ sym same
    by_test false false fits same = fits ∙ sym same
    by_test true false fits same = fits ∙ sym ((bytes_decides pattern text).1 (sym (itself fits)))
    by_test false true fits same = subst (λ (t : List ℕ). fits_front pattern t ≡ true) ((bytes_decides pattern text).0 same) (fits_front_itself pattern) ∙ sym same

either_byte : (a b : ℕ) → nat_eq a b ≡ nat_eq b a
either_byte a b = grind (arith, nat_tests)

either_text : (one other : List ℕ) → same_text one other ≡ same_text other one
either_text [] [] = refl
either_text [] (byte ∷ other) = refl
either_text (byte ∷ one) [] = refl
either_text (byte ∷ one) (first ∷ other) = ap (λ (b : Bool). b && same_text one other) (either_byte byte first) ∙ ap (λ (b : Bool). nat_eq first byte && b) (either_text one other)

pub fits_itself : (pattern : List ℕ) → ((text : List ℕ) → fits_front pattern text ≡ same_text pattern text) → (path : Option (List ℕ)) → fits_path pattern path ≡ is_path_of pattern path
fits_itself pattern alone None = refl
fits_itself pattern alone (Some path) = alone path ∙ either_text pattern path

both_same : (b : Bool) → b ≡ (b && b)
both_same true = refl
both_same false = refl

-- of a single path the object that was found is all that is asked for
pub asked_alone : (pattern : Option (List ℕ)) (path : List ℕ) (objects found : List Object) → ((object : Object) → is_asked pattern object ≡ has_path path object) → filter (has_path path) objects ≡ found
    → filter (is_asked pattern) found ≡ filter (is_asked pattern) objects
asked_alone pattern path objects found same is =
    ap (filter (is_asked pattern)) (sym is)
    ∙ filter_alike (is_asked pattern) (has_path path) same (filter (has_path path) objects)
    ∙ filter_twice (has_path path) (has_path path) (has_path path) (λ object. both_same (has_path path object)) objects
    ∙ sym (filter_alike (is_asked pattern) (has_path path) same objects)

pub ruleset asked_or_not = (told_nothing, told_some)
