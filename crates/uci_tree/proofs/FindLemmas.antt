-- What a path finds in a package.
use Rattle.std.proofs.Common.{ℕ, ℤ, pos, negsuc, ◌≡◌, ◌+◌, ◌-◌, ◌<◌, ◌≤◌, ◌<ℤ◌, Bool, true, false, cond, List, [], ◌∷◌, length, reverse, count_by, bytes_eq, slice_get, Option, Some, None, unsigned_abs, refl, sym, ap, ◌∙◌, arith}
use Rattle.std.proofs.lemmas.List.{length-reverse, get_or-reverse}
use Rattle.std.proofs.lemmas.List.Sums.{sum_by-cons}
use Rattle.std.proofs.lemmas.Option.{slice_get-get_or, slice_get_past}
use Rattle.std.proofs.lemmas.Int.{ints}
use Rattle.uci_tree.specs.declared.package.Section.{Section}
use Rattle.uci_tree.specs.declared.package.Package.{Package}
use Rattle.uci_tree.specs.declared.path.Path.{Path}
use Rattle.uci_tree.specs.declared.path.SectionRef.{SectionRef}
use Rattle.uci_tree.specs.declared.lookup.Place.{Place}
use Rattle.uci_tree.specs.Find.{places_from, places, place_of_kind, section_place, place_in, place_of}

count_step : (b : Bool) (place : ℕ) (rest : List ℕ) (n : ℕ) → length rest ≡ n → length (cond b (place ∷ rest) rest) ≡ cond b 1 0 + n
count_step true place rest n h = omega (arith, h)
count_step false place rest n h = omega (arith, h)

-- there are as many places as sections of the type
count_of_places : (place : ℕ) (kind : List ℕ) (sections : List Section) → length (places_from place kind sections) ≡ count_by (λ section. bytes_eq section.kind kind) sections
count_of_places place kind [] = refl
count_of_places place kind (section ∷ sections) = count_step (bytes_eq section.kind kind) place (places_from (place + 1) kind sections) _ (count_of_places (place + 1) kind sections)
    ∙ sym (sum_by-cons (λ section. cond (bytes_eq section.kind kind) 1 0) section sections)

-- the one before so many others at the end
back_at : (xs : List ℕ) (k : ℕ) → k < length xs → slice_get (reverse xs) k ≡ slice_get xs (length xs - (k + 1))
back_at xs k h =
    let e : length xs - 1 - k ≡ length xs - (k + 1) = omega arith in
    let within : k < length (reverse xs) = omega (arith, length-reverse xs) in
    let below : length xs - (k + 1) < length xs = omega arith in
    slice_get-get_or (reverse xs) k 0 within ∙ ap Some (get_or-reverse xs k 0 h) ∙ rw e (sym (slice_get-get_or xs (length xs - (k + 1)) 0 below))

pub from_the_end : (sections : List Section) (kind : List ℕ) (index : ℤ) (distance count : ℕ) (r : Option ℕ) → distance ≡ unsigned_abs index → index <ℤ pos 0 → count ≡ count_by (λ section. bytes_eq section.kind kind) sections
    → distance ≤ count → r ≡ slice_get (places kind sections) (count - distance) → r ≡ place_of_kind sections kind index
from_the_end sections kind (pos n) distance count r d neg e h is = absurd (omega (arith, ints))
from_the_end sections kind (negsuc n) distance count r d neg e h is =
    let all : length (places kind sections) ≡ count = count_of_places 0 kind sections ∙ sym e in
    let far : distance ≡ n + 1 = omega (arith, d) in
    let same : count - distance ≡ length (places kind sections) - (n + 1) = omega arith in
    is ∙ ap (slice_get (places kind sections)) same ∙ sym (back_at (places kind sections) n (omega arith))

pub none_from_the_end : (sections : List Section) (kind : List ℕ) (index : ℤ) (distance count : ℕ) → distance ≡ unsigned_abs index → index <ℤ pos 0 → count ≡ count_by (λ section. bytes_eq section.kind kind) sections → count < distance
    → None ≡ place_of_kind sections kind index
none_from_the_end sections kind (pos n) distance count d neg e h = absurd (omega (arith, ints))
none_from_the_end sections kind (negsuc n) distance count d neg e h =
    let all : length (places kind sections) ≡ count = count_of_places 0 kind sections ∙ sym e in
    let far : distance ≡ n + 1 = omega (arith, d) in
    sym (slice_get_past (reverse (places kind sections)) n (omega (arith, length-reverse (places kind sections))))

pub found_in : (tree : Package) (path : Path) (sections : List Section) (reference : SectionRef) (place : ℕ) (section : Section) (r : Option Place) → sections ≡ tree.sections → path.section ≡ Some reference → Some place
    ≡ section_place sections reference → slice_get sections place ≡ Some section → r ≡ place_in section place path.option → r ≡ place_of tree path
found_in tree path sections reference place section r e a b c h = rw (a, ← e, ← b, c) h
