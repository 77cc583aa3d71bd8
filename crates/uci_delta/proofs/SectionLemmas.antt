-- Sections by their places.
use Rattle.std.proofs.Common.{ℕ, ◌≡◌, Bool, true, false, not, cond, List, [], ◌∷◌, get_or, set, Option, Some, None, Result, Ok, Err, sym, ap, ◌∙◌}
use Rattle.std.specs.List.{remove}
use Rattle.uci_text.specs.declared.byte_class.ByteClass.TheVariants.{Name}
use Rattle.uci_tree.specs.declared.package.Section.{Section}
use Rattle.uci_tree.specs.Find.{named_place}
use Rattle.uci_delta.specs.declared.delta.Change.{Change}
use Rattle.uci_delta.specs.declared.delta_error.DeltaError.{DeltaError}
use Rattle.uci_delta.specs.declared.delta_error.DeltaError.TheVariants.{NotFound, Invalid, Duplicate, Memory}
use Rattle.uci_delta.specs.DeltaError.{IsRefusalOf}
use Rattle.uci_delta.specs.First.{made, first_becomes, first_alone, others}
use Rattle.uci_delta.specs.Names.{is_name_of}
use Rattle.uci_delta.specs.Place.{place_of}
use Rattle.uci_delta.specs.Sections.{is_section, has_section, with_new, are_named, where_named, with_kind, section_renamed, put_at, reordered, lack_of, in_section, sections_with_option}
use Rattle.uci_delta.proofs.FirstLemmas.{with_at, becomes_at, becomes_none, place_within, set_is, others_at, alone_at, at_place, at_place_is, is_there, not_there}

-- the place that the code found
pub section_found : (xs sections : List Section) (bytes name : List ℕ) (result answer : Option ℕ) → result ≡ named_place xs bytes → xs ≡ sections → bytes ≡ name → result ≡ answer → named_place sections name ≡ answer
section_found xs sections bytes name result answer h a b e = ap (λ (z : List Section). named_place z name) (sym a) ∙ ap (named_place xs) (sym b) ∙ sym h ∙ e

-- a section that goes
abbrev gone : Section → Result (List Section) DeltaError
gone section = Ok []

pub removed_lacks : (name : List ℕ) (sections : List Section) → named_place sections name ≡ None → first_becomes (is_section name) NotFound (λ section. Ok []) sections ≡ Err NotFound
removed_lacks name sections e = becomes_none (is_section name) NotFound gone sections e

pub removed_done : (name : List ℕ) (sections new : List Section) (i : ℕ) → named_place sections name ≡ Some i → new ≡ remove sections i → first_becomes (is_section name) NotFound (λ section. Ok []) sections ≡ Ok new
removed_done name sections new i e w =
    becomes_at (is_section name) NotFound gone sections i (at_place sections i (place_within (is_section name) sections i e)) e (at_place_is sections i (place_within (is_section name) sections i e))
    ∙ ap (λ (z : List Section). Ok z) (sym w)

-- a type
pub kind_set : (name kind other : List ℕ) (sections : List Section) (i : ℕ) (x : Section) (named : Bool) → named ≡ are_named name kind → named ≡ true → named_place sections name ≡ Some i → x ≡ get_or sections i x → other ≡ kind
    → where_named name kind (with_kind name kind sections) ≡ Ok (set sections i (record { name = x.name; anonymous = x.anonymous; kind = other; options = x.options }))
kind_set name kind other sections i x named n t e g o =
    ap (λ (z : Bool). cond {A = Result (List Section) DeltaError} z (with_kind name kind sections) (Err Invalid)) (sym n ∙ t)
    ∙ ap (λ (z : Bool). cond {A = Result (List Section) DeltaError} z (first_becomes (is_section name) Invalid (λ section. Ok (record section { kind = kind } ∷ [])) sections) (Ok (with_new name false kind sections)))
    (is_there (named_place sections name) i e)
    ∙ becomes_at (is_section name) Invalid (λ section. Ok (record section { kind = kind } ∷ [])) sections i x e g
    ∙ ap (λ (z : List Section). Ok z) (sym (set_is sections i (record x { kind = kind }) (place_within (is_section name) sections i e))
    ∙ ap (λ (z : List ℕ). set sections i (record { name = x.name; anonymous = x.anonymous; kind = z; options = x.options })) (sym o))

-- a change of name
abbrev renamed_to : List ℕ → List Section → Section → Result (List Section) DeltaError
renamed_to new sections section = cond {A = Result (List Section) DeltaError} (not (is_name_of Name new)) (Err Invalid)
    (cond {A = Result (List Section) DeltaError} (has_section new sections) (Err Duplicate) (Ok (record section { name = new; anonymous = false } ∷ [])))

pub renamed_lacks : (name new : List ℕ) (sections : List Section) → named_place sections name ≡ None → section_renamed name new sections ≡ Err NotFound
renamed_lacks name new sections e = becomes_none (is_section name) NotFound (renamed_to new sections) sections e

renamed_at : (name new : List ℕ) (sections : List Section) (i : ℕ) (x : Section) → named_place sections name ≡ Some i → x ≡ get_or sections i x → section_renamed name new sections ≡ made (with_at sections i) (renamed_to new sections x)
renamed_at name new sections i x e g = becomes_at (is_section name) NotFound (renamed_to new sections) sections i x e g

pub renamed_invalid : (name new : List ℕ) (sections : List Section) (i : ℕ) → named_place sections name ≡ Some i → is_name_of Name new ≡ false → section_renamed name new sections ≡ Err Invalid
renamed_invalid name new sections i e n =
    let x : Section = at_place sections i (place_within (is_section name) sections i e) in
    renamed_at name new sections i x e (at_place_is sections i (place_within (is_section name) sections i e))
    ∙ ap (λ (t : Bool). made (with_at sections i) (cond {A = Result (List Section) DeltaError} (not t) (Err Invalid)
    (cond {A = Result (List Section) DeltaError} (has_section new sections) (Err Duplicate) (Ok (record x { name = new; anonymous = false } ∷ []))))) n

pub renamed_duplicate : (name new : List ℕ) (sections : List Section) (i k : ℕ) → named_place sections name ≡ Some i → is_name_of Name new ≡ true → named_place sections new ≡ Some k → section_renamed name new sections ≡ Err Duplicate
renamed_duplicate name new sections i k e n d =
    let x : Section = at_place sections i (place_within (is_section name) sections i e) in
    renamed_at name new sections i x e (at_place_is sections i (place_within (is_section name) sections i e))
    ∙ ap (λ (t : Bool). made (with_at sections i) (cond {A = Result (List Section) DeltaError} (not t) (Err Invalid)
    (cond {A = Result (List Section) DeltaError} (has_section new sections) (Err Duplicate) (Ok (record x { name = new; anonymous = false } ∷ []))))) n
    ∙ ap (λ (t : Bool). made (with_at sections i) (cond {A = Result (List Section) DeltaError} t (Err Duplicate) (Ok (record x { name = new; anonymous = false } ∷ [])))) (is_there (named_place sections new) k d)

pub renamed_done : (name new other : List ℕ) (sections : List Section) (i : ℕ) (x : Section) → named_place sections name ≡ Some i → x ≡ get_or sections i x → is_name_of Name new ≡ true → named_place sections new ≡ None → other ≡ new
    → section_renamed name new sections ≡ Ok (set sections i (record { name = other; anonymous = false; kind = x.kind; options = x.options }))
renamed_done name new other sections i x e g n d o =
    renamed_at name new sections i x e g
    ∙ ap (λ (t : Bool). made (with_at sections i) (cond {A = Result (List Section) DeltaError} (not t) (Err Invalid)
    (cond {A = Result (List Section) DeltaError} (has_section new sections) (Err Duplicate) (Ok (record x { name = new; anonymous = false } ∷ []))))) n
    ∙ ap (λ (t : Bool). made (with_at sections i) (cond {A = Result (List Section) DeltaError} t (Err Duplicate) (Ok (record x { name = new; anonymous = false } ∷ [])))) (not_there (named_place sections new) d)
    ∙ ap (λ (z : List Section). Ok z) (sym (set_is sections i (record x { name = new; anonymous = false }) (place_within (is_section name) sections i e))
    ∙ ap (λ (z : List ℕ). set sections i (record { name = z; anonymous = false; kind = x.kind; options = x.options })) (sym o))

-- another place
pub moved : (name digits : List ℕ) (sections new : List Section) (i place : ℕ) → named_place sections name ≡ Some i → place_of digits ≡ Some place
    → ((section : Section) → section ≡ get_or sections i section → ◌≡◌ {A = Result (List Section) DeltaError} (Ok new) (put_at (Some place) (section ∷ []) (remove sections i))) → reordered name digits sections ≡ Ok new
moved name digits sections new i place e p k =
    let x : Section = at_place sections i (place_within (is_section name) sections i e) in
    let g : x ≡ get_or sections i x = at_place_is sections i (place_within (is_section name) sections i e) in
    ap (λ (t : Bool). cond {A = Result (List Section) DeltaError} t (put_at (place_of digits) (first_alone (is_section name) sections) (others (is_section name) sections)) (Err NotFound)) (is_there (named_place sections name) i e)
    ∙ ap (λ (z : Option ℕ). put_at z (first_alone (is_section name) sections) (others (is_section name) sections)) p
    ∙ ap (λ (z : List Section). put_at (Some place) z (others (is_section name) sections)) (alone_at (is_section name) sections i x e g)
    ∙ ap (put_at (Some place) (x ∷ [])) (others_at (is_section name) sections i e)
    ∙ sym (k x g)

-- an option
pub refuses : {X : Type 0} (outcome : Result X DeltaError) (error : DeltaError) → outcome ≡ Err error → IsRefusalOf outcome error
refuses outcome NotFound e = e
refuses outcome Invalid e = e
refuses outcome Duplicate e = e
refuses outcome Memory e = tt

refused_through : {X Y : Type 0} (make : X → Y) (outcome : Result Y DeltaError) (inner : Result X DeltaError) (error : DeltaError) → outcome ≡ made make inner → IsRefusalOf inner error → IsRefusalOf outcome error
refused_through make outcome inner NotFound e h = e ∙ ap (made make) h
refused_through make outcome inner Invalid e h = e ∙ ap (made make) h
refused_through make outcome inner Duplicate e h = e ∙ ap (made make) h
refused_through make outcome inner Memory e h = tt

option_at : (name option : List ℕ) (change : Change) (sections : List Section) (i : ℕ) (x : Section) → named_place sections name ≡ Some i → x ≡ get_or sections i x → sections_with_option name option change sections
    ≡ made (with_at sections i) (in_section option change x)
option_at name option change sections i x e g = becomes_at (is_section name) (lack_of change) (in_section option change) sections i x e g

pub option_lacks : (name option : List ℕ) (change : Change) (sections : List Section) (error : DeltaError) → named_place sections name ≡ None → error ≡ lack_of change → IsRefusalOf (sections_with_option name option change sections) error
option_lacks name option change sections error e l = refuses _ error (becomes_none (is_section name) (lack_of change) (in_section option change) sections e ∙ ap Err (sym l))

pub option_done : (name option : List ℕ) (change : Change) (sections : List Section) (i : ℕ) (x y : Section) → named_place sections name ≡ Some i → x ≡ get_or sections i x → in_section option change x ≡ Ok (y ∷ [])
    → sections_with_option name option change sections ≡ Ok (set sections i y)
option_done name option change sections i x y e g d =
    option_at name option change sections i x e g
    ∙ ap (made (with_at sections i)) d
    ∙ ap (λ (z : List Section). Ok z) (sym (set_is sections i y (place_within (is_section name) sections i e)))

pub option_refused : (name option : List ℕ) (change : Change) (sections : List Section) (i : ℕ) (x : Section) (error : DeltaError) → named_place sections name ≡ Some i → x ≡ get_or sections i x
    → IsRefusalOf (in_section option change x) error → IsRefusalOf (sections_with_option name option change sections) error
option_refused name option change sections i x error e g h = refused_through (with_at sections i) _ (in_section option change x) error (option_at name option change sections i x e g) h
