-- No delta is refused for want of memory.
use Rattle.std.proofs.Common.{ℕ, ◌≡◌, Bool, true, false, cond, not, List, [], ◌∷◌, ◌++◌, Option, Some, None, Result, Ok, Err, subst}
use Rattle.std.specs.Prelude.{◌&&◌}
use Rattle.uci_text.specs.declared.byte_class.ByteClass.TheVariants.{Name}
use Rattle.uci_tree.specs.declared.package.Opt.{Opt}
use Rattle.uci_tree.specs.declared.package.Section.{Section}
use Rattle.uci_tree.specs.declared.package.Package.{Package}
use Rattle.uci_tree.specs.Fold.{without, with_option, with_item}
use Rattle.uci_delta.specs.declared.delta.Change.{Change}
use Rattle.uci_delta.specs.declared.delta.Change.TheVariants.{Set, Remove, Add, Rename, Reorder, ListAdd, ListDel}
use Rattle.uci_delta.specs.declared.delta.Delta.{Delta}
use Rattle.uci_delta.specs.declared.delta_error.DeltaError.{DeltaError}
use Rattle.uci_delta.specs.declared.delta_error.DeltaError.TheVariants.{NotFound, Invalid, Duplicate, Memory}
use Rattle.uci_delta.specs.First.{made, first_becomes, first_alone, others}
use Rattle.uci_delta.specs.Names.{is_name_of, is_value}
use Rattle.uci_delta.specs.Place.{place_of}
use Rattle.uci_delta.specs.Options.{is_option, has_option, left_of, with_left, without_item, options_with}
use Rattle.uci_delta.specs.Sections.{is_section, has_section, with_new, are_named, with_kind, with_anonymous, put_at, sections_with, lack_of, in_section}
use Rattle.uci_delta.specs.Applied.{changed, with_sections, applied}

abbrev IsReason : DeltaError → Type 0
IsReason NotFound = Unit {0}
IsReason Invalid = Unit {0}
IsReason Duplicate = Unit {0}
IsReason Memory = ⊥

abbrev IsSettled : {X : Type 0} → Result X DeltaError → Type 0
IsSettled (Ok x) = Unit {0}
IsSettled (Err error) = IsReason error

either : {X : Type 0} (test : Bool) (a b : Result X DeltaError) → IsSettled a → IsSettled b → IsSettled (cond {A = Result X DeltaError} test a b)
either true a b h g = h
either false a b h g = g

made_settled : {X Y : Type 0} (make : X → Y) (r : Result X DeltaError) → IsSettled r → IsSettled (made make r)
made_settled make (Ok x) h = tt
made_settled make (Err error) h = h

first_settled : {X : Type 0} (test : X → Bool) (lack : DeltaError) (becomes : X → Result (List X) DeltaError) (xs : List X) → IsReason lack → ((x : X) → IsSettled (becomes x)) → IsSettled (first_becomes test lack becomes xs)
first_settled test lack becomes [] l h = l
first_settled {X} test lack becomes (x ∷ xs) l h =
    either (test x) (made (λ new. new ++ xs) (becomes x)) (made (λ rest. x ∷ rest) (first_becomes test lack becomes xs))
    (made_settled (λ new. new ++ xs) (becomes x) (h x))
    (made_settled (λ rest. x ∷ rest) (first_becomes test lack becomes xs) (first_settled test lack becomes xs l h))

options_settled : (name : List ℕ) (change : Change) (options : List Opt) → IsSettled (options_with name change options)
options_settled name (Set value) options = either (is_name_of Name name && is_value value) (Ok (with_option name value options)) (Err Invalid) tt tt
options_settled name Remove options = either (has_option name options) (Ok (without name options)) (Err NotFound) tt tt
options_settled name (Add kind) options = tt
options_settled name (Rename new) options =
    first_settled (is_option name) NotFound
    (λ option. cond {A = Result (List Opt) DeltaError} (not (is_name_of Name new)) (Err Invalid) (cond {A = Result (List Opt) DeltaError} (has_option new options) (Err Duplicate) (Ok (record option { name = new } ∷ []))))
    options tt
    (λ option. either (not (is_name_of Name new)) (Err Invalid) (cond {A = Result (List Opt) DeltaError} (has_option new options) (Err Duplicate) (Ok (record option { name = new } ∷ []))) tt
    (either (has_option new options) (Err Duplicate) (Ok (record option { name = new } ∷ [])) tt tt))
options_settled name (Reorder place) options = tt
options_settled name (ListAdd item) options = either (is_name_of Name name && is_value item) (Ok (with_item name item options)) (Err Invalid) tt tt
options_settled name (ListDel item) options =
    either (is_name_of Name name && is_value item) (without_item name item options) (Err Invalid)
    (either (has_option name options) (first_becomes (is_option name) NotFound (λ option. Ok (with_left option (left_of item option.value))) options) (Ok options)
    (first_settled (is_option name) NotFound (λ option. Ok (with_left option (left_of item option.value))) options tt (λ option. tt)) tt)
    tt

put_settled : (place : Option ℕ) (moved rest : List Section) → IsSettled (put_at place moved rest)
put_settled None moved rest = tt
put_settled (Some place) moved rest = tt

sections_settled : (name : List ℕ) (change : Change) (sections : List Section) → IsSettled (sections_with name change sections)
sections_settled name (Set kind) sections =
    either (are_named name kind) (with_kind name kind sections) (Err Invalid)
    (either (has_section name sections) (first_becomes (is_section name) Invalid (λ section. Ok (record section { kind = kind } ∷ [])) sections) (Ok (with_new name false kind sections))
    (first_settled (is_section name) Invalid (λ section. Ok (record section { kind = kind } ∷ [])) sections tt (λ section. tt)) tt)
    tt
sections_settled name Remove sections = first_settled (is_section name) NotFound (λ section. Ok []) sections tt (λ section. tt)
sections_settled name (Add kind) sections =
    either (are_named name kind) (with_anonymous name kind sections) (Err Invalid)
    (either (has_section name sections) (Err Duplicate) (Ok (with_new name true kind sections)) tt tt)
    tt
sections_settled name (Rename new) sections =
    first_settled (is_section name) NotFound
    (λ section. cond {A = Result (List Section) DeltaError} (not (is_name_of Name new)) (Err Invalid)
    (cond {A = Result (List Section) DeltaError} (has_section new sections) (Err Duplicate) (Ok (record section { name = new; anonymous = false } ∷ []))))
    sections tt
    (λ section. either (not (is_name_of Name new)) (Err Invalid) (cond {A = Result (List Section) DeltaError} (has_section new sections) (Err Duplicate) (Ok (record section { name = new; anonymous = false } ∷ []))) tt
    (either (has_section new sections) (Err Duplicate) (Ok (record section { name = new; anonymous = false } ∷ [])) tt tt))
sections_settled name (Reorder place) sections =
    either (has_section name sections) (put_at (place_of place) (first_alone (is_section name) sections) (others (is_section name) sections)) (Err NotFound)
    (put_settled (place_of place) (first_alone (is_section name) sections) (others (is_section name) sections)) tt
sections_settled name (ListAdd item) sections = tt
sections_settled name (ListDel item) sections = tt

lack_is_reason : (change : Change) → IsReason (lack_of change)
lack_is_reason (Set value) = tt
lack_is_reason Remove = tt
lack_is_reason (Add kind) = tt
lack_is_reason (Rename new) = tt
lack_is_reason (Reorder place) = tt
lack_is_reason (ListAdd item) = tt
lack_is_reason (ListDel item) = tt

changed_settled : (name : List ℕ) (option : Option (List ℕ)) (change : Change) (sections : List Section) → IsSettled (changed name option change sections)
changed_settled name None change sections = sections_settled name change sections
changed_settled name (Some option) change sections =
    first_settled (is_section name) (lack_of change) (in_section option change) sections (lack_is_reason change)
    (λ section. made_settled (λ options. record section { options = options } ∷ []) (options_with option change section.options) (options_settled option change section.options))

pub not_for_memory : (tree : Package) (delta : Delta) → applied tree delta ≡ Err Memory → ⊥
not_for_memory tree delta e = subst IsSettled e (made_settled (with_sections tree) (changed delta.section delta.option delta.change tree.sections) (changed_settled delta.section delta.option delta.change tree.sections))
