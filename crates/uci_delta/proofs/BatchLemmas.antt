-- Deltas that are applied one after another.
use Rattle.std.proofs.Common.{ℕ, suc, ◌≡◌, ◌<◌, ◌+◌, Bool, true, false, cond, List, [], ◌∷◌, ◌++◌, length, get_or, take, Option, Some, None, Result, Ok, Err, bytes_eq, is_some, refl, sym, ap, subst, ◌∙◌, arith}
use Rattle.std.specs.Prelude.{IfSome, OnOk, OnErr}
use Rattle.std.specs.Option.{option_map}
use Rattle.std.specs.BTreeMap.{BTreeMap}
use Rattle.std.proofs.lemmas.List.{take_more, length-take-le}
use Rattle.std.proofs.lemmas.Slice.Eq.{bytes_eq-Decides}
use Rattle.uci_tree.specs.declared.package.Section.{Section}
use Rattle.uci_tree.specs.declared.package.Package.{Package}
use Rattle.uci_tree.specs.Find.{named_place}
use Rattle.uci_tree.specs.Index.{first_place, HasPlaces, HasNoted}
use Rattle.uci_tree.specs.Valid.{IsValid}
use Rattle.uci_tree.proofs.FoldLemmas.{position-cons}
use Rattle.uci_tree.proofs.SectionLemmas.{places_push}
use Rattle.uci_delta.specs.declared.delta.Change.{Change}
use Rattle.uci_delta.specs.declared.delta.Change.TheVariants.{Set, Add}
use Rattle.uci_delta.specs.declared.delta.Delta.{Delta}
use Rattle.uci_delta.specs.declared.delta_error.DeltaError.{DeltaError}
use Rattle.uci_delta.specs.declared.delta_error.DeltaError.TheVariants.{NotFound, Invalid, Duplicate, Memory}
use Rattle.uci_delta.specs.DeltaError.{IsRefusalOf}
use Rattle.uci_delta.specs.First.{made, first_becomes}
use Rattle.uci_delta.specs.Options.{options_with}
use Rattle.uci_delta.specs.Sections.{is_section, has_section, with_new, are_named, where_named, with_kind, with_anonymous, lack_of, in_section, sections_with_option}
use Rattle.uci_delta.specs.Applied.{changed, with_sections, applied}
use Rattle.uci_delta.specs.Batch.{or_before, all_applied, HasFrontApplied}
use Rattle.uci_delta.specs.Placed.{ArePlaced, IsNotedIn}
use Rattle.uci_delta.proofs.ValidLemmas.{made_of, applied_valid}

-- the places of one section more
pub places_grow : (old new : BTreeMap (List ℕ) ℕ) (all : List Section) (section d : Section) (place : ℕ) → HasPlaces old (take place all) → HasNoted old new section.name place → place < length all → section ≡ get_or all place d
    → HasPlaces new (take (place + 1) all)
places_grow old new all section d place h n inside e =
    places_push old new (take place all) (take (place + 1) all) section place h n (sym (length-take-le place all (omega (arith, inside)))) (take_more all place d inside ∙ ap (λ (z : Section). take place all ++ z ∷ []) (sym e))

-- the names stay
record SameName (x : Section) (ys : List Section) : Type 0 where
  pub y : Section
  pub one : ys ≡ y ∷ []
  pub name : y.name ≡ x.name

first_named : (name : List ℕ) (x y : Section) (xs ys : List Section) → y.name ≡ x.name → named_place ys name ≡ named_place xs name → named_place (y ∷ ys) name ≡ named_place (x ∷ xs) name
first_named name x y xs ys e h =
    position-cons (λ (section : Section). bytes_eq section.name name) y ys
    ∙ ap (λ (z : List ℕ). cond {A = Option ℕ} (bytes_eq z name) (Some 0) (option_map (λ k. suc k) (named_place ys name))) e
    ∙ ap (λ (z : Option ℕ). cond {A = Option ℕ} (bytes_eq x.name name) (Some 0) (option_map (λ k. suc k) z)) h
    ∙ sym (position-cons (λ (section : Section). bytes_eq section.name name) x xs)

names_stay : (name : List ℕ) (test : Section → Bool) (lack : DeltaError) (becomes : Section → Result (List Section) DeltaError) (old new : List Section) → ((x : Section) (ys : List Section) → becomes x ≡ Ok ys → SameName x ys)
    → first_becomes test lack becomes old ≡ Ok new → named_place new name ≡ named_place old name
names_stay name test lack becomes [] new k e = absurd (let f : ◌≡◌ {A = Result (List Section) DeltaError} (Err lack) (Ok new) = e in cc)
names_stay name test lack becomes (x ∷ xs) new k e = go (λ rest f. names_stay name test lack becomes xs rest k f) (test x) e
  where
    go : ((rest : List Section) → first_becomes test lack becomes xs ≡ Ok rest → named_place rest name ≡ named_place xs name) → (b : Bool)
        → cond {A = Result (List Section) DeltaError} b (made (λ new. new ++ xs) (becomes x)) (made (λ rest. x ∷ rest) (first_becomes test lack becomes xs)) ≡ Ok new → named_place new name ≡ named_place (x ∷ xs) name
    go later true f =
        let m = made_of (λ new. new ++ xs) (becomes x) new f in
        let s = k x m.x m.found in
        ap (λ (z : List Section). named_place z name) (m.is ∙ ap (λ (z : List Section). z ++ xs) s.one) ∙ first_named name x s.y xs xs s.name refl
    go later false f =
        let m = made_of (λ (rest : List Section). x ∷ rest) (first_becomes test lack becomes xs) new f in
        ap (λ (z : List Section). named_place z name) m.is ∙ first_named name x x xs m.x refl (later m.x m.found)

option_keeps : (option : List ℕ) (change : Change) (x : Section) (ys : List Section) → in_section option change x ≡ Ok ys → SameName x ys
option_keeps option change x ys e =
    let m = made_of (λ options. record x { options = options } ∷ []) (options_with option change x.options) ys e in
    record { y = record x { options = m.x }; one = m.is; name = refl }

pub option_names : (name option : List ℕ) (change : Change) (old new : List Section) (other : List ℕ) → sections_with_option name option change old ≡ Ok new → named_place new other ≡ named_place old other
option_names name option change old new other e = names_stay other (is_section name) (lack_of change) (in_section option change) old new (option_keeps option change) e

placed_same : (places : Option (BTreeMap (List ℕ) ℕ)) (old new : List Section) → ((name : List ℕ) → named_place new name ≡ named_place old name) → ArePlaced places old → ArePlaced places new
placed_same None old new k h = tt
placed_same (Some known) old new k h = λ name. h name ∙ sym (k name)

pub option_placed : (places : Option (BTreeMap (List ℕ) ℕ)) (name option : List ℕ) (change : Change) (old new : List Section) → ArePlaced places old → sections_with_option name option change old ≡ Ok new → ArePlaced places new
option_placed places name option change old new h e = placed_same places old new (λ other. option_names name option change old new other e) h

-- a name that is noted
known_first : (place other : Option ℕ) → is_some place ≡ true → first_place place other ≡ place
known_first None other e = absurd (let f : false ≡ true = e in cc)
known_first (Some place) other e = refl

no_second : (place : Option ℕ) → first_place place None ≡ place
no_second None = refl
no_second (Some place) = refl

noted_known : (old new : BTreeMap (List ℕ) ℕ) (sections : List Section) (name : List ℕ) (place : ℕ) → HasPlaces old sections → HasNoted old new name place → is_some (named_place sections name) ≡ true → HasPlaces new sections
noted_known old new sections name place h n k other =
    n other
    ∙ ap (λ (z : Option ℕ). first_place z (cond {A = Option ℕ} (bytes_eq name other) (Some place) None)) (h other)
    ∙ stays (bytes_eq name other) refl
  where
    stays : (b : Bool) → bytes_eq name other ≡ b → first_place (named_place sections other) (cond {A = Option ℕ} b (Some place) None) ≡ named_place sections other
    stays false e = no_second (named_place sections other)
    stays true e = known_first (named_place sections other) (Some place) (subst (λ (z : List ℕ). is_some (named_place sections z) ≡ true) ((bytes_eq-Decides name other).0 e) k)

taken : (b : Bool) (r : Result (List Section) DeltaError) (error : DeltaError) (new : List Section) → cond {A = Result (List Section) DeltaError} b r (Err error) ≡ Ok new → r ≡ Ok new
taken true r error new e = e
taken false r error new e = absurd (let f : ◌≡◌ {A = Result (List Section) DeltaError} (Err error) (Ok new) = e in cc)

not_taken : (b : Bool) (r : Result (List Section) DeltaError) (error : DeltaError) (new : List Section) → cond {A = Result (List Section) DeltaError} b (Err error) r ≡ Ok new → r ≡ Ok new
not_taken false r error new e = e
not_taken true r error new e = absurd (let f : ◌≡◌ {A = Result (List Section) DeltaError} (Err error) (Ok new) = e in cc)

same_list : (a b : List Section) → ◌≡◌ {A = Result (List Section) DeltaError} (Ok a) (Ok b) → b ≡ a
same_list a b e = cc

-- the places behind a section of this name that was there, or comes to the end
data Comes (name : List ℕ) (old new : List Section) : Type 0 where
  was_there : is_some (named_place old name) ≡ true → ((other : List ℕ) → named_place new other ≡ named_place old other) → Comes name old new
  comes_last : (section : Section) → section.name ≡ name → new ≡ old ++ section ∷ [] → Comes name old new

kind_comes : (name kind : List ℕ) (old new : List Section) → where_named name kind (with_kind name kind old) ≡ Ok new → Comes name old new
kind_comes name kind old new e = go (has_section name old) refl (taken (are_named name kind) (with_kind name kind old) Invalid new e)
  where
    go : (b : Bool) → has_section name old ≡ b → cond {A = Result (List Section) DeltaError} b (first_becomes (is_section name) Invalid (λ section. Ok (record section { kind = kind } ∷ [])) old) (Ok (with_new name false kind old)) ≡ Ok new
        → Comes name old new
    go true t f = was_there t (λ other. names_stay other (is_section name) Invalid (λ section. Ok (record section { kind = kind } ∷ [])) old new
        (λ x ys g. record { y = record x { kind = kind }; one = same_list (record x { kind = kind } ∷ []) ys g; name = refl }) f)
    go false t f = comes_last (record { name = name; anonymous = false; kind = kind; options = [] }) refl (same_list (with_new name false kind old) new f)

anonymous_comes : (name kind : List ℕ) (old new : List Section) → where_named name kind (with_anonymous name kind old) ≡ Ok new → Comes name old new
anonymous_comes name kind old new e =
    comes_last (record { name = name; anonymous = true; kind = kind; options = [] }) refl
    (same_list (with_new name true kind old) new (not_taken (has_section name old) (Ok (with_new name true kind old)) Duplicate new (taken (are_named name kind) (with_anonymous name kind old) Invalid new e)))

noted_comes : (p q : BTreeMap (List ℕ) ℕ) (name : List ℕ) (old new : List Section) (before : ℕ) → HasPlaces p old → HasNoted p q name before → before ≡ length old → Comes name old new → HasPlaces q new
noted_comes p q name old new before h n b (was_there k s) = λ other. noted_known p q old name before h n k other ∙ sym (s other)
noted_comes p q name old new before h n b (comes_last section e w) = places_push p q old new section before h (subst (λ (z : List ℕ). HasNoted p q z before) (sym e) n) b w

abbrev pub IfNoted : Option (BTreeMap (List ℕ) ℕ) → Option (BTreeMap (List ℕ) ℕ) → List ℕ → ℕ → Type 0
IfNoted places result name place = IfSome result (λ new. IsNotedIn places new name place)

known_placed : (places result : Option (BTreeMap (List ℕ) ℕ)) (name : List ℕ) (old new : List Section) (before : ℕ) → ArePlaced places old → IfNoted places result name before → before ≡ length old → Comes name old new → ArePlaced result new
known_placed places None name old new before h n b c = tt
known_placed places (Some q) name old new before h n b c =
    noted_comes n.0 q name old new before (subst (λ (z : Option (BTreeMap (List ℕ) ℕ)). ArePlaced z old) n.1 h) n.2 b c

-- the places that are kept
pub follow_option : (places : Option (BTreeMap (List ℕ) ℕ)) (name option : List ℕ) (given : Option (List ℕ)) (change : Change) (old new : List Section) → given ≡ Some option → ArePlaced places old → changed name given change old ≡ Ok new
    → ArePlaced places new
follow_option places name option given change old new g h e = option_placed places name option change old new h (ap (λ (z : Option (List ℕ)). changed name z change old) (sym g) ∙ e)

pub follow_kind : (places result : Option (BTreeMap (List ℕ) ℕ)) (name kind : List ℕ) (given : Option (List ℕ)) (change : Change) (old new : List Section) (before : ℕ) → given ≡ None → change ≡ Set kind → IfNoted places result name before
    → ArePlaced places old → changed name given change old ≡ Ok new → before ≡ length old → ArePlaced result new
follow_kind places result name kind given change old new before g s n h e b =
    known_placed places result name old new before h n b (kind_comes name kind old new (ap (λ (z : Change). changed name None z old) (sym s) ∙ ap (λ (z : Option (List ℕ)). changed name z change old) (sym g) ∙ e))

pub follow_added : (places result : Option (BTreeMap (List ℕ) ℕ)) (name kind : List ℕ) (given : Option (List ℕ)) (change : Change) (old new : List Section) (before : ℕ) → given ≡ None → change ≡ Add kind → IfNoted places result name before
    → ArePlaced places old → changed name given change old ≡ Ok new → before ≡ length old → ArePlaced result new
follow_added places result name kind given change old new before g s n h e b =
    known_placed places result name old new before h n b (anonymous_comes name kind old new (ap (λ (z : Change). changed name None z old) (sym s) ∙ ap (λ (z : Option (List ℕ)). changed name z change old) (sym g) ∙ e))

-- a refused delta is passed over
pub passed_over : (tree : Package) (delta : Delta) (error : DeltaError) → IsRefusalOf (changed delta.section delta.option delta.change tree.sections) error → (error ≡ Memory → ⊥) → tree ≡ or_before tree (applied tree delta)
passed_over tree delta NotFound r n = sym (ap (λ (z : Result (List Section) DeltaError). or_before tree (made (with_sections tree) z)) r)
passed_over tree delta Invalid r n = sym (ap (λ (z : Result (List Section) DeltaError). or_before tree (made (with_sections tree) z)) r)
passed_over tree delta Duplicate r n = sym (ap (λ (z : Result (List Section) DeltaError). or_before tree (made (with_sections tree) z)) r)
passed_over tree delta Memory r n = absurd (n refl)

-- one delta more
all_append : (tree : Package) (deltas : List Delta) (delta : Delta) → all_applied tree (deltas ++ delta ∷ []) ≡ or_before (all_applied tree deltas) (applied (all_applied tree deltas) delta)
all_append tree [] delta = refl
all_append tree (first ∷ deltas) delta = all_append (or_before tree (applied tree first)) deltas delta

pub one_more_applied : (tree before after : Package) (deltas : List Delta) (delta d : Delta) (i : ℕ) → before ≡ all_applied tree (take i deltas) → after ≡ or_before before (applied before delta) → i < length deltas → delta
    ≡ get_or deltas i d → after ≡ all_applied tree (take (i + 1) deltas)
one_more_applied tree before after deltas delta d i b a inside e =
    a
    ∙ ap (λ (z : Package). or_before z (applied z delta)) b
    ∙ sym (all_append tree (take i deltas) delta)
    ∙ ap (λ (z : Delta). all_applied tree (take i deltas ++ z ∷ [])) e
    ∙ ap (all_applied tree) (sym (take_more deltas i d inside))

-- a valid package stays valid
or_before_valid : (tree : Package) (delta : Delta) → IsValid tree → IsValid (or_before tree (applied tree delta))
or_before_valid tree delta v = go (applied tree delta) refl
  where
    go : (r : Result Package DeltaError) → applied tree delta ≡ r → IsValid (or_before tree r)
    go (Ok new) e = applied_valid tree new delta v e
    go (Err error) e = v

pub all_valid : (tree : Package) (deltas : List Delta) → IsValid tree → IsValid (all_applied tree deltas)
all_valid tree [] v = v
all_valid tree (delta ∷ deltas) v = all_valid (or_before tree (applied tree delta)) deltas (or_before_valid tree delta v)

-- the package of the batch behind it all
pub err_of : {T E P : Type 0} (r : Result T E) → P → OnErr r P
err_of (Ok x) p = tt
err_of (Err e) p = p

abbrev package_from : List ℕ → List Section → ℕ → Package
package_from name sections made = record { name = name; sections = sections; made = made }

pub whole_done : (tree : Package) (deltas : List Delta) (taken old left given : List Section) (count : ℕ) → taken ≡ old → old ≡ tree.sections → given ≡ left
    → ((name : List ℕ) → package_from name left count ≡ all_applied (package_from name taken tree.made) deltas) → package_from tree.name given count ≡ all_applied tree deltas
whole_done tree deltas taken old left given count t o g h =
    ap (λ (z : List Section). package_from tree.name z count) g
    ∙ h tree.name
    ∙ ap (λ (z : List Section). all_applied (package_from tree.name z tree.made) deltas) (t ∙ o)

pub whole_front : (tree : Package) (deltas : List Delta) (taken old left given : List Section) (count : ℕ) → taken ≡ old → old ≡ tree.sections → given ≡ left
    → ((name : List ℕ) → HasFrontApplied (package_from name taken tree.made) deltas (package_from name left count)) → HasFrontApplied tree deltas (package_from tree.name given count)
whole_front tree deltas taken old left given count t o g h =
    let f = h tree.name in
    record {
      count = f.count;
      are =
          ap (λ (z : List Section). package_from tree.name z count) g
          ∙ f.are
          ∙ ap (λ (z : List Section). all_applied (package_from tree.name z tree.made) (take f.count deltas)) (t ∙ o);
    }

pub valid_either : {T E : Type 0} (tree new : Package) (deltas : List Delta) (r : Result T E) → OnOk r (new ≡ all_applied tree deltas) → OnErr r (HasFrontApplied tree deltas new) → IsValid tree → IsValid new
valid_either tree new deltas (Ok x) d f v = subst IsValid (sym d) (all_valid tree deltas v)
valid_either tree new deltas (Err e) d f v = subst IsValid (sym f.are) (all_valid tree (take f.count deltas) v)
