-- A valid package stays valid.
use Rattle.std.proofs.Common.{ℕ, zero, suc, ◌≡◌, ◌≢◌, Bool, true, false, not, cond, List, [], ◌∷◌, ◌++◌, take, drop, Option, Some, None, Result, Ok, Err, bytes_eq, is_some, position, refl, sym, ap, subst, ◌∙◌, arith}
use Rattle.std.specs.Prelude.{◌&&◌}
use Rattle.std.specs.List.{AllByRecursion, filter}
use Rattle.std.specs.Option.{option_map}
use Rattle.plane_words.specs.Distinct.{AreDistinct}
use Rattle.uci_text.specs.declared.byte_class.ByteClass.TheVariants.{Name, Printable, NotZero}
use Rattle.uci_text.specs.ByteClass.{AllIn}
use Rattle.uci_text.specs.Table.{IsNameOf}
use Rattle.uci_text.proofs.ClassLemmas.{each-append}
use Rattle.uci_tree.specs.declared.package.Value.{Value}
use Rattle.uci_tree.specs.declared.package.Value.TheVariants.{One, Many}
use Rattle.uci_tree.specs.declared.package.Opt.{Opt}
use Rattle.uci_tree.specs.declared.package.Section.{Section}
use Rattle.uci_tree.specs.declared.package.Package.{Package}
use Rattle.uci_tree.specs.Fold.{without, with_option, with_item}
use Rattle.uci_tree.specs.Valid.{IsValidValue, IsValidOption, names_of, IsValidSection, IsValid}
use Rattle.uci_tree.proofs.FoldLemmas.{position-cons}
use Rattle.uci_tree.proofs.ValidLemmas.{AreValid, option_valid, item_valid, without_each, without_distinct, apart_names}
use Rattle.uci_delta.specs.declared.delta.Change.{Change}
use Rattle.uci_delta.specs.declared.delta.Change.TheVariants.{Set, Remove, Add, Rename, Reorder, ListAdd, ListDel}
use Rattle.uci_delta.specs.declared.delta.Delta.{Delta}
use Rattle.uci_delta.specs.declared.delta_error.DeltaError.{DeltaError}
use Rattle.uci_delta.specs.declared.delta_error.DeltaError.TheVariants.{NotFound, Invalid, Duplicate}
use Rattle.uci_delta.specs.Names.{is_name_of, is_value}
use Rattle.uci_delta.specs.Place.{place_of}
use Rattle.uci_delta.specs.First.{made, first_becomes, first_alone, others}
use Rattle.uci_delta.specs.Options.{is_option, has_option, option_renamed, list_of, left_of, with_left, without_item, where_valid, options_with}
use Rattle.uci_delta.specs.Sections.{is_section, has_section, with_new, are_named, where_named, with_kind, with_anonymous, section_renamed, put_at, sections_with, lack_of, in_section}
use Rattle.uci_delta.specs.Applied.{changed, with_sections, applied}
use Rattle.uci_delta.proofs.NameLemmas.{all_from, name_from, first_true, second_true}

-- what is made of an answer
pub record MadeOf {X Y : Type 0} (make : X → Y) (answer : Result X DeltaError) (y : Y) : Type 0 where
  pub x : X
  pub found : answer ≡ Ok x
  pub is : y ≡ make x

pub made_of : {X Y : Type 0} (make : X → Y) (answer : Result X DeltaError) (y : Y) → made make answer ≡ Ok y → MadeOf make answer y
made_of make (Ok x) y e = record { x = x; found = refl; is = let f : ◌≡◌ {A = Result _ DeltaError} (Ok (make x)) (Ok y) = e in cc }
made_of make (Err error) y e = absurd (let f : ◌≡◌ {A = Result _ DeltaError} (Err error) (Ok y) = e in cc)

-- where the test is, the answer is the first
pub where_true : {X : Type 0} (t : Bool) (answer : Result X DeltaError) (error : DeltaError) (x : X) → cond {A = Result X DeltaError} t answer (Err error) ≡ Ok x → (t ≡ true) × (answer ≡ Ok x)
where_true true answer error x e = (refl, e)
where_true false answer error x e = absurd (let f : ◌≡◌ {A = Result _ DeltaError} (Err error) (Ok x) = e in cc)

pub where_false : {X : Type 0} (t : Bool) (answer : Result X DeltaError) (error : DeltaError) (x : X) → cond {A = Result X DeltaError} t (Err error) answer ≡ Ok x → (t ≡ false) × (answer ≡ Ok x)
where_false false answer error x e = (refl, e)
where_false true answer error x e = absurd (let f : ◌≡◌ {A = Result _ DeltaError} (Err error) (Ok x) = e in cc)

ok_same : {X : Type 0} (x y : X) → ◌≡◌ {A = Result X DeltaError} (Ok x) (Ok y) → y ≡ x
ok_same x y e = cc

keeps_step : {X : Type 0} (P : X → Type 0) (b : Bool) (y : X) (ys new : List X) (answer rest : Result (List X) DeltaError) → ((zs : List X) → answer ≡ Ok zs → AllByRecursion P zs) → ((zs : List X) → rest ≡ Ok zs → AllByRecursion P zs) → P y
    → AllByRecursion P ys → cond {A = Result (List X) DeltaError} b (made (λ new. new ++ ys) answer) (made (λ rest. y ∷ rest) rest) ≡ Ok new → AllByRecursion P new
keeps_step P true y ys new answer rest k r p h e =
    let m = made_of (λ new. new ++ ys) answer new e in
    subst (AllByRecursion P) (sym m.is) (each-append P m.x ys (k m.x m.found) h)
keeps_step P false y ys new answer rest k r p h e =
    let m = made_of (λ (zs : List _). y ∷ zs) rest new e in
    subst (AllByRecursion P) (sym m.is) (p, r m.x m.found)

-- what holds of each item, and of what the first becomes
pub becomes_keeps : {X : Type 0} (P : X → Type 0) (test : X → Bool) (lack : DeltaError) (becomes : X → Result (List X) DeltaError) (xs new : List X) → ((x : X) (zs : List X) → P x → becomes x ≡ Ok zs → AllByRecursion P zs)
    → AllByRecursion P xs → first_becomes test lack becomes xs ≡ Ok new → AllByRecursion P new
becomes_keeps P test lack becomes [] new k h e = absurd (let f : ◌≡◌ {A = Result _ DeltaError} (Err lack) (Ok new) = e in cc)
becomes_keeps P test lack becomes (y ∷ ys) new k h e = keeps_step P (test y) y ys new (becomes y) (first_becomes test lack becomes ys) (λ zs f. k y zs h.0 f) (λ zs f. becomes_keeps P test lack becomes ys zs k h.1 f) h.0 h.1 e

no_answer : {X : Type 0} {A : Type 0} (error : DeltaError) (x : X) → ◌≡◌ {A = Result X DeltaError} (Err error) (Ok x) → A
no_answer error x e = absurd (let f : ◌≡◌ {A = Result _ DeltaError} (Err error) (Ok x) = e in cc)

not_false : (b : Bool) → not b ≡ false → b ≡ true
not_false true e = refl
not_false false e = absurd (let f : true ≡ false = e in cc)

-- options
lacks_of : (key : List ℕ) (options : List Opt) → AllByRecursion (λ (option : Opt). option.name ≢ key) options → AllByRecursion (λ other. other ≢ key) (names_of options)
lacks_of key [] h = tt
lacks_of key (option ∷ options) h = (h.0, lacks_of key options h.1)

lacks_from : (key : List ℕ) (options : List Opt) → AllByRecursion (λ other. other ≢ key) (names_of options) → AllByRecursion (λ (option : Opt). option.name ≢ key) options
lacks_from key [] h = tt
lacks_from key (option ∷ options) h = (h.0, lacks_from key options h.1)

-- what the first option becomes has a name that the others lack
record StaysApart (Q : Opt → Type 0) (becomes : Opt → Result (List Opt) DeltaError) : Type 0 where
  before : (x : Opt) (zs rest : List Opt) → becomes x ≡ Ok zs → AllByRecursion Q rest → AllByRecursion (λ (option : Opt). option.name ≢ x.name) rest → AreDistinct (names_of rest) → AreDistinct (names_of (zs ++ rest))
  behind : (x y : Opt) (zs : List Opt) → becomes x ≡ Ok zs → Q y → x.name ≢ y.name → AllByRecursion (λ (option : Opt). option.name ≢ y.name) zs

distinct_step : (Q : Opt → Type 0) (becomes : Opt → Result (List Opt) DeltaError) (b : Bool) (y : Opt) (ys new : List Opt) (rest : Result (List Opt) DeltaError) → StaysApart Q becomes → AllByRecursion Q (y ∷ ys)
    → AreDistinct (names_of (y ∷ ys)) → ((zs : List Opt) → rest ≡ Ok zs → AllByRecursion (λ (option : Opt). option.name ≢ y.name) zs) → ((zs : List Opt) → rest ≡ Ok zs → AreDistinct (names_of zs))
    → cond {A = Result (List Opt) DeltaError} b (made (λ new. new ++ ys) (becomes y)) (made (λ rest. y ∷ rest) rest) ≡ Ok new → AreDistinct (names_of new)
distinct_step Q becomes true y ys new rest s q d l r e =
    let m = made_of (λ new. new ++ ys) (becomes y) new e in
    let P : List Opt → Type 0 = λ z. AreDistinct (names_of z) in
    subst P (sym m.is) (s.before y m.x ys m.found q.1 (lacks_from y.name ys d.0) d.1)
distinct_step Q becomes false y ys new rest s q d l r e =
    let m = made_of (λ (zs : List Opt). y ∷ zs) rest new e in
    let P : List Opt → Type 0 = λ z. AreDistinct (names_of z) in
    subst P (sym m.is) (lacks_of y.name m.x (l m.x m.found), r m.x m.found)

becomes_distinct : (Q : Opt → Type 0) (test : Opt → Bool) (lack : DeltaError) (becomes : Opt → Result (List Opt) DeltaError) (options new : List Opt) → StaysApart Q becomes → AllByRecursion Q options → AreDistinct (names_of options)
    → first_becomes test lack becomes options ≡ Ok new → AreDistinct (names_of new)
becomes_distinct Q test lack becomes [] new s q d e = no_answer lack new e
becomes_distinct Q test lack becomes (y ∷ ys) new s q d e =
    distinct_step Q becomes (test y) y ys new (first_becomes test lack becomes ys) s q d
    (λ zs f. becomes_keeps (λ (option : Opt). option.name ≢ y.name) test lack becomes ys zs (λ x ws n g. s.behind x y ws g q.0 n) (lacks_from y.name ys d.0) f)
    (λ zs f. becomes_distinct Q test lack becomes ys zs s q.1 d.1 f)
    e

-- an option that no option has the name of
absent_step : (b : Bool) (place : Option ℕ) → is_some (cond {A = Option ℕ} b (Some 0) (option_map (λ k. suc k) place)) ≡ false → (b ≡ false) × (is_some place ≡ false)
absent_step true place e = absurd (let f : true ≡ false = e in cc)
absent_step false None e = (refl, refl)
absent_step false (Some k) e = absurd (let f : true ≡ false = e in cc)

absent : (new : List ℕ) (options : List Opt) → has_option new options ≡ false → AllByRecursion (λ (option : Opt). option.name ≢ new) options
absent new [] e = tt
absent new (option ∷ options) e =
    let s = absent_step (is_option new option) (position (is_option new) options) (ap is_some (sym (position-cons (is_option new) option options)) ∙ e) in
    (λ (same : option.name ≡ new). apart_names option.name new s.0 (sym same), absent new options s.1)

renamed_of : (t u : Bool) (x : Opt) (new : List ℕ) (zs : List Opt) → cond {A = Result (List Opt) DeltaError} t (Err Invalid) (cond {A = Result (List Opt) DeltaError} u (Err Duplicate) (Ok (record x { name = new } ∷ []))) ≡ Ok zs
    → (t ≡ false) × (u ≡ false) × (zs ≡ record x { name = new } ∷ [])
renamed_of t u x new zs e =
    let a = where_false t _ Invalid zs e in
    let b = where_false u _ Duplicate zs a.1 in
    (a.0, b.0, ok_same (record x { name = new } ∷ []) zs b.1)

rename_apart : (new : List ℕ) (options : List Opt) → StaysApart (λ (option : Opt). option.name ≢ new)
    (λ option. cond {A = Result (List Opt) DeltaError} (not (is_name_of Name new)) (Err Invalid) (cond {A = Result (List Opt) DeltaError} (has_option new options) (Err Duplicate) (Ok (record option { name = new } ∷ []))))
rename_apart new options = record {
  before = λ x zs rest e q l d.
      let r = renamed_of (not (is_name_of Name new)) (has_option new options) x new zs e in
      let P : List Opt → Type 0 = λ z. AreDistinct (names_of (z ++ rest)) in
      subst P (sym r.2) (lacks_of new rest q, d);
  behind = λ x y zs e q n.
      let r = renamed_of (not (is_name_of Name new)) (has_option new options) x new zs e in
      subst (AllByRecursion (λ (option : Opt). option.name ≢ y.name)) (sym r.2) (λ (same : new ≡ y.name). q (sym same), tt);
}

rename_each : (new : List ℕ) (options : List Opt) (x : Opt) (zs : List Opt) → IsValidOption x
    → cond {A = Result (List Opt) DeltaError} (not (is_name_of Name new)) (Err Invalid) (cond {A = Result (List Opt) DeltaError} (has_option new options) (Err Duplicate) (Ok (record x { name = new } ∷ []))) ≡ Ok zs
    → AllByRecursion IsValidOption zs
rename_each new options x zs v e =
    let r = renamed_of (not (is_name_of Name new)) (has_option new options) x new zs e in
    subst (AllByRecursion IsValidOption) (sym r.2) (record { named = name_from Name new (not_false (is_name_of Name new) r.0); value = v.value }, tt)

-- some item became something
record Became {X : Type 0} (becomes : X → Result (List X) DeltaError) : Type 0 where
  x : X
  zs : List X
  found : becomes x ≡ Ok zs

became_step : {X : Type 0} (b : Bool) (y : X) (ys new : List X) (becomes : X → Result (List X) DeltaError) (rest : Result (List X) DeltaError) → ((zs : List X) → rest ≡ Ok zs → Became becomes)
    → cond {A = Result (List X) DeltaError} b (made (λ new. new ++ ys) (becomes y)) (made (λ rest. y ∷ rest) rest) ≡ Ok new → Became becomes
became_step true y ys new becomes rest k e = let m = made_of (λ new. new ++ ys) (becomes y) new e in record { x = y; zs = m.x; found = m.found }
became_step false y ys new becomes rest k e = let m = made_of (λ (zs : List _). y ∷ zs) rest new e in k m.x m.found

became : {X : Type 0} (test : X → Bool) (lack : DeltaError) (becomes : X → Result (List X) DeltaError) (xs new : List X) → first_becomes test lack becomes xs ≡ Ok new → Became becomes
became test lack becomes [] new e = no_answer lack new e
became test lack becomes (y ∷ ys) new e = became_step (test y) y ys new becomes (first_becomes test lack becomes ys) (λ zs f. became test lack becomes ys zs f) e

valid_rename : (name new : List ℕ) (options zs : List Opt) → AreValid options → option_renamed name new options ≡ Ok zs → AreValid zs
valid_rename name new options zs v e =
    let becomes : Opt → Result (List Opt) DeltaError = λ option. cond {A = Result (List Opt) DeltaError} (not (is_name_of Name new)) (Err Invalid)
    (cond {A = Result (List Opt) DeltaError} (has_option new options) (Err Duplicate) (Ok (record option { name = new } ∷ []))) in
    let b : Became becomes = became (is_option name) NotFound becomes options zs e in
    let r = renamed_of (not (is_name_of Name new)) (has_option new options) b.x new b.zs b.found in
    record {
      each = becomes_keeps IsValidOption (is_option name) NotFound becomes options zs (rename_each new options) v.each e;
      distinct = becomes_distinct (λ (option : Opt). option.name ≢ new) (is_option name) NotFound becomes options zs (rename_apart new options) (absent new options r.1) v.distinct e;
    }

-- what is left of a value
filter_each : (P : List ℕ → Type 0) (test : List ℕ → Bool) (items : List (List ℕ)) → AllByRecursion P items → AllByRecursion P (filter test items)
filter_each P test [] h = tt
filter_each P test (item ∷ items) h = go (test item) (filter_each P test items h.1)
  where
    go : (b : Bool) → AllByRecursion P (filter test items) → AllByRecursion P (cond {A = List (List ℕ)} b (item ∷ filter test items) (filter test items))
    go true r = (h.0, r)
    go false r = r

list_valid : (items : List (List ℕ)) (value : Value) → AllByRecursion (λ item. AllIn NotZero item) items → list_of items ≡ Some value → IsValidValue value
list_valid [] value h e = absurd (let f : ◌≡◌ {A = Option Value} None (Some value) = e in cc)
list_valid (item ∷ items) value h e =
    let f : ◌≡◌ {A = Option Value} (Some (Many (item ∷ items))) (Some value) = e in
    let same : Many (item ∷ items) ≡ value = cc in
    subst IsValidValue same (omega arith, h)

one_valid : (b : Bool) (text : List ℕ) (value : Value) → IsValidValue (One text) → cond {A = Option Value} b None (Some (One text)) ≡ Some value → IsValidValue value
one_valid true text value v e = absurd (let f : ◌≡◌ {A = Option Value} None (Some value) = e in cc)
one_valid false text value v e =
    let f : ◌≡◌ {A = Option Value} (Some (One text)) (Some value) = e in
    let same : One text ≡ value = cc in
    subst IsValidValue same v

left_valid : (item : List ℕ) (old value : Value) → IsValidValue old → left_of item old ≡ Some value → IsValidValue value
left_valid item (One text) value v e = one_valid (bytes_eq text item) text value v e
left_valid item (Many items) value v e = list_valid (filter (λ other. not (bytes_eq other item)) items) value (filter_each (λ other. AllIn NotZero other) (λ other. not (bytes_eq other item)) items v.1) e

with_left_each : (x : Opt) (left : Option Value) → IsNameOf Name x.name → ((value : Value) → left ≡ Some value → IsValidValue value) → AllByRecursion IsValidOption (with_left x left)
with_left_each x None n k = tt
with_left_each x (Some value) n k = (record { named = n; value = k value refl }, tt)

with_left_before : (x : Opt) (left : Option Value) (rest : List Opt) → AllByRecursion (λ (option : Opt). option.name ≢ x.name) rest → AreDistinct (names_of rest) → AreDistinct (names_of (with_left x left ++ rest))
with_left_before x None rest l d = d
with_left_before x (Some value) rest l d = (lacks_of x.name rest l, d)

with_left_after : (x y : Opt) (left : Option Value) → x.name ≢ y.name → AllByRecursion (λ (option : Opt). option.name ≢ y.name) (with_left x left)
with_left_after x y None n = tt
with_left_after x y (Some value) n = (n, tt)

left_apart : (item : List ℕ) → StaysApart (λ option. Unit {0}) (λ option. Ok (with_left option (left_of item option.value)))
left_apart item = record {
  before = λ x zs rest e q l d.
      let P : List Opt → Type 0 = λ z. AreDistinct (names_of (z ++ rest)) in
      subst P (sym (ok_same (with_left x (left_of item x.value)) zs e)) (with_left_before x (left_of item x.value) rest l d);
  behind = λ x y zs e q n. subst (AllByRecursion (λ (option : Opt). option.name ≢ y.name)) (sym (ok_same (with_left x (left_of item x.value)) zs e)) (with_left_after x y (left_of item x.value) n);
}

any : (options : List Opt) → AllByRecursion (λ option. Unit {0}) options
any [] = tt
any (option ∷ options) = (tt, any options)

valid_left : (name item : List ℕ) (options zs : List Opt) → AreValid options → without_item name item options ≡ Ok zs → AreValid zs
valid_left name item options zs v e = go (has_option name options) e
  where
    becomes : Opt → Result (List Opt) DeltaError
    becomes option = Ok (with_left option (left_of item option.value))

    go : (b : Bool) → cond {A = Result (List Opt) DeltaError} b (first_becomes (is_option name) NotFound (λ option. Ok (with_left option (left_of item option.value))) options) (Ok options) ≡ Ok zs → AreValid zs
    go false f = subst AreValid (sym (ok_same options zs f)) v
    go true f = record {
      each = becomes_keeps IsValidOption (is_option name) NotFound (λ option. Ok (with_left option (left_of item option.value))) options zs
          (λ x ws w g. subst (AllByRecursion IsValidOption) (sym (ok_same (with_left x (left_of item x.value)) ws g)) (with_left_each x (left_of item x.value) w.named (λ value l. left_valid item x.value value w.value l))) v.each f;
      distinct = becomes_distinct (λ option. Unit {0}) (is_option name) NotFound (λ option. Ok (with_left option (left_of item option.value))) options zs (left_apart item) (any options) v.distinct f;
    }

valid_where : (name value : List ℕ) (answer : Result (List Opt) DeltaError) (zs : List Opt) → where_valid name value answer ≡ Ok zs → IsNameOf Name name × AllIn NotZero value × (answer ≡ Ok zs)
valid_where name value answer zs e =
    let a = where_true (is_name_of Name name && is_value value) answer Invalid zs e in
    (name_from Name name (first_true (is_name_of Name name) (is_value value) a.0), all_from NotZero value (second_true (is_name_of Name name) (is_value value) a.0), a.1)

options_valid : (name : List ℕ) (change : Change) (options zs : List Opt) → AreValid options → options_with name change options ≡ Ok zs → AreValid zs
options_valid name (Set value) options zs v e =
    let a = valid_where name value (Ok (with_option name value options)) zs e in
    subst AreValid (sym (ok_same (with_option name value options) zs a.2)) (option_valid name value options a.0 a.1 v)
options_valid name Remove options zs v e =
    let a = where_true (has_option name options) (Ok (without name options)) NotFound zs e in
    subst AreValid (sym (ok_same (without name options) zs a.1)) (record { each = without_each name options v.each; distinct = without_distinct name options v.distinct })
options_valid name (Add kind) options zs v e = no_answer Invalid zs e
options_valid name (Rename new) options zs v e = valid_rename name new options zs v e
options_valid name (Reorder place) options zs v e = no_answer Invalid zs e
options_valid name (ListAdd item) options zs v e =
    let a = valid_where name item (Ok (with_item name item options)) zs e in
    subst AreValid (sym (ok_same (with_item name item options) zs a.2)) (item_valid name item options a.0 a.1 v)
options_valid name (ListDel item) options zs v e =
    let a = valid_where name item (without_item name item options) zs e in
    valid_left name item options zs v a.2

-- sections
abbrev AreSections : List Section → Type 0
AreSections sections = AllByRecursion IsValidSection sections

new_valid : (name kind : List ℕ) (anonymous : Bool) (sections zs : List Section) → AreSections sections → IsNameOf Name name → IsNameOf Printable kind
    → ◌≡◌ {A = Result (List Section) DeltaError} (Ok (with_new name anonymous kind sections)) (Ok zs) → AreSections zs
new_valid name kind anonymous sections zs h n k e = subst AreSections (sym (ok_same (with_new name anonymous kind sections) zs e))
    (each-append IsValidSection sections (record { name = name; anonymous = anonymous; kind = kind; options = [] } ∷ []) h (record { named = n; typed = k; options = tt; distinct = tt }, tt))

named_where : (name kind : List ℕ) (answer : Result (List Section) DeltaError) (zs : List Section) → where_named name kind answer ≡ Ok zs → IsNameOf Name name × IsNameOf Printable kind × (answer ≡ Ok zs)
named_where name kind answer zs e =
    let a = where_true (are_named name kind) answer Invalid zs e in
    (name_from Name name (first_true (is_name_of Name name) (is_name_of Printable kind) a.0), name_from Printable kind (second_true (is_name_of Name name) (is_name_of Printable kind) a.0), a.1)

kind_valid : (name kind : List ℕ) (sections zs : List Section) → AreSections sections → where_named name kind (with_kind name kind sections) ≡ Ok zs → AreSections zs
kind_valid name kind sections zs h e =
    let a = named_where name kind (with_kind name kind sections) zs e in
    go a.0 a.1 (has_section name sections) a.2
  where
    go : IsNameOf Name name → IsNameOf Printable kind → (b : Bool)
        → cond {A = Result (List Section) DeltaError} b (first_becomes (is_section name) Invalid (λ section. Ok (record section { kind = kind } ∷ [])) sections) (Ok (with_new name false kind sections)) ≡ Ok zs → AreSections zs
    go n k true f = becomes_keeps IsValidSection (is_section name) Invalid (λ section. Ok (record section { kind = kind } ∷ [])) sections zs
        (λ x ws v g. subst AreSections (sym (ok_same (record x { kind = kind } ∷ []) ws g)) (record { named = v.named; typed = k; options = v.options; distinct = v.distinct }, tt)) h f
    go n k false f = new_valid name kind false sections zs h n k f

renamed_section : (t u : Bool) (x : Section) (new : List ℕ) (zs : List Section)
    → cond {A = Result (List Section) DeltaError} t (Err Invalid) (cond {A = Result (List Section) DeltaError} u (Err Duplicate) (Ok (record x { name = new; anonymous = false } ∷ []))) ≡ Ok zs → (t ≡ false)
    × (zs ≡ record x { name = new; anonymous = false } ∷ [])
renamed_section t u x new zs e =
    let a = where_false t _ Invalid zs e in
    let b = where_false u _ Duplicate zs a.1 in
    (a.0, ok_same (record x { name = new; anonymous = false } ∷ []) zs b.1)

rename_valid : (name new : List ℕ) (sections zs : List Section) → AreSections sections → section_renamed name new sections ≡ Ok zs → AreSections zs
rename_valid name new sections zs h e =
    becomes_keeps IsValidSection (is_section name) NotFound (λ section. cond {A = Result (List Section) DeltaError} (not (is_name_of Name new)) (Err Invalid)
    (cond {A = Result (List Section) DeltaError} (has_section new sections) (Err Duplicate) (Ok (record section { name = new; anonymous = false } ∷ [])))) sections zs
    (λ x ws v g.
    let r = renamed_section (not (is_name_of Name new)) (has_section new sections) x new ws g in
    subst AreSections (sym r.1) (record { named = name_from Name new (not_false (is_name_of Name new) r.0); typed = v.typed; options = v.options; distinct = v.distinct }, tt))
    h e

take_each : (n : ℕ) (xs : List Section) → AreSections xs → AreSections (take n xs)
take_each zero xs h = tt
take_each (suc n) [] h = tt
take_each (suc n) (x ∷ xs) h = (h.0, take_each n xs h.1)

drop_each : (n : ℕ) (xs : List Section) → AreSections xs → AreSections (drop n xs)
drop_each zero xs h = h
drop_each (suc n) [] h = tt
drop_each (suc n) (x ∷ xs) h = drop_each n xs h.1

alone_each : (test : Section → Bool) (xs : List Section) → AreSections xs → AreSections (first_alone test xs)
alone_each test [] h = tt
alone_each test (x ∷ xs) h = go (test x) (alone_each test xs h.1)
  where
    go : (b : Bool) → AreSections (first_alone test xs) → AreSections (cond {A = List Section} b (x ∷ []) (first_alone test xs))
    go true r = (h.0, tt)
    go false r = r

others_each : (test : Section → Bool) (xs : List Section) → AreSections xs → AreSections (others test xs)
others_each test [] h = tt
others_each test (x ∷ xs) h = go (test x) (others_each test xs h.1)
  where
    go : (b : Bool) → AreSections (others test xs) → AreSections (cond {A = List Section} b xs (x ∷ others test xs))
    go true r = h.1
    go false r = (h.0, r)

put_valid : (place : Option ℕ) (moved rest zs : List Section) → AreSections moved → AreSections rest → put_at place moved rest ≡ Ok zs → AreSections zs
put_valid None moved rest zs m r e = no_answer Invalid zs e
put_valid (Some place) moved rest zs m r e =
    subst AreSections (sym (ok_same (take place rest ++ moved ++ drop place rest) zs e))
    (each-append IsValidSection (take place rest ++ moved) (drop place rest) (each-append IsValidSection (take place rest) moved (take_each place rest r) m) (drop_each place rest r))

sections_valid : (name : List ℕ) (change : Change) (sections zs : List Section) → AreSections sections → sections_with name change sections ≡ Ok zs → AreSections zs
sections_valid name (Set kind) sections zs h e = kind_valid name kind sections zs h e
sections_valid name Remove sections zs h e = becomes_keeps IsValidSection (is_section name) NotFound (λ section. Ok []) sections zs (λ x ws v g. subst AreSections (sym (ok_same [] ws g)) tt) h e
sections_valid name (Add kind) sections zs h e =
    let a = named_where name kind (with_anonymous name kind sections) zs e in
    let b = where_false (has_section name sections) (Ok (with_new name true kind sections)) Duplicate zs a.2 in
    new_valid name kind true sections zs h a.0 a.1 b.1
sections_valid name (Rename new) sections zs h e = rename_valid name new sections zs h e
sections_valid name (Reorder place) sections zs h e =
    let a = where_true (has_section name sections) (put_at (place_of place) (first_alone (is_section name) sections) (others (is_section name) sections)) NotFound zs e in
    put_valid (place_of place) (first_alone (is_section name) sections) (others (is_section name) sections) zs (alone_each (is_section name) sections h) (others_each (is_section name) sections h) a.1
sections_valid name (ListAdd item) sections zs h e = no_answer Invalid zs e
sections_valid name (ListDel item) sections zs h e = no_answer Invalid zs e

changed_valid : (name : List ℕ) (option : Option (List ℕ)) (change : Change) (sections zs : List Section) → AreSections sections → changed name option change sections ≡ Ok zs → AreSections zs
changed_valid name None change sections zs h e = sections_valid name change sections zs h e
changed_valid name (Some option) change sections zs h e =
    becomes_keeps IsValidSection (is_section name) (lack_of change) (in_section option change) sections zs
    (λ x ws v g.
    let m = made_of (λ (options : List Opt). record x { options = options } ∷ []) (options_with option change x.options) ws g in
    let w : AreValid m.x = options_valid option change x.options m.x (record { each = v.options; distinct = v.distinct }) m.found in
    subst AreSections (sym m.is) (record { named = v.named; typed = v.typed; options = w.each; distinct = w.distinct }, tt))
    h e

pub applied_valid : (tree new : Package) (delta : Delta) → IsValid tree → applied tree delta ≡ Ok new → IsValid new
applied_valid tree new delta v e =
    let m = made_of (with_sections tree) (changed delta.section delta.option delta.change tree.sections) new e in
    subst IsValid (sym m.is) (record { named = v.named; sections = changed_valid delta.section delta.option delta.change tree.sections m.x v.sections m.found })

-- a package with the sections that a change left
pub left_valid_package : (tree : Package) (delta : Delta) (taken old new given : List Section) (count : ℕ) → taken ≡ old → old ≡ tree.sections → given ≡ new → changed delta.section delta.option delta.change taken ≡ Ok new → IsValid tree
    → IsValid (record { name = tree.name; sections = given; made = count })
left_valid_package tree delta taken old new given count t o g e v = record {
  named = v.named;
  sections = subst AreSections (sym g) (changed_valid delta.section delta.option delta.change taken new (subst AreSections (sym (t ∙ o)) v.sections) e);
}
