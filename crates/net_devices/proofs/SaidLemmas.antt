-- What sections say, the last one first.
use Rattle.std.proofs.Common.{ℕ, ◌≡◌, Bool, true, false, cond, List, [], ◌∷◌, ◌++◌, Option, Some, None, bytes_eq, reverse, refl, sym, ◌∙◌, ap}
use Rattle.std.specs.Prelude.{◌||◌}
use Rattle.std.specs.List.{cons_option}
use Rattle.std.proofs.lemmas.List.{reverse-append}
use Rattle.std.proofs.lemmas.Slice.Eq.{bytes_eq-Decides}
use Rattle.uci_tree.specs.declared.package.Section.{Section}
use Rattle.net_rows.specs.declared.stated.Stated.{Stated}
use Rattle.net_rows.specs.declared.stated.Stated.TheVariants.{Absent, Unread, Read}
use Rattle.net_devices.specs.declared.said.Said.{Said}
use Rattle.net_devices.specs.EachOnce.{has}
use Rattle.net_devices.specs.Said.{said_in, said_by}
use Rattle.net_devices.specs.Names.{is_read}
use Rattle.net_devices.specs.Kinds.{if_read, is_name}
use Rattle.net_devices.specs.Counted.{is_device, section_name, is_section_of, is_named_in, if_counted, counted, all_said}
use Rattle.net_devices.specs.FoundNames.{own_name, is_among, unless_named, with_option, with_own_name, AreNamesOf}
use Rattle.net_devices.proofs.KeyLemmas.{any_push}

cons_append : (saying : Option Said) (some others : List Said) → cons_option saying some ++ others ≡ cons_option saying (some ++ others)
cons_append None some others = refl
cons_append (Some saying) some others = refl

said_by-append : (sections others : List Section) → said_by (sections ++ others) ≡ said_by sections ++ said_by others
said_by-append [] others = refl
said_by-append (section ∷ sections) others = ap (cons_option (said_in section)) (said_by-append sections others) ∙ sym (cons_append (said_in section) (said_by sections) (said_by others))

-- a section is overridden exactly where its name is one of a later section
stated_among : (names : List (List ℕ)) (later : List Section) (stated : Stated (List ℕ)) → AreNamesOf names later → is_named_in later stated ≡ is_among names (if_read stated)
stated_among names later Absent are = refl
stated_among names later Unread are = refl
stated_among names later (Read name) are = sym (are name)

overridden_by : (device : Bool) (names : List (List ℕ)) (later : List Section) (stated : Stated (List ℕ)) → AreNamesOf names later → cond {A = Bool} device (is_named_in later stated) false
    ≡ is_among names (cond {A = Option (List ℕ)} device (if_read stated) None)
overridden_by true names later stated are = stated_among names later stated are
overridden_by false names later stated are = refl

same_counted : (names : List (List ℕ)) (section : Section) (later : List Section) → AreNamesOf names later → unless_named names section ≡ if_counted section later
same_counted names section later are = ap (λ (b : Bool). cond {A = List Section} b [] (section ∷ [])) (sym (overridden_by (is_device section) names later (section_name section) are))

one_reversed : (saying : Option Said) → reverse (cons_option saying []) ≡ cons_option saying []
one_reversed None = refl
one_reversed (Some saying) = refl

few_reversed : (b : Bool) (section : Section) → reverse (said_by (cond {A = List Section} b [] (section ∷ []))) ≡ said_by (cond {A = List Section} b [] (section ∷ []))
few_reversed true section = refl
few_reversed false section = one_reversed (said_in section)

-- what one section more in front says
pub said_before : (names : List (List ℕ)) (section : Section) (later : List Section) (said : List Said) → AreNamesOf names later → reverse said ≡ all_said later → reverse (said ++ said_by (unless_named names section))
    ≡ all_said (section ∷ later)
said_before names section later said are is =
    reverse-append said (said_by (unless_named names section))
    ∙ (ap (λ (z : List Said). z ++ reverse said) (few_reversed (is_among names (own_name section)) section)
    ∙ (ap (λ (z : List Said). said_by (unless_named names section) ++ z) is
    ∙ (ap (λ (z : List Section). said_by z ++ all_said later) (same_counted names section later are)
    ∙ sym (said_by-append (if_counted section later) (counted later)))))

-- and its name
own_test : (device : Bool) (stated : Stated (List ℕ)) (name : List ℕ) → cond {A = Bool} device (is_read name stated) false ≡ is_name name (cond {A = Option (List ℕ)} device (if_read stated) None)
own_test false stated name = refl
own_test true Absent name = refl
own_test true Unread name = refl
own_test true (Read other) name = refl

known_or : (known is : Bool) → (is ≡ true → known ≡ true) → known ≡ (is || known)
known_or true true h = refl
known_or false true h = h refl
known_or known false h = refl

swapped : (a b : Bool) → (a || b) ≡ (b || a)
swapped true true = refl
swapped true false = refl
swapped false true = refl
swapped false false = refl

with_more : (known : Bool) (names : List (List ℕ)) (name other : List ℕ) → known ≡ has names name → has (cond {A = List (List ℕ)} known names (names ++ name ∷ [])) other ≡ (bytes_eq name other || has names other)
with_more true names name other e = known_or (has names other) (bytes_eq name other) (λ (same : bytes_eq name other ≡ true). ap (has names) (sym ((bytes_eq-Decides name other).0 same)) ∙ sym e)
with_more false names name other e = any_push (λ (x : List ℕ). bytes_eq x other) names name ∙ swapped (has names other) (bytes_eq name other)

has_option : (names : List (List ℕ)) (own : Option (List ℕ)) (other : List ℕ) → has (with_option names own) other ≡ (is_name other own || has names other)
has_option names None other = refl
has_option names (Some name) other = with_more (has names name) names name other refl

pub names_before : (names : List (List ℕ)) (section : Section) (later : List Section) → AreNamesOf names later → AreNamesOf (with_own_name names section) (section ∷ later)
names_before names section later are name =
    has_option names (own_name section) name
    ∙ (ap (λ (z : Bool). z || has names name) (sym (own_test (is_device section) (section_name section) name))
    ∙ ap (λ (z : Bool). is_section_of name section || z) (are name))
