-- Valid packages stay valid.
use Rattle.std.proofs.Common.{ℕ, zero, suc, ◌≡◌, ◌≢◌, ◌<◌, Bool, true, false, cond, not, ◌&&◌, ◌==◌, List, [], ◌∷◌, ◌++◌, length, Option, Some, None, bytes_eq, refl, sym, subst, ◌∙◌, codes, arith, eqb, append-nil}
use Rattle.std.specs.List.{AllByRecursion, slice_split, onto_first, flat_map}
use Rattle.std.proofs.lemmas.Bool.{cond_both, or_parts, and_parts, not-true, not_from_false, ne_eqb}
use Rattle.plane_words.specs.Distinct.{AreDistinct}
use Rattle.uci_text.specs.declared.byte_class.ByteClass.TheVariants.{Name, Printable, NotZero}
use Rattle.uci_text.specs.ByteClass.{is_in, AllIn}
use Rattle.uci_text.specs.Table.{IsNameOf}
use Rattle.uci_text.proofs.ClassLemmas.{each-append, has_some}
use Rattle.uci_text.proofs.Examples.{tested}
use Rattle.uci_tree.specs.declared.package.Value.{Value}
use Rattle.uci_tree.specs.declared.package.Value.TheVariants.{One, Many}
use Rattle.uci_tree.specs.declared.package.Opt.{Opt}
use Rattle.uci_tree.specs.declared.package.Section.{Section}
use Rattle.uci_tree.specs.declared.package.Package.{Package}
use Rattle.uci_tree.specs.Valid.{IsValidValue, IsValidOption, names_of, IsValidSection, IsValid}
use Rattle.uci_tree.proofs.ValidLemmas.{AreValid, anonymous_named, apart_names}
use Rattle.net_rows.specs.Options.{value_of, is_given}
use Rattle.net_rows.specs.Words.{space, kept, words, words_of}
use Rattle.net_modern.specs.Options.{without, option_if, text_option, list_if, first_if, words_if, ifname_words, with_ports, on_device, on_bridge, of_bridge}
use Rattle.net_modern.specs.Rules.{is_bridge, is_named_interface, has, is_old_bridge, is_bridged, is_untyped, is_on_one_device, has_both, with_options, bridge_name, rewritten, over_bridge, bridge_section}
use Rattle.net_modern.specs.Rewriting.{Progress, one_more, sections_now, gets_bridge, after_section, after_sections, at_start, modern}
use Rattle.net_modern.specs.Rules.{has_device}
use Rattle.net_modern.proofs.OptionLemmas.{given_alone, is_given-without, is_given-behind}

-- bytes of names are not zero
name_not_zero : (byte : ℕ) → is_in Name byte ≡ true → is_in NotZero byte ≡ true
name_not_zero zero h = absurd (let f : false ≡ true = h in cc)
name_not_zero (suc byte) h = not_from_false (eqb (suc byte) 0) (ne_eqb (suc byte) 0 (λ e. omega (arith, e)))

names_not_zero : (bytes : List ℕ) → AllIn Name bytes → AllIn NotZero bytes
names_not_zero [] h = tt
names_not_zero (byte ∷ bytes) h = (name_not_zero byte h.0, names_not_zero bytes h.1)

-- words of valid values are some bytes, and none is zero
IsGoodWord : List ℕ → Type 0
IsGoodWord word = (0 < length word) × AllIn NotZero word

onto_not_zero : (byte : ℕ) (parts : List (List ℕ)) → is_in NotZero byte ≡ true → AllByRecursion (λ (part : List ℕ). AllIn NotZero part) parts → AllByRecursion (λ (part : List ℕ). AllIn NotZero part) (onto_first byte parts)
onto_not_zero byte [] b h = ((b, tt), tt)
onto_not_zero byte (part ∷ parts) b h = ((b, h.0), h.1)

split_case : (at_space : Bool) (byte : ℕ) (parts : List (List ℕ)) → is_in NotZero byte ≡ true → AllByRecursion (λ (part : List ℕ). AllIn NotZero part) parts
    → AllByRecursion (λ (part : List ℕ). AllIn NotZero part) (cond {A = List (List ℕ)} at_space ([] ∷ parts) (onto_first byte parts))
split_case true byte parts b h = (tt, h)
split_case false byte parts b h = onto_not_zero byte parts b h

parts_not_zero : (text : List ℕ) → AllIn NotZero text → AllByRecursion (λ (part : List ℕ). AllIn NotZero part) (slice_split (λ byte. byte == space) text)
parts_not_zero [] h = (tt, tt)
parts_not_zero (byte ∷ text) h = split_case (byte == space) byte (slice_split (λ byte. byte == space) text) h.0 (parts_not_zero text h.1)

kept_case : (empty : Bool) (part : List ℕ) (rest : List (List ℕ)) → (length part == 0) ≡ empty → AllIn NotZero part → AllByRecursion IsGoodWord rest → AllByRecursion IsGoodWord (cond {A = List (List ℕ)} (not empty) (part ∷ rest) rest)
unfolding IsGoodWord
kept_case true part rest e p h = h
kept_case false part rest e p h = ((has_some part e, p), h)

kept_good : (parts : List (List ℕ)) → AllByRecursion (λ (part : List ℕ). AllIn NotZero part) parts → AllByRecursion IsGoodWord (kept parts)
kept_good [] h = tt
kept_good (part ∷ parts) h = kept_case (length part == 0) part (kept parts) refl h.0 (kept_good parts h.1)

words_good : (text : List ℕ) → AllIn NotZero text → AllByRecursion IsGoodWord (words text)
words_good text h = kept_good (slice_split (λ byte. byte == space) text) (parts_not_zero text h)

all_words_good : (items : List (List ℕ)) → AllByRecursion (λ (item : List ℕ). AllIn NotZero item) items → AllByRecursion IsGoodWord (flat_map words items)
all_words_good [] h = tt
all_words_good (item ∷ items) h = each-append IsGoodWord (words item) (flat_map words items) (words_good item h.0) (all_words_good items h.1)

value_words_good : (value : Value) → IsValidValue value → AllByRecursion IsGoodWord (words_of value)
value_words_good (One text) h = words_good text h.1
value_words_good (Many items) h = all_words_good items h.1

IfValid : Option Value → Type 0
IfValid None = Unit {0}
IfValid (Some value) = IsValidValue value

if_words_good : (value : Option Value) → IfValid value → AllByRecursion IsGoodWord (words_if value)
unfolding IfValid
if_words_good None h = tt
if_words_good (Some value) h = value_words_good value h

value_case : (here : Bool) (option : Opt) (later : Option Value) → IsValidOption option → IfValid later → IfValid (cond {A = Option Value} here (Some option.value) later)
unfolding IfValid
value_case true option later o h = o.value
value_case false option later o h = h

value_valid : (key : List ℕ) (options : List Opt) → AllByRecursion IsValidOption options → IfValid (value_of key options)
unfolding IfValid
value_valid key [] h = tt
value_valid key (option ∷ options) h = value_case (bytes_eq option.name key) option (value_of key options) h.0 (value_valid key options h.1)

ifname_good : (options : List Opt) → AllByRecursion IsValidOption options → AllByRecursion IsGoodWord (ifname_words options)
ifname_good options h = if_words_good (value_of (codes "ifname") options) (value_valid (codes "ifname") options h)

items_not_zero : (words : List (List ℕ)) → AllByRecursion IsGoodWord words → AllByRecursion (λ (item : List ℕ). AllIn NotZero item) words
unfolding IsGoodWord
items_not_zero [] h = tt
items_not_zero (word ∷ words) h = (h.0.1, items_not_zero words h.1)

list_valid : (words : List (List ℕ)) → AllByRecursion IsGoodWord words → IfValid (list_if words)
unfolding IfValid
list_valid [] h = tt
list_valid (word ∷ words) h = (omega arith, items_not_zero (word ∷ words) h)

first_valid : (words : List (List ℕ)) → AllByRecursion IsGoodWord words → IfValid (first_if words)
unfolding IfValid IsGoodWord
first_valid [] h = tt
first_valid (word ∷ words) h = h.0

-- options without those of a name
each_case : (here : Bool) (option : Opt) (rest : List Opt) → IsValidOption option → AllByRecursion IsValidOption rest → AllByRecursion IsValidOption (cond {A = List Opt} (not here) (option ∷ rest) rest)
each_case true option rest o h = h
each_case false option rest o h = (o, h)

without_each : (name : List ℕ) (options : List Opt) → AllByRecursion IsValidOption options → AllByRecursion IsValidOption (without name options)
without_each name [] h = tt
without_each name (option ∷ options) h = each_case (bytes_eq option.name name) option (without name options) h.0 (without_each name options h.1)

lacks_case : (here : Bool) (key : List ℕ) (option : Opt) (rest : List Opt) → option.name ≢ key → AllByRecursion (λ (other : List ℕ). other ≢ key) (names_of rest)
    → AllByRecursion (λ (other : List ℕ). other ≢ key) (names_of (cond {A = List Opt} (not here) (option ∷ rest) rest))
lacks_case true key option rest o h = h
lacks_case false key option rest o h = (o, h)

without_lacks : (key name : List ℕ) (options : List Opt) → AllByRecursion (λ (other : List ℕ). other ≢ key) (names_of options) → AllByRecursion (λ (other : List ℕ). other ≢ key) (names_of (without name options))
without_lacks key name [] h = tt
without_lacks key name (option ∷ options) h = lacks_case (bytes_eq option.name name) key option (without name options) h.0 (without_lacks key name options h.1)

distinct_case : (here : Bool) (option : Opt) (rest : List Opt) → AllByRecursion (λ (other : List ℕ). other ≢ option.name) (names_of rest) → AreDistinct (names_of rest)
    → AreDistinct (names_of (cond {A = List Opt} (not here) (option ∷ rest) rest))
distinct_case true option rest o h = h
distinct_case false option rest o h = (o, h)

without_distinct : (name : List ℕ) (options : List Opt) → AreDistinct (names_of options) → AreDistinct (names_of (without name options))
without_distinct name [] h = tt
without_distinct name (option ∷ options) h = distinct_case (bytes_eq option.name name) option (without name options) (without_lacks option.name name options h.0) (without_distinct name options h.1)

without_valid : (name : List ℕ) (options : List Opt) → AreValid options → AreValid (without name options)
without_valid name options v = record { each = without_each name options v.each; distinct = without_distinct name options v.distinct }

-- options with one more at the end or in front
push_lacks : (key : List ℕ) (options : List Opt) (option : Opt) → option.name ≢ key → AllByRecursion (λ (other : List ℕ). other ≢ key) (names_of options) → AllByRecursion (λ (other : List ℕ). other ≢ key) (names_of (options ++ option ∷ []))
push_lacks key [] option o h = (o, tt)
push_lacks key (other ∷ options) option o h = (h.0, push_lacks key options option o h.1)

push_distinct : (options : List Opt) (option : Opt) → is_given option.name options ≡ false → AreDistinct (names_of options) → AreDistinct (names_of (options ++ option ∷ []))
push_distinct [] option e h = (tt, tt)
push_distinct (other ∷ options) option e h =
    let parts = or_parts (bytes_eq other.name option.name) (is_given option.name options) e in
    (push_lacks other.name options option (apart_names other.name option.name parts.0) h.0, push_distinct options option parts.1 h.1)

with_valid : (name : List ℕ) (options : List Opt) (value : Option Value) → IsNameOf Name name → is_given name options ≡ false → IfValid value → AreValid options → AreValid (options ++ option_if name value)
unfolding IfValid
with_valid name options None n e h v = subst AreValid (sym (append-nil options)) v
with_valid name options (Some value) n e h v = record {
  each = each-append IsValidOption options (record { name = name; value = value } ∷ []) v.each (record { named = n; value = h }, tt);
  distinct = push_distinct options (record { name = name; value = value }) e v.distinct;
}

not_given : (name : List ℕ) (options : List Opt) → is_given name options ≡ false → AllByRecursion (λ (other : List ℕ). other ≢ name) (names_of options)
not_given name [] e = tt
not_given name (option ∷ options) e =
    let parts = or_parts (bytes_eq option.name name) (is_given name options) e in
    let apart : option.name ≢ name = λ same. apart_names option.name name parts.0 (sym same) in
    (apart, not_given name options parts.1)

behind_valid : (name : List ℕ) (options : List Opt) (value : Option Value) → IsNameOf Name name → is_given name options ≡ false → IfValid value → AreValid options → AreValid (option_if name value ++ options)
unfolding IfValid
behind_valid name options None n e h v = v
behind_valid name options (Some value) n e h v = record {
  each = (record { named = n; value = h }, v.each);
  distinct = (not_given name options e, v.distinct);
}

nothing_valid : AreValid []
nothing_valid = record { each = tt; distinct = tt }

-- the options that the rules make
ports_valid : (options : List Opt) → AreValid options → AreValid (with_ports options)
ports_valid options v =
    let rest = without (codes "ifname") options in
    let rest_valid = without_valid (codes "ifname") options v in
    cond_both (is_given (codes "ports") options) [] (option_if (codes "ports") (list_if (ifname_words options))) (λ z. AreValid (rest ++ z))
    (λ given. subst AreValid (sym (append-nil rest)) rest_valid)
    (λ none. with_valid (codes "ports") rest (list_if (ifname_words options)) (omega arith, tested Name (codes "ports") refl) (is_given-without (codes "ports") (codes "ifname") options refl ∙ none)
    (list_valid (ifname_words options) (ifname_good options v.each)) rest_valid)

device_valid : (options : List Opt) → is_given (codes "device") options ≡ false → AreValid options → AreValid (on_device options)
device_valid options none v =
    with_valid (codes "device") (without (codes "ifname") options) (first_if (ifname_words options)) (omega arith, tested Name (codes "device") refl) (is_given-without (codes "device") (codes "ifname") options refl ∙ none)
    (first_valid (ifname_words options) (ifname_good options v.each)) (without_valid (codes "ifname") options v)

bridge_text_valid : (name : List ℕ) → AllIn Name name → IfValid (Some (One (codes "br-" ++ name)))
unfolding IfValid
bridge_text_valid name h = (omega arith, (refl, (refl, (refl, names_not_zero name h))))

on_bridge_valid : (name : List ℕ) (options : List Opt) → AllIn Name name → is_given (codes "device") options ≡ false → AreValid options → AreValid (on_bridge (codes "br-" ++ name) options)
on_bridge_valid name options named none v =
    let one = without (codes "bridge_empty") options in
    let two = without (codes "mtu") one in
    let three = without (codes "macaddr") two in
    let four = without (codes "ifname") three in
    let five = without (codes "type") four in
    let lacks : is_given (codes "device") five ≡ false =
    is_given-without (codes "device") (codes "type") four refl
    ∙ is_given-without (codes "device") (codes "ifname") three refl
    ∙ is_given-without (codes "device") (codes "macaddr") two refl
    ∙ is_given-without (codes "device") (codes "mtu") one refl
    ∙ is_given-without (codes "device") (codes "bridge_empty") options refl
    ∙ none in
    let five_valid = without_valid (codes "type") four (without_valid (codes "ifname") three (without_valid (codes "macaddr") two (without_valid (codes "mtu") one (without_valid (codes "bridge_empty") options v)))) in
    with_valid (codes "device") five (Some (One (codes "br-" ++ name))) (omega arith, tested Name (codes "device") refl) lacks (bridge_text_valid name named) five_valid

type_valid : IfValid (Some (One (codes "bridge")))
unfolding IfValid
type_valid = (omega arith, tested NotZero (codes "bridge") refl)

of_bridge_valid : (name : List ℕ) (options : List Opt) → AllIn Name name → AllByRecursion IsValidOption options → AreValid (of_bridge (codes "br-" ++ name) options)
of_bridge_valid name options named each =
    let text : Option Value = Some (One (codes "br-" ++ name)) in
    let ports = list_if (ifname_words options) in
    let empty = value_of (codes "bridge_empty") options in
    let mtu = value_of (codes "mtu") options in
    let macaddr = value_of (codes "macaddr") options in
    let six = option_if (codes "macaddr") macaddr in
    let five = option_if (codes "mtu") mtu ++ six in
    let four = option_if (codes "bridge_empty") empty ++ five in
    let three = option_if (codes "ports") ports ++ four in
    let lacks_two : (key : List ℕ) → bytes_eq (codes "mtu") key ≡ false → bytes_eq (codes "macaddr") key ≡ false → is_given key five ≡ false = λ key a b. is_given-behind key (codes "mtu") mtu six a
    ∙ given_alone key (codes "macaddr") macaddr b in
    let lacks_four : (key : List ℕ) → bytes_eq (codes "ports") key ≡ false → bytes_eq (codes "bridge_empty") key ≡ false → bytes_eq (codes "mtu") key ≡ false → bytes_eq (codes "macaddr") key ≡ false → is_given key three ≡ false =
    λ key p q a b. is_given-behind key (codes "ports") ports four p ∙ is_given-behind key (codes "bridge_empty") empty five q ∙ lacks_two key a b in
    let six_valid : AreValid six = with_valid (codes "macaddr") [] macaddr (omega arith, tested Name (codes "macaddr") refl) refl (value_valid (codes "macaddr") options each) nothing_valid in
    let five_valid = behind_valid (codes "mtu") six mtu (omega arith, tested Name (codes "mtu") refl) (given_alone (codes "mtu") (codes "macaddr") macaddr refl) (value_valid (codes "mtu") options each) six_valid in
    let four_valid = behind_valid (codes "bridge_empty") five empty (omega arith, tested Name (codes "bridge_empty") refl) (lacks_two (codes "bridge_empty") refl refl) (value_valid (codes "bridge_empty") options each) five_valid in
    let three_valid = behind_valid (codes "ports") four ports (omega arith, tested Name (codes "ports") refl) (is_given-behind (codes "ports") (codes "bridge_empty") empty five refl ∙ lacks_two (codes "ports") refl refl)
    (list_valid (ifname_words options) (ifname_good options each)) four_valid in
    let two_valid = behind_valid (codes "type") three (Some (One (codes "bridge"))) (omega arith, tested Name (codes "type") refl) (lacks_four (codes "type") refl refl refl refl) type_valid three_valid in
    behind_valid (codes "name") (text_option (codes "type") (codes "bridge") ++ three) text (omega arith, tested Name (codes "name") refl) (lacks_four (codes "name") refl refl refl refl) (bridge_text_valid name named) two_valid

-- sections
options_valid : (section : Section) → IsValidSection section → AreValid section.options
options_valid section v = record { each = v.options; distinct = v.distinct }

section_valid : (section : Section) (options : List Opt) → IsValidSection section → AreValid options → IsValidSection (with_options section options)
section_valid section options v w = record { named = v.named; typed = v.typed; options = w.each; distinct = w.distinct }

middle_true : (a b c : Bool) → (a && b && c) ≡ true → b ≡ true
middle_true true b c e = (and_parts b c e).0
middle_true false b c e = absurd (let f : false ≡ true = e in cc)

last_true : (a b c : Bool) → (a && b && c) ≡ true → c ≡ true
last_true true true c e = e
last_true true false c e = absurd (let f : false ≡ true = e in cc)
last_true false b c e = absurd (let f : false ≡ true = e in cc)

rewritten_valid : (section : Section) → IsValidSection section → IsValidSection (rewritten section)
rewritten_valid section v =
    let options = section.options in
    let are = options_valid section v in
    let last : Section = cond {A = Section} (has_both section) (with_options section (without (codes "ifname") options)) section in
    let middle : Section = cond {A = Section} (is_on_one_device section) (with_options section (on_device options)) last in
    cond_both (is_old_bridge section) (with_options section (with_ports options)) middle IsValidSection
    (λ _. section_valid section (with_ports options) v (ports_valid options are))
    (λ _. cond_both (is_on_one_device section) (with_options section (on_device options)) last IsValidSection
    (λ one. section_valid section (on_device options) v (device_valid options (not-true (has (codes "device") section) (middle_true (is_untyped section) (not (has (codes "device") section)) (length (ifname_words options) == 1) one)) are))
    (λ _. cond_both (has_both section) (with_options section (without (codes "ifname") options)) section IsValidSection
    (λ _. section_valid section (without (codes "ifname") options) v (without_valid (codes "ifname") options are))
    (λ _. v)))

over_bridge_valid : (section : Section) → is_bridged section ≡ true → IsValidSection section → IsValidSection (over_bridge section)
over_bridge_valid section is v =
    let none : has (codes "device") section ≡ false = not-true (has (codes "device") section) (last_true (is_named_interface section) (is_bridge section) (not (has (codes "device") section)) is) in
    section_valid section (on_bridge (bridge_name section) section.options) v (on_bridge_valid section.name section.options v.named.1 none (options_valid section v))

bridge_valid : (ordinal : ℕ) (section : Section) → IsValidSection section → IsValidSection (bridge_section ordinal section)
bridge_valid ordinal section v =
    let options = of_bridge_valid section.name section.options v.named.1 v.options in
    record {
      named = anonymous_named ordinal (codes "device");
      typed = (omega arith, tested Printable (codes "device") refl);
      options = options.each;
      distinct = options.distinct;
    }

-- packages
record AreAllValid (progress : Progress) : Type 0 where
  pub before : AllByRecursion IsValidSection progress.before
  pub added : AllByRecursion IsValidSection progress.added

valid_after : (is_there : Bool) (progress : Progress) (section : Section) → AreAllValid progress → IsValidSection section → AreAllValid (after_section is_there progress section)
valid_after is_there progress section are v =
    let ordinal = one_more progress.made in
    cond_both (gets_bridge is_there section)
    (record {
      before = progress.before ++ over_bridge section ∷ [];
      added = progress.added ++ bridge_section ordinal section ∷ [];
      made = ordinal;
    })
    (record progress { before = progress.before ++ rewritten section ∷ [] })
    AreAllValid
    (λ gets. record {
      before = each-append IsValidSection progress.before (over_bridge section ∷ []) are.before (over_bridge_valid section ((and_parts (is_bridged section) (not is_there) gets).0) v, tt);
      added = each-append IsValidSection progress.added (bridge_section ordinal section ∷ []) are.added (bridge_valid ordinal section v, tt);
    })
    (λ _. record {
      before = each-append IsValidSection progress.before (rewritten section ∷ []) are.before (rewritten_valid section v, tt);
      added = are.added;
    })

all_valid : (progress : Progress) (rest : List Section) → AreAllValid progress → AllByRecursion IsValidSection rest → AreAllValid (after_sections progress rest)
all_valid progress [] are all = are
all_valid progress (section ∷ later) are all =
    let is_there = has_device (sections_now progress (section ∷ later)) (bridge_name section) in
    all_valid (after_section is_there progress section) later (valid_after is_there progress section are all.0) all.1

pub stays_valid : (tree : Package) → IsValid tree → IsValid (modern tree)
stays_valid tree v =
    let end = after_sections (at_start tree.made) tree.sections in
    let are : AreAllValid end = all_valid (at_start tree.made) tree.sections (record { before = tt; added = tt }) v.sections in
    record { named = v.named; sections = each-append IsValidSection end.before end.added are.before are.added }
