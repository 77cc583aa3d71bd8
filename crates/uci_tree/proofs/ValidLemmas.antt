-- What a text is read as is valid.
use Rattle.std.proofs.Common.{ℕ, zero, suc, ◌≡◌, ◌≢◌, ◌+◌, ◌-◌, ◌/◌, ◌%◌, ◌<◌, Bool, true, false, cond, nat_eq, List, [], ◌∷◌, length, replicate, Option, Some, None, Result, Ok, Err, bytes_eq, refl, sym, subst, ◌∙◌, arith, length-append}
use Rattle.std.specs.List.{AllByRecursion}
use Rattle.std.specs.Fmt.{digits, digits_onto, digit_glyph}
use Rattle.std.proofs.lemmas.Bool.Decides.{nat_tests}
use Rattle.std.proofs.lemmas.Slice.Eq.{bytes_eq-Decides}
use Rattle.uci_text.specs.declared.byte_class.ByteClass.TheVariants.{Name, PackageName, Printable, NotZero}
use Rattle.uci_text.specs.declared.cmd.Cmd.{Cmd}
use Rattle.uci_text.specs.declared.cmd.Cmd.TheVariants.{Package as PackageCmd, Config, Item, ListItem}
use Rattle.uci_text.specs.ByteClass.{is_in, AllIn}
use Rattle.uci_text.specs.Table.{IsNameOf}
use Rattle.uci_text.proofs.ClassLemmas.{all_in-append, each-append}
use Rattle.plane_words.specs.Distinct.{AreDistinct}
use Rattle.uci_tree.specs.declared.package.Value.{Value}
use Rattle.uci_tree.specs.declared.package.Value.TheVariants.{One, Many}
use Rattle.uci_tree.specs.declared.package.Opt.{Opt}
use Rattle.uci_tree.specs.declared.package.Section.{Section}
use Rattle.uci_tree.specs.declared.package.Package.{Package}
use Rattle.plane_words.specs.Numeral.{hex}
use Rattle.uci_tree.specs.Anonymous.{type_hash, anonymous_name}
use Rattle.uci_tree.specs.Find.{named_place}
use Rattle.uci_tree.specs.Fold.{changed_at, put, without, with_option, with_item, appended, Draft, nothing, added, named_config, configured, with_options_at, after, goes_on, after_all}
use Rattle.uci_tree.specs.Reading.{Reads}
use Rattle.uci_tree.specs.Valid.{IsValidValue, IsValidOption, names_of, IsValidSection, IsValid}
use Rattle.uci_tree.proofs.CleanLemmas.{IsGood, good_commands}

-- names of anonymous sections are names
glyph_named : (d : ℕ) → d < 16 → is_in Name (digit_glyph false d) ≡ true
glyph_named d h = grind (arith, nat_tests)

onto_step : (b : Bool) (a c : List ℕ) → AllIn Name a → AllIn Name c → AllIn Name (cond {A = List ℕ} b a c)
onto_step true a c h g = h
onto_step false a c h g = g

onto_named : (k n : ℕ) (acc : List ℕ) → AllIn Name acc → AllIn Name (digits_onto k 16 false n acc)
onto_named zero n acc h = h
onto_named (suc k) n acc h =
    let below : n % 16 < 16 = omega arith in
    let one : AllIn Name (digit_glyph false (n % 16) ∷ acc) = (glyph_named (n % 16) below, h) in
    onto_step (nat_eq (n / 16) 0) (digit_glyph false (n % 16) ∷ acc) (digits_onto k 16 false (n / 16) (digit_glyph false (n % 16) ∷ acc)) one (onto_named k (n / 16) (digit_glyph false (n % 16) ∷ acc) one)

zeros_named : (n : ℕ) → AllIn Name (replicate n 48)
zeros_named zero = tt
zeros_named (suc n) = (refl, zeros_named n)

hex_named : (width n : ℕ) → AllIn Name (hex width n)
unfolding digits
hex_named width n = all_in-append Name (replicate (width - length (digits 16 false n)) 48) (digits 16 false n) (zeros_named (width - length (digits 16 false n))) (onto_named 64 n [] tt)

pub anonymous_named : (ordinal : ℕ) (kind : List ℕ) → IsNameOf Name (anonymous_name ordinal kind)
anonymous_named ordinal kind =
    (omega arith, (refl, (refl, (refl, all_in-append Name (hex 2 ordinal) (hex 4 (type_hash kind)) (hex_named 2 ordinal) (hex_named 4 (type_hash kind))))))

-- options
pub record AreValid (options : List Opt) : Type 0 where
  pub each : AllByRecursion IsValidOption options
  pub distinct : AreDistinct (names_of options)

IfValid : Option Value → Type 0
IfValid None = Unit {0}
IfValid (Some value) = IsValidValue value

Keeps : (Option Value → Value) → Type 0
Keeps change = (before : Option Value) → IfValid before → IsValidValue (change before)

keeps_none : (change : Option Value → Value) → Keeps change → IsValidValue (change None)
unfolding Keeps IfValid
keeps_none change k = k None tt

put_case : (b : Bool) (change : Option Value → Value) (option : Opt) (options rest : List Opt) → Keeps change → IsValidOption option → AllByRecursion IsValidOption options → AllByRecursion IsValidOption rest
    → AllByRecursion IsValidOption (cond {A = List Opt} b (record option { value = change (Some option.value) } ∷ options) (option ∷ rest))
unfolding Keeps IfValid
put_case true change option options rest k o h g = (record { named = o.named; value = k (Some option.value) o.value }, h)
put_case false change option options rest k o h g = (o, g)

put_each : (name : List ℕ) (change : Option Value → Value) (options : List Opt) → IsNameOf Name name → Keeps change → AllByRecursion IsValidOption options → AllByRecursion IsValidOption (put name change options)
put_each name change [] n k h = (record { named = n; value = keeps_none change k }, tt)
put_each name change (option ∷ options) n k h = put_case (bytes_eq option.name name) change option options (put name change options) k h.0 h.1 (put_each name change options n k h.1)

put_lacks_case : (b : Bool) (key : List ℕ) (change : Option Value → Value) (option : Opt) (options rest : List Opt) → AllByRecursion (λ other. other ≢ key) (names_of (option ∷ options))
    → AllByRecursion (λ other. other ≢ key) (names_of rest) → AllByRecursion (λ other. other ≢ key) (names_of (cond {A = List Opt} b (record option { value = change (Some option.value) } ∷ options) (option ∷ rest)))
put_lacks_case true key change option options rest h g = h
put_lacks_case false key change option options rest h g = (h.0, g)

pub put_lacks : (key name : List ℕ) (change : Option Value → Value) (options : List Opt) → name ≢ key → AllByRecursion (λ other. other ≢ key) (names_of options) → AllByRecursion (λ other. other ≢ key) (names_of (put name change options))
put_lacks key name change [] n h = (n, tt)
put_lacks key name change (option ∷ options) n h = put_lacks_case (bytes_eq option.name name) key change option options (put name change options) h (put_lacks key name change options n h.1)

pub apart_names : (a b : List ℕ) → bytes_eq a b ≡ false → b ≢ a
apart_names a b e same = let t : bytes_eq a b ≡ true = (bytes_eq-Decides a b).1 (sym same) in let f : true ≡ false = sym t ∙ e in cc

put_distinct_case : (b : Bool) (name : List ℕ) (change : Option Value → Value) (option : Opt) (options : List Opt) → bytes_eq option.name name ≡ b → AreDistinct (names_of (option ∷ options))
    → AreDistinct (names_of (put name change options)) → AreDistinct (names_of (cond {A = List Opt} b (record option { value = change (Some option.value) } ∷ options) (option ∷ put name change options)))
put_distinct_case true name change option options e h g = h
put_distinct_case false name change option options e h g = (put_lacks option.name name change options (apart_names option.name name e) h.0, g)

put_distinct : (name : List ℕ) (change : Option Value → Value) (options : List Opt) → AreDistinct (names_of options) → AreDistinct (names_of (put name change options))
put_distinct name change [] h = (tt, tt)
put_distinct name change (option ∷ options) h = put_distinct_case (bytes_eq option.name name) name change option options refl h (put_distinct name change options h.1)

without_each_case : (b : Bool) (option : Opt) (options rest : List Opt) → IsValidOption option → AllByRecursion IsValidOption options → AllByRecursion IsValidOption rest
    → AllByRecursion IsValidOption (cond {A = List Opt} b options (option ∷ rest))
without_each_case true option options rest o h g = h
without_each_case false option options rest o h g = (o, g)

pub without_each : (name : List ℕ) (options : List Opt) → AllByRecursion IsValidOption options → AllByRecursion IsValidOption (without name options)
without_each name [] h = tt
without_each name (option ∷ options) h = without_each_case (bytes_eq option.name name) option options (without name options) h.0 h.1 (without_each name options h.1)

without_lacks_case : (b : Bool) (key : List ℕ) (option : Opt) (options rest : List Opt) → AllByRecursion (λ other. other ≢ key) (names_of (option ∷ options)) → AllByRecursion (λ other. other ≢ key) (names_of rest)
    → AllByRecursion (λ other. other ≢ key) (names_of (cond {A = List Opt} b options (option ∷ rest)))
without_lacks_case true key option options rest h g = h.1
without_lacks_case false key option options rest h g = (h.0, g)

pub without_lacks : (key name : List ℕ) (options : List Opt) → AllByRecursion (λ other. other ≢ key) (names_of options) → AllByRecursion (λ other. other ≢ key) (names_of (without name options))
without_lacks key name [] h = tt
without_lacks key name (option ∷ options) h = without_lacks_case (bytes_eq option.name name) key option options (without name options) h (without_lacks key name options h.1)

without_distinct_case : (b : Bool) (name : List ℕ) (option : Opt) (options : List Opt) → AreDistinct (names_of (option ∷ options)) → AreDistinct (names_of (without name options))
    → AreDistinct (names_of (cond {A = List Opt} b options (option ∷ without name options)))
without_distinct_case true name option options h g = h.1
without_distinct_case false name option options h g = (without_lacks option.name name options h.0, g)

pub without_distinct : (name : List ℕ) (options : List Opt) → AreDistinct (names_of options) → AreDistinct (names_of (without name options))
without_distinct name [] h = tt
without_distinct name (option ∷ options) h = without_distinct_case (bytes_eq option.name name) name option options h (without_distinct name options h.1)

append_keeps : (item : List ℕ) → AllIn NotZero item → Keeps (appended item)
unfolding Keeps IfValid
append_keeps item h None v = (omega arith, (h, tt))
append_keeps item h (Some (One value)) v = (omega arith, (v.1, (h, tt)))
append_keeps item h (Some (Many items)) v = (omega (arith, length-append items (item ∷ [])), each-append (λ (item : List ℕ). AllIn NotZero item) items (item ∷ []) v.1 (h, tt))

value_keeps : (byte : ℕ) (bytes : List ℕ) → AllIn NotZero (byte ∷ bytes) → Keeps (λ before. One (byte ∷ bytes))
unfolding Keeps IfValid
value_keeps byte bytes h before v = (omega arith, h)

pub option_valid : (name value : List ℕ) (options : List Opt) → IsNameOf Name name → AllIn NotZero value → AreValid options → AreValid (with_option name value options)
option_valid name [] options n h v = record { each = without_each name options v.each; distinct = without_distinct name options v.distinct }
option_valid name (byte ∷ bytes) options n h v = record { each = put_each name (λ before. One (byte ∷ bytes)) options n (value_keeps byte bytes h) v.each; distinct = put_distinct name (λ before. One (byte ∷ bytes)) options v.distinct }

pub item_valid : (name item : List ℕ) (options : List Opt) → IsNameOf Name name → AllIn NotZero item → AreValid options → AreValid (with_item name item options)
item_valid name item options n h v = record { each = put_each name (appended item) options n (append_keeps item h) v.each; distinct = put_distinct name (appended item) options v.distinct }

-- sections
changed_valid : (place : ℕ) (change : Section → Section) (sections : List Section) → ((section : Section) → IsValidSection section → IsValidSection (change section)) → AllByRecursion IsValidSection sections
    → AllByRecursion IsValidSection (changed_at place change sections)
changed_valid place change [] k h = tt
changed_valid zero change (section ∷ sections) k h = (k section h.0, h.1)
changed_valid (suc place) change (section ∷ sections) k h = (h.0, changed_valid place change sections k h.1)

added_valid : (draft : Draft) (name : List ℕ) (anonymous : Bool) (kind : List ℕ) → AllByRecursion IsValidSection draft.sections → IsNameOf Name name → IsNameOf Printable kind
    → AllByRecursion IsValidSection (added draft name anonymous kind).sections
added_valid draft name anonymous kind h n k = each-append IsValidSection draft.sections (record { name = name; anonymous = anonymous; kind = kind; options = [] } ∷ []) h (record { named = n; typed = k; options = tt; distinct = tt }, tt)

named_valid : (draft : Draft) (kind name : List ℕ) (place : Option ℕ) → AllByRecursion IsValidSection draft.sections → IsNameOf Name name → IsNameOf Printable kind
    → AllByRecursion IsValidSection (named_config draft kind name place).sections
named_valid draft kind name None h n k = added_valid draft name false kind h n k
named_valid draft kind name (Some place) h n k = changed_valid place (λ (section : Section). record section { kind = kind }) draft.sections (λ section v. record { named = v.named; typed = k; options = v.options; distinct = v.distinct }) h

options_valid : (draft next : Draft) (line : ℕ) (change : List Opt → List Opt) (place : Option ℕ) → ((options : List Opt) → AreValid options → AreValid (change options)) → AllByRecursion IsValidSection draft.sections
    → with_options_at draft line change place ≡ Ok next → AllByRecursion IsValidSection next.sections
options_valid draft next line change None k h e = absurd (let f : with_options_at draft line change None ≡ Ok next = e in cc)
options_valid draft next line change (Some place) k h e =
    let sections = changed_at place (λ (section : Section). record section { options = change section.options }) draft.sections in
    let made : Draft = record draft { sections = sections } in
    let f : ◌≡◌ {A = Result Draft ℕ} (Ok made) (Ok next) = e in
    let same : made ≡ next = cc in
    let P : Draft → Type 0 = λ z. AllByRecursion IsValidSection z.sections in
    subst P same (changed_valid place (λ (section : Section). record section { options = change section.options }) draft.sections
    (λ section v. let w = k section.options (record { each = v.options; distinct = v.distinct }) in record { named = v.named; typed = v.typed; options = w.each; distinct = w.distinct }) h)

same_draft : (draft next : Draft) → ◌≡◌ {A = Result Draft ℕ} (Ok draft) (Ok next) → draft ≡ next
same_draft draft next e = cc

after_valid : (draft next : Draft) (cmd : Cmd) → AllByRecursion IsValidSection draft.sections → IsGood cmd → after draft cmd ≡ Ok next → AllByRecursion IsValidSection next.sections
after_valid draft next (PackageCmd line name) h g e = let P : Draft → Type 0 = λ z. AllByRecursion IsValidSection z.sections in subst P (same_draft draft next e) h
after_valid draft next (Config line kind None) h g e =
    let P : Draft → Type 0 = λ z. AllByRecursion IsValidSection z.sections in
    subst P (same_draft (configured draft kind None) next e) (added_valid draft (anonymous_name (draft.made + 1) kind) true kind h (anonymous_named (draft.made + 1) kind) g)
after_valid draft next (Config line kind (Some name)) h g e =
    let P : Draft → Type 0 = λ z. AllByRecursion IsValidSection z.sections in
    subst P (same_draft (configured draft kind (Some name)) next e) (named_valid draft kind name (named_place draft.sections name) h g.1 g.0)
after_valid draft next (Item line name value) h g e = options_valid draft next line (with_option name value) draft.current (λ options v. option_valid name value options g.0 g.1 v) h e
after_valid draft next (ListItem line name item) h g e = options_valid draft next line (with_item name item) draft.current (λ options v. item_valid name item options g.0 g.1 v) h e

all_step : (outcome : Result Draft ℕ) (draft next : Draft) (cmd : Cmd) (commands : List Cmd) → outcome ≡ after draft cmd → AllByRecursion IsValidSection draft.sections → IsGood cmd
    → ((middle : Draft) → AllByRecursion IsValidSection middle.sections → after_all middle commands ≡ Ok next → AllByRecursion IsValidSection next.sections) → goes_on outcome (λ middle. after_all middle commands) ≡ Ok next
    → AllByRecursion IsValidSection next.sections
all_step (Err line) draft next cmd commands o h g k e = absurd (let f : ◌≡◌ {A = Result Draft ℕ} (Err line) (Ok next) = e in cc)
all_step (Ok middle) draft next cmd commands o h g k e = k middle (after_valid draft middle cmd h g (sym o)) e

all_valid : (draft next : Draft) (commands : List Cmd) → AllByRecursion IsValidSection draft.sections → AllByRecursion IsGood commands → after_all draft commands ≡ Ok next → AllByRecursion IsValidSection next.sections
all_valid draft next [] h g e = let P : Draft → Type 0 = λ z. AllByRecursion IsValidSection z.sections in subst P (same_draft draft next e) h
all_valid draft next (cmd ∷ commands) h g e = all_step (after draft cmd) draft next cmd commands refl h g.0 (λ middle v f. all_valid middle next commands v g.1 f) e

pub read_is_valid : (name text : List ℕ) (tree : Package) → IsNameOf PackageName name → Reads name text tree → IsValid tree
read_is_valid name text tree n r =
    let P : Package → Type 0 = λ z. IsValid z in
    subst P (sym r.is) (record { named = n; sections = all_valid nothing r.draft r.commands tt (good_commands text r.commands r.spelled) r.folded })
