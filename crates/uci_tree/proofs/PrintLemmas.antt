-- What is printed reads as the sections at their places.
use Rattle.std.proofs.Common.{ℕ, suc, ◌≡◌, ◌≢◌, ◌<◌, ◌+◌, List, [], ◌∷◌, ◌++◌, length, Bool, true, false, cond, Option, Some, None, Ok, inl, inr, codes, bytes_eq, arith, sym, refl, subst, ap, ◌∙◌, append_assoc, length-append}
use Rattle.std.specs.List.{AllByRecursion, flat_map}
use Rattle.std.specs.Option.{option_map}
use Rattle.std.specs.Prelude.{◌&&◌}
use Rattle.std.proofs.lemmas.List.{append-nil}
use Rattle.std.proofs.lemmas.Slice.Eq.{bytes_eq-Decides}
use Rattle.plane_words.specs.Distinct.{AreDistinct}
use Rattle.uci_text.specs.declared.byte_class.ByteClass.TheVariants.{Name, PackageName, Printable, NotZero}
use Rattle.uci_text.specs.declared.keyword.Keyword.TheVariants as keyword
use Rattle.uci_text.specs.declared.cmd.Cmd.{Cmd}
use Rattle.uci_text.specs.declared.cmd.Cmd.TheVariants.{Package as PackageCmd, Config, Item, ListItem}
use Rattle.uci_text.specs.ByteClass.{AllIn}
use Rattle.uci_text.specs.Gap.{blank}
use Rattle.uci_text.specs.Table.{IsNameOf, section_name, IsCmd}
use Rattle.uci_text.specs.Text.{SpellsLines}
use Rattle.uci_text.specs.ByteClass.{newlines}
use Rattle.uci_text.specs.Quote.{quoted}
use Rattle.uci_tree.specs.declared.package.Value.{Value}
use Rattle.uci_tree.specs.declared.package.Value.TheVariants.{One, Many}
use Rattle.uci_tree.specs.declared.package.Opt.{Opt}
use Rattle.uci_tree.specs.declared.package.Section.{Section}
use Rattle.uci_tree.specs.declared.package.Package.{Package}
use Rattle.uci_tree.specs.Anonymous.{anonymous_name}
use Rattle.uci_tree.specs.Find.{named_place}
use Rattle.uci_tree.specs.Fold.{changed_at, put, with_option, with_item, appended, Draft, nothing, added, named_config, with_options, after}
use Rattle.uci_tree.specs.Valid.{IsValidValue, IsValidOption, names_of, IsValidSection, IsValid}
use Rattle.uci_tree.specs.Reading.{Reads}
use Rattle.uci_tree.specs.Print.{kind_text, option_line, value_text, option_text, name_text, section_text, header_text, printed}
use Rattle.uci_tree.specs.Placed.{placed_name, placed_from, IsClean}
use Rattle.uci_tree.proofs.FoldLemmas.{position-cons}
use Rattle.uci_tree.proofs.LineLemmas.{IsCleanWord, quoted_word, name_word, package_name_word, kind_word, AreArguments, no_argument, argument, ReadsOn, reads_end, reads_blank, reads_line}

-- lines as commands
item_is : (line : ℕ) (name value : List ℕ) → IsNameOf Name name → IsCmd line (codes "option" ∷ name ∷ value ∷ []) (Item line name value)
item_is line name value n = record { keyword = keyword.Item; is = record { begins = inl refl; count = inr refl; named = n }; cmd_is = refl }

list_item_is : (line : ℕ) (name item : List ℕ) → IsNameOf Name name → IsCmd line (codes "list" ∷ name ∷ item ∷ []) (ListItem line name item)
list_item_is line name item n = record { keyword = keyword.ListItem; is = record { begins = inl refl; count = inr refl; named = n }; cmd_is = refl }

unnamed_is : (line : ℕ) (kind : List ℕ) → IsNameOf Printable kind → IsCmd line (codes "config" ∷ kind ∷ []) (Config line kind None)
unnamed_is line kind k = record { keyword = keyword.Config; is = record { begins = inl refl; count = inl refl; named = (k, tt) }; cmd_is = refl }

some_name : (name : List ℕ) → 0 < length name → Some name ≡ section_name name
some_name [] h = absurd (omega (arith, h))
some_name (byte ∷ name) h = refl

named_is : (line : ℕ) (kind name : List ℕ) → IsNameOf Printable kind → IsNameOf Name name → IsCmd line (codes "config" ∷ kind ∷ name ∷ []) (Config line kind (Some name))
named_is line kind name k n = record { keyword = keyword.Config; is = record { begins = inl refl; count = inr refl; named = (k, n.1) }; cmd_is = ap (λ (z : Option (List ℕ)). Config line kind z) (some_name name n.0) }

package_is : (line : ℕ) (name : List ℕ) → IsNameOf PackageName name → IsCmd line (codes "package" ∷ name ∷ []) (PackageCmd line name)
package_is line name n = record { keyword = keyword.Package; is = record { begins = inl refl; count = refl; named = n }; cmd_is = refl }

-- the first words
option_word : IsCleanWord (codes "option") (codes "option")
option_word = name_word (codes "option") (omega arith, (refl, (refl, (refl, (refl, (refl, (refl, tt)))))))

list_word : IsCleanWord (codes "list") (codes "list")
list_word = name_word (codes "list") (omega arith, (refl, (refl, (refl, (refl, tt)))))

config_word : IsCleanWord (codes "config") (codes "config")
config_word = name_word (codes "config") (omega arith, (refl, (refl, (refl, (refl, (refl, (refl, tt)))))))

package_word : IsCleanWord (codes "package") (codes "package")
package_word = name_word (codes "package") (omega arith, (refl, (refl, (refl, (refl, (refl, (refl, (refl, tt))))))))

-- options at the end
differs : (a b : List ℕ) (t : Bool) → bytes_eq a b ≡ t → a ≢ b → bytes_eq a b ≡ false
differs a b true e n = absurd (n ((bytes_eq-Decides a b).0 e))
differs a b false e n = e

Lacks : List ℕ → List Opt → Type 0
Lacks name options = AllByRecursion (λ (option : Opt). option.name ≢ name) options

put_end : (name : List ℕ) (change : Option Value → Value) (options : List Opt) → Lacks name options → put name change options ≡ options ++ record { name = name; value = change None } ∷ []
unfolding Lacks
put_end name change [] h = refl
put_end name change (option ∷ options) h =
    ap (λ (t : Bool). cond {A = List Opt} t (record option { value = change (Some option.value) } ∷ options) (option ∷ put name change options)) (differs option.name name (bytes_eq option.name name) refl h.0)
    ∙ ap (λ (z : List Opt). option ∷ z) (put_end name change options h.1)

put_last : (name : List ℕ) (change : Option Value → Value) (options : List Opt) (value : Value) → Lacks name options → put name change (options ++ record { name = name; value = value } ∷ []) ≡ options
    ++ record { name = name; value = change (Some value) } ∷ []
unfolding Lacks
put_last name change [] value h = ap (λ (t : Bool). cond {A = List Opt} t (record { name = name; value = change (Some value) } ∷ []) (record { name = name; value = value } ∷ put name change [])) ((bytes_eq-Decides name name).1 refl)
put_last name change (option ∷ options) value h =
    ap (λ (t : Bool). cond {A = List Opt} t (record option { value = change (Some option.value) } ∷ (options ++ record { name = name; value = value } ∷ [])) (option ∷ put name change (options ++ record { name = name; value = value } ∷ [])))
    (differs option.name name (bytes_eq option.name name) refl h.0)
    ∙ ap (λ (z : List Opt). option ∷ z) (put_last name change options value h.1)

value_put : (name value : List ℕ) (options : List Opt) → 0 < length value → with_option name value options ≡ put name (λ before. One value) options
value_put name [] options h = absurd (omega (arith, h))
value_put name (byte ∷ value) options h = refl

lacks_before : (front : List Opt) (option : Opt) (behind : List Opt) → AreDistinct (names_of (front ++ option ∷ behind)) → Lacks option.name front
unfolding Lacks
lacks_before [] option behind h = tt
lacks_before (other ∷ front) option behind h = (λ e. there front h.0 (sym e), lacks_before front option behind h.1)
  where
    there : (front : List Opt) → AllByRecursion (λ name. name ≢ other.name) (names_of (front ++ option ∷ behind)) → option.name ≢ other.name
    there [] h = h.0
    there (x ∷ front) h = there front h.1

-- the last section of a draft
changed_last : (before : List Section) (change : Section → Section) (section : Section) → changed_at (length before) change (before ++ section ∷ []) ≡ before ++ change section ∷ []
changed_last [] change section = refl
changed_last (x ∷ before) change section = ap (λ (z : List Section). x ∷ z) (changed_last before change section)

abbrev pub draft_from : List Section → ℕ → Option ℕ → Draft
draft_from sections made current = record { sections = sections; made = made; current = current }

abbrev pub with_last : List Section → Section → ℕ → List Opt → Draft
with_last before section made options = draft_from (before ++ record section { options = options } ∷ []) made (Some (length before))

options_last : (before : List Section) (section : Section) (made line : ℕ) (options : List Opt) (change : List Opt → List Opt) (next : List Opt) → change options ≡ next → with_options (with_last before section made options) line change
    ≡ Ok (with_last before section made next)
options_last before section made line options change next e =
    ap (λ (z : List Section). Ok (draft_from z made (Some (length before)))) (changed_last before (λ (s : Section). record s { options = change s.options }) (record section { options = options }))
    ∙ ap (λ (z : List Opt). Ok (with_last before section made z)) e

-- a tab, three words and a newline in front
parts_text : (a b c d rest : List ℕ) → (a ++ b ++ c ++ d) ++ rest ≡ a ++ (b ++ (c ++ [])) ++ (d ++ rest)
parts_text a b c d rest = simp (append_assoc, append-nil)

line_text : (first second third rest : List ℕ) → (first ++ 32 ∷ second ++ 32 ∷ third ++ 10 ∷ []) ++ rest ≡ first ++ (32 ∷ second ++ (32 ∷ third ++ [])) ++ 10 ∷ rest
line_text first second third rest = parts_text first (32 ∷ second) (32 ∷ third) (10 ∷ []) rest

-- the text reads on, of the draft whose last section has these options
abbrev pub ReadsLast : List Section → Section → ℕ → List Section → ℕ → List Opt → List ℕ → Type 0
ReadsLast before section added sections made options text = (number : ℕ) → ReadsOn number text (with_last before section added options) sections made

module _ (before : List Section) (section : Section) (added : ℕ) (sections : List Section) (made : ℕ) where
  reads_item : (name value rest : List ℕ) (options next : List Opt) → IsNameOf Name name → AllIn NotZero value → with_option name value options ≡ next → ReadsLast before section added sections made next rest
      → ReadsLast before section added sections made options (option_line (codes "option") name value ++ rest)
  reads_item name value rest options next n v e r =
      let P : List ℕ → Type 0 = λ z. ReadsLast before section added sections made options (9 ∷ z) in
      let line = reads_line (codes "option") (32 ∷ name ++ (32 ∷ quoted value ++ [])) rest (name ∷ value ∷ []) (λ line. Item line name value) (with_last before section added options) (with_last before section added next) sections made
      option_word (argument name name (32 ∷ quoted value ++ []) (value ∷ []) (name_word name n) (argument (quoted value) value [] [] (quoted_word value v) no_argument)) refl (λ line. item_is line name value n)
      (λ line. options_last before section added line options (with_option name value) next e) r in
      subst P (sym (line_text (codes "option") name (quoted value) rest)) (reads_blank 9 _ (with_last before section added options) sections made refl refl line)

  reads_list_item : (name item rest : List ℕ) (options next : List Opt) → IsNameOf Name name → AllIn NotZero item → with_item name item options ≡ next → ReadsLast before section added sections made next rest
      → ReadsLast before section added sections made options (option_line (codes "list") name item ++ rest)
  reads_list_item name item rest options next n v e r =
      let P : List ℕ → Type 0 = λ z. ReadsLast before section added sections made options (9 ∷ z) in
      let line = reads_line (codes "list") (32 ∷ name ++ (32 ∷ quoted item ++ [])) rest (name ∷ item ∷ []) (λ line. ListItem line name item) (with_last before section added options) (with_last before section added next) sections made
      list_word (argument name name (32 ∷ quoted item ++ []) (item ∷ []) (name_word name n) (argument (quoted item) item [] [] (quoted_word item v) no_argument)) refl (λ line. list_item_is line name item n)
      (λ line. options_last before section added line options (with_item name item) next e) r in
      subst P (sym (line_text (codes "list") name (quoted item) rest)) (reads_blank 9 _ (with_last before section added options) sections made refl refl line)

  reads_items : (name : List ℕ) (front : List Opt) (done items : List (List ℕ)) (rest : List ℕ) → IsNameOf Name name → Lacks name front → AllByRecursion (λ item. AllIn NotZero item) items
      → ReadsLast before section added sections made (front ++ record { name = name; value = Many (done ++ items) } ∷ []) rest
      → ReadsLast before section added sections made (front ++ record { name = name; value = Many done } ∷ []) (flat_map (option_line (codes "list") name) items ++ rest)
  reads_items name front done [] rest n l v r =
      let P : List (List ℕ) → Type 0 = λ z. ReadsLast before section added sections made (front ++ record { name = name; value = Many z } ∷ []) rest in
      subst P (append-nil done) r
  reads_items name front done (item ∷ items) rest n l v r =
      let P : List (List ℕ) → Type 0 = λ z. ReadsLast before section added sections made (front ++ record { name = name; value = Many z } ∷ []) rest in
      let Q : List ℕ → Type 0 = λ z. ReadsLast before section added sections made (front ++ record { name = name; value = Many done } ∷ []) z in
      let more = reads_items name front (done ++ item ∷ []) items rest n l v.1 (subst P (sym (append_assoc done (item ∷ []) items)) r) in
      subst Q (sym (append_assoc (option_line (codes "list") name item) (flat_map (option_line (codes "list") name) items) rest))
      (reads_list_item name item (flat_map (option_line (codes "list") name) items ++ rest) (front ++ record { name = name; value = Many done } ∷ []) (front ++ record { name = name; value = Many (done ++ item ∷ []) } ∷ []) n v.0
      (put_last name (appended item) front (Many done) l) more)

  reads_value : (name : List ℕ) (value : Value) (front : List Opt) (rest : List ℕ) → IsNameOf Name name → IsValidValue value → Lacks name front
      → ReadsLast before section added sections made (front ++ record { name = name; value = value } ∷ []) rest → ReadsLast before section added sections made front (value_text name value ++ rest)
  reads_value name (One text) front rest n v l r = reads_item name text rest front (front ++ record { name = name; value = One text } ∷ []) n v.1 (value_put name text front v.0 ∙ put_end name (λ before. One text) front l) r
  reads_value name (Many []) front rest n v l r = absurd (omega (arith, v.0))
  reads_value name (Many (item ∷ items)) front rest n v l r =
      let Q : List ℕ → Type 0 = λ z. ReadsLast before section added sections made front z in
      let more = reads_items name front (item ∷ []) items rest n l v.1.1 r in
      subst Q (sym (append_assoc (option_line (codes "list") name item) (flat_map (option_line (codes "list") name) items) rest))
      (reads_list_item name item (flat_map (option_line (codes "list") name) items ++ rest) front (front ++ record { name = name; value = Many (item ∷ []) } ∷ []) n v.1.0 (put_end name (appended item) front l) more)

  reads_options : (front options : List Opt) (rest : List ℕ) → AllByRecursion IsValidOption options → AreDistinct (names_of (front ++ options)) → ReadsLast before section added sections made (front ++ options) rest
      → ReadsLast before section added sections made front (flat_map option_text options ++ rest)
  reads_options front [] rest v d r =
      let P : List Opt → Type 0 = λ z. ReadsLast before section added sections made z rest in
      subst P (append-nil front) r
  reads_options front (option ∷ options) rest v d r =
      let P : List Opt → Type 0 = λ z. ReadsLast before section added sections made z rest in
      let D : List Opt → Type 0 = λ z. AreDistinct (names_of z) in
      let Q : List ℕ → Type 0 = λ z. ReadsLast before section added sections made front z in
      let e = sym (append_assoc front (option ∷ []) options) in
      let more = reads_options (front ++ option ∷ []) options rest v.1 (subst D e d) (subst P e r) in
      subst Q (sym (append_assoc (option_text option) (flat_map option_text options) rest)) (reads_value option.name option.value front (flat_map option_text options ++ rest) v.0.named v.0.value (lacks_before front option options d) more)

-- the first line of a section
pub record BeginsSection (draft : Draft) (section : Section) : Type 0 where
  pub values : List (List ℕ)
  pub cmd : ℕ → Cmd
  pub arguments : AreArguments (name_text false section) values
  pub is : (line : ℕ) → IsCmd line (codes "config" ∷ section.kind ∷ values) (cmd line)
  pub does : (line : ℕ) → after draft (cmd line) ≡ Ok (added draft (placed_name (draft.made + 1) section) section.anonymous section.kind)

absent : (sections : List Section) (name : List ℕ) → AllByRecursion (λ (earlier : Section). earlier.name ≢ name) sections → named_place sections name ≡ None
absent [] name h = refl
absent (section ∷ sections) name h =
    position-cons (λ (section : Section). bytes_eq section.name name) section sections
    ∙ ap (λ (t : Bool). cond {A = Option ℕ} t (Some 0) (option_map (λ k. suc k) (named_place sections name))) (differs section.name name (bytes_eq section.name name) refl h.0)
    ∙ ap (λ (z : Option ℕ). option_map (λ k. suc k) z) (absent sections name h.1)

begins_case : (b : Bool) (draft : Draft) (section : Section) → section.anonymous ≡ b → IsNameOf Name section.name → IsNameOf Printable section.kind
    → (section.anonymous ≡ false → AllByRecursion (λ (earlier : Section). earlier.name ≢ section.name) draft.sections) → BeginsSection draft section
begins_case true draft section e n k c =
    let P : List ℕ → Type 0 = λ z. AreArguments z [] in
    let none : name_text false section ≡ [] = ap (λ (t : Bool). cond {A = List ℕ} (t && true) [] (32 ∷ quoted section.name)) e in
    record {
      values = [];
      cmd = λ line. Config line section.kind None;
      arguments = subst P (sym none) no_argument;
      is = λ line. unnamed_is line section.kind k;
      does = λ line. ap (λ (t : Bool). Ok (added draft (cond {A = List ℕ} t (anonymous_name (draft.made + 1) section.kind) section.name) t section.kind)) (sym e);
    }
begins_case false draft section e n k c =
    let P : List ℕ → Type 0 = λ z. AreArguments z (section.name ∷ []) in
    let some : name_text false section ≡ 32 ∷ quoted section.name = ap (λ (t : Bool). cond {A = List ℕ} (t && true) [] (32 ∷ quoted section.name)) e in
    record {
      values = section.name ∷ [];
      cmd = λ line. Config line section.kind (Some section.name);
      arguments = subst P (ap (λ (z : List ℕ). 32 ∷ z) (append-nil (quoted section.name)) ∙ sym some) (argument (quoted section.name) section.name [] [] (quoted_word section.name (name_word section.name n).clean) no_argument);
      is = λ line. named_is line section.kind section.name k n;
      does = λ line.
          ap (λ (z : Option ℕ). Ok (named_config draft section.kind section.name z)) (absent draft.sections section.name (c e))
          ∙ ap (λ (t : Bool). Ok (added draft (cond {A = List ℕ} t (anonymous_name (draft.made + 1) section.kind) section.name) t section.kind)) (sym e);
    }

head_parts : (a b c d e rest : List ℕ) → (a ++ b ++ c ++ d ++ e) ++ rest ≡ a ++ (b ++ c) ++ (d ++ (e ++ rest))
head_parts a b c d e rest = simp append_assoc

reads_section : (draft : Draft) (section : Section) (rest : List ℕ) (sections : List Section) (made : ℕ) → IsNameOf Printable section.kind → BeginsSection draft section
    → ((number : ℕ) → ReadsOn number (flat_map option_text section.options ++ rest) (added draft (placed_name (draft.made + 1) section) section.anonymous section.kind) sections made) → (number : ℕ)
    → ReadsOn number (section_text false section ++ rest) draft sections made
reads_section draft section rest sections made k b r =
    let P : List ℕ → Type 0 = λ z. (number : ℕ) → ReadsOn number (10 ∷ z) draft sections made in
    let options = flat_map option_text section.options in
    let line = reads_line (codes "config") (32 ∷ kind_text section.kind ++ name_text false section) (options ++ rest) (section.kind ∷ b.values) b.cmd draft (added draft (placed_name (draft.made + 1) section) section.anonymous section.kind)
    sections made config_word (argument (kind_text section.kind) section.kind (name_text false section) b.values (kind_word section.kind k) b.arguments) refl b.is b.does r in
    subst P (sym (head_parts (codes "config") (32 ∷ kind_text section.kind) (name_text false section) (10 ∷ []) options rest)) (reads_blank 10 _ draft sections made refl refl line)

-- the sections at their places, with one more at the end
placed_push : (ordinal : ℕ) (front : List Section) (section : Section) → placed_from ordinal (front ++ section ∷ []) ≡ placed_from ordinal front ++ record section { name = placed_name (ordinal + length front) section } ∷ []
placed_push ordinal [] section =
    let e : ordinal ≡ ordinal + 0 = omega arith in
    ap (λ (z : ℕ). record section { name = placed_name z section } ∷ []) e
placed_push ordinal (x ∷ front) section =
    let e : (ordinal + 1) + length front ≡ ordinal + length (x ∷ front) = omega arith in
    ap (λ (z : List Section). record x { name = placed_name ordinal x } ∷ z) (placed_push (ordinal + 1) front section ∙ ap (λ (z : ℕ). placed_from (ordinal + 1) front ++ record section { name = placed_name z section } ∷ []) e)

draft_push : (front : List Section) (section : Section) → draft_from (placed_from 1 (front ++ section ∷ [])) (length (front ++ section ∷ [])) (Some (length (placed_from 1 front)))
    ≡ with_last (placed_from 1 front) (record section { name = placed_name (length front + 1) section }) (length front + 1) section.options
draft_push front section =
    let e : 1 + length front ≡ length front + 1 = omega arith in
    ap (λ (z : List Section). draft_from z (length (front ++ section ∷ [])) (Some (length (placed_from 1 front)))) (placed_push 1 front section)
    ∙ ap (λ (z : ℕ). draft_from (placed_from 1 front ++ record section { name = placed_name (1 + length front) section } ∷ []) z (Some (length (placed_from 1 front)))) (length-append front (section ∷ []))
    ∙ ap (λ (z : ℕ). with_last (placed_from 1 front) (record section { name = placed_name z section }) (length front + 1) section.options) e

-- no section that is read before a named one of these has its name
AreClean : List Section → Type 0
AreClean sections = (front : List Section) (section : Section) (behind : List Section) → sections ≡ front ++ section ∷ behind → section.anonymous ≡ false → AllByRecursion (λ earlier. earlier.name ≢ section.name) (placed_from 1 front)

reads_sections : (all front rest : List Section) → all ≡ front ++ rest → AreClean all → AllByRecursion IsValidSection rest → (current : Option ℕ) (number : ℕ)
    → ReadsOn number (flat_map (section_text false) rest ++ 10 ∷ []) (draft_from (placed_from 1 front) (length front) current) (placed_from 1 all) (length all)
unfolding AreClean
reads_sections all front [] e c v current = λ number.
    let P : List Section → Type 0 = λ z. ReadsOn number (10 ∷ []) (draft_from (placed_from 1 front) (length front) current) (placed_from 1 z) (length z) in
    subst P (sym (e ∙ append-nil front)) (reads_end number (draft_from (placed_from 1 front) (length front) current))
reads_sections all front (section ∷ rest) e c v current =
    let draft = draft_from (placed_from 1 front) (length front) current in
    let P : Draft → Type 0 = λ z. (number : ℕ) → ReadsOn number (flat_map (section_text false) rest ++ 10 ∷ []) z (placed_from 1 all) (length all) in
    let Q : List ℕ → Type 0 = λ z. (number : ℕ) → ReadsOn number z draft (placed_from 1 all) (length all) in
    let more = reads_sections all (front ++ section ∷ []) rest (e ∙ sym (append_assoc front (section ∷ []) rest)) c v.1 (Some (length (placed_from 1 front))) in
    let options = reads_options (placed_from 1 front) (record section { name = placed_name (length front + 1) section }) (length front + 1) (placed_from 1 all) (length all) [] section.options (flat_map (section_text false) rest ++ 10 ∷ [])
    v.0.options v.0.distinct (subst P (draft_push front section) more) in
    let begins = begins_case section.anonymous draft section refl v.0.named v.0.typed (λ named. c front section rest e named) in
    subst Q (sym (append_assoc (section_text false section) (flat_map (section_text false) rest) (10 ∷ [])))
    (reads_section draft section (flat_map (section_text false) rest ++ 10 ∷ []) (placed_from 1 all) (length all) v.0.typed begins options)

header_parts : (a b c e f : List ℕ) → a ++ b ++ c ++ e ++ f ≡ a ++ (b ++ []) ++ (c ++ (e ++ f))
header_parts a b c e f = simp (append_assoc, append-nil)

reads_header : (header : Bool) (name body : List ℕ) (sections : List Section) (made : ℕ) → IsNameOf PackageName name → ((number : ℕ) → ReadsOn number (body ++ 10 ∷ []) nothing sections made) → (number : ℕ)
    → ReadsOn number (header_text header name ++ body ++ 10 ∷ []) nothing sections made
reads_header false name body sections made n r = r
reads_header true name body sections made n r =
    let P : List ℕ → Type 0 = λ z. (number : ℕ) → ReadsOn number z nothing sections made in
    let line = reads_line (codes "package") (32 ∷ name ++ []) (body ++ 10 ∷ []) (name ∷ []) (λ line. PackageCmd line name) nothing nothing sections made package_word (argument name name [] [] (package_name_word name n) no_argument) refl
    (λ line. package_is line name n) (λ line. refl) r in
    subst P (sym (header_parts (codes "package") (32 ∷ name) (10 ∷ []) body (10 ∷ []))) line

tree_from : List ℕ → List Section → ℕ → Package
tree_from name sections made = record { name = name; sections = sections; made = made }

reads_as : (name text : List ℕ) (sections : List Section) (made : ℕ) → ReadsOn 1 text nothing sections made → Reads name text (record { name = name; sections = sections; made = made })
unfolding tree_from
reads_as name text sections made r =
    let P : ℕ → Type 0 = λ z. SpellsLines z r.behind r.lines in
    let e : 1 + newlines r.gap ≡ newlines r.gap + 1 = omega arith in
    record {
      commands = r.commands;
      spelled = record {
        lines = r.lines;
        spelled = record {
          gap = r.gap;
          behind = r.behind;
          whole = r.whole;
          clean = r.clean;
          front = record { fillers = blank r.gap ∷ []; whole = sym (append-nil r.gap); each = (r.blank, tt); next = r.next };
          commands = subst P e r.spelled;
        };
        each = r.each;
      };
      draft = r.last;
      folded = r.folded;
      is = ap (λ (z : List Section). tree_from name z made) (sym r.sections_are) ∙ ap (λ (z : ℕ). tree_from name r.last.sections z) (sym r.made_is);
    }

pub printed_reads : (name : List ℕ) (tree : Package) (header : Bool) → IsValid tree → IsClean tree → Reads name (printed tree header false) (record { name = name; sections = placed_from 1 tree.sections; made = length tree.sections })
unfolding AreClean
printed_reads name tree header v c = reads_as name (printed tree header false) (placed_from 1 tree.sections) (length tree.sections)
    (reads_header header tree.name (flat_map (section_text false) tree.sections) (placed_from 1 tree.sections) (length tree.sections) v.named (reads_sections tree.sections [] tree.sections refl c v.sections None) 1)
