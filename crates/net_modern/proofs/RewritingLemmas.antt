-- The names of `device` sections, while a package is gone through.
use Rattle.std.proofs.Common.{ℕ, ◌≡◌, Bool, true, false, cond, ◌&&◌, ◌||◌, List, [], ◌∷◌, ◌++◌, Option, Some, None, bytes_eq, refl, sym, ◌∙◌, ap, codes}
use Rattle.std.specs.Option.{option_and_then}
use Rattle.std.specs.BTreeSet.{BTreeSet}
use Rattle.std.proofs.lemmas.Bool.{cond_both}
use Rattle.std.proofs.lemmas.List.Folds.{list_any-append}
use Rattle.uci_tree.specs.declared.package.Value.{Value}
use Rattle.uci_tree.specs.declared.package.Value.TheVariants.{One}
use Rattle.uci_tree.specs.declared.package.Opt.{Opt}
use Rattle.uci_tree.specs.declared.package.Section.{Section}
use Rattle.net_rows.specs.Options.{value_of, single, is_given}
use Rattle.net_modern.specs.Options.{is_text, without, option_if, first_if, list_if, ifname_words, with_ports, on_device, on_bridge}
use Rattle.net_modern.specs.Rules.{is_device, is_device_named, has_device, is_old_bridge, is_on_one_device, has_both, with_options, bridge_name, rewritten, over_bridge, bridge_section}
use Rattle.net_modern.specs.Names.{is_among, AreNames, AddsNames}
use Rattle.net_modern.specs.Rewriting.{Progress, gets_bridge, added_for, one_more, after_section, after_sections, sections_now}
use Rattle.net_modern.proofs.OptionLemmas.{value_of-without, value_of-with}

-- an option but `ifname`, `ports` and `device` is as it was
pub value_of-with_ports : (key : List ℕ) (options : List Opt) → bytes_eq (codes "ifname") key ≡ false → bytes_eq (codes "ports") key ≡ false → value_of key (with_ports options) ≡ value_of key options
value_of-with_ports key options a b = by_case (is_given (codes "ports") options)
  where
    by_case : (given : Bool) → value_of key (without (codes "ifname") options ++ cond {A = List Opt} given [] (option_if (codes "ports") (list_if (ifname_words options)))) ≡ value_of key options
    by_case true = value_of-with key (codes "ports") (without (codes "ifname") options) None b ∙ value_of-without key (codes "ifname") options a
    by_case false = value_of-with key (codes "ports") (without (codes "ifname") options) (list_if (ifname_words options)) b ∙ value_of-without key (codes "ifname") options a

pub value_of-on_device : (key : List ℕ) (options : List Opt) → bytes_eq (codes "ifname") key ≡ false → bytes_eq (codes "device") key ≡ false → value_of key (on_device options) ≡ value_of key options
value_of-on_device key options a b = value_of-with key (codes "device") (without (codes "ifname") options) (first_if (ifname_words options)) b ∙ value_of-without key (codes "ifname") options a

name_on_bridge : (bridge : List ℕ) (options : List Opt) → value_of (codes "name") (on_bridge bridge options) ≡ value_of (codes "name") options
name_on_bridge bridge options =
    let one = without (codes "bridge_empty") options in
    let two = without (codes "mtu") one in
    let three = without (codes "macaddr") two in
    let four = without (codes "ifname") three in
    value_of-with (codes "name") (codes "device") (without (codes "type") four) (Some (One bridge)) refl
    ∙ value_of-without (codes "name") (codes "type") four refl
    ∙ value_of-without (codes "name") (codes "ifname") three refl
    ∙ value_of-without (codes "name") (codes "macaddr") two refl
    ∙ value_of-without (codes "name") (codes "mtu") one refl
    ∙ value_of-without (codes "name") (codes "bridge_empty") options refl

-- a section whose option `name` stays has its name as a device
same_name : (name : List ℕ) (section : Section) (options : List Opt) → value_of (codes "name") options ≡ value_of (codes "name") section.options → is_device_named name (with_options section options) ≡ is_device_named name section
same_name name section options e = ap (λ (z : Option Value). is_device section && is_text name (option_and_then single z)) e

name_over_bridge : (name : List ℕ) (section : Section) → is_device_named name (over_bridge section) ≡ is_device_named name section
name_over_bridge name section = same_name name section (on_bridge (bridge_name section) section.options) (name_on_bridge (bridge_name section) section.options)

name_rewritten : (name : List ℕ) (section : Section) → is_device_named name (rewritten section) ≡ is_device_named name section
name_rewritten name section =
    let Same : Section → Type 0 = λ z. is_device_named name z ≡ is_device_named name section in
    let options = section.options in
    let last : Section = cond (has_both section) (with_options section (without (codes "ifname") options)) section in
    let middle : Section = cond (is_on_one_device section) (with_options section (on_device options)) last in
    cond_both (is_old_bridge section) (with_options section (with_ports options)) middle Same
    (λ _. same_name name section (with_ports options) (value_of-with_ports (codes "name") options refl refl))
    (λ _. cond_both (is_on_one_device section) (with_options section (on_device options)) last Same
    (λ _. same_name name section (on_device options) (value_of-on_device (codes "name") options refl refl))
    (λ _. cond_both (has_both section) (with_options section (without (codes "ifname") options)) section Same
    (λ _. same_name name section (without (codes "ifname") options) (value_of-without (codes "name") (codes "ifname") options refl))
    (λ _. refl)))

one_behind : (b s l a : Bool) → ((b || (s || false)) || (l || a)) ≡ ((b || (s || (l || a))) || false)
one_behind true s l a = refl
one_behind false true l a = refl
one_behind false false true a = refl
one_behind false false false true = refl
one_behind false false false false = refl

one_behind_one_more : (b s l a x : Bool) → ((b || (s || false)) || (l || (a || x))) ≡ ((b || (s || (l || a))) || x)
one_behind_one_more true s l a x = refl
one_behind_one_more false true l a x = refl
one_behind_one_more false false true a x = refl
one_behind_one_more false false false true x = refl
one_behind_one_more false false false false x = refl

parts : (name : List ℕ) (before others added : List Section) → has_device (before ++ (others ++ added)) name ≡ (has_device before name || (has_device others name || has_device added name))
parts name before others added =
    list_any-append (is_device_named name) before (others ++ added)
    ∙ ap (λ (z : Bool). has_device before name || z) (list_any-append (is_device_named name) others added)

parts_behind : (name : List ℕ) (before later added : List Section) (section : Section) → has_device (before ++ (section ∷ (later ++ added))) name
    ≡ (has_device before name || (is_device_named name section || (has_device later name || has_device added name)))
parts_behind name before later added section =
    list_any-append (is_device_named name) before (section ∷ (later ++ added))
    ∙ ap (λ (z : Bool). has_device before name || (is_device_named name section || z)) (list_any-append (is_device_named name) later added)

moved_on : (name : List ℕ) (before later added more : List Section) (section new : Section) → is_device_named name new ≡ is_device_named name section → has_device ((before ++ new ∷ []) ++ (later ++ (added ++ more))) name
    ≡ (has_device (before ++ (section ∷ (later ++ added))) name || has_device more name)
moved_on name before later added more section new same =
    let b = has_device before name in
    let l = has_device later name in
    let a = has_device added name in
    let m = has_device more name in
    let s = is_device_named name section in
    parts name (before ++ new ∷ []) later (added ++ more)
    ∙ ap (λ (z : Bool). z || (l || has_device (added ++ more) name)) (list_any-append (is_device_named name) before (new ∷ []))
    ∙ ap (λ (z : Bool). (b || (z || false)) || (l || has_device (added ++ more) name)) same
    ∙ ap (λ (z : Bool). (b || (s || false)) || (l || z)) (list_any-append (is_device_named name) added more)
    ∙ one_behind_one_more b s l a m
    ∙ ap (λ (z : Bool). z || m) (sym (parts_behind name before later added section))

stayed : (name : List ℕ) (before later added : List Section) (section new : Section) → is_device_named name new ≡ is_device_named name section → has_device ((before ++ new ∷ []) ++ (later ++ added)) name
    ≡ (has_device (before ++ (section ∷ (later ++ added))) name || false)
stayed name before later added section new same =
    let b = has_device before name in
    let l = has_device later name in
    let a = has_device added name in
    let s = is_device_named name section in
    parts name (before ++ new ∷ []) later added
    ∙ ap (λ (z : Bool). z || (l || a)) (list_any-append (is_device_named name) before (new ∷ []))
    ∙ ap (λ (z : Bool). (b || (z || false)) || (l || a)) same
    ∙ one_behind b s l a
    ∙ ap (λ (z : Bool). z || false) (sym (parts_behind name before later added section))

by_gets : Bool → Progress → Section → Progress
by_gets gets progress section = cond {A = Progress} gets
    (record {
      before = progress.before ++ over_bridge section ∷ [];
      added = progress.added ++ bridge_section (one_more progress.made) section ∷ [];
      made = one_more progress.made;
    })
    (record progress { before = progress.before ++ rewritten section ∷ [] })

names_by : (gets : Bool) (progress : Progress) (section : Section) (later : List Section) (name : List ℕ) → has_device (sections_now (by_gets gets progress section) later) name
    ≡ (has_device (sections_now progress (section ∷ later)) name || has_device (cond {A = List Section} gets (bridge_section (one_more progress.made) section ∷ []) []) name)
unfolding by_gets
names_by true progress section later name = moved_on name progress.before later progress.added (bridge_section (one_more progress.made) section ∷ []) section (over_bridge section) (name_over_bridge name section)
names_by false progress section later name = stayed name progress.before later progress.added section (rewritten section) (name_rewritten name section)

-- the names when a section was gone through are those before, and those of what was added
pub names_after : (is_there : Bool) (progress : Progress) (section : Section) (later : List Section) (name : List ℕ) → has_device (sections_now (after_section is_there progress section) later) name
    ≡ (has_device (sections_now progress (section ∷ later)) name || has_device (added_for is_there progress.made section) name)
unfolding by_gets
names_after is_there progress section later name = names_by (gets_bridge is_there section) progress section later name

-- a section is gone through by the names that are kept
pub goes_on : (names : BTreeSet (List ℕ)) (progress next end : Progress) (section : Section) (rest later : List Section) → AreNames names (sections_now progress rest) → after_sections progress rest ≡ end → rest ≡ section ∷ later → next
    ≡ after_section (is_among names (bridge_name section)) progress section → after_sections next later ≡ end
goes_on names progress next end section rest later are so_far rest_is next_is =
    let there : is_among names (bridge_name section) ≡ has_device (sections_now progress (section ∷ later)) (bridge_name section) =
    are (bridge_name section) ∙ ap (λ (z : List Section). has_device (sections_now progress z) (bridge_name section)) rest_is in
    ap (λ (z : Progress). after_sections z later) (next_is ∙ ap (λ (z : Bool). after_section z progress section) there)
    ∙ sym (ap (after_sections progress) rest_is)
    ∙ so_far

pub names_go_on : (old new : BTreeSet (List ℕ)) (progress next : Progress) (section : Section) (rest later : List Section) → AreNames old (sections_now progress rest) → rest ≡ section ∷ later → next
    ≡ after_section (is_among old (bridge_name section)) progress section → AddsNames old new (added_for (is_among old (bridge_name section)) progress.made section) → AreNames new (sections_now next later)
names_go_on old new progress next section rest later are rest_is next_is adds name =
    let is_there = is_among old (bridge_name section) in
    adds name
    ∙ ap (λ (z : Bool). z || has_device (added_for is_there progress.made section) name) (are name ∙ ap (λ (z : List Section). has_device (sections_now progress z) name) rest_is)
    ∙ sym (names_after is_there progress section later name)
    ∙ ap (λ (z : Progress). has_device (sections_now z later) name) (sym next_is)
