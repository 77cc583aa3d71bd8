-- Sections for which no rule is left.
use Rattle.std.proofs.Common.{ℕ, ◌≡◌, Bool, true, false, cond, not, ◌&&◌, ◌==◌, ◌⊎◌, inl, inr, List, [], ◌∷◌, ◌++◌, length, Option, Some, None, bytes_eq, refl, ◌∙◌, ap, codes, arith}
use Rattle.std.proofs.lemmas.Bool.{cond_both, cond-false, and_right, eqb-true, not_from_true}
use Rattle.std.proofs.lemmas.Slice.Eq.{bytes_eq-Decides}
use Rattle.uci_tree.specs.declared.package.Value.{Value}
use Rattle.uci_tree.specs.declared.package.Value.TheVariants.{One}
use Rattle.uci_tree.specs.declared.package.Opt.{Opt}
use Rattle.uci_tree.specs.declared.package.Section.{Section}
use Rattle.net_rows.specs.Options.{value_of, is_given}
use Rattle.net_modern.specs.Options.{without, option_if, list_if, first_if, words_if, ifname_words, with_ports, on_device, on_bridge, of_bridge}
use Rattle.net_modern.specs.Rules.{is_device, is_bridge, is_named_interface, has, is_old_bridge, is_bridged, is_untyped, is_on_one_device, has_both, with_options, bridge_name, rewritten, over_bridge, bridge_section}
use Rattle.net_modern.proofs.OptionLemmas.{gone, no_value, given_alone, is_given-without, is_given-with, is_given-behind, given_last}

-- tests of three parts
last_false : (a b c : Bool) → c ≡ false → (a && b && c) ≡ false
last_false true true c e = e
last_false true false c e = refl
last_false false b c e = refl

middle_false : (a b c : Bool) → b ≡ false → (a && b && c) ≡ false
middle_false true b c e = ap (λ (z : Bool). z && c) e
middle_false false b c e = refl

first_false : (a b c : Bool) → a ≡ false → (a && b && c) ≡ false
first_false a b c e = ap (λ (z : Bool). z && b && c) e

first_true : (a b c : Bool) → (a && b && c) ≡ true → a ≡ true
first_true true b c e = refl
first_true false b c e = e

last_true : (a b c : Bool) → (a && b && c) ≡ true → c ≡ true
last_true true true c e = e
last_true true false c e = absurd (let f : false ≡ true = e in cc)
last_true false b c e = absurd (let f : false ≡ true = e in cc)

-- a section without `ifname` stays
no_rule : (a b c : Bool) (x y z s : Section) → a ≡ false → b ≡ false → c ≡ false → cond {A = Section} a x (cond {A = Section} b y (cond {A = Section} c z s)) ≡ s
no_rule a b c x y z s p q r = cond-false a x (cond {A = Section} b y (cond {A = Section} c z s)) p ∙ cond-false b y (cond {A = Section} c z s) q ∙ cond-false c z s r

stays : (section : Section) → is_old_bridge section ≡ false → is_on_one_device section ≡ false → has_both section ≡ false → rewritten section ≡ section
stays section a b c =
    no_rule (is_old_bridge section) (is_on_one_device section) (has_both section) (with_options section (with_ports section.options)) (with_options section (on_device section.options))
    (with_options section (without (codes "ifname") section.options)) section a b c

no_words : (options : List Opt) → is_given (codes "ifname") options ≡ false → (length (ifname_words options) == 1) ≡ false
no_words options e = ap (λ (z : Option Value). length (words_if z) == 1) (no_value (codes "ifname") options e)

pub stays_without_ifname : (section : Section) → has (codes "ifname") section ≡ false → rewritten section ≡ section
stays_without_ifname section e =
    stays section
    (last_false (is_device section) (is_bridge section) (has (codes "ifname") section) e)
    (last_false (is_untyped section) (not (has (codes "device") section)) (length (ifname_words section.options) == 1) (no_words section.options e))
    (middle_false (is_untyped section) (has (codes "ifname") section) (has (codes "device") section) e)

-- what the rules make has no `ifname`
no_ifname_in_ports : (options : List Opt) → is_given (codes "ifname") (with_ports options) ≡ false
no_ifname_in_ports options = by_case (is_given (codes "ports") options)
  where
    by_case : (given : Bool) → is_given (codes "ifname") (without (codes "ifname") options ++ cond {A = List Opt} given [] (option_if (codes "ports") (list_if (ifname_words options)))) ≡ false
    by_case true = is_given-with (codes "ifname") (codes "ports") (without (codes "ifname") options) None refl ∙ gone (codes "ifname") options
    by_case false = is_given-with (codes "ifname") (codes "ports") (without (codes "ifname") options) (list_if (ifname_words options)) refl ∙ gone (codes "ifname") options

no_ifname_on_device : (options : List Opt) → is_given (codes "ifname") (on_device options) ≡ false
no_ifname_on_device options = is_given-with (codes "ifname") (codes "device") (without (codes "ifname") options) (first_if (ifname_words options)) refl ∙ gone (codes "ifname") options

no_ifname_on_bridge : (bridge : List ℕ) (options : List Opt) → is_given (codes "ifname") (on_bridge bridge options) ≡ false
no_ifname_on_bridge bridge options =
    let rest = without (codes "macaddr") (without (codes "mtu") (without (codes "bridge_empty") options)) in
    is_given-with (codes "ifname") (codes "device") (without (codes "type") (without (codes "ifname") rest)) (Some (One bridge)) refl
    ∙ is_given-without (codes "ifname") (codes "type") (without (codes "ifname") rest) refl
    ∙ gone (codes "ifname") rest

no_ifname_of_bridge : (bridge : List ℕ) (options : List Opt) → is_given (codes "ifname") (of_bridge bridge options) ≡ false
no_ifname_of_bridge bridge options =
    let empty = value_of (codes "bridge_empty") options in
    let mtu = value_of (codes "mtu") options in
    let macaddr = value_of (codes "macaddr") options in
    is_given-behind (codes "ifname") (codes "ports") (list_if (ifname_words options)) (option_if (codes "bridge_empty") empty ++ (option_if (codes "mtu") mtu ++ option_if (codes "macaddr") macaddr)) refl
    ∙ is_given-behind (codes "ifname") (codes "bridge_empty") empty (option_if (codes "mtu") mtu ++ option_if (codes "macaddr") macaddr) refl
    ∙ is_given-behind (codes "ifname") (codes "mtu") mtu (option_if (codes "macaddr") macaddr) refl
    ∙ given_alone (codes "ifname") (codes "macaddr") macaddr refl

-- a section with `device`, and one of another type, get no bridge
no_bridge_by_device : (section : Section) → has (codes "device") section ≡ true → is_bridged section ≡ false
no_bridge_by_device section e = last_false (is_named_interface section) (is_bridge section) (not (has (codes "device") section)) (not_from_true (has (codes "device") section) e)

no_bridge_by_kind : (section : Section) → is_named_interface section ≡ false → is_bridged section ≡ false
no_bridge_by_kind section e = first_false (is_named_interface section) (is_bridge section) (not (has (codes "device") section)) e

no_interface : (section : Section) → is_device section ≡ true → is_named_interface section ≡ false
no_interface section e = and_right (not section.anonymous) (bytes_eq section.kind (codes "interface")) (ap (λ (z : List ℕ). bytes_eq z (codes "interface")) ((bytes_eq-Decides section.kind (codes "device")).0 e))

one_word : (words : List (List ℕ)) (options : List Opt) → length words ≡ 1 → is_given (codes "device") (options ++ option_if (codes "device") (first_if words)) ≡ true
one_word [] options e = absurd (omega (arith, e))
one_word (word ∷ words) options e = given_last (codes "device") options (One word) refl

device_given : (section : Section) → is_on_one_device section ≡ true → is_given (codes "device") (on_device section.options) ≡ true
device_given section e =
    let words = ifname_words section.options in
    one_word words (without (codes "ifname") section.options) (eqb-true (length words) 1 (last_true (is_untyped section) (not (has (codes "device") section)) (length words == 1) e))

-- no rule is left for a section: none that looks at it alone, and the second where a name is taken
pub record IsDone (section new : Section) : Type 0 where
  pub alone : rewritten new ≡ new
  pub bridge : (is_bridged new ≡ false) ⊎ (new ≡ section)

pub rewritten_done : (section : Section) → IsDone section (rewritten section)
rewritten_done section =
    let Done : Section → Type 0 = λ z. IsDone section z in
    let options = section.options in
    let last : Section = cond {A = Section} (has_both section) (with_options section (without (codes "ifname") options)) section in
    let middle : Section = cond {A = Section} (is_on_one_device section) (with_options section (on_device options)) last in
    cond_both (is_old_bridge section) (with_options section (with_ports options)) middle Done
    (λ a. record {
      alone = stays_without_ifname (with_options section (with_ports options)) (no_ifname_in_ports options);
      bridge = inl (no_bridge_by_kind (with_options section (with_ports options)) (no_interface section (first_true (is_device section) (is_bridge section) (has (codes "ifname") section) a)));
    })
    (λ a. cond_both (is_on_one_device section) (with_options section (on_device options)) last Done
    (λ b. record {
      alone = stays_without_ifname (with_options section (on_device options)) (no_ifname_on_device options);
      bridge = inl (no_bridge_by_device (with_options section (on_device options)) (device_given section b));
    })
    (λ b. cond_both (has_both section) (with_options section (without (codes "ifname") options)) section Done
    (λ c. record {
      alone = stays_without_ifname (with_options section (without (codes "ifname") options)) (gone (codes "ifname") options);
      bridge = inl (no_bridge_by_device (with_options section (without (codes "ifname") options))
          (is_given-without (codes "device") (codes "ifname") options refl ∙ last_true (is_untyped section) (has (codes "ifname") section) (has (codes "device") section) c));
    })
    (λ c. record { alone = stays section a b c; bridge = inr refl })))

pub over_bridge_done : (section : Section) → (rewritten (over_bridge section) ≡ over_bridge section) × (is_bridged (over_bridge section) ≡ false)
over_bridge_done section =
    let rest = without (codes "type") (without (codes "ifname") (without (codes "macaddr") (without (codes "mtu") (without (codes "bridge_empty") section.options)))) in (
      stays_without_ifname (over_bridge section) (no_ifname_on_bridge (bridge_name section) section.options),
      no_bridge_by_device (over_bridge section) (given_last (codes "device") rest (One (bridge_name section)) refl),
    )

pub bridge_done : (ordinal : ℕ) (section : Section) → (rewritten (bridge_section ordinal section) ≡ bridge_section ordinal section) × (is_bridged (bridge_section ordinal section) ≡ false)
bridge_done ordinal section = (stays_without_ifname (bridge_section ordinal section) (no_ifname_of_bridge (bridge_name section) section.options), refl)
