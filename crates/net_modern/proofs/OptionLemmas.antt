-- Options by their names, where some are taken out or added.
use Rattle.std.proofs.Common.{ℕ, suc, ◌≡◌, Bool, true, false, cond, not, ◌||◌, List, [], ◌∷◌, ◌++◌, get_or, Option, Some, None, bytes_eq, refl, sym, subst, ◌∙◌, ap, codes, append_assoc}
use Rattle.std.specs.List.{remove}
use Rattle.std.specs.Option.{option_map}
use Rattle.std.proofs.lemmas.Bool.{or_parts, or_right}
use Rattle.std.proofs.lemmas.List.Folds.{list_any-append}
use Rattle.std.proofs.lemmas.Slice.Eq.{bytes_eq-Decides}
use Rattle.uci_tree.specs.declared.package.Value.{Value}
use Rattle.uci_tree.specs.declared.package.Opt.{Opt}
use Rattle.uci_tree.specs.Find.{option_place}
use Rattle.uci_tree.proofs.FoldLemmas.{position-cons}
use Rattle.net_rows.specs.Options.{value_of, is_given}
use Rattle.net_modern.specs.Options.{without, option_if, text_option, list_if, ifname_words, moved, of_bridge}

-- an option of a name has no other
apart : (name key : List ℕ) (option : Opt) → bytes_eq name key ≡ false → bytes_eq option.name name ≡ true → bytes_eq option.name key ≡ false
apart name key option differ is = ap (λ (z : List ℕ). bytes_eq z key) ((bytes_eq-Decides option.name name).0 is) ∙ differ

value_step : (b : Bool) (key : List ℕ) (option : Opt) (options rest : List Opt) → (b ≡ true → bytes_eq option.name key ≡ false) → value_of key rest ≡ value_of key options → value_of key (cond {A = List Opt} (not b) (option ∷ rest) rest)
    ≡ value_of key (option ∷ options)
value_step true key option options rest lack e = e ∙ sym (ap (λ (z : Bool). cond {A = Option Value} z (Some option.value) (value_of key options)) (lack refl))
value_step false key option options rest lack e = ap (λ (z : Option Value). cond {A = Option Value} (bytes_eq option.name key) (Some option.value) z) e

-- another option keeps its value
pub value_of-without : (key name : List ℕ) (options : List Opt) → bytes_eq name key ≡ false → value_of key (without name options) ≡ value_of key options
value_of-without key name [] differ = refl
value_of-without key name (option ∷ options) differ = value_step (bytes_eq option.name name) key option options (without name options) (apart name key option differ) (value_of-without key name options differ)

given_step : (b : Bool) (key : List ℕ) (option : Opt) (options rest : List Opt) → (b ≡ true → bytes_eq option.name key ≡ false) → is_given key rest ≡ is_given key options → is_given key (cond {A = List Opt} (not b) (option ∷ rest) rest)
    ≡ is_given key (option ∷ options)
given_step true key option options rest lack e = e ∙ sym (ap (λ (z : Bool). z || is_given key options) (lack refl))
given_step false key option options rest lack e = ap (λ (z : Bool). bytes_eq option.name key || z) e

pub is_given-without : (key name : List ℕ) (options : List Opt) → bytes_eq name key ≡ false → is_given key (without name options) ≡ is_given key options
is_given-without key name [] differ = refl
is_given-without key name (option ∷ options) differ = given_step (bytes_eq option.name name) key option options (without name options) (apart name key option differ) (is_given-without key name options differ)

gone_step : (b : Bool) (name : List ℕ) (option : Opt) (rest : List Opt) → bytes_eq option.name name ≡ b → is_given name rest ≡ false → is_given name (cond {A = List Opt} (not b) (option ∷ rest) rest) ≡ false
gone_step true name option rest is e = e
gone_step false name option rest is e = ap (λ (z : Bool). z || is_given name rest) is ∙ e

-- what is taken out is not there
pub gone : (name : List ℕ) (options : List Opt) → is_given name (without name options) ≡ false
gone name [] = refl
gone name (option ∷ options) = gone_step (bytes_eq option.name name) name option (without name options) refl (gone name options)

-- the first option of a name, by its place
no_place : (place : Option ℕ) → option_map (λ k. suc k) place ≡ None → place ≡ None
no_place None e = refl
no_place (Some place) e = absurd (let f : Some (suc place) ≡ None = e in cc)

none_step : (b : Bool) (name : List ℕ) (option : Opt) (options : List Opt) → cond {A = Option ℕ} b (Some 0) (option_map (λ k. suc k) (option_place options name)) ≡ None
    → (option_place options name ≡ None → (without name options ≡ options) × (value_of name options ≡ None)) → (cond {A = List Opt} (not b) (option ∷ without name options) (without name options) ≡ option ∷ options)
    × (cond {A = Option Value} b (Some option.value) (value_of name options) ≡ None)
none_step true name option options e h = absurd (let f : ◌≡◌ {A = Option ℕ} (Some 0) None = e in cc)
none_step false name option options e h = let k = h (no_place (option_place options name) e) in (ap (λ (z : List Opt). option ∷ z) k.0, k.1)

nothing : (name : List ℕ) (options : List Opt) → option_place options name ≡ None → (without name options ≡ options) × (value_of name options ≡ None)
nothing name [] e = (refl, refl)
nothing name (option ∷ options) e = none_step (bytes_eq option.name name) name option options (sym (position-cons (λ (o : Opt). bytes_eq o.name name) option options) ∙ e) (nothing name options)

-- nothing moves where there is none
pub none_moves : (name : List ℕ) (options : List Opt) → option_place options name ≡ None → options ≡ without name options
none_moves name options e = sym ((nothing name options e).0)

pub none_comes : (name : List ℕ) (options into : List Opt) → option_place options name ≡ None → into ≡ into ++ moved name options
none_comes name options into e = sym (ap (λ (z : Option Value). into ++ option_if name z) ((nothing name options e).1) ∙ append-nil into)
  where
    append-nil : (xs : List Opt) → xs ++ [] ≡ xs
    append-nil [] = refl
    append-nil (x ∷ xs) = ap (λ (z : List Opt). x ∷ z) (append-nil xs)

some_place : (place : Option ℕ) (at : ℕ) → option_map (λ k. suc k) place ≡ Some at → (n : ℕ) × (place ≡ Some n) × (at ≡ suc n)
some_place None at e = absurd (let f : ◌≡◌ {A = Option ℕ} None (Some at) = e in cc)
some_place (Some n) at e = let f : ◌≡◌ {A = Option ℕ} (Some (suc n)) (Some at) = e in let g : at ≡ suc n = cc in (n, refl, g)

Moves : List ℕ → List Opt → ℕ → Type 0
Moves name options at = (without name (remove options at) ≡ without name options) × ((d : Opt) → value_of name options ≡ Some (get_or options at d).value)

move_step : (b : Bool) (name : List ℕ) (option : Opt) (options : List Opt) (at : ℕ) → bytes_eq option.name name ≡ b → cond {A = Option ℕ} b (Some 0) (option_map (λ k. suc k) (option_place options name)) ≡ Some at
    → ((n : ℕ) → option_place options name ≡ Some n → Moves name options n) → (without name (remove (option ∷ options) at) ≡ cond {A = List Opt} (not b) (option ∷ without name options) (without name options))
    × ((d : Opt) → cond {A = Option Value} b (Some option.value) (value_of name options) ≡ Some (get_or (option ∷ options) at d).value)
unfolding Moves
move_step true name option options at is e h =
    let f : ◌≡◌ {A = Option ℕ} (Some 0) (Some at) = e in
    let first : 0 ≡ at = cc in
    subst (λ (z : ℕ). (without name (remove (option ∷ options) z) ≡ without name options) × ((d : Opt) → Some option.value ≡ Some (get_or (option ∷ options) z d).value)) first (refl, λ d. refl)
move_step false name option options at is e h =
    let later = some_place (option_place options name) at e in
    let moves = h later.0 later.1 in
    let rest : List Opt = without name (remove options later.0) in
    subst (λ (z : ℕ). (without name (remove (option ∷ options) z) ≡ option ∷ without name options) × ((d : Opt) → value_of name options ≡ Some (get_or (option ∷ options) z d).value)) (sym later.2)
    (ap (λ (z : Bool). cond {A = List Opt} (not z) (option ∷ rest) rest) is ∙ ap (λ (z : List Opt). option ∷ z) moves.0, λ d. moves.1 d)

moves_at : (name : List ℕ) (options : List Opt) (at : ℕ) → option_place options name ≡ Some at → Moves name options at
unfolding Moves
moves_at name [] at e = absurd (let f : ◌≡◌ {A = Option ℕ} None (Some at) = e in cc)
moves_at name (option ∷ options) at e = move_step (bytes_eq option.name name) name option options at refl (sym (position-cons (λ (o : Opt). bytes_eq o.name name) option options) ∙ e) (moves_at name options)

-- the first one moves, and the others are dropped
pub some_moves : (name : List ℕ) (options rest after : List Opt) (at : ℕ) → option_place options name ≡ Some at → rest ≡ remove options at → after ≡ without name rest → after ≡ without name options
unfolding Moves
some_moves name options rest after at e r a = a ∙ ap (without name) r ∙ (moves_at name options at e).0

pub some_comes : (name : List ℕ) (options into out : List Opt) (option : Opt) (at : ℕ) → option_place options name ≡ Some at → option ≡ get_or options at option → out ≡ into ++ option_if name (Some option.value) → out ≡ into
    ++ moved name options
unfolding Moves
some_comes name options into out option at e is o =
    let found : value_of name options ≡ Some option.value = (moves_at name options at e).1 option ∙ ap (λ (z : Opt). Some z.value) (sym is) in
    o ∙ ap (λ (z : Option Value). into ++ option_if name z) (sym found)

value_alone : (key name : List ℕ) (value : Option Value) → bytes_eq name key ≡ false → value_of key (option_if name value) ≡ None
value_alone key name None differ = refl
value_alone key name (Some value) differ = ap (λ (z : Bool). cond {A = Option Value} z (Some value) None) differ

-- another option at the end changes no value
pub value_of-with : (key name : List ℕ) (options : List Opt) (value : Option Value) → bytes_eq name key ≡ false → value_of key (options ++ option_if name value) ≡ value_of key options
value_of-with key name [] value differ = value_alone key name value differ
value_of-with key name (option ∷ options) value differ = ap (λ (z : Option Value). cond {A = Option Value} (bytes_eq option.name key) (Some option.value) z) (value_of-with key name options value differ)

six : {X : Type 0} (a b c d e f : List X) → (((((([] ++ a) ++ b) ++ c) ++ d) ++ e) ++ f) ≡ a ++ (b ++ (c ++ (d ++ (e ++ f))))
six a b c d e f = simp append_assoc

-- what was pushed and moved, one after another, are the options of the bridge
pub bridge_is : (bridge : List ℕ) (options one two m0 m1 m2 m3 m4 m5 m6 : List Opt) (words : List (List ℕ)) → words ≡ ifname_words options → one ≡ without (codes "bridge_empty") options → two ≡ without (codes "mtu") one → m0 ≡ [] → m1 ≡ m0
    ++ text_option (codes "name") bridge → m2 ≡ m1 ++ text_option (codes "type") (codes "bridge") → m3 ≡ m2 ++ option_if (codes "ports") (list_if words) → m4 ≡ m3 ++ moved (codes "bridge_empty") options → m5 ≡ m4 ++ moved (codes "mtu") one
    → m6 ≡ m5 ++ moved (codes "macaddr") two → m6 ≡ of_bridge bridge options
bridge_is bridge options one two m0 m1 m2 m3 m4 m5 m6 words words_are one_is two_is e0 e1 e2 e3 e4 e5 e6 =
    let mtu : value_of (codes "mtu") one ≡ value_of (codes "mtu") options = ap (value_of (codes "mtu")) one_is ∙ value_of-without (codes "mtu") (codes "bridge_empty") options refl in
    let macaddr : value_of (codes "macaddr") two ≡ value_of (codes "macaddr") options =
    ap (value_of (codes "macaddr")) two_is
    ∙ value_of-without (codes "macaddr") (codes "mtu") one refl
    ∙ ap (value_of (codes "macaddr")) one_is
    ∙ value_of-without (codes "macaddr") (codes "bridge_empty") options refl in
    let a = text_option (codes "name") bridge in
    let b = text_option (codes "type") (codes "bridge") in
    let c = option_if (codes "ports") (list_if (ifname_words options)) in
    let d = moved (codes "bridge_empty") options in
    let e = moved (codes "mtu") options in
    let f = moved (codes "macaddr") options in
    let g1 : m1 ≡ [] ++ a = e1 ∙ ap (λ (z : List Opt). z ++ a) e0 in
    let g2 : m2 ≡ ([] ++ a) ++ b = e2 ∙ ap (λ (z : List Opt). z ++ b) g1 in
    let g3 : m3 ≡ (([] ++ a) ++ b) ++ c = e3 ∙ ap (λ (z : List (List ℕ)). m2 ++ option_if (codes "ports") (list_if z)) words_are ∙ ap (λ (z : List Opt). z ++ c) g2 in
    let g4 : m4 ≡ ((([] ++ a) ++ b) ++ c) ++ d = e4 ∙ ap (λ (z : List Opt). z ++ d) g3 in
    let g5 : m5 ≡ (((([] ++ a) ++ b) ++ c) ++ d) ++ e = e5 ∙ ap (λ (z : Option Value). m4 ++ option_if (codes "mtu") z) mtu ∙ ap (λ (z : List Opt). z ++ e) g4 in
    let g6 : m6 ≡ ((((([] ++ a) ++ b) ++ c) ++ d) ++ e) ++ f = e6 ∙ ap (λ (z : Option Value). m5 ++ option_if (codes "macaddr") z) macaddr ∙ ap (λ (z : List Opt). z ++ f) g5 in
    g6 ∙ six a b c d e f

-- what is not given has no value
pub no_value : (key : List ℕ) (options : List Opt) → is_given key options ≡ false → value_of key options ≡ None
no_value key [] e = refl
no_value key (option ∷ options) e =
    let parts = or_parts (bytes_eq option.name key) (is_given key options) e in
    ap (λ (z : Bool). cond {A = Option Value} z (Some option.value) (value_of key options)) parts.0 ∙ no_value key options parts.1

-- one more option, of another name or of this one
pub given_alone : (key name : List ℕ) (value : Option Value) → bytes_eq name key ≡ false → is_given key (option_if name value) ≡ false
given_alone key name None differ = refl
given_alone key name (Some value) differ = ap (λ (z : Bool). z || false) differ

or_false : (b : Bool) → (b || false) ≡ b
or_false true = refl
or_false false = refl

pub is_given-with : (key name : List ℕ) (options : List Opt) (value : Option Value) → bytes_eq name key ≡ false → is_given key (options ++ option_if name value) ≡ is_given key options
is_given-with key name options value differ =
    list_any-append (λ (option : Opt). bytes_eq option.name key) options (option_if name value)
    ∙ ap (λ (z : Bool). is_given key options || z) (given_alone key name value differ)
    ∙ or_false (is_given key options)

pub is_given-behind : (key name : List ℕ) (value : Option Value) (options : List Opt) → bytes_eq name key ≡ false → is_given key (option_if name value ++ options) ≡ is_given key options
is_given-behind key name None options differ = refl
is_given-behind key name (Some value) options differ = ap (λ (z : Bool). z || is_given key options) differ

pub given_last : (key : List ℕ) (options : List Opt) (value : Value) → bytes_eq key key ≡ true → is_given key (options ++ option_if key (Some value)) ≡ true
given_last key options value same =
    list_any-append (λ (option : Opt). bytes_eq option.name key) options (option_if key (Some value))
    ∙ or_right (is_given key options) (is_given key (option_if key (Some value))) (ap (λ (z : Bool). z || false) same)
