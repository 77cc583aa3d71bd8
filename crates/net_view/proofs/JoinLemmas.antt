-- The ports that join bridges, one after another, and the lists of them by bridge.
use Rattle.std.proofs.Common.{◌≡◌, ℕ, ◌+◌, ◌<◌, List, [], ◌∷◌, ◌++◌, length, map, take, get_or, Bool, true, false, cond, Option, Some, None, refl, sym, ap, subst, ◌∙◌, append-nil, Vec, BTreeMap, Global}
use Rattle.std.specs.Prelude.{◌||◌, bytes_eq, filter, option_to_list}
use Rattle.std.specs.List.{list_any, find, filter_map, cons_option}
use Rattle.std.specs.Option.{option_map}
use Rattle.std.specs.Ordering.{nat_cmp}
use Rattle.std.specs.Cmp.Lexicographic.{slice_cmp, texts_ties}
use Rattle.std.specs.BTreeMap.{get, is_at}
use Rattle.std.specs.BTreeSet.{contains}
use Rattle.std.proofs.lemmas.List.{map-append}
use Rattle.std.proofs.lemmas.List.Elements.{filter-append, filter_map-append}
use Rattle.std.proofs.lemmas.List.Folds.{list_any-append}
use Rattle.kern_model.proofs.TestLemmas.{bytes_same}
use Rattle.net_rules.specs.Firsts.{firsts}
use Rattle.net_rules.specs.RadioPorts.{AnsweredPort, RadioPort}
use Rattle.net_view.specs.Places.{named}
use Rattle.net_view.specs.declared.radio_ports.PortAnswer.{PortAnswer}
use Rattle.net_view.specs.declared.radio_ports.PortJoin.{PortJoin}
use Rattle.net_view.specs.declared.radio_ports.Joins.{Joins}
use Rattle.net_view.specs.RadioPorts.{as_answered, as_joined, ports_joining, list_of, group_in, AreJoins}
use Rattle.net_view.proofs.PortLemmas.{firsts_push, more_is}
use Rattle.net_view.proofs.NameLemmas.{or_none, adds_name, names_more}

-- ---- the first answer for an interface

pub first_of : (answers : List PortAnswer) (interface : List ℕ) → option_map (λ (a : PortAnswer). a.port) (named (λ (a : PortAnswer). a.interface) answers interface)
    ≡ option_map (λ (a : AnsweredPort). a.port) (find (λ (a : AnsweredPort). bytes_eq a.interface interface) (map as_answered answers))
first_of [] interface = refl
first_of (answer ∷ answers) interface = one (bytes_eq answer.interface interface) (named (λ (a : PortAnswer). a.interface) answers interface) (find (λ (a : AnsweredPort). bytes_eq a.interface interface) (map as_answered answers))
    (first_of answers interface)
  where
    one : (b : Bool) (found : Option PortAnswer) (other : Option AnsweredPort) → option_map (λ (a : PortAnswer). a.port) found ≡ option_map (λ (a : AnsweredPort). a.port) other
        → option_map (λ (a : PortAnswer). a.port) (cond b (Some answer) found) ≡ option_map (λ (a : AnsweredPort). a.port) (cond b (Some (as_answered answer)) other)
    one true found other h = refl
    one false found other h = h

-- ---- one answer more

pub joined_more : {X Y Z : Type 0} (f : Z → Option Y) (image : X → Z) (xs : List X) (i : ℕ) (x : X) → i < length xs → x ≡ get_or xs i x → filter_map f (map image (take (i + 1) xs)) ≡ filter_map f (map image (take i xs))
    ++ option_to_list (f (image x))
joined_more {X} {Y} {Z} f image xs i x within is =
    ap (λ (z : List X). filter_map f (map image z)) (more_is xs i x within is)
    ∙ ap (filter_map f) (map-append image (take i xs) (x ∷ []))
    ∙ filter_map-append f (map image (take i xs)) (image x ∷ [])
    ∙ ap (λ (z : List Y). filter_map f (map image (take i xs)) ++ z) (one (f (image x)))
  where
    one : (o : Option Y) → cons_option o [] ≡ option_to_list o
    one None = refl
    one (Some y) = refl

-- ---- one port more

any_push : (all : List RadioPort) (j : RadioPort) (q : List ℕ) → list_any (λ (k : RadioPort). bytes_eq k.port q) (all ++ j ∷ []) ≡ (list_any (λ (k : RadioPort). bytes_eq k.port q) all || bytes_eq j.port q)
any_push all j q = list_any-append (λ (k : RadioPort). bytes_eq k.port q) all (j ∷ []) ∙ ap (λ b. list_any (λ (k : RadioPort). bytes_eq k.port q) all || b) (or_none (bytes_eq j.port q))

already : (all : List RadioPort) (j : RadioPort) → list_any (λ (k : RadioPort). bytes_eq k.port j.port) all ≡ true → (q : List ℕ) (b : Bool) → bytes_eq j.port q ≡ b → list_any (λ (k : RadioPort). bytes_eq k.port q) all
    ≡ (list_any (λ (k : RadioPort). bytes_eq k.port q) all || b)
already all j had q true same =
    let here : list_any (λ (k : RadioPort). bytes_eq k.port q) all ≡ true = subst (λ n. list_any (λ (k : RadioPort). bytes_eq k.port n) all ≡ true) (bytes_same j.port q same) had in
    ap (λ b. b) here ∙ sym (ap (λ b. b || true) here)
already all j had q false same = sym (or_none (list_any (λ (k : RadioPort). bytes_eq k.port q) all))

pub join_already : (all : List RadioPort) (joins : Joins) (join : PortJoin) (b : Bool) → AreJoins all joins → b ≡ contains (slice_cmp nat_cmp) joins.ports join.port → b ≡ true → AreJoins (all ++ as_joined join ∷ []) joins
join_already all joins join b is test holds =
    let had : list_any (λ (k : RadioPort). bytes_eq k.port join.port) all ≡ true = sym (is.ports join.port) ∙ sym test ∙ holds in
    record {
      list = is.list ∙ sym (firsts_push (λ (k : RadioPort). k.port) all (as_joined join) ∙ ap (λ c. firsts (λ (k : RadioPort). k.port) all ++ cond c [] (as_joined join ∷ [])) had ∙ append-nil (firsts (λ (k : RadioPort). k.port) all));
      ports = λ q. is.ports q ∙ already all (as_joined join) had q (bytes_eq join.port q) refl ∙ sym (any_push all (as_joined join) q);
    }

pub join_more : (all : List RadioPort) (joins now : Joins) (join : PortJoin) (b : Bool) → AreJoins all joins → b ≡ contains (slice_cmp nat_cmp) joins.ports join.port → b ≡ false → now.list.items ≡ joins.list.items ++ join ∷ []
    → ((q : List ℕ) → contains (slice_cmp nat_cmp) now.ports q ≡ cond (is_at (slice_cmp nat_cmp join.port) q) true (contains (slice_cmp nat_cmp) joins.ports q)) → AreJoins (all ++ as_joined join ∷ []) now
join_more all joins now join b is test fails pushed put =
    let had : list_any (λ (k : RadioPort). bytes_eq k.port join.port) all ≡ false = sym (is.ports join.port) ∙ sym test ∙ fails in
    record {
      list = ap (map as_joined) pushed ∙ map-append as_joined joins.list.items (join ∷ []) ∙ ap (λ (z : List RadioPort). z ++ as_joined join ∷ []) is.list
          ∙ sym (firsts_push (λ (k : RadioPort). k.port) all (as_joined join) ∙ ap (λ c. firsts (λ (k : RadioPort). k.port) all ++ cond c [] (as_joined join ∷ [])) had);
      ports = names_more joins.ports now.ports (λ q. list_any (λ (k : RadioPort). bytes_eq k.port q) all) (λ q. bytes_eq join.port q) (λ q. list_any (λ (k : RadioPort). bytes_eq k.port q) (all ++ as_joined join ∷ [])) is.ports
          (adds_name joins.ports now.ports join.port put) (any_push all (as_joined join));
    }

pub join_none : (all : List RadioPort) (joins : Joins) → AreJoins all joins → AreJoins (all ++ []) joins
join_none all joins is = subst (λ z. AreJoins z joins) (sym (append-nil all)) is

-- ---- lists by bridge

pub joining_push : (bridge : List ℕ) (joins : List PortJoin) (i : ℕ) (join : PortJoin) → i < length joins → join ≡ get_or joins i join → ports_joining bridge (map as_joined (take (i + 1) joins))
    ≡ ports_joining bridge (map as_joined (take i joins)) ++ cond (bytes_eq join.bridge bridge) (join.port ∷ []) []
joining_push bridge joins i join within is =
    let on : RadioPort → Bool = λ j. bytes_eq j.bridge bridge in
    let port : RadioPort → List ℕ = λ j. j.port in
    let before : List RadioPort = map as_joined (take i joins) in
    ap (λ (z : List PortJoin). ports_joining bridge (map as_joined z)) (more_is joins i join within is)
    ∙ ap (ports_joining bridge) (map-append as_joined (take i joins) (join ∷ []))
    ∙ ap (map port) (filter-append on before (as_joined join ∷ []))
    ∙ map-append port (filter on before) (filter on (as_joined join ∷ []))
    ∙ ap (λ (z : List (List ℕ)). ports_joining bridge before ++ z) (one (bytes_eq join.bridge bridge))
  where
    one : (b : Bool) → map (λ (j : RadioPort). j.port) (cond b (as_joined join ∷ []) []) ≡ cond b (join.port ∷ []) []
    one true = refl
    one false = refl

-- a list that was taken out, and put back with one more
pub grown : {X : Type 0} (old mid new : BTreeMap (List ℕ) (Vec X Global)) (name : List ℕ) (x : X) (group more : Vec X Global) → group.items ≡ group_in old name → more.items ≡ group.items ++ x ∷ []
    → ((q : List ℕ) → get (slice_cmp nat_cmp) mid q ≡ cond (is_at (slice_cmp nat_cmp name) q) None (get (slice_cmp nat_cmp) old q))
    → ((q : List ℕ) → get (slice_cmp nat_cmp) new q ≡ cond (is_at (slice_cmp nat_cmp name) q) (Some more) (get (slice_cmp nat_cmp) mid q)) → (q : List ℕ) → group_in new q ≡ group_in old q ++ cond (bytes_eq name q) (x ∷ []) []
grown {X} old mid new name x group more had pushed out back q =
    ap list_of (back q ∙ ap (λ (z : Option (Vec X Global)). cond (is_at (slice_cmp nat_cmp name) q) (Some more) z) (out q))
    ∙ at (bytes_eq name q) refl
  where
    found : Bool → Option (Vec X Global)
    found b = cond b (Some more) (cond b None (get (slice_cmp nat_cmp) old q))

    at : (b : Bool) → bytes_eq name q ≡ b → list_of (found (is_at (slice_cmp nat_cmp name) q)) ≡ group_in old q ++ cond (bytes_eq name q) (x ∷ []) []
    at true h =
        ap (λ (b : Bool). list_of (found b)) (sym (texts_ties name q) ∙ h)
        ∙ pushed
        ∙ ap (λ (z : List X). z ++ x ∷ []) (had ∙ ap (group_in old) (bytes_same name q h))
        ∙ sym (ap (λ (b : Bool). group_in old q ++ cond b (x ∷ []) []) h)
    at false h =
        ap (λ (b : Bool). list_of (found b)) (sym (texts_ties name q) ∙ h)
        ∙ sym (append-nil (group_in old q))
        ∙ sym (ap (λ (b : Bool). group_in old q ++ cond b (x ∷ []) []) h)
