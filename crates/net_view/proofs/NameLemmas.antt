-- Sets of names, with one name more.
use Rattle.std.proofs.Common.{◌≡◌, ℕ, ◌+◌, ◌<◌, List, [], ◌∷◌, length, take, get_or, Bool, true, false, cond, refl, sym, ap, ◌∙◌}
use Rattle.std.specs.Prelude.{◌||◌, bytes_eq}
use Rattle.std.specs.List.{list_any}
use Rattle.std.specs.Ordering.{nat_cmp}
use Rattle.std.specs.Cmp.Lexicographic.{slice_cmp, texts_ties}
use Rattle.std.specs.BTreeMap.{is_at}
use Rattle.std.specs.BTreeSet.{BTreeSet, contains}
use Rattle.std.proofs.lemmas.List.Folds.{list_any-append}
use Rattle.net_view.specs.Names.{HasNames, Adds}
use Rattle.net_view.proofs.PortLemmas.{more_is}

there_or : (is was : Bool) → cond is true was ≡ (was || is)
there_or true true = refl
there_or true false = refl
there_or false true = refl
there_or false false = refl

pub or_none : (b : Bool) → (b || false) ≡ b
or_none true = refl
or_none false = refl

or_assoc : (a b c : Bool) → ((a || b) || c) ≡ (a || (b || c))
or_assoc true b c = refl
or_assoc false b c = refl

pub adds_none : (names : BTreeSet (List ℕ)) (test : List ℕ → Bool) → ((q : List ℕ) → test q ≡ false) → Adds names names test
adds_none names test none q = sym (ap (λ b. contains (slice_cmp nat_cmp) names q || b) (none q) ∙ or_none (contains (slice_cmp nat_cmp) names q))

pub adds_name : (old new : BTreeSet (List ℕ)) (name : List ℕ) → ((q : List ℕ) → contains (slice_cmp nat_cmp) new q ≡ cond (is_at (slice_cmp nat_cmp name) q) true (contains (slice_cmp nat_cmp) old q)) → Adds old new (λ q. bytes_eq name q)
adds_name old new name put q = put q ∙ there_or (is_at (slice_cmp nat_cmp name) q) (contains (slice_cmp nat_cmp) old q) ∙ ap (λ b. contains (slice_cmp nat_cmp) old q || b) (sym (texts_ties name q))

pub adds_as : (old new : BTreeSet (List ℕ)) (test other : List ℕ → Bool) → Adds old new test → ((q : List ℕ) → other q ≡ test q) → Adds old new other
adds_as old new test other adds same q = adds q ∙ ap (λ b. contains (slice_cmp nat_cmp) old q || b) (sym (same q))

pub adds_more : (old mid new : BTreeSet (List ℕ)) (one two both : List ℕ → Bool) → Adds old mid one → Adds mid new two → ((q : List ℕ) → both q ≡ (one q || two q)) → Adds old new both
adds_more old mid new one two both first then same q =
    then q ∙ ap (λ b. b || two q) (first q) ∙ or_assoc (contains (slice_cmp nat_cmp) old q) (one q) (two q) ∙ ap (λ b. contains (slice_cmp nat_cmp) old q || b) (sym (same q))

pub names_more : (old new : BTreeSet (List ℕ)) (one two both : List ℕ → Bool) → HasNames old one → Adds old new two → ((q : List ℕ) → both q ≡ (one q || two q)) → HasNames new both
names_more old new one two both has adds same q = adds q ∙ ap (λ b. b || two q) (has q) ∙ sym (same q)

-- one item more
any_one : (b : Bool) → (b || false) ≡ b
any_one b = or_none b

pub any_more : {X : Type 0} (p : X → Bool) (xs : List X) (i : ℕ) (x : X) → i < length xs → x ≡ get_or xs i x → list_any p (take (i + 1) xs) ≡ (list_any p (take i xs) || p x)
any_more {X} p xs i x within is =
    ap (list_any p) (more_is xs i x within is)
    ∙ list_any-append p (take i xs) (x ∷ [])
    ∙ ap (λ b. list_any p (take i xs) || b) (or_none (p x))
