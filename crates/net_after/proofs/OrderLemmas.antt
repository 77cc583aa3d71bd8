-- Options put in order, from the last one on.
use Rattle.std.proofs.Common.{◌≡◌, ℕ, suc, ◌+◌, ◌-◌, ◌<◌, ◌≤◌, List, [], ◌∷◌, length, map, drop, drop-cons, get_or, Bool, true, false, cond, Option, Some, None, refl, sym, ap, ◌∙◌, subst, arith}
use Rattle.std.specs.Prelude.{is_some}
use Rattle.std.specs.Ordering.{nat_cmp, match_ordering}
use Rattle.std.specs.declared.cmp.Ordering.{Ordering}
use Rattle.std.specs.declared.cmp.Ordering.TheVariants.{Less, Equal, Greater}
use Rattle.std.specs.Cmp.Lexicographic.{slice_cmp, nat_list_cmp_total}
use Rattle.std.specs.List.Sorted.{IsStrictlySortedBy}
use Rattle.std.specs.Map.{keys_of, lookup}
use Rattle.std.specs.BTreeMap.{BTreeMap, IsOrdered, insert_entry, is_at, get}
use Rattle.std.proofs.lemmas.Map.{NonePasses, lookup-none}
use Rattle.std.proofs.lemmas.Map.Entries.{none_below_head}
use Rattle.std.proofs.lemmas.Map.Keys.{sorted_tail}
use Rattle.plane_words.specs.InOrder.{placed, put_in}
use Rattle.uci_tree.specs.declared.package.Opt.{Opt}
use Rattle.net_rules.specs.Need.{option_cmp}
use Rattle.net_after.specs.ByName.{named_options, IsByName}

-- the items from here on, with the one before them
pub drop_before : {X : Type 0} (xs : List X) (p : ℕ) (x : X) → 0 < p → p ≤ length xs → x ≡ get_or xs (p - 1) x → drop (p - 1) xs ≡ x ∷ drop p xs
drop_before xs p x some bound e =
    let next : suc (p - 1) ≡ p = omega arith in
    drop-cons xs (p - 1) x (omega arith) ∙ (ap (λ z. z ∷ drop (suc (p - 1)) xs) (sym e) ∙ ap (λ (n : ℕ). x ∷ drop n xs) next)

-- each option is read back
pub options_back : (options : List Opt) → map (λ (e : List ℕ × Opt). e.1) (named_options options) ≡ options
options_back [] = refl
options_back (o ∷ os) = ap (λ (z : List Opt). o ∷ z) (options_back os)

-- whether a name is that of an entry
abbrev pub at_name : List ℕ → List ℕ → Bool
at_name name = is_at (slice_cmp nat_cmp name)

absent_at : (r : Ordering) (o x : Opt) (xs later : List Opt) (inserted : List (List ℕ × Opt)) (found : Option Opt) → cond (is_at (λ (k : List ℕ). r) x.name) (Some x) found ≡ None → (found ≡ None → inserted ≡ named_options later)
    → match_ordering r ((o.name, o) ∷ named_options (x ∷ xs)) ((x.name, o) ∷ named_options xs) ((x.name, x) ∷ inserted) ≡ named_options (placed r o x xs later)
absent_at Less o x xs later inserted found none rest = refl
absent_at Equal o x xs later inserted found none rest = cc none
absent_at Greater o x xs later inserted found none rest = ap (λ (z : List (List ℕ × Opt)). (x.name, x) ∷ z) (rest none)

absent : (o : Opt) → (xs : List Opt) → lookup (at_name o.name) (named_options xs) ≡ None → insert_entry (slice_cmp nat_cmp) (named_options xs) o.name o ≡ named_options (put_in option_cmp o xs)
absent o [] none = refl
absent o (x ∷ xs) none = absent_at (slice_cmp nat_cmp o.name x.name) o x xs (put_in option_cmp o xs) (insert_entry (slice_cmp nat_cmp) (named_options xs) o.name o) (lookup (at_name o.name) (named_options xs)) none (absent o xs)

present_at : (r : Ordering) (o x : Opt) (xs later : List Opt) (found : Option Opt) → is_some (cond (is_at (λ (k : List ℕ). r) x.name) (Some x) found) ≡ true → (r ≡ Less → found ≡ None) → (is_some found ≡ true → later ≡ xs)
    → placed r o x xs later ≡ x ∷ xs
present_at Less o x xs later found some below rest = let bad : false ≡ true = ap is_some (sym (below refl)) ∙ some in cc bad
present_at Equal o x xs later found some below rest = refl
present_at Greater o x xs later found some below rest = ap (λ (z : List Opt). x ∷ z) (rest some)

present : (o : Opt) → (xs : List Opt) → IsStrictlySortedBy (slice_cmp nat_cmp) (keys_of (named_options xs)) → is_some (lookup (at_name o.name) (named_options xs)) ≡ true → put_in option_cmp o xs ≡ xs
present o [] sorted some = cc some
present o (x ∷ xs) sorted some =
    present_at (slice_cmp nat_cmp o.name x.name) o x xs (put_in option_cmp o xs) (lookup (at_name o.name) (named_options xs)) some
    (λ less. lookup-none (at_name o.name) (named_options xs) (none_below_head nat_list_cmp_total o.name (x.name, x) (named_options xs) sorted less).1)
    (present o xs (sorted_tail (slice_cmp nat_cmp) x.name (keys_of (named_options xs)) sorted))

-- an option goes to its place among the later ones, or stays out where one of its name is there
pub put_absent : (o : Opt) (later : List Opt) (old new : BTreeMap (List ℕ) Opt) (name : List ℕ) (copy : Opt) (there : Bool) → name ≡ o.name → copy ≡ o → IsByName later old → there ≡ is_some (get (slice_cmp nat_cmp) old o.name) → there
    ≡ false → new.entries ≡ insert_entry (slice_cmp nat_cmp) old.entries name copy → IsOrdered (slice_cmp nat_cmp) new → IsByName (put_in option_cmp o later) new
put_absent o later old new name copy there named same is found away made ordered = record {
  entries = made ∙ (λ i. insert_entry (slice_cmp nat_cmp) (is.entries i) (named i) (same i))
      ∙ absent o later (none_of (lookup (at_name o.name) (named_options later)) (ap (λ (z : List (List ℕ × Opt)). is_some (lookup (at_name o.name) z)) (sym is.entries) ∙ sym found ∙ away));
  ordered = ordered;
}
  where
    none_of : (found : Option Opt) → is_some found ≡ false → found ≡ None
    none_of None h = refl
    none_of (Some x) h = cc h

pub put_present : (o : Opt) (later : List Opt) (old : BTreeMap (List ℕ) Opt) (there : Bool) → IsByName later old → there ≡ is_some (get (slice_cmp nat_cmp) old o.name) → there ≡ true → IsByName (put_in option_cmp o later) old
put_present o later old there is found here =
    let sorted : IsStrictlySortedBy (slice_cmp nat_cmp) (keys_of (named_options later)) = subst (λ (z : List (List ℕ × Opt)). IsStrictlySortedBy (slice_cmp nat_cmp) (keys_of z)) is.entries is.ordered in
    let stays : put_in option_cmp o later ≡ later = present o later sorted (ap (λ (z : List (List ℕ × Opt)). is_some (lookup (at_name o.name) z)) (sym is.entries) ∙ sym found ∙ here) in
    subst (λ (z : List Opt). IsByName z old) (sym stays) is
