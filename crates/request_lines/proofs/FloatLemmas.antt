-- What is shown of options has no number, so that its text is exact.
use Rattle.std.proofs.Common.{ℕ, ◌≡◌, List, [], ◌∷◌, map, refl, true, false, Bool, ◌||◌}
use Rattle.std.specs.Ordering.{nat_cmp, match_ordering}
use Rattle.std.specs.declared.cmp.Ordering.{Ordering}
use Rattle.std.specs.declared.cmp.Ordering.TheVariants.{Less, Equal, Greater}
use Rattle.std.specs.Cmp.Lexicographic.{slice_cmp}
use Rattle.serde_json.specs.Data.{Data, Members, no_members, member, put}
use Rattle.serde_json.specs.View.{items_of}
use Rattle.serde_json.specs.Written.{has_float, items_have_float, members_have_float}
use Rattle.blob_json.specs.ToJson.{put_all}
use Rattle.uci_tree.specs.declared.package.Opt.{Opt}
use Rattle.uci_tree.specs.declared.package.Value.{Value}
use Rattle.uci_tree.specs.declared.package.Value.TheVariants.{One, Many}
use Rattle.net_rows.specs.declared.rows.WifiRow.{WifiRow}
use Rattle.net_rows.specs.declared.rows.RadioRow.{RadioRow}
use Rattle.net_rules.specs.Rows.{enabled_rows}
use Rattle.request_lines.specs.OptionData.{text_data, value_data, named_of, options_data, radio_data}

texts : (ts : List (List ℕ)) → items_have_float (items_of (map text_data ts)) ≡ false
texts [] = refl
texts (t ∷ ts) = texts ts

value : (v : Value) → has_float (value_data v) ≡ false
value (One text) = refl
value (Many ts) = texts ts

neither : (a b : Bool) → a ≡ false → b ≡ false → (a || b) ≡ false
neither a b x y = rw (x, y) refl

left_of : (a b : Bool) → (a || b) ≡ false → a ≡ false
left_of false b h = refl
left_of true b h = absurd cc

right_of : (a b : Bool) → (a || b) ≡ false → b ≡ false
right_of false b h = h
right_of true b h = absurd cc

at_place : (o : Ordering) (k l : List ℕ) (d e : Data) (ms others : Members) → has_float d ≡ false
    → has_float e ≡ false → members_have_float ms ≡ false → members_have_float others ≡ false
    → members_have_float
    (match_ordering o (member k d (member l e ms)) (member l d ms) (member l e others)) ≡ false
at_place Less k l d e ms others x y z w = neither _ _ x (neither _ _ y z)
at_place Equal k l d e ms others x y z w = neither _ _ x z
at_place Greater k l d e ms others x y z w = neither _ _ y w

with_one : (k : List ℕ) (d : Data) (ms : Members) → has_float d ≡ false
    → members_have_float ms ≡ false → members_have_float (put k d ms) ≡ false
with_one k d no_members x z = neither _ _ x refl
with_one k d (member l e ms) x z =
    at_place (slice_cmp nat_cmp k l) k l d e ms (put k d ms) x
    (left_of (has_float e) (members_have_float ms) z)
    (right_of (has_float e) (members_have_float ms) z)
    (with_one k d ms x (right_of (has_float e) (members_have_float ms) z))

with_all : (ms : Members) (options : List Opt) → members_have_float ms ≡ false
    → members_have_float (put_all ms (map named_of options)) ≡ false
with_all ms [] z = z
with_all ms (option ∷ options) z =
    with_all (put (named_of option).0 (named_of option).1 ms) options
    (with_one (named_of option).0 (named_of option).1 ms (value option.value) z)

pub options_have_none : (options : List Opt) → has_float (options_data options) ≡ false
options_have_none options = with_all no_members options refl

rows : (rs : List WifiRow)
    → items_have_float (items_of (map (λ row. options_data row.options) rs)) ≡ false
rows [] = refl
rows (r ∷ rs) = neither _ _ (options_have_none r.options) (rows rs)

pub radio_has_none : (radio : RadioRow) → has_float (radio_data radio) ≡ false
radio_has_none radio =
    neither _ _ (options_have_none radio.options) (neither _ _ (rows (enabled_rows radio)) refl)
