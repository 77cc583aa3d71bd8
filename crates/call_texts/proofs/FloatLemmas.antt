-- The JSON of a blob has no number with a fraction, so that its text is exact.
use Rattle.std.proofs.Common.{ℕ, ◌≡◌, List, [], ◌∷◌, map, rules, refl, sym, ap, subst, ◌∙◌, true, false, Bool, ◌||◌}
use Rattle.std.specs.Prelude.{ℤ, pos, negsuc}
use Rattle.std.specs.Ordering.{nat_cmp, match_ordering}
use Rattle.std.specs.declared.cmp.Ordering.{Ordering}
use Rattle.std.specs.declared.cmp.Ordering.TheVariants.{Less, Equal, Greater}
use Rattle.std.specs.Cmp.Lexicographic.{slice_cmp}
use Rattle.serde_json.specs.Data.{Data, Num, null, boolean, number, string, array, object, Items, no_items, item, Members, no_members, member, put}
use Rattle.serde_json.specs.Find.{of_integer, is_float}
use Rattle.serde_json.specs.View.{items_of}
use Rattle.serde_json.specs.Written.{has_float, items_have_float, members_have_float}
use Rattle.blob_codec.specs.AsText.{json_text_of}
use Rattle.blob_codec.specs.declared.blob.Blob.{Blob, the_lemmas}
use Rattle.blob_codec.specs.declared.blob.Blob.TheOpen.{Blob-F}
use Rattle.blob_codec.specs.declared.blob.Blob.TheVariants.{Unspec, Array, Table, Str, I64, I32, I16, I8, rolls-Unspec, rolls-Array, rolls-Table, rolls-Str, rolls-I64, rolls-I32, rolls-I16, rolls-I8}
use Rattle.blob_codec.specs.declared.blob.Blob.TheViews.{out-Blob, roll-Blob, roll-out-Blob}
use Rattle.blob_codec.specs.declared.blob.Attr.{Attr}
use Rattle.blob_json.specs.ToJson.{put_all, named_of, data_of, is_truth, members_of, json_of}

neither : (a b : Bool) → a ≡ false → b ≡ false → (a || b) ≡ false
neither a b x y = rw (x, y) refl

-- the JSON of each kind of value
data-Unspec : data_of Unspec ≡ null
data-Unspec = search (rules, the_lemmas)

data-Str : (text : List ℕ) → data_of (Str text) ≡ string (json_text_of text)
data-Str text = search (rules, the_lemmas)

data-I64 : (n : ℤ) → data_of (I64 n) ≡ number (of_integer n)
data-I64 n = search (rules, the_lemmas)

data-I32 : (n : ℤ) → data_of (I32 n) ≡ number (of_integer n)
data-I32 n = search (rules, the_lemmas)

data-I16 : (n : ℤ) → data_of (I16 n) ≡ number (of_integer n)
data-I16 n = search (rules, the_lemmas)

data-I8 : (n : ℤ) → data_of (I8 n) ≡ boolean (is_truth n)
data-I8 n = search (rules, the_lemmas)

values_of : (xs : List Attr) → map (λ n. n.1) (map named_of xs) ≡ map (λ attr. data_of attr.value) xs
values_of [] = refl
values_of (x ∷ xs) = ap (λ ys. data_of x.value ∷ ys) (values_of xs)

data-Array : (xs : List Attr) → data_of (Array xs) ≡ array (items_of (map (λ n. n.1) (map named_of xs)))
data-Array xs = search (rules, the_lemmas)

data-Table : (xs : List Attr) → data_of (Table xs) ≡ object (members_of xs)
data-Table xs = search (rules, the_lemmas)

-- what the JSON of a value is: of one without others inside, of an array, of a table
data JsonOf (value : Blob) : Type 0 where
  plain : (d : Data) → data_of value ≡ d → has_float d ≡ false → JsonOf value
  many : (attrs : List Attr) → data_of value ≡ array (items_of (map (λ attr. data_of attr.value) attrs)) → JsonOf value
  named : (attrs : List Attr) → data_of value ≡ object (members_of attrs) → JsonOf value

whole : (n : ℤ) → is_float (of_integer n) ≡ false
whole (pos n) = refl
whole (negsuc n) = refl

value_is : (v : Blob) (l : Blob-F Blob Attr) (w : Blob) → out-Blob v ≡ l → roll-Blob l ≡ w → v ≡ w
value_is v l w e r = sym (roll-out-Blob v) ∙ (ap roll-Blob e ∙ r)

json_at : (v : Blob) (l : Blob-F Blob Attr) → out-Blob v ≡ l → JsonOf v
json_at v Blob-F.Unspec e = plain null (ap data_of (value_is v _ Unspec e rolls-Unspec) ∙ data-Unspec) refl
json_at v (Blob-F.Array attrs) e =
    many attrs (ap data_of (value_is v _ (Array attrs) e (rolls-Array attrs)) ∙ (data-Array attrs ∙ ap (λ ds. array (items_of ds)) (values_of attrs)))
json_at v (Blob-F.Table attrs) e = named attrs (ap data_of (value_is v _ (Table attrs) e (rolls-Table attrs)) ∙ data-Table attrs)
json_at v (Blob-F.Str text) e = plain (string (json_text_of text)) (ap data_of (value_is v _ (Str text) e (rolls-Str text)) ∙ data-Str text) refl
json_at v (Blob-F.I64 n) e = plain (number (of_integer n)) (ap data_of (value_is v _ (I64 n) e (rolls-I64 n)) ∙ data-I64 n) (whole n)
json_at v (Blob-F.I32 n) e = plain (number (of_integer n)) (ap data_of (value_is v _ (I32 n) e (rolls-I32 n)) ∙ data-I32 n) (whole n)
json_at v (Blob-F.I16 n) e = plain (number (of_integer n)) (ap data_of (value_is v _ (I16 n) e (rolls-I16 n)) ∙ data-I16 n) (whole n)
json_at v (Blob-F.I8 n) e = plain (boolean (is_truth n)) (ap data_of (value_is v _ (I8 n) e (rolls-I8 n)) ∙ data-I8 n) refl

-- each member is the JSON of a value
abbrev AreJson : Members → Type 0
AreJson no_members = Unit
AreJson (member name d members) = ((v : Blob) × (data_of v ≡ d)) × AreJson members

at_place : (o : Ordering) (k l : List ℕ) (d e : Data) (ms others : Members) → ((v : Blob) × (data_of v ≡ d)) → ((v : Blob) × (data_of v ≡ e))
    → AreJson ms → AreJson others → AreJson (match_ordering o (member k d (member l e ms)) (member l d ms) (member l e others))
at_place Less k l d e ms others x y z w = (x, (y, z))
at_place Equal k l d e ms others x y z w = (x, z)
at_place Greater k l d e ms others x y z w = (y, w)

with_one : (k : List ℕ) (d : Data) (ms : Members) → ((v : Blob) × (data_of v ≡ d)) → AreJson ms → AreJson (put k d ms)
with_one k d no_members x z = (x, tt)
with_one k d (member l e ms) x z = at_place (slice_cmp nat_cmp k l) k l d e ms (put k d ms) x z.0 z.1 (with_one k d ms x z.1)

with_all : (ms : Members) (attrs : List Attr) → AreJson ms → AreJson (put_all ms (map named_of attrs))
with_all ms [] z = z
with_all ms (attr ∷ attrs) z =
    with_all (put (named_of attr).0 (named_of attr).1 ms) attrs (with_one (named_of attr).0 (named_of attr).1 ms (attr.value, refl) z)

-- what is inside
abbrev items_in : Data → Items
items_in (array items) = items
items_in _ = no_items

abbrev members_in : Data → Members
members_in (object members) = members
members_in _ = no_members

abbrev first : Data → Items → Data
first d no_items = d
first d (item e items) = e

abbrev others : Items → Items
others no_items = no_items
others (item d items) = items

abbrev is_array : Data → Bool
is_array (array items) = true
is_array _ = false

differ : (ds : Items) (ms : Members) → object ms ≡ array ds → ⊥
differ ds ms e = absurd (cc (ap is_array e))

number_by : (n : Num) (v : Blob) → data_of v ≡ number n → JsonOf v → has_float (number n) ≡ false
number_by n v e (plain d is none) = ap has_float (sym e ∙ is) ∙ none
number_by n v e (many attrs is) = absurd (cc (sym e ∙ is))
number_by n v e (named attrs is) = absurd (cc (sym e ∙ is))

array_by : (ds : Items) (v : Blob) → ((attrs : List Attr) → items_of (map (λ attr. data_of attr.value) attrs) ≡ ds → items_have_float ds ≡ false)
    → data_of v ≡ array ds → JsonOf v → has_float (array ds) ≡ false
array_by ds v each e (plain d is none) = ap has_float (sym e ∙ is) ∙ none
array_by ds v each e (many attrs is) = each attrs (ap items_in (sym is ∙ e))
array_by ds v each e (named attrs is) = absurd (differ ds (members_of attrs) (sym is ∙ e))

object_by : (ms : Members) (v : Blob) → (AreJson ms → members_have_float ms ≡ false) → data_of v ≡ object ms → JsonOf v → has_float (object ms) ≡ false
object_by ms v each e (plain d is none) = ap has_float (sym e ∙ is) ∙ none
object_by ms v each e (many attrs is) = absurd (differ (items_of (map (λ attr. data_of attr.value) attrs)) ms (sym e ∙ is))
object_by ms v each e (named attrs is) = each (subst AreJson (ap members_in (sym is ∙ e)) (with_all no_members attrs tt))

mutual
  value : (d : Data) (v : Blob) → data_of v ≡ d → has_float d ≡ false
  value null v e = refl
  value (boolean b) v e = refl
  value (string s) v e = refl
  value (number n) v e = number_by n v e (json_at v (out-Blob v) refl)
  value (array ds) v e = array_by ds v (λ attrs q. items ds attrs q) e (json_at v (out-Blob v) refl)
  value (object ms) v e = object_by ms v (λ z. members ms z) e (json_at v (out-Blob v) refl)

  items : (ds : Items) (attrs : List Attr) → items_of (map (λ attr. data_of attr.value) attrs) ≡ ds → items_have_float ds ≡ false
  items no_items attrs e = refl
  items (item d ds) [] e = absurd (cc e)
  items (item d ds) (attr ∷ attrs) e = neither _ _ (value d attr.value (ap (first d) e)) (items ds attrs (ap others e))

  members : (ms : Members) → AreJson ms → members_have_float ms ≡ false
  members no_members z = refl
  members (member k d ms) z = let here = z.0 in neither _ _ (value d here.0 here.1) (members ms z.1)

pub json_has_none : (attrs : List Attr) → has_float (json_of attrs) ≡ false
json_has_none attrs = members (members_of attrs) (with_all no_members attrs tt)
