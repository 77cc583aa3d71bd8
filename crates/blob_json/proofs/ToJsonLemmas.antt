-- Members that were put in, and items.
use Rattle.std.proofs.Common.{ℕ, ◌≡◌, ◌+◌, ◌<◌, List, [], ◌∷◌, ◌++◌, length, get_or, take, map, rules, refl, sym, ap, ◌∙◌, String, Vec, BTreeMap, Global, string_bytes, string_cmp}
use Rattle.std.specs.BTreeMap.{insert_entry}
use Rattle.std.proofs.lemmas.List.{take_more}
use Rattle.serde_json.specs.Data.{Members, no_members, put, array, object}
use Rattle.serde_json.specs.View.{view, items_of, items_view, members_view}
use Rattle.serde_json.specs.declared.value.Value.{Value}
use Rattle.serde_json.specs.declared.value.Value as json
use Rattle.serde_json.proofs.Views.{Entry, view-Array, view-Object, members_view-insert_entry}
use Rattle.blob_codec.specs.AsText.{json_text_of}
use Rattle.blob_codec.specs.declared.blob.Blob.{Blob, the_lemmas}
use Rattle.blob_codec.specs.declared.blob.Blob.TheVariants.{Array, Table}
use Rattle.blob_codec.specs.declared.blob.Attr.{Attr}
use Rattle.blob_json.specs.ToJson.{put_all, named_of, data_of, members_of}

put_all-last : (ms : Members) (xs : List Attr) (x : Attr) → put_all ms (map named_of (xs ++ x ∷ [])) ≡ put (named_of x).0 (named_of x).1 (put_all ms (map named_of xs))
put_all-last ms [] x = refl
put_all-last ms (y ∷ xs) x = put_all-last (put (named_of y).0 (named_of y).1 ms) xs x

pub put_more : (ms : Members) (xs : List Attr) (i : ℕ) (x : Attr) → i < length xs → x ≡ get_or xs i x
    → put_all ms (map named_of (take (i + 1) xs)) ≡ put (named_of x).0 (named_of x).1 (put_all ms (map named_of (take i xs)))
put_more ms xs i x h e =
    let t : take (i + 1) xs ≡ take i xs ++ x ∷ [] = take_more xs i x h ∙ ap (λ y. take i xs ++ y ∷ []) (sym e) in
    ap (λ ys. put_all ms (map named_of ys)) t ∙ put_all-last ms (take i xs) x

pub members_more : (es new : List Entry) (k : String Global) (v : Value) (xs : List Attr) (i : ℕ) (x : Attr) → i < length xs → x ≡ get_or xs i x
    → members_view es ≡ put_all no_members (map named_of (take i xs)) → new ≡ insert_entry string_cmp es k v → string_bytes k ≡ json_text_of x.name → view v ≡ data_of x.value
    → members_view new ≡ put_all no_members (map named_of (take (i + 1) xs))
members_more es new k v xs i x h e so n name value =
    ap members_view n ∙ (members_view-insert_entry es k v
    ∙ (ap (λ b. put b (view v) (members_view es)) name ∙ (ap (λ d. put (json_text_of x.name) d (members_view es)) value
    ∙ (ap (put (json_text_of x.name) (data_of x.value)) so ∙ sym (put_more no_members xs i x h e)))))

values_of : (xs : List Attr) → map (λ n. n.1) (map named_of xs) ≡ map (λ attr. data_of attr.value) xs
values_of [] = refl
values_of (x ∷ xs) = ap (λ ys. data_of x.value ∷ ys) (values_of xs)

data-Array : (xs : List Attr) → data_of (Array xs) ≡ array (items_of (map (λ n. n.1) (map named_of xs)))
data-Array xs = search (rules, the_lemmas)

data-Table : (xs : List Attr) → data_of (Table xs) ≡ object (members_of xs)
data-Table xs = search (rules, the_lemmas)

pub array_found : (v : Vec Value Global) (value : Blob) (xs ys : List Attr) → value ≡ Array xs → ys ≡ xs → items_view v.items ≡ items_of (map (λ attr. data_of attr.value) ys)
    → view (json.Array v) ≡ data_of value
array_found v value xs ys e s h =
    view-Array v ∙ (ap array h ∙ (ap (λ zs. array (items_of (map (λ attr. data_of attr.value) zs))) s
    ∙ (ap (λ ds. array (items_of ds)) (sym (values_of xs)) ∙ (sym (data-Array xs) ∙ ap data_of (sym e)))))

pub table_found : (m : BTreeMap (String Global) Value) (value : Blob) (xs ys : List Attr) → value ≡ Table xs → ys ≡ xs → members_view m.entries ≡ members_of ys
    → view (json.Object m) ≡ data_of value
table_found m value xs ys e s h =
    view-Object m ∙ (ap object h ∙ (ap (λ zs. object (members_of zs)) s ∙ (sym (data-Table xs) ∙ ap data_of (sym e))))
