-- Members that were put in.
use Rattle.std.proofs.Common.{ℕ, ◌≡◌, ◌+◌, ◌<◌, List, [], ◌∷◌, ◌++◌, length, get_or, take, map, refl, sym, ap, ◌∙◌, String, Global, string_bytes, string_cmp}
use Rattle.std.specs.BTreeMap.{insert_entry}
use Rattle.std.proofs.lemmas.List.{take_more}
use Rattle.serde_json.specs.Data.{Members, no_members, put}
use Rattle.serde_json.specs.View.{view, members_view}
use Rattle.serde_json.specs.declared.value.Value.{Value}
use Rattle.serde_json.proofs.Views.{Entry, members_view-insert_entry}
use Rattle.blob_codec.specs.AsText.{json_text_of}
use Rattle.blob_json.specs.ToJson.{put_all}
use Rattle.uci_tree.specs.declared.package.Opt.{Opt}
use Rattle.request_lines.specs.OptionData.{named_of, value_data}

put_all-last : (ms : Members) (xs : List Opt) (x : Opt)
    → put_all ms (map named_of (xs ++ x ∷ []))
    ≡ put (named_of x).0 (named_of x).1 (put_all ms (map named_of xs))
put_all-last ms [] x = refl
put_all-last ms (y ∷ xs) x = put_all-last (put (named_of y).0 (named_of y).1 ms) xs x

pub put_more : (ms : Members) (xs : List Opt) (i : ℕ) (x : Opt) → i < length xs
    → x ≡ get_or xs i x
    → put_all ms (map named_of (take (i + 1) xs))
    ≡ put (named_of x).0 (named_of x).1 (put_all ms (map named_of (take i xs)))
put_more ms xs i x h e =
    let t : take (i + 1) xs ≡ take i xs ++ x ∷ [] =
    take_more xs i x h ∙ ap (λ y. take i xs ++ y ∷ []) (sym e) in
    ap (λ ys. put_all ms (map named_of ys)) t ∙ put_all-last ms (take i xs) x

pub members_more : (es new : List Entry) (k : String Global) (v : Value) (xs : List Opt) (i : ℕ)
    (x : Opt) → i < length xs → x ≡ get_or xs i x
    → members_view es ≡ put_all no_members (map named_of (take i xs))
    → new ≡ insert_entry string_cmp es k v → string_bytes k ≡ json_text_of x.name
    → view v ≡ value_data x.value
    → members_view new ≡ put_all no_members (map named_of (take (i + 1) xs))
members_more es new k v xs i x h e so n name value =
    ap members_view n ∙ (members_view-insert_entry es k v
    ∙ (ap (λ b. put b (view v) (members_view es)) name
    ∙ (ap (λ d. put (json_text_of x.name) d (members_view es)) value
    ∙ (ap (put (json_text_of x.name) (value_data x.value)) so
    ∙ sym (put_more no_members xs i x h e)))))
