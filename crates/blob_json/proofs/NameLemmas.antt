-- The member of a name is the last that was put in under it.
use Rattle.std.proofs.Common.{ℕ, ◌≡◌, List, [], ◌∷◌, Bool, true, false, cond, Option, Some, None, map, bytes_eq, true≢false, refl, sym, ap, subst, ◌∙◌}
use Rattle.std.proofs.lemmas.Slice.Eq.{bytes_eq-Decides}
use Rattle.serde_json.specs.Data.{Data, Members, no_members, put}
use Rattle.serde_json.specs.Find.{get_member}
use Rattle.serde_json.proofs.Views.{get_member-put, get_member-put_other}
use Rattle.blob_codec.specs.declared.blob.Attr.{Attr}
use Rattle.blob_json.specs.ToJson.{Named, put_all, first_there, last_named, named_of, members_of}

differ : (title name : List ℕ) → bytes_eq title name ≡ false → title ≡ name → ⊥
differ title name f e = true≢false (sym ((bytes_eq-Decides title name).1 e) ∙ f)

put_under : (title name : List ℕ) (d : Data) (ms : Members) (b : Bool) → bytes_eq title name ≡ b
    → get_member title (put name d ms) ≡ first_there (cond b (Some d) None) (get_member title ms)
put_under title name d ms true e =
    let same : title ≡ name = (bytes_eq-Decides title name).0 e in
    ap (λ t. get_member t (put name d ms)) same ∙ get_member-put name d ms
put_under title name d ms false e = get_member-put_other title name d ms (differ title name e)

three : (a b c : Option Data) → first_there a (first_there b c) ≡ first_there (first_there a b) c
three (Some d) b c = refl
three None b c = refl

all_under : (title : List ℕ) (xs : List Named) (ms : Members) → get_member title (put_all ms xs) ≡ first_there (last_named title xs) (get_member title ms)
all_under title [] ms = refl
all_under title (x ∷ xs) ms =
    all_under title xs (put x.0 x.1 ms)
    ∙ (ap (first_there (last_named title xs)) (put_under title x.0 x.1 ms (bytes_eq title x.0) refl)
    ∙ three (last_named title xs) (cond (bytes_eq title x.0) (Some x.1) None) (get_member title ms))

none_there : (a : Option Data) → first_there a None ≡ a
none_there (Some d) = refl
none_there None = refl

pub last_counts : (title : List ℕ) (attrs : List Attr) → get_member title (members_of attrs) ≡ last_named title (map named_of attrs)
last_counts title attrs = all_under title (map named_of attrs) no_members ∙ none_there (last_named title (map named_of attrs))
