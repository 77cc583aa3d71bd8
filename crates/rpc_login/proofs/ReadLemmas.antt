-- One more part of a list was read.
use Rattle.std.proofs.Common.{ℕ, suc, ◌+◌, ◌<◌, ◌≡◌, List, [], ◌∷◌, ◌++◌, length, drop, get_or, Option, Some, None, Result, Ok, Err, true, false, Bool, cond, refl, sym, ap, subst, ◌∙◌, append_assoc, arith}
use Rattle.std.proofs.Math.Seq.{drop-cons}
use Rattle.std.specs.Str.{is_utf8, IsUtf8}
use Rattle.std.proofs.lemmas.Str.{is_utf8-from_IsUtf8, IsUtf8-from_is_utf8}
use Rattle.serde_json.specs.Data.{Data}
use Rattle.serde_json.specs.Read.{read}
use Rattle.serde_json.specs.View.{view, items_view}
use Rattle.serde_json.specs.declared.value.Value.{Value}
use Rattle.ubus_acl.specs.Form.{json_of, in_front}
use Rattle.rpc_login.specs.declared.group_error.GroupError.{GroupError}
use Rattle.rpc_login.specs.declared.group.Group.{Group}
use Rattle.std.specs.Prelude.{IfOk, codes}
use Rattle.std.specs.Option.{option_map}
use Rattle.rpc_session.specs.declared.grant.Grant.{Grant}
use Rattle.rpc_session.specs.Grant.{grant_of}
use Rattle.rpc_login.specs.declared.group.Perm.{Perm}
use Rattle.rpc_login.specs.Form.{joined, file_of, file_first, groups_from, grant_for, part_name, part_in, part_of, own_perm}

-- the bytes are this JSON value
pub json_found : (bytes : List ℕ) (d : Data) → IsUtf8 bytes → read bytes ≡ Some d → Some d ≡ json_of bytes
json_found bytes d u r = sym r ∙ sym (ap (λ b. cond b (read bytes) None) (is_utf8-from_IsUtf8 bytes u))

not_found : (bytes : List ℕ) (b : Bool) → is_utf8 bytes ≡ b → (IsUtf8 bytes → read bytes ≡ None) → None ≡ cond b (read bytes) None
not_found bytes true e h = sym (h (IsUtf8-from_is_utf8 bytes e))
not_found bytes false e h = refl

-- the bytes are no JSON value
pub json_missing : (bytes : List ℕ) → (IsUtf8 bytes → read bytes ≡ None) → None ≡ json_of bytes
json_missing bytes h = not_found bytes (is_utf8 bytes) refl h

-- the others behind these, where they are there
abbrev pub behind : {X : Type 0} → List X → Option (List X) → Option (List X)
behind done None = None
behind done (Some others) = Some (done ++ others)

one_more : {X : Type 0} (done : List X) (x : X) (rest : Option (List X)) → behind done (in_front (Some x) rest) ≡ behind (done ++ x ∷ []) rest
one_more done x None = refl
one_more done x (Some others) = ap Some (sym (append_assoc done (x ∷ []) others))

pub goes_on : {X : Type 0} (whole : Option (List X)) (done pushed : List X) (found : Option X) (x : X) (rest : Option (List X))
    → whole ≡ behind done (in_front found rest) → found ≡ Some x → pushed ≡ done ++ x ∷ [] → whole ≡ behind pushed rest
goes_on whole done pushed found x rest w f p =
    w ∙ (ap (λ y. behind done (in_front y rest)) f ∙ (one_more done x rest ∙ ap (λ xs. behind xs rest) (sym p)))

some_more : {X : Type 0} (done xs : List X) (rest : Option (List X)) → behind done (joined (Some xs) rest) ≡ behind (done ++ xs) rest
some_more done xs None = refl
some_more done xs (Some others) = ap Some (sym (append_assoc done xs others))

pub joins_on : {X : Type 0} (whole : Option (List X)) (done all : List X) (found : Option (List X)) (xs : List X) (rest : Option (List X))
    → whole ≡ behind done (joined found rest) → found ≡ Some xs → all ≡ done ++ xs → whole ≡ behind all rest
joins_on whole done all found xs rest w f p =
    w ∙ (ap (λ y. behind done (joined y rest)) f ∙ (some_more done xs rest ∙ ap (λ ys. behind ys rest) (sym p)))

-- the groups of other files behind these, or their fault
abbrev pub groups_behind : List Group → Result (List Group) GroupError → Result (List Group) GroupError
groups_behind done (Ok others) = Ok (done ++ others)
groups_behind done (Err error) = Err error

one_file_more : (done xs : List Group) (index : ℕ) (rest : Result (List Group) GroupError)
    → groups_behind done (file_first index (Some xs) rest) ≡ groups_behind (done ++ xs) rest
one_file_more done xs index (Ok others) = ap Ok (sym (append_assoc done xs others))
one_file_more done xs index (Err error) = refl

next : (i : ℕ) → suc i ≡ i + 1
next i = omega arith

split_at : (values : List Value) (i : ℕ) (v : Value) → i < length values → v ≡ get_or values i v → drop i values ≡ v ∷ drop (i + 1) values
split_at values i v h e = drop-cons values i v h ∙ (ap (λ x. x ∷ drop (suc i) values) (sym e) ∙ ap (λ k. v ∷ drop k values) (next i))

-- the next file was read
pub files_go_on : (whole : Result (List Group) GroupError) (done all : List Group) (values : List Value) (i : ℕ) (v : Value) (xs : List Group)
    → i < length values → v ≡ get_or values i v → whole ≡ groups_behind done (groups_from i (items_view (drop i values)))
    → file_of (view v) ≡ Some xs → all ≡ done ++ xs → whole ≡ groups_behind all (groups_from (i + 1) (items_view (drop (i + 1) values)))
files_go_on whole done all values i v xs h e w f p =
    let rest = groups_from (i + 1) (items_view (drop (i + 1) values)) in
    w ∙ (ap (λ vs. groups_behind done (groups_from i (items_view vs))) (split_at values i v h e)
    ∙ (ap (λ y. groups_behind done (file_first i y rest)) f
    ∙ (one_file_more done xs i rest ∙ ap (λ ys. groups_behind ys rest) (sym p))))

-- the next file is of another form
pub file_missing : (whole : Result (List Group) GroupError) (done : List Group) (values : List Value) (i : ℕ) (v : Value)
    → i < length values → v ≡ get_or values i v → whole ≡ groups_behind done (groups_from i (items_view (drop i values)))
    → file_of (view v) ≡ None → whole ≡ groups_behind done (file_first i None (groups_from (i + 1) (items_view (drop (i + 1) values))))
file_missing whole done values i v h e w f =
    w ∙ (ap (λ vs. groups_behind done (groups_from i (items_view vs))) (split_at values i v h e)
    ∙ ap (λ y. groups_behind done (file_first i y (groups_from (i + 1) (items_view (drop (i + 1) values))))) f)

-- the grant of a text that stands under nothing
pub grant_alone : {E : Type 0} (r : Result Grant E) (write : Bool) (scope text part : List ℕ) (under : Option (List ℕ)) → under ≡ None → part ≡ part_name write
    → IfOk r (λ g. g ≡ grant_of scope text part) → IfOk r (λ g. g ≡ grant_for write scope under text)
grant_alone r write scope text part None u p h = subst (λ q. IfOk r (λ g. g ≡ grant_of scope text q)) p h
grant_alone r write scope text part (Some target) u p h = cc u

-- the grant of a text that stands under a target
pub grant_under : {E : Type 0} (r : Result Grant E) (write : Bool) (scope text target : List ℕ) (under : Option (List ℕ)) → under ≡ Some target
    → IfOk r (λ g. g ≡ grant_of scope target text) → IfOk r (λ g. g ≡ grant_for write scope under text)
grant_under r write scope text target under u h = subst (λ o. IfOk r (λ g. g ≡ grant_for write scope o text)) (sym u) h

-- a part with the perm of the group behind it
pub part_read : (name : List ℕ) (write : Bool) (value : Option Data) (perms pushed : List Perm) (grant : Grant) (part : List ℕ)
    → part_in write value ≡ Some perms → grant ≡ grant_of (codes "access-group") name part → part ≡ part_name write
    → pushed ≡ perms ++ record { write = write; grant = grant } ∷ [] → Some pushed ≡ part_of name write value
part_read name write value perms pushed grant part found g p h =
    let own : (record { write = write; grant = grant }) ≡ own_perm write name = ap (λ (x : Grant). record { write = write; grant = x }) (g ∙ ap (grant_of (codes "access-group") name) p) in
    ap Some (h ∙ ap (λ (x : Perm). perms ++ x ∷ []) own) ∙ sym (ap (option_map (λ (xs : List Perm). xs ++ own_perm write name ∷ [])) found)
