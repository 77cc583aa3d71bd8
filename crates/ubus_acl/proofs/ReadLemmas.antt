-- One more part of a list was read.
use Rattle.std.proofs.Common.{ℕ, suc, ◌+◌, ◌<◌, ◌≡◌, List, [], ◌∷◌, ◌++◌, length, drop, get_or, Option, Some, None, Result, Ok, Err, true, false, Bool, cond, refl, sym, ap, ◌∙◌, append_assoc, length-append, arith}
use Rattle.std.proofs.Math.Seq.{drop-cons}
use Rattle.std.specs.Str.{is_utf8, IsUtf8}
use Rattle.std.proofs.lemmas.Str.{is_utf8-from_IsUtf8, IsUtf8-from_is_utf8}
use Rattle.serde_json.specs.Data.{Data}
use Rattle.serde_json.specs.Read.{read}
use Rattle.serde_json.specs.View.{view, items_view}
use Rattle.serde_json.specs.declared.value.Value.{Value}
use Rattle.ubus_acl.specs.declared.access_error.AclError.{AclError}
use Rattle.ubus_acl.specs.declared.record.Record.{Record}
use Rattle.ubus_acl.specs.Form.{json_of, in_front, record_of, record_first, records_from}

-- the bytes are this JSON value
pub json_found : (bytes : List ℕ) (d : Data) → IsUtf8 bytes → read bytes ≡ Some d → Some d ≡ json_of bytes
json_found bytes d u r = sym r ∙ sym (ap (λ b. cond b (read bytes) None) (is_utf8-from_IsUtf8 bytes u))

not_found : (bytes : List ℕ) (b : Bool) → is_utf8 bytes ≡ b → (IsUtf8 bytes → read bytes ≡ None) → None ≡ cond b (read bytes) None
not_found bytes true e h = sym (h (IsUtf8-from_is_utf8 bytes e))
not_found bytes false e h = refl

-- the bytes are no JSON value
pub json_missing : (bytes : List ℕ) → (IsUtf8 bytes → read bytes ≡ None) → None ≡ json_of bytes
json_missing bytes h = not_found bytes (is_utf8 bytes) refl h

-- the others behind these, where they are there
abbrev pub behind : {X : Type 0} → List X → Option (List X) → Option (List X)
behind done None = None
behind done (Some others) = Some (done ++ others)

one_more : {X : Type 0} (done : List X) (x : X) (rest : Option (List X)) → behind done (in_front (Some x) rest) ≡ behind (done ++ x ∷ []) rest
one_more done x None = refl
one_more done x (Some others) = ap Some (sym (append_assoc done (x ∷ []) others))

pub goes_on : {X : Type 0} (whole : Option (List X)) (done pushed : List X) (found : Option X) (x : X) (rest : Option (List X))
    → whole ≡ behind done (in_front found rest) → found ≡ Some x → pushed ≡ done ++ x ∷ [] → whole ≡ behind pushed rest
goes_on whole done pushed found x rest w f p =
    w ∙ (ap (λ y. behind done (in_front y rest)) f ∙ (one_more done x rest ∙ ap (λ xs. behind xs rest) (sym p)))

-- the other records behind these, or their fault
abbrev pub records_behind : List Record → Result (List Record) AclError → Result (List Record) AclError
records_behind done (Ok others) = Ok (done ++ others)
records_behind done (Err error) = Err error

one_record_more : (done : List Record) (x : Record) (index : ℕ) (rest : Result (List Record) AclError)
    → records_behind done (record_first index (Some x) rest) ≡ records_behind (done ++ x ∷ []) rest
one_record_more done x index (Ok others) = ap Ok (sym (append_assoc done (x ∷ []) others))
one_record_more done x index (Err error) = refl

next : (i : ℕ) → suc i ≡ i + 1
next i = omega arith

split_at : (values : List Value) (i : ℕ) (v : Value) → i < length values → v ≡ get_or values i v → drop i values ≡ v ∷ drop (i + 1) values
split_at values i v h e = drop-cons values i v h ∙ (ap (λ x. x ∷ drop (suc i) values) (sym e) ∙ ap (λ k. v ∷ drop k values) (next i))

-- a record more was read
pub records_go_on : (whole : Result (List Record) AclError) (done pushed : List Record) (values : List Value) (i : ℕ) (v : Value) (x : Record)
    → i < length values → v ≡ get_or values i v → whole ≡ records_behind done (records_from (length done) (items_view (drop i values)))
    → record_of (view v) ≡ Some x → pushed ≡ done ++ x ∷ [] → whole ≡ records_behind pushed (records_from (length pushed) (items_view (drop (i + 1) values)))
records_go_on whole done pushed values i v x h e w f p =
    let rest = records_from (length done + 1) (items_view (drop (i + 1) values)) in
    let more : length done + 1 ≡ length pushed = sym (ap length p ∙ length-append done (x ∷ [])) in
    w ∙ (ap (λ vs. records_behind done (records_from (length done) (items_view vs))) (split_at values i v h e)
    ∙ (ap (λ y. records_behind done (record_first (length done) y rest)) f
    ∙ (one_record_more done x (length done) rest
    ∙ (ap (λ xs. records_behind xs rest) (sym p) ∙ ap (λ n. records_behind pushed (records_from n (items_view (drop (i + 1) values)))) more))))

-- the next value is no record
pub record_missing : (whole : Result (List Record) AclError) (done : List Record) (values : List Value) (i : ℕ) (v : Value)
    → i < length values → v ≡ get_or values i v → whole ≡ records_behind done (records_from (length done) (items_view (drop i values)))
    → record_of (view v) ≡ None → whole ≡ records_behind done (record_first (length done) None (records_from (length done + 1) (items_view (drop (i + 1) values))))
record_missing whole done values i v h e w f =
    w ∙ (ap (λ vs. records_behind done (records_from (length done) (items_view vs))) (split_at values i v h e)
    ∙ ap (λ y. records_behind done (record_first (length done) y (records_from (length done + 1) (items_view (drop (i + 1) values))))) f)
