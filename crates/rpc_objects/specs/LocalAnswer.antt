-- Statuses and payloads (libubus), and what is told of a denial.
use Rattle.std.specs.Prelude.{ℕ, List, [], ◌∷◌, Some, None, codes}
use Rattle.blob_codec.specs.declared.blob.Blob.TheVariants.{Str, Table}
use Rattle.blob_codec.specs.declared.blob.Attr.{Attr}
use Rattle.rpc_session.specs.declared.grant.Grant.{Grant}
use Rattle.rpc_objects.specs.declared.local_answer.LocalAnswer.{LocalAnswer}

-- the call was carried out, and tells this
abbrev pub told : List Attr → LocalAnswer
told payload = record { status = 0; payload = Some payload }

-- it was not, with this status
abbrev pub refused : ℕ → LocalAnswer
refused status = record { status = status; payload = None }

abbrev pub text_attr : List ℕ → List ℕ → Attr
text_attr name text = record { name = name; value = Str text }

-- the grant that is missing
abbrev pub denied_payload : Grant → List Attr
denied_payload grant = record {
  name = codes "denied";
  value = Table (text_attr (codes "function") grant.function ∷ text_attr (codes "object") grant.object
      ∷ text_attr (codes "scope") grant.scope ∷ []);
} ∷ []

-- it was not, since the caller lacks this grant
abbrev pub denied : Grant → LocalAnswer
denied grant = record { status = 6; payload = Some (denied_payload grant) }
