-- A call of the object `session` that is answered.
use Rattle.std.proofs.Common.{ℕ, ◌≡◌, ◌≢◌, List, Option, None, Bool, true, false, refl, ap, ◌∙◌}
use Rattle.std.specs.Prelude.{Result, Ok, Err, IsErr, ◌&&◌, codes, if◌then◌else◌}
use Rattle.blob_codec.specs.declared.blob.Attr.{Attr}
use Rattle.rpc_session.specs.declared.session_error.SessionError.{SessionError}
use Rattle.rpc_session.specs.declared.session_error.SessionError.TheVariants as error
use Rattle.rpc_session.specs.Grant.{same_text}
use Rattle.rpc_session.specs.Arguments.{id_in}
use Rattle.rpc_session.specs.SessionList.{SessionList}
use Rattle.rpc_session.specs.Serve.{session_done, IsDone}
use Rattle.uci_staged.specs.declared.change.StagedChange.{StagedChange}
use Rattle.rpc_objects.specs.declared.local_answer.LocalAnswer.{LocalAnswer}
use Rattle.rpc_objects.specs.SessionCall.{answer_of, ended_by, has_created, staged_without, session_call, HasAnswered}

pub answered : (method : List ℕ) (args : List Attr) (now word : ℕ) (list kept : SessionList) (staged left : List StagedChange)
    (told : Result (List Attr) SessionError) (ended : Option ℕ) (created : Bool) (answer : LocalAnswer)
    → told ≢ Err error.Memory → (told ≢ Err error.Memory → IsDone (session_done method args now word list) told kept)
    → ended ≡ ended_by method args told → created ≡ has_created method told → left ≡ staged_without ended staged → answer ≡ answer_of told
    → HasAnswered (session_call method args now word list staged) kept left (record { answer = answer; has_created = created })
answered method args now word list kept staged left told ended created answer given done ends makes leaves is =
    let d = done given in
    record {
      answer = is ∙ ap answer_of d.answered;
      created = makes ∙ ap (has_created method) d.answered;
      kept = d.kept;
      left = leaves ∙ ap (λ ended. staged_without ended staged) (ends ∙ ap (ended_by method args) d.answered);
    }

ends_none : (b : Bool) (id : Option ℕ) (staged : List StagedChange) → staged_without (if b && false then id else None) staged ≡ staged
ends_none true id staged = refl
ends_none false id staged = refl

-- a refused call ends no session
pub stays : (method : List ℕ) (args : List Attr) (told : Result (List Attr) SessionError) (ended : Option ℕ) (staged left : List StagedChange)
    → IsErr told → ended ≡ ended_by method args told → left ≡ staged_without ended staged → left ≡ staged
stays method args (Err e) ended staged left refused ends leaves =
    leaves ∙ ap (λ ended. staged_without ended staged) ends ∙ ends_none (same_text method (codes "destroy")) (id_in args) staged
stays method args (Ok payload) ended staged left refused ends leaves = absurd (cc refused)
