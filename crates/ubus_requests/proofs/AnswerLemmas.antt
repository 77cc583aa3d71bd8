-- The call that a DATA or a STATUS answers.
use Rattle.std.proofs.Common.{ℕ, ◌≡◌, List, [], ◌∷◌, Bool, Option, Some, None, get_or, ap, sym, ◌∙◌}
use Rattle.std.specs.Prelude.{option_map, remove}
use Rattle.std.specs.List.{find, position}
use Rattle.ubus_frames.specs.declared.frame.Frame.{Frame}
use Rattle.ubus_table.specs.Table.{Table, Call}
use Rattle.ubus_table.specs.Frames.{where_fits, call_data}
use Rattle.ubus_table.specs.Refusal.{says}
use Rattle.ubus_table.specs.Objects.{told}
use Rattle.ubus_table.specs.Calls.{is_answered, data_passed, passes_data, status_passed, passes_status}
use Rattle.ubus_state.specs.declared.calls.OpenCall.{OpenCall}
use Rattle.ubus_send.specs.Fits.{fits}
use Rattle.ubus_state.specs.Calls.{call_of, calls_of}
use Rattle.ubus_state.proofs.ListLemmas.{find_of_map, first_at, first_none, get_or_map}
use Rattle.ubus_state.proofs.CallLemmas.{without_first_at}

-- an open call at its place
pub call_at : (calls : List OpenCall) (k : ℕ) (call : OpenCall) → call ≡ get_or calls k call → call_of call ≡ get_or (calls_of calls) k (call_of call)
call_at calls k call is = ap call_of is ∙ sym (get_or_map call_of calls k call)

found_at : (table : Table) (client : ℕ) (frame : Frame) (k : ℕ) (call : Call) → position (is_answered table client frame) table.calls ≡ Some k → call ≡ get_or table.calls k call
    → find (is_answered table client frame) table.calls ≡ Some call
found_at table client frame k call at is = (first_at (is_answered table client frame) table.calls k at).found call ∙ ap Some (sym is)

-- what is found among open calls as the table has them
pub call_found : (p : Call → Bool) (calls : List OpenCall) (found : Option OpenCall) → found ≡ find (λ call. p (call_of call)) calls → find p (calls_of calls) ≡ option_map call_of found
call_found p calls found is = find_of_map p call_of calls ∙ ap (option_map call_of) (sym is)

pub data_none : (table : Table) (client : ℕ) (frame : Frame) → find (is_answered table client frame) table.calls ≡ None → (passes_data fits table client frame).sent ≡ []
data_none table client frame h = ap (λ (found : Option Call). (data_passed fits table frame found).sent) h

pub data_told : (table : Table) (client : ℕ) (frame : Frame) (call : Call) → find (is_answered table client frame) table.calls ≡ Some call
    → (passes_data fits table client frame).sent ≡ where_fits fits call.caller (call_data call.seq call.object frame.payload)
data_told table client frame call h = ap (λ (found : Option Call). (data_passed fits table frame found).sent) h

pub status_none : (table : Table) (client : ℕ) (frame : Frame) → position (is_answered table client frame) table.calls ≡ None → passes_status table client frame ≡ says table []
status_none table client frame at = ap (status_passed table client frame) (first_none (is_answered table client frame) table.calls at)

pub status_told : (table : Table) (client : ℕ) (frame : Frame) (k : ℕ) (call : Call) → position (is_answered table client frame) table.calls ≡ Some k → call ≡ get_or table.calls k call
    → passes_status table client frame ≡ says (record table { calls = remove table.calls k }) (told frame.status call ∷ [])
status_told table client frame k call at is =
    ap (status_passed table client frame) (found_at table client frame k call at is)
    ∙ ap (λ (calls : List Call). says (record table { calls = calls }) (told frame.status call ∷ [])) (without_first_at (is_answered table client frame) table.calls k at)
