-- The arguments of the methods of the object `uci`. Of equal names the last counts.
use Rattle.std.specs.Prelude.{ℕ, ◌+◌, ◌-◌, ◌^◌, ℤ, pos, negsuc, List, [], Option, Some, None, Result, Ok, Err, Bool}
use Rattle.std.specs.Prelude.{true, false, not, ◌&&◌, ◌||◌, is_some, is_none, nat_eq, nat_le, min, codes, if◌then◌else◌}
use Rattle.std.specs.List.{list_all}
use Rattle.blob_codec.specs.declared.blob.Blob.{Blob}
use Rattle.blob_codec.specs.declared.blob.Blob.TheOpen.{Blob-F}
use Rattle.blob_codec.specs.declared.blob.Blob.TheViews.{out-Blob}
use Rattle.blob_codec.specs.declared.blob.Attr.{Attr}
use Rattle.rpc_session.specs.Arguments.{argument, needed_text, needed_table, needed_array, text_of, seconds_of, id_in}
use Rattle.rpc_session.specs.Values.{are_texts}
use Rattle.rpc_rules.specs.declared.method.Question.{Question}
use Rattle.rpc_rules.specs.declared.method.Question.TheVariants.{Configs, Get, Changes}
use Rattle.rpc_rules.specs.declared.method.Edit.{Edit}
use Rattle.rpc_rules.specs.declared.method.Edit.TheVariants.{Add, Set, Delete, Rename, Order}
use Rattle.rpc_rules.specs.declared.caller.Caller.{Caller}
use Rattle.rpc_rules.specs.declared.caller.Caller.TheVariants.{Anyone, Session, Stranger}
use Rattle.rpc_rules.specs.Status.{bad_argument}

-- ---- who calls

-- the session of an argument that is there, where it is 32 hexadecimal digits
abbrev pub session_caller : Option ℕ → Caller
session_caller None = Stranger
session_caller (Some id) = Session id

abbrev pub caller_named : Option Blob → Option ℕ → Caller
caller_named None id = Anyone
caller_named (Some value) id = session_caller id

-- who calls: anyone, where no session is named, or the session of the id; what is no id names none, by a rule of our
-- own
abbrev pub caller_in : List Attr → Caller
caller_in args = caller_named (argument (codes "ubus_rpc_session") args) (id_in args)

-- the holder of the staged changes that a caller sees
abbrev pub holder_of : Caller → ℕ
holder_of Anyone = 0
holder_of (Session id) = id
holder_of Stranger = 0

-- ---- texts

-- the package that is named
abbrev pub config_in : List Attr → Option (List ℕ)
config_in args = needed_text (argument (codes "config") args)

-- the argument is a text
abbrev pub is_given : List ℕ → List Attr → Bool
is_given name args = is_some (needed_text (argument name args))

abbrev pub is_text : Blob → Bool
is_text value = is_some (text_of value)

abbrev pub is_text_or_none : Option Blob → Bool
is_text_or_none None = true
is_text_or_none (Some value) = is_text value

-- the argument is a text, where it is there
abbrev pub is_optional : List ℕ → List Attr → Bool
is_optional name args = is_text_or_none (argument name args)

-- the argument is an array of texts
abbrev pub is_list : Option (List Attr) → Bool
is_list None = false
is_list (Some items) = are_texts items

-- ---- values of options

-- a text, or an array of texts
abbrev pub is_value_in : Blob-F Blob Attr → Bool
is_value_in Blob-F.Unspec = false
is_value_in (Blob-F.Array items) = are_texts items
is_value_in (Blob-F.Table attrs) = false
is_value_in (Blob-F.Str text) = true
is_value_in (Blob-F.I64 n) = false
is_value_in (Blob-F.I32 n) = false
is_value_in (Blob-F.I16 n) = false
is_value_in (Blob-F.I8 n) = false

abbrev pub is_value : Blob → Bool
is_value value = is_value_in (out-Blob value)

abbrev pub are_values : List Attr → Bool
are_values attrs = list_all (λ attr. is_value attr.value) attrs

-- a table of such values
abbrev pub is_table_of_values : Option (List Attr) → Bool
is_table_of_values None = false
is_table_of_values (Some attrs) = are_values attrs

abbrev pub values_argument : List Attr → Option (List Attr)
values_argument args = needed_table (argument (codes "values") args)

-- the argument `values` is one, and for `add` it need not be there
abbrev pub has_values : List Attr → Bool
has_values args = is_table_of_values (values_argument args)

abbrev pub has_values_or_none : List Attr → Bool
has_values_or_none args = is_none (argument (codes "values") args) || has_values args

-- the values, none where there is no such argument
abbrev pub values_or_none : Option (List Attr) → List Attr
values_or_none None = []
values_or_none (Some attrs) = attrs

-- ---- the arguments of each method, but for its package

abbrev pub question_fits : Question → List Attr → Bool
question_fits Configs args = true
question_fits Get args = is_optional (codes "section") args && is_optional (codes "option") args
    && (is_given (codes "section") args || not (is_given (codes "option") args))
question_fits Changes args = is_optional (codes "config") args

abbrev pub edit_fits : Edit → List Attr → Bool
edit_fits Add args = is_given (codes "type") args && is_optional (codes "name") args && has_values_or_none args
edit_fits Set args = is_given (codes "section") args && has_values args
edit_fits Delete args = is_given (codes "section") args && is_optional (codes "option") args
edit_fits Rename args = is_given (codes "section") args && is_optional (codes "option") args
    && is_given (codes "name") args
edit_fits Order args = is_list (needed_array (argument (codes "sections") args))

-- ---- `apply`

-- a byte is true where it is not 0
abbrev pub is_other_than_0 : ℤ → Bool
is_other_than_0 (pos n) = not (nat_eq n 0)
is_other_than_0 (negsuc n) = true

abbrev pub flag_in : Blob-F Blob Attr → Option Bool
flag_in Blob-F.Unspec = None
flag_in (Blob-F.Array items) = None
flag_in (Blob-F.Table attrs) = None
flag_in (Blob-F.Str text) = None
flag_in (Blob-F.I64 n) = None
flag_in (Blob-F.I32 n) = None
flag_in (Blob-F.I16 n) = None
flag_in (Blob-F.I8 n) = Some (is_other_than_0 n)

-- whether the new files are to wait for a confirm: not where nothing is said
abbrev pub flag_or_false : Option Blob → Option Bool
flag_or_false None = Some false
flag_or_false (Some value) = flag_in (out-Blob value)

-- seconds from 1 to a day
abbrev pub within_a_day : Option ℕ → Option ℕ
within_a_day None = None
within_a_day (Some seconds) = if nat_le 1 seconds && nat_le seconds 86400 then Some seconds else None

-- how many seconds they are to wait: 60 where nothing is said
abbrev pub timeout_or_usual : Option Blob → Option ℕ
timeout_or_usual None = Some 60
timeout_or_usual (Some value) = within_a_day (seconds_of value)

-- a moment later, at most the last one of 64 bits
abbrev pub later : ℕ → ℕ → ℕ
later now seconds = min (now + seconds) (2 ^ 64 - 1)

abbrev pub deadline_of : Option Bool → Option ℕ → ℕ → Result (Option ℕ) ℕ
deadline_of None timeout now = Err bad_argument
deadline_of (Some flag) None now = Err bad_argument
deadline_of (Some flag) (Some seconds) now = Ok (if flag then Some (later now seconds) else None)

-- until when an apply is to wait for a confirm, where it is to
abbrev pub apply_deadline : List Attr → ℕ → Result (Option ℕ) ℕ
apply_deadline args now = deadline_of (flag_or_false (argument (codes "rollback") args))
    (timeout_or_usual (argument (codes "timeout") args)) now
