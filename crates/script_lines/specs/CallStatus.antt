-- The statuses of calls, with the numbers of libubus and their names in words.
use Rattle.std.specs.Prelude.{ℕ, List, codes}
use Rattle.script_lines.specs.declared.call_status.CallStatus.{CallStatus}
use Rattle.script_lines.specs.declared.call_status.CallStatus.TheVariants as status

abbrev pub status_number : CallStatus → ℕ
status_number status.InvalidCommand = 1
status_number status.InvalidArgument = 2
status_number status.MethodNotFound = 3
status_number status.NotFound = 4
status_number status.NoData = 5
status_number status.PermissionDenied = 6
status_number status.Timeout = 7
status_number status.NotSupported = 8
status_number status.UnknownError = 9
status_number status.ConnectionFailed = 10
status_number status.NoMemory = 11

abbrev pub status_words : CallStatus → List ℕ
status_words status.InvalidCommand = codes "invalid command"
status_words status.InvalidArgument = codes "invalid argument"
status_words status.MethodNotFound = codes "method not found"
status_words status.NotFound = codes "not found"
status_words status.NoData = codes "no data"
status_words status.PermissionDenied = codes "permission denied"
status_words status.Timeout = codes "timeout"
status_words status.NotSupported = codes "not supported"
status_words status.UnknownError = codes "unknown error"
status_words status.ConnectionFailed = codes "connection failed"
status_words status.NoMemory = codes "no memory"
