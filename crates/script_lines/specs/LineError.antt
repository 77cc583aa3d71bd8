-- The numbers and the words of errors.
use Rattle.std.specs.Prelude.{ℕ, ◌≡◌, ◌+◌, List, codes, refl}
use Rattle.script_lines.specs.declared.call_status.CallStatus.TheVariants as status
use Rattle.script_lines.specs.declared.line_error.LineError.{LineError}
use Rattle.script_lines.specs.declared.line_error.LineError.TheVariants as error
use Rattle.script_lines.specs.CallStatus.{status_number, status_words}

-- the number of the kind of error
abbrev pub number_of : LineError → ℕ
number_of error.Memory = 8
number_of error.NotFound = 20
number_of error.Invalid = 21
number_of error.Duplicate = 22
number_of error.Disk = 30
number_of error.Waiting = 31
number_of error.NoPackage = 35
number_of error.Parse = 36
number_of error.TooLarge = 37
number_of error.Deep = 45
number_of error.Fraction = 46
number_of error.Wide = 47
number_of error.NotTable = 48
number_of error.Version = 50
number_of error.TooLong = 51
number_of error.BadBlob = 52
number_of error.Full = 60
number_of error.NoClient = 61
number_of error.ClientOpen = 64
number_of error.NoInterface = 90
number_of (error.Stale given current) = 91
number_of error.NoDevice = 92
number_of error.KernelFailed = 93
number_of error.Known = 94
number_of (error.WrongPorts wanted) = 95
number_of (error.Limit number) = 96
number_of (error.BadLine line) = 97
number_of error.NoRadio = 98
number_of error.Moment = 99
number_of (error.Status status) = 100 + status_number status

-- the words in front of the arguments
abbrev pub words_of : LineError → List ℕ
words_of error.Memory = codes "memory"
words_of error.NotFound = codes "not found"
words_of error.Invalid = codes "invalid"
words_of error.Duplicate = codes "duplicate"
words_of error.Disk = codes "disk"
words_of error.Waiting = codes "waiting"
words_of error.NoPackage = codes "no package"
words_of error.Parse = codes "parse"
words_of error.TooLarge = codes "too large"
words_of error.Deep = codes "deep"
words_of error.Fraction = codes "fraction"
words_of error.Wide = codes "wide"
words_of error.NotTable = codes "not table"
words_of error.Version = codes "version"
words_of error.TooLong = codes "too long"
words_of error.BadBlob = codes "bad blob"
words_of error.Full = codes "full"
words_of error.NoClient = codes "no client"
words_of error.ClientOpen = codes "client open"
words_of error.NoInterface = codes "no interface"
words_of (error.Stale given current) = codes "stale"
words_of error.NoDevice = codes "no device"
words_of error.KernelFailed = codes "kernel"
words_of error.Known = codes "known"
words_of (error.WrongPorts wanted) = codes "wrong ports"
words_of (error.Limit number) = codes "limit"
words_of (error.BadLine line) = codes "bad line"
words_of error.NoRadio = codes "no radio"
words_of error.Moment = codes "moment"
words_of (error.Status status) = status_words status

-- a stale number, a line of no such form, and a call that is not permitted
stale : number_of (error.Stale 1 2) ≡ 91
stale = refl

bad : words_of (error.BadLine 3) ≡ codes "bad line"
bad = refl

denied : number_of (error.Status status.PermissionDenied) ≡ 106
denied = refl
