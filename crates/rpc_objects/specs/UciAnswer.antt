-- What the object `uci` answers to a call that ended so.
use Rattle.std.specs.Prelude.{Option, Some, None, Result, Ok, Err, false}
use Rattle.rpc_rules.specs.declared.rpc_error.RpcError.{RpcError}
use Rattle.rpc_rules.specs.declared.rpc_error.RpcError.TheVariants.{Status, Denied, DiskFailed, Memory}
use Rattle.rpc_uci.specs.declared.reply.Reply.{Reply}
use Rattle.rpc_objects.specs.declared.local_answer.LocalAnswer.{LocalAnswer}
use Rattle.rpc_objects.specs.declared.uci_answer.UciAnswer.{UciAnswer}
use Rattle.rpc_objects.specs.LocalAnswer.{told, refused, denied}

-- nothing is to be read anew
abbrev pub quiet : LocalAnswer → UciAnswer
quiet answer = record { answer = answer; reload = false }

-- a call in which a disk failed, or for which there was no memory, has no answer
abbrev pub uci_told : Result Reply RpcError → Option UciAnswer
uci_told (Ok reply) = Some (record { answer = told reply.payload; reload = reply.reload })
uci_told (Err (Status status)) = Some (quiet (refused status))
uci_told (Err (Denied grant)) = Some (quiet (denied grant))
uci_told (Err DiskFailed) = None
uci_told (Err Memory) = None
