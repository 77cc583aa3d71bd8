use Rattle.std.proofs.Common.{◌≡◌, ◌++◌, drop}
use Rattle.blob_json.specs.JsonError.{escaped}
use Rattle.blob_json.proofs.json_error.escape.Given as goal

abbrev pub invariant-loop-byte : goal.invariant-loop-byte
invariant-loop-byte l = l.part.items ++ escaped (drop l.byte-index l.name) ≡ escaped l.name
