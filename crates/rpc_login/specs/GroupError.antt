-- Numbers of errors.
use Rattle.std.specs.Prelude.{ℕ}
use Rattle.rpc_login.specs.declared.group_error.GroupError.{GroupError}
use Rattle.rpc_login.specs.declared.group_error.GroupError.TheVariants.{BadJson, BadGroup, Memory}

-- 120 for a text that is no JSON array, 121 for an element of another form, 8 for memory
abbrev pub number_of : GroupError → ℕ
number_of BadJson = 120
number_of (BadGroup index) = 121
number_of Memory = 8
