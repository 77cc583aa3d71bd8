-- Numbers of errors.
use Rattle.std.specs.Prelude.{ℕ}
use Rattle.ubus_acl.specs.declared.access_error.AclError.{AclError}
use Rattle.ubus_acl.specs.declared.access_error.AclError.TheVariants.{BadJson, BadRecord, Memory}

-- 62 for a text that is no JSON array, 63 for an item that is no record, 8 for memory
abbrev pub number_of : AclError → ℕ
number_of BadJson = 62
number_of (BadRecord index) = 63
number_of Memory = 8
