-- The number that a user sees for each error.
use Rattle.std.specs.Prelude.{ℕ}
use Rattle.net_addr.specs.declared.error.AddrError.{AddrError}
use Rattle.net_addr.specs.declared.error.AddrError.TheVariants.{BadAddress, BadMask, BadLength}

-- the number of an error
abbrev pub error_number : AddrError → ℕ
error_number BadAddress = 80
error_number BadMask = 81
error_number BadLength = 82
