-- Numbers of errors.
use Rattle.std.specs.Prelude.{ℕ}
use Rattle.net_rows.specs.declared.conf_error.ConfError.{ConfError}
use Rattle.net_rows.specs.declared.conf_error.ConfError.TheVariants.{Limit, Memory}

-- 96 for a list that is too long, 8 for memory
abbrev pub number_of : ConfError → ℕ
number_of (Limit number) = 96
number_of Memory = 8
