-- The numbers of the refusals of an input.
use Rattle.std.specs.Prelude.{ℕ}
use Rattle.plane_io.specs.declared.input.InputError.{InputError}
use Rattle.plane_io.specs.declared.input.InputError.TheVariants.{ReadFailed, TooLong, Memory}

-- the number of an error
abbrev pub number_of : InputError → ℕ
number_of ReadFailed = 3
number_of (TooLong limit) = 10
number_of Memory = 8
