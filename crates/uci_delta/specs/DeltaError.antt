-- Numbers of errors, and which are refusals.
use Rattle.std.specs.Prelude.{ℕ, ◌≡◌, Result, Err}
use Rattle.uci_delta.specs.declared.delta_error.DeltaError.{DeltaError}
use Rattle.uci_delta.specs.declared.delta_error.DeltaError.TheVariants.{NotFound, Invalid, Duplicate, Memory}

-- 20 for what is not there, 21 for what is not of its form, 22 for a name that is there, 8 for memory
abbrev pub number_of : DeltaError → ℕ
number_of NotFound = 20
number_of Invalid = 21
number_of Duplicate = 22
number_of Memory = 8

-- the error is why this is refused, or there was no memory
abbrev pub IsRefusalOf : {X : Type 0} → Result X DeltaError → DeltaError → Type 0
IsRefusalOf outcome NotFound = outcome ≡ Err NotFound
IsRefusalOf outcome Invalid = outcome ≡ Err Invalid
IsRefusalOf outcome Duplicate = outcome ≡ Err Duplicate
IsRefusalOf outcome Memory = Unit {0}
