-- The line that tells of an error.
use Rattle.std.specs.Prelude.{ℕ, List, [], ◌∷◌, ◌++◌, codes, decimal}
use Rattle.script_lines.specs.declared.line_error.LineError.{LineError}
use Rattle.script_lines.specs.declared.line_error.LineError.TheVariants as error
use Rattle.script_lines.specs.LineError.{number_of, words_of}

-- a number behind a space
abbrev pub argument : ℕ → List ℕ
argument number = 32 ∷ decimal number

-- the numbers that the text ends in
abbrev pub arguments_of : LineError → List ℕ
arguments_of (error.Stale given current) = argument given ++ argument current
arguments_of (error.WrongPorts wanted) = argument wanted
arguments_of (error.Limit number) = argument number
arguments_of (error.BadLine line) = argument line
arguments_of _ = []

-- `error`, the number and the text
abbrev pub error_line : LineError → List ℕ
error_line e =
    codes "error " ++ (decimal (number_of e) ++ (32 ∷ (words_of e ++ (arguments_of e ++ codes "\n"))))
