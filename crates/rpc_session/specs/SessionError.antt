-- Numbers of errors.
use Rattle.std.specs.Prelude.{ℕ}
use Rattle.rpc_session.specs.declared.session_error.SessionError.{SessionError}
use Rattle.rpc_session.specs.declared.session_error.SessionError.TheVariants.{NoSession, Full, Argument, NoMethod}
use Rattle.rpc_session.specs.declared.session_error.SessionError.TheVariants.{DefaultSession, Memory}

-- 70 where there is no such session, 72 for too many, 73 for an argument, 74 for a method, 75 for the default session,
-- 8 for memory
abbrev pub number_of : SessionError → ℕ
number_of NoSession = 70
number_of Full = 72
number_of Argument = 73
number_of NoMethod = 74
number_of DefaultSession = 75
number_of Memory = 8
