-- Numbers of denials.
use Rattle.std.specs.Prelude.{ℕ}
use Rattle.rpc_session.specs.declared.denied.Denied.{Denied}
use Rattle.rpc_session.specs.declared.denied.Denied.TheVariants.{NoSession, Missing}

-- 70 where there is no such session, 71 where a grant is missing
abbrev pub number_of : Denied → ℕ
number_of NoSession = 70
number_of Missing = 71
