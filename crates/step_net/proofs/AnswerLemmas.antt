-- Lines that request one of several things.
use Rattle.std.proofs.Common.{◌≡◌, [], false, inl, inr, refl}
use Rattle.std.specs.Prelude.{Result, Ok, Err, IfOk}
use Rattle.net_plane.specs.Network.{Network, moment_of}
use Rattle.script_lines.specs.declared.line_error.LineError.{LineError}
use Rattle.step_net.specs.declared.told.Told.{Told}
use Rattle.step_net.specs.NetLine.{NetLine, refused as refuses}
use Rattle.step_net.specs.Acted.{Acted, acted}
use Rattle.step_net.specs.Told.{refused}
use Rattle.step_net.specs.Taken.{telling_in, TakesAs}
use Rattle.step_net.specs.ReloadTaken.{TakesOneAs, TakesOne}

-- it asks this, and the kernel is asked nothing
pub takes_this : {T M : Type 0} (Is : Acted → Network → T → Type 0) (Asked : NetLine → Type 0) (act : NetLine)
    (before now : Network) (result : Result T M) → Asked act → (acted (moment_of before) act false).asked ≡ []
    → TakesAs Is act before now result → TakesOneAs Is Asked before now result
takes_this Is Asked act before now (Ok kept) is none takes =
    (act, is, record { is = takes; none = none })
takes_this Is Asked act before now (Err lacks) is none takes =
    inr (act, is, record { is = takes; none = none })

-- it is refused with this error
pub takes_refused : {M : Type 0} (Asked : NetLine → Type 0) (e : LineError) (before : Network)
    (result : Result Told M) → Asked (refuses e) → before.notices ≡ []
    → IfOk result (λ told. telling_in told ≡ refused e) → TakesOne Asked before before result
takes_refused Asked e before (Ok told) is silent tells = (
  refuses e,
  is,
  record {
    is = record { net = refl; telling = tells; silent = silent };
    none = refl;
  },
)
takes_refused Asked e before (Err lacks) is silent tells = inl refl
