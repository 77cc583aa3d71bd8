-- Lines that are acted on.
use Rattle.std.proofs.Common.{ℕ, ◌≡◌, List, [], Option, Some, false, inl, inr, refl, sym, subst}
use Rattle.std.specs.Prelude.{Result, Ok, Err, IfOk, ◌⊎◌}
use Rattle.kern_model.specs.declared.kernel.Asked.{Asked}
use Rattle.net_plane.specs.Network.{Network, moment_of}
use Rattle.script_lines.specs.declared.script_line.ScriptLine.{ScriptLine}
use Rattle.script_lines.specs.declared.script_line.ScriptLine.TheVariants as line
use Rattle.script_lines.specs.declared.line_error.LineError.{LineError}
use Rattle.step_net.specs.declared.told.Told.{Told}
use Rattle.step_net.specs.NetLine.{NetLine, refused as refuses}
use Rattle.step_net.specs.Acted.{acted}
use Rattle.step_net.specs.Taken.{telling_in, IsActed, Shows, Tries, Telled, Asks, IsLeft}
use Rattle.step_net.specs.Told.{refused}
use Rattle.plane_step.specs.Ground.{Ground}
use Rattle.plane_step.specs.Means.{Means, bad_line}
use Rattle.plane_step.specs.LineDone.{Front, Read, ground_at, IsNetUndone, NetDoes, IsOfNet}
use Rattle.step_net.specs.ReloadTaken.{TakesOne}
use Rattle.step_net.proofs.TakenLemmas.{tries_alone}

-- a line that shows something
pub tries_shown : {M : Type 0} (act : NetLine) (now : Network) (kernel : Telled)
    (result : Result Told M) → (acted (moment_of now) act false).asked ≡ []
    → moment_of now ≡ (acted (moment_of now) act false).net → now.notices ≡ [] → Asks [] false kernel
    → Shows act now result → Tries act now now kernel result
tries_shown act now kernel (Ok told) none stays silent nothing shows = record {
  failed = false;
  is = record { net = stays; telling = shows; silent = silent };
  requests = subst (λ what. Asks what false kernel) (sym none) nothing;
}
tries_shown act now kernel (Err lacks) none stays silent nothing shows = IsLeft.in_front refl nothing

-- a line that means this
pub net_does : {M : Type 0} (read : Read) (act : NetLine) (net : Network) (kernel : Telled)
    (result : Result Told M) → Means (ground_at read.front) read.number read.line act
    → Tries act read.front.net net kernel result → NetDoes read net kernel result
net_does read act net kernel (Ok told) means tries =
    record { act = act; means = means; taken = tries }
net_does read act net kernel (Err lacks) means tries = IsNetUndone.asked act means tries

-- a line that asks one of these
pub does_one : {M : Type 0} (read : Read) (Asked : NetLine → Type 0) (net : Network)
    (kernel : Telled) (result : Result Told M)
    → ((act : NetLine) → Asked act → Means (ground_at read.front) read.number read.line act)
    → Asks [] false kernel → TakesOne Asked read.front.net net result → NetDoes read net kernel result
does_one {M} read Asked net kernel (Ok told) means nothing takes = record {
  act = takes.0;
  means = means takes.0 takes.1;
  taken = tries_alone {M = M} IsActed takes.0 read.front.net net kernel (Ok told) takes.2.none nothing takes.2.is;
}
does_one {M} read Asked net kernel (Err lacks) means nothing (inl same) =
    IsNetUndone.unasked same nothing
does_one {M} read Asked net kernel (Err lacks) means nothing (inr takes) =
    IsNetUndone.asked takes.0 (means takes.0 takes.1)
    (tries_alone {M = M} IsActed takes.0 read.front.net net kernel (Err lacks) takes.2.none nothing takes.2.is)

-- a line that is refused before the plane is asked
pub tries_refused : {M : Type 0} (e : LineError) (now : Network) (kernel : Telled)
    (result : Result Told M) → now.notices ≡ [] → Asks [] false kernel
    → Shows (refuses e) now result → Tries (refuses e) now now kernel result
tries_refused e now kernel result silent nothing shows =
    tries_shown (refuses e) now kernel result refl refl silent nothing shows

-- the line is refused with this error, whatever it asked
pub refused_does : {M : Type 0} (read : Read) (e : LineError) (kernel : Telled)
    (result : Result Told M) → Means (ground_at read.front) read.number read.line (refuses e)
    → read.front.net.notices ≡ [] → Asks [] false kernel
    → IfOk result (λ told. telling_in told ≡ refused e)
    → NetDoes read read.front.net kernel result
refused_does {M} read e kernel (Ok told) means silent nothing tells =
    net_does {M = M} read (refuses e) read.front.net kernel (Ok told) means
    (tries_refused {M = M} e read.front.net kernel (Ok told) silent nothing tells)
refused_does {M} read e kernel (Err lacks) means silent nothing tells =
    IsNetUndone.unasked refl nothing

-- a line that is not carried out yet, or that moves the moment or the files
abbrev IsOther : ScriptLine → Type 0
IsOther read =
    ((moment : ℕ) × (read ≡ line.At moment))
    ⊎ (((words : List (List ℕ)) × (read ≡ line.Uci words))
    ⊎ (((session : Option ℕ) × (object : List ℕ) × (method : List ℕ) × (json : List ℕ)
    × (read ≡ line.Call session object method json))
    ⊎ (((client : ℕ) × (user : List ℕ) × (group : List ℕ) × (read ≡ line.OpenClient client user group))
    ⊎ (((client : ℕ) × (bytes : List ℕ) × (read ≡ line.ClientBytes client bytes))
    ⊎ ((client : ℕ) × (read ≡ line.CloseClient client))))))

pub not_yet : (ground : Ground) (number : ℕ) (read : ScriptLine) → IsOther read → IsOfNet read
    → Means ground number (Some read) (bad_line number)
not_yet ground number read (inl is) of = absurd (subst IsOfNet is.1 of)
not_yet ground number read (inr (inl is)) of = absurd (subst IsOfNet is.1 of)
not_yet ground number read (inr (inr (inl is))) of =
    subst (λ r. Means ground number (Some r) (bad_line number)) (sym is.4) refl
not_yet ground number read (inr (inr (inr (inl is)))) of =
    subst (λ r. Means ground number (Some r) (bad_line number)) (sym is.3) refl
not_yet ground number read (inr (inr (inr (inr (inl is))))) of =
    subst (λ r. Means ground number (Some r) (bad_line number)) (sym is.2) refl
not_yet ground number read (inr (inr (inr (inr (inr is))))) of =
    subst (λ r. Means ground number (Some r) (bad_line number)) (sym is.1) refl

-- a line that was read as this
pub read_does : {M : Type 0} (front : Front) (number : ℕ) (read other : ScriptLine)
    (net : Network) (kernel : Telled) (result : Result Told M) → read ≡ other
    → NetDoes (record { front = front; number = number; line = Some other }) net kernel result
    → NetDoes (record { front = front; number = number; line = Some read }) net kernel result
read_does front number read other net kernel result same done =
    subst (λ r. NetDoes (record { front = front; number = number; line = Some r }) net kernel result)
    (sym same) done

-- a line that shows something
pub shows_does : {M : Type 0} (read : Read) (act : NetLine) (kernel : Telled) (result : Result Told M)
    → Means (ground_at read.front) read.number read.line act
    → (acted (moment_of read.front.net) act false).asked ≡ []
    → moment_of read.front.net ≡ (acted (moment_of read.front.net) act false).net
    → read.front.net.notices ≡ [] → Asks [] false kernel → Shows act read.front.net result
    → NetDoes read read.front.net kernel result
shows_does read act kernel result means none stays silent nothing shows =
    net_does read act read.front.net kernel result means
    (tries_shown act read.front.net kernel result none stays silent nothing shows)
