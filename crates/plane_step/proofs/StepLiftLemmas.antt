-- What lines did, as lines of a script.
use Rattle.std.proofs.Common.{arith, ℕ, ◌≡◌, ◌<◌, ◌≤◌, ◌⊎◌, false, inl, inr, List, [], ◌∷◌, Option, Some, None, refl, ap, sym, subst, ◌∙◌}
use Rattle.std.specs.Prelude.{Result, Ok, Err, OnOk}
use Rattle.std.proofs.lemmas.Bool.{cases_lt}
use Rattle.plane_disk.specs.View.{View}
use Rattle.script_lines.specs.declared.script_line.ScriptLine.{ScriptLine}
use Rattle.script_lines.specs.declared.script_line.ScriptLine.TheVariants as line
use Rattle.uci_tool.specs.Folder.{Folder}
use Rattle.net_rules.specs.Moment.{Moment}
use Rattle.net_plane.specs.Network.{Network, moment_of}
use Rattle.step_net.specs.declared.told.Told.{Told}
use Rattle.step_net.specs.Acted.{acted}
use Rattle.step_net.specs.Moved.{Telling, once_if}
use Rattle.step_net.specs.Taken.{Asks, IsLeft}
use Rattle.plane_step.specs.declared.stop.Stop.{Stop}
use Rattle.plane_step.specs.declared.stop.Stop.TheVariants as stop
use Rattle.plane_step.specs.Faults as plain
use Rattle.plane_step.proofs.PassLemmas.{front_passed}
use Rattle.plane_step.specs.LineDone.{Front, Behind, IsDone as PlainIsDone, IsNetUndone, Does as PlainLineDoes}
use Rattle.rpc_objects.specs.declared.uci_answer.CallStop.{CallStop}
use Rattle.rpc_objects.specs.declared.uci_answer.CallStop.TheVariants as call
use Rattle.bus_clients.specs.Bus.{part_of}
use Rattle.rpc_objects.specs.Cut.{Cut, IsCutSo, untouched}
use Rattle.rpc_objects.specs.Kept.{faults_of}
use Rattle.bus_lines.specs.declared.callers.Callers.{Callers}
use Rattle.bus_lines.specs.declared.caller_line.CallerLine.{CallerLine}
use Rattle.bus_lines.specs.declared.caller_line.CallerLine.TheVariants as caller
use Rattle.bus_lines.specs.declared.handled.Handled.{Handled}
use Rattle.bus_lines.specs.World.{World}
use Rattle.plane_outside.specs.Supply.{Supply}
use Rattle.bus_lines.specs.CallerLine.{LineDoes as CallerDoes}
use Rattle.bus_lines.specs.Passed.{CallLinePasses, BytesPass, LinePasses as CallerPasses}
use Rattle.bus_lines.specs.Cut.{CallLineCuts, BytesCut, LineCuts as CallerCuts}
use Rattle.bus_lines.specs.Ended.{Seen, Ends as CallerEnds, world_of}
use Rattle.plane_step.specs.Expiry.{Goes, Reached, Expired}
use Rattle.plane_step.specs.Plain.{IsPlain}
use Rattle.plane_step.specs.Does.{plain_did}
use Rattle.plane_step.specs.Passed.{PlainPasses, AtPasses, PlainCuts, AtCuts, Passes, Cuts}
use Rattle.plane_step.specs.Done.{Ends, PlainEnds, or_stop, line_for, IsNobodys}
use Rattle.plane_step.proofs.WordLemmas.{uses_none}

-- ---- lines of no caller

module _ (front : Front) (number : ℕ) (read : Option ScriptLine) (behind : Behind) (callers : Callers)
    (supply : Supply) (a b c d : View) where
  abbrev pub plain_world : World
  plain_world = world_of front.now front.store callers front.net

  abbrev pub plain_now : World
  plain_now = world_of behind.now behind.store callers behind.net

  abbrev pub plain_seen : Seen
  plain_seen = record { kernel = behind.kernel; supply = supply; supply_now = supply; disks = faults_of a b c d }

  plain_done : (told : Told)
      → PlainIsDone (record { front = front; number = number; line = read }) behind told
      → PlainEnds plain_world number read plain_now plain_seen (Ok (record { sent = []; told = told }))
  plain_done told done = record {
    words = [];
    failures = done.taken.failed ∷ [];
    did = plain_did plain_world read done.act done.taken.failed;
    does = record { act = done.act; means = done.means; is = refl };
    is = record {
      world = λ i. record {
        now = done.moment i;
        files = done.files i;
        sessions = callers.sessions;
        bus = part_of callers.bus;
        net = done.taken.is.net i;
      };
      asked = record {
        record_of = done.taken.requests.asked;
        cause = let rose = done.taken.requests.cause in omega (arith, rose);
      };
      used = uses_none supply;
      sent = refl;
      shown = ap (λ (t : Telling). t.shown) done.taken.is.telling;
      refusal = ap (λ (t : Telling). t.refusal) done.taken.is.telling;
    };
  }

  left_alone : behind.net ≡ front.net → Asks [] false behind.kernel
      → IsCutSo (untouched plain_world.net) plain_now.net behind.kernel
  left_alone same requests = record {
    held = ap (λ (n : Network). (moment_of n).held) same;
    asked = requests.asked;
    cause = requests.cause;
  }

  plain_cut : IsNetUndone (record { front = front; number = number; line = read }) behind.net behind.kernel
      → (cut : Cut) × PlainCuts plain_world number read cut × IsCutSo cut plain_now.net behind.kernel
  plain_cut (IsNetUndone.unasked same requests) =
      (untouched plain_world.net, PlainCuts.in_front, left_alone same requests)
  plain_cut (IsNetUndone.asked act means (IsLeft.in_front same requests)) =
      (untouched plain_world.net, PlainCuts.in_front, left_alone same requests)
  plain_cut (IsNetUndone.asked act means (IsLeft.behind failed net requests)) = (
    record {
      held = (acted plain_world.net act failed).net.held;
      asked = (acted plain_world.net act failed).asked;
      failures = once_if failed;
    },
    PlainCuts.behind act means failed,
    record {
      held = ap (λ (m : Moment). m.held) net;
      asked = requests.asked;
      cause = requests.cause;
    },
  )

  -- nothing is sent to clients
  pub plain_told : (told : Told) (sent : List ℕ) → sent ≡ []
      → PlainIsDone (record { front = front; number = number; line = read }) behind told
      → PlainEnds plain_world number read plain_now plain_seen (Ok (record { sent = sent; told = told }))
  plain_told told sent none done =
      subst (λ (text : List ℕ). PlainEnds plain_world number read plain_now plain_seen (Ok (record { sent = text; told = told })))
      (sym none) (plain_done told done)

  pub plain_stops : (why : Stop)
      → PlainLineDoes (record { front = front; number = number; line = read }) behind
      (plain.faults_of a b c d) (Err why)
      → PlainEnds plain_world number read plain_now plain_seen (Err why)
  plain_stops stop.WriteFailed never = absurd never
  plain_stops stop.DiskFailed failed = record {
    cause = failed.cause;
    cut = untouched plain_world.net;
    cuts = refl;
    left = left_alone failed.net failed.requests;
  }
  plain_stops stop.Memory undone =
      let found = plain_cut undone.net in
      record { cut = found.0; cuts = found.1; left = found.2; files = undone.files }

-- a line that is nobody's
pub nobodys_ends : (world : World) (number : ℕ) (read : Option ScriptLine) (now : World) (seen : Seen)
    (result : Result Handled Stop) → IsNobodys read → PlainEnds world number read now seen result
    → Ends world number read now seen result
nobodys_ends world number None now seen result is ends = ends
nobodys_ends world number (Some (line.At moment)) now seen result is ends = absurd is
nobodys_ends world number (Some (line.Device what)) now seen result is ends = ends
nobodys_ends world number (Some (line.Answer interface request json)) now seen result is ends = ends
nobodys_ends world number (Some (line.Radio radio request json)) now seen result is ends = ends
nobodys_ends world number (Some (line.Operator interface up)) now seen result is ends = ends
nobodys_ends world number (Some line.Reload) now seen result is ends = ends
nobodys_ends world number (Some (line.Uci words)) now seen result is ends = ends
nobodys_ends world number (Some (line.Call session object method json)) now seen result is ends = absurd is
nobodys_ends world number (Some (line.OpenClient client user group)) now seen result is ends = absurd is
nobodys_ends world number (Some (line.ClientBytes client bytes)) now seen result is ends = absurd is
nobodys_ends world number (Some (line.CloseClient client)) now seen result is ends = absurd is
nobodys_ends world number (Some line.Dump) now seen result is ends = ends
nobodys_ends world number (Some (line.InterfaceStatus name)) now seen result is ends = ends
nobodys_ends world number (Some (line.DeviceStatus name)) now seen result is ends = ends
nobodys_ends world number (Some (line.RadioStatus name)) now seen result is ends = ends

pub nobodys_passes : (world : World) (number : ℕ) (read : Option ScriptLine) (folder : Folder)
    → IsNobodys read → PlainPasses world read folder → Passes world number read folder
nobodys_passes world number None folder is passes = passes
nobodys_passes world number (Some (line.At moment)) folder is passes = absurd is
nobodys_passes world number (Some (line.Device what)) folder is passes = passes
nobodys_passes world number (Some (line.Answer interface request json)) folder is passes = passes
nobodys_passes world number (Some (line.Radio radio request json)) folder is passes = passes
nobodys_passes world number (Some (line.Operator interface up)) folder is passes = passes
nobodys_passes world number (Some line.Reload) folder is passes = passes
nobodys_passes world number (Some (line.Uci words)) folder is passes = passes
nobodys_passes world number (Some (line.Call session object method json)) folder is passes = absurd is
nobodys_passes world number (Some (line.OpenClient client user group)) folder is passes = absurd is
nobodys_passes world number (Some (line.ClientBytes client bytes)) folder is passes = absurd is
nobodys_passes world number (Some (line.CloseClient client)) folder is passes = absurd is
nobodys_passes world number (Some line.Dump) folder is passes = passes
nobodys_passes world number (Some (line.InterfaceStatus name)) folder is passes = passes
nobodys_passes world number (Some (line.DeviceStatus name)) folder is passes = passes
nobodys_passes world number (Some (line.RadioStatus name)) folder is passes = passes

-- a line that was read as this
pub read_ends : (world : World) (number : ℕ) (read other : Option ScriptLine) (now : World) (seen : Seen)
    (result : Result Handled Stop) → read ≡ other → Ends world number other now seen result
    → Ends world number read now seen result
read_ends world number read other now seen result same ends =
    subst (λ r. Ends world number r now seen result) (sym same) ends

-- ---- lines of callers

pub caller_ends : (world : World) (number : ℕ) (asked : CallerLine) (now : World) (seen : Seen)
    (result : Result Handled CallStop)
    → CallerEnds (CallerDoes world number asked) (CallerCuts world number asked)
    (CallerPasses world number asked) now seen result
    → Ends world number (line_for asked) now seen (or_stop result)
caller_ends world number (caller.Call words) now seen (Ok told) ends = ends
caller_ends world number (caller.Call words) now seen (Err call.DiskFailed) ends = ends
caller_ends world number (caller.Call words) now seen (Err call.Memory) ends = ends
caller_ends world number (caller.Open client user group) now seen (Ok told) ends = ends
caller_ends world number (caller.Open client user group) now seen (Err call.DiskFailed) ends = ends
caller_ends world number (caller.Open client user group) now seen (Err call.Memory) ends = ends
caller_ends world number (caller.Bytes client bytes) now seen (Ok told) ends = ends
caller_ends world number (caller.Bytes client bytes) now seen (Err call.DiskFailed) ends = ends
caller_ends world number (caller.Bytes client bytes) now seen (Err call.Memory) ends = ends
caller_ends world number (caller.Close client) now seen (Ok told) ends = ends
caller_ends world number (caller.Close client) now seen (Err call.DiskFailed) ends = ends
caller_ends world number (caller.Close client) now seen (Err call.Memory) ends = ends

pub caller_passes : (world : World) (number : ℕ) (asked : CallerLine) (folder : Folder)
    → CallerPasses world number asked folder → Passes world number (line_for asked) folder
caller_passes world number (caller.Call words) folder passes = passes
caller_passes world number (caller.Open client user group) folder passes = passes
caller_passes world number (caller.Bytes client bytes) folder passes = passes
caller_passes world number (caller.Close client) folder passes = passes

-- ---- a moment that comes

pub at_passes : (world found : World) (moment : ℕ) → Reached world moment found → (folder : Folder)
    → PlainPasses found (Some (line.At moment)) folder → AtPasses world moment folder
at_passes world found moment reached folder passes =
    record { found = found; reached = reached; passes = passes }

pub at_ends : (world found : World) (number moment : ℕ) (now : World) (seen : Seen)
    (result : Result Handled Stop) → Expired world moment found → found.net ≡ world.net
    → PlainEnds found number (Some (line.At moment)) now seen result
    → Ends world number (Some (line.At moment)) now seen result
at_ends world found number moment now seen (Ok told) expired net done = record {
  words = done.words;
  failures = done.failures;
  did = done.did;
  does = record { found = found; expired = expired; does = done.does };
  is = done.is;
}
at_ends world found number moment now seen (Err stop.WriteFailed) expired net never = absurd never
at_ends world found number moment now seen (Err stop.DiskFailed) expired net failed = record {
  cause = failed.cause;
  cut = failed.cut;
  cuts = failed.cuts ∙ ap (λ (m : Moment). untouched m) net;
  left = failed.left;
}
at_ends world found number moment now seen (Err stop.Memory) expired net undone = record {
  cut = undone.cut;
  cuts = AtCuts.behind found expired undone.cut undone.cuts;
  left = undone.left;
  files = at_passes world found moment expired.reached now.files undone.files;
}

-- there was no memory while sessions expired
pub at_halts : (world found : World) (number moment : ℕ) (seen : Seen) → Reached world moment found
    → found.net ≡ world.net → Asks [] false seen.kernel
    → Ends world number (Some (line.At moment)) found seen (Err stop.Memory)
at_halts world found number moment seen reached net requests = record {
  cut = untouched world.net;
  cuts = AtCuts.in_front;
  left = record {
    held = ap (λ (m : Moment). m.held) net;
    asked = requests.asked;
    cause = requests.cause;
  };
  files = at_passes world found moment reached found.files
      (inr (front_passed found.now found.files (Some (line.At moment))));
}

-- a fact of each line of a caller that was carried out
pub call_tells : (P : Type 0) (called : Result Handled CallStop) (result : Result Handled Stop)
    → result ≡ or_stop called → OnOk called P → OnOk result P
call_tells P (Ok told) result is holds = subst (λ (r : Result Handled Stop). OnOk r P) (sym is) holds
call_tells P (Err call.DiskFailed) result is holds = subst (λ (r : Result Handled Stop). OnOk r P) (sym is) tt
call_tells P (Err call.Memory) result is holds = subst (λ (r : Result Handled Stop). OnOk r P) (sym is) tt

-- ---- a line that was not acted on

reached_itself : (world : World) (moment : ℕ) → Reached world moment world
reached_itself world moment = go (cases_lt moment world.now)
  where
    go : (moment < world.now) ⊎ (world.now ≤ moment) → Reached world moment world
    go (inl past) = Reached.past past
    go (inr later) = Reached.comes later world.sessions world.files.staged (Goes.none world.sessions world.files.staged)

nothing_passed : (world : World) (number : ℕ) (read : Option ScriptLine) → Passes world number read world.files
nothing_passed world number None = inr (front_passed world.now world.files None)
nothing_passed world number (Some (line.At moment)) =
    at_passes world world moment (reached_itself world moment) world.files
    (inr (front_passed world.now world.files (Some (line.At moment))))
nothing_passed world number (Some (line.Device what)) = inr (inl refl)
nothing_passed world number (Some (line.Answer interface request json)) = inr (inl refl)
nothing_passed world number (Some (line.Radio radio request json)) = inr (inl refl)
nothing_passed world number (Some (line.Operator interface up)) = inr (inl refl)
nothing_passed world number (Some line.Reload) = inr (inl refl)
nothing_passed world number (Some (line.Uci words)) =
    inr (front_passed world.now world.files (Some (line.Uci words)))
nothing_passed world number (Some (line.Call session object method json)) = CallLinePasses.front
nothing_passed world number (Some (line.OpenClient client user group)) = refl
nothing_passed world number (Some (line.ClientBytes client bytes)) = BytesPass.front
nothing_passed world number (Some (line.CloseClient client)) = refl
nothing_passed world number (Some line.Dump) = inr (inl refl)
nothing_passed world number (Some (line.InterfaceStatus name)) = inr (inl refl)
nothing_passed world number (Some (line.DeviceStatus name)) = inr (inl refl)
nothing_passed world number (Some (line.RadioStatus name)) = inr (inl refl)

nothing_cut : (world : World) (number : ℕ) (read : Option ScriptLine) → Cuts world number read (untouched world.net)
nothing_cut world number None = PlainCuts.in_front
nothing_cut world number (Some (line.At moment)) = AtCuts.in_front
nothing_cut world number (Some (line.Device what)) = PlainCuts.in_front
nothing_cut world number (Some (line.Answer interface request json)) = PlainCuts.in_front
nothing_cut world number (Some (line.Radio radio request json)) = PlainCuts.in_front
nothing_cut world number (Some (line.Operator interface up)) = PlainCuts.in_front
nothing_cut world number (Some line.Reload) = PlainCuts.in_front
nothing_cut world number (Some (line.Uci words)) = PlainCuts.in_front
nothing_cut world number (Some (line.Call session object method json)) = CallLineCuts.in_front
nothing_cut world number (Some (line.OpenClient client user group)) = refl
nothing_cut world number (Some (line.ClientBytes client bytes)) = BytesCut.in_front
nothing_cut world number (Some (line.CloseClient client)) = refl
nothing_cut world number (Some line.Dump) = PlainCuts.in_front
nothing_cut world number (Some (line.InterfaceStatus name)) = PlainCuts.in_front
nothing_cut world number (Some (line.DeviceStatus name)) = PlainCuts.in_front
nothing_cut world number (Some (line.RadioStatus name)) = PlainCuts.in_front

pub nothing_ends : (world : World) (number : ℕ) (read : Option ScriptLine) (seen : Seen)
    → Asks [] false seen.kernel → Ends world number read world seen (Err stop.Memory)
nothing_ends world number read seen requests = record {
  cut = untouched world.net;
  cuts = nothing_cut world number read;
  left = record { held = refl; asked = requests.asked; cause = requests.cause };
  files = nothing_passed world number read;
}

-- ---- whose a line is

pub is_nobodys : (read : ScriptLine) → ((moment : ℕ) → read ≡ line.At moment → ⊥)
    → ((session : Option ℕ) (object method json : List ℕ)
    → read ≡ line.Call session object method json → ⊥)
    → ((client : ℕ) (user group : List ℕ) → read ≡ line.OpenClient client user group → ⊥)
    → ((client : ℕ) (bytes : List ℕ) → read ≡ line.ClientBytes client bytes → ⊥)
    → ((client : ℕ) → read ≡ line.CloseClient client → ⊥) → IsNobodys (Some read)
is_nobodys (line.At moment) no_at no_call no_open no_bytes no_close = no_at moment refl
is_nobodys (line.Device what) no_at no_call no_open no_bytes no_close = tt
is_nobodys (line.Answer interface request json) no_at no_call no_open no_bytes no_close = tt
is_nobodys (line.Radio radio request json) no_at no_call no_open no_bytes no_close = tt
is_nobodys (line.Operator interface up) no_at no_call no_open no_bytes no_close = tt
is_nobodys line.Reload no_at no_call no_open no_bytes no_close = tt
is_nobodys (line.Uci words) no_at no_call no_open no_bytes no_close = tt
is_nobodys (line.Call session object method json) no_at no_call no_open no_bytes no_close =
    no_call session object method json refl
is_nobodys (line.OpenClient client user group) no_at no_call no_open no_bytes no_close =
    no_open client user group refl
is_nobodys (line.ClientBytes client bytes) no_at no_call no_open no_bytes no_close =
    no_bytes client bytes refl
is_nobodys (line.CloseClient client) no_at no_call no_open no_bytes no_close = no_close client refl
is_nobodys line.Dump no_at no_call no_open no_bytes no_close = tt
is_nobodys (line.InterfaceStatus name) no_at no_call no_open no_bytes no_close = tt
is_nobodys (line.DeviceStatus name) no_at no_call no_open no_bytes no_close = tt
is_nobodys (line.RadioStatus name) no_at no_call no_open no_bytes no_close = tt

-- a line of a caller is asked by one
pub caller_is_not_plain : (asked : CallerLine) → IsPlain (line_for asked) → ⊥
caller_is_not_plain (caller.Call words) plain = plain
caller_is_not_plain (caller.Open client user group) plain = plain
caller_is_not_plain (caller.Bytes client bytes) plain = plain
caller_is_not_plain (caller.Close client) plain = plain
