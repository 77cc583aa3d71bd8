-- What a line leaves, makes of the kernel and says, as a function of the plane before it and of its
-- luck: what it does, then its settling, then its answer.
use Rattle.std.specs.Prelude.{ℕ, ◌≡◌, ◌+◌, List, [], ◌∷◌, ◌++◌, Bool, true, false, not, ◌&&◌, Option, Some, None}
use Rattle.std.specs.Prelude.{is_none, is_some, take, drop, map, length, nat_lt, codes, refl, if◌then◌else◌}
use Rattle.std.specs.Option.{option_map}
use Rattle.kern_model.specs.declared.object.Call.{Call}
use Rattle.kern_model.specs.declared.kernel.Asked.{Asked}
use Rattle.kern_model.specs.CallOrder.{after_calls}
use Rattle.kern_calls.specs.Calls.{calls}
use Rattle.net_rules.specs.Moment.{Moment, devices_of, want_of}
use Rattle.net_settle.specs.Settle.{lines_of, done_call, failed_call}
use Rattle.script_lines.specs.ErrorLine.{error_line}
use Rattle.step_net.specs.NetLine.{NetLine}
use Rattle.step_net.specs.Acted.{Acted, acted}
use Rattle.step_net.specs.Effects.{Effects, joined}

-- what the kernel did to a line: whether it failed at each of its events, in order, and behind how
-- many calls of its settling it failed
pub record Luck : Type 0 where
  pub events : List Bool
  pub failed_after : Option ℕ

-- nothing failed
abbrev pub lucky : Luck
lucky = record { events = []; failed_after = None }

-- whether the kernel failed at the first event
abbrev pub fails_first : List Bool → Bool
fails_first [] = false
fails_first (failed ∷ others) = failed

-- how often it failed
abbrev pub once_if : Bool → ℕ
once_if failed = if failed then 1 else 0

abbrev pub failed_events : List Bool → ℕ
failed_events [] = 0
failed_events (failed ∷ others) = once_if failed + failed_events others

abbrev pub failures_of : Luck → ℕ
failures_of luck = failed_events luck.events + once_if (is_some luck.failed_after)

-- the kernel failed at the first of two events, and behind two calls
twice : failures_of (record { events = true ∷ false ∷ []; failed_after = Some 2 }) ≡ 2
twice = refl

-- the calls that lead to what is wanted
abbrev pub due : Moment → List Call
due net = calls (devices_of net.inputs) net.held (want_of net.inputs)

-- those of a settling that are made where the kernel fails behind so many, and whether it fails so
abbrev pub made : List Call → Option ℕ → List Call
made calls None = calls
made calls (Some count) = take count calls

abbrev pub is_stopped : List Call → Option ℕ → Bool
is_stopped calls None = false
is_stopped calls (Some count) = nat_lt count (length calls)

-- the call that it fails at, where it fails
abbrev pub failed_at_call : List Call → Option ℕ → List Asked
failed_at_call calls None = []
failed_at_call calls (Some count) = map failed_call (take 1 (drop count calls))

-- what the kernel is asked in a settling
abbrev pub asked_in : List Call → Option ℕ → List Asked
asked_in calls failed_after =
    map done_call (made calls failed_after) ++ failed_at_call calls failed_after

-- the plane after these calls
abbrev pub settled : Moment → List Call → Moment
settled net calls = record { inputs = net.inputs; held = after_calls net.held calls }

-- What is told behind the calls: the lines of requests and the reply, and the line of its refusal, where
-- the line is refused.
pub record Telling : Type 0 where
  pub shown : List ℕ
  pub refusal : Option (List ℕ)

abbrev pub telling_of : Acted → Telling
telling_of done = record {
  shown = done.requests ++ done.reply;
  refusal = option_map error_line done.refused;
}

-- The last line of the answer. A refusal of the line goes before one of its settling.
abbrev pub last_line : Option (List ℕ) → Bool → List ℕ
last_line (Some line) stopped = line
last_line None true = codes "error 93 kernel\n"
last_line None false = codes "ok\n"

abbrev pub is_fine : Option (List ℕ) → Bool → Bool
is_fine refusal stopped = is_none refusal && not stopped

-- what a line leaves, what is seen of it outside, and whether it is ok
pub record Moved : Type 0 where
  pub net : Moment
  pub effects : Effects
  pub is_ok : Bool

-- a settling, and then what is to be told
abbrev pub finished : Moment → Telling → Option ℕ → Moved
finished net telling failed_after =
    let done = made (due net) failed_after in
    let stopped = is_stopped (due net) failed_after in
    record {
      net = settled net done;
      effects = record {
        asked = asked_in (due net) failed_after;
        calls = done;
        text = lines_of done ++ (telling.shown ++ last_line telling.refusal stopped);
      };
      is_ok = is_fine telling.refusal stopped;
    }

-- a settling, and then what is shown, without an answer
abbrev pub opening : Moment → List ℕ → Option ℕ → Moved
opening net text failed_after =
    let done = made (due net) failed_after in
    record {
      net = settled net done;
      effects = record {
        asked = asked_in (due net) failed_after;
        calls = done;
        text = lines_of done ++ text;
      };
      is_ok = not (is_stopped (due net) failed_after);
    }

-- the kernel was asked this
abbrev pub asking : List Asked → Effects
asking asked = record { asked = asked; calls = []; text = [] }

-- what a line comes to that did this
abbrev pub ended : Acted → Option ℕ → Moved
ended done failed_after =
    let end = finished done.net (telling_of done) failed_after in
    record {
      net = end.net;
      effects = joined (asking done.asked) end.effects;
      is_ok = end.is_ok;
    }

-- what a line comes to
unfoldable pub moved : Moment → NetLine → Luck → Moved
moved net line luck = ended (acted net line (fails_first luck.events)) luck.failed_after
