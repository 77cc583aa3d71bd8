-- What a line and a script come to, with their luck.
use Rattle.std.specs.Prelude.{ℕ, ◌+◌, List, [], ◌∷◌, ◌++◌, Option, Bool, true, ◌&&◌, is_some}
use Rattle.std.specs.Option.{option_map}
use Rattle.uci_text.specs.declared.line.Line.{Line}
use Rattle.script_lines.specs.ErrorLine.{error_line}
use Rattle.step_net.specs.Effects.{Effects, no_effects, joined}
use Rattle.step_net.specs.Moved.{Telling, finished, asking, once_if, failed_events}
use Rattle.bus_lines.specs.World.{World}
use Rattle.bus_lines.specs.Did.{Did}
use Rattle.plane_step.specs.Does.{LineDoes}

-- what the outside did to a line: random words at hand, one a call or a frame; whether the kernel failed at each of its
-- events, in order; and behind how many calls of its settling it failed
pub record Luck : Type 0 where
  pub words : List ℕ
  pub events : List Bool
  pub failed_after : Option ℕ

-- how often the kernel failed
abbrev pub failures_of : Luck → ℕ
failures_of luck = failed_events luck.events + once_if (is_some luck.failed_after)

-- what is told behind the calls: the lines of requests and the reply, and the line of its refusal, where the line is
-- refused
abbrev pub telling_of : Did → Telling
telling_of did = record {
  shown = did.requests ++ did.reply;
  refusal = option_map error_line did.refusal;
}

-- this was written
abbrev pub writing : List ℕ → Effects
writing text = record { asked = []; calls = []; text = text }

-- the world behind it, what is seen of it outside, whether every line was ok, and the random words that were used up
pub record Moved : Type 0 where
  pub world : World
  pub effects : Effects
  pub is_ok : Bool
  pub words : List ℕ

-- What a line comes to that did this: the lines of sends go first, then the calls of its settling, and then what is
-- told.
unfoldable pub moved : Did → Option ℕ → Moved
moved did failed_after =
    let end = finished did.world.net (telling_of did) failed_after in
    record {
      world = record did.world { net = end.net };
      effects = joined (asking did.asked) (joined (writing did.sent) end.effects);
      is_ok = end.is_ok;
      words = did.words;
    }

-- nothing is done
abbrev pub still : World → Moved
still world = record { world = world; effects = no_effects; is_ok = true; words = [] }

-- one after the other
abbrev pub followed : Moved → Moved → Moved
followed a b = record {
  world = b.world;
  effects = joined a.effects b.effects;
  is_ok = a.is_ok && b.is_ok;
  words = a.words ++ b.words;
}

-- how often the kernel failed in lines
abbrev pub failures : List Luck → ℕ
failures [] = 0
failures (luck ∷ lucks) = failures_of luck + failures lucks

-- What a script comes to, each of its lines with its luck. One without lines comes to nothing, and
-- one with a line more to what it came to without it, followed by that line.
pub data Folds (start : World) : List Line → List Luck → Moved → Type 0 where
  none : Folds start [] [] (still start)
  more : (lines : List Line) (lucks : List Luck) (so_far : Moved) (line : Line) (luck : Luck)
      (did : Did) → Folds start lines lucks so_far
      → LineDoes so_far.world line luck.words luck.events did
      → Folds start (lines ++ line ∷ []) (lucks ++ luck ∷ [])
      (followed so_far (moved did luck.failed_after))
