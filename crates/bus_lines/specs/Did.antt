-- What a line did before its settling.
use Rattle.std.specs.Prelude.{ℕ, List, [], ◌++◌, Option, Some, None}
use Rattle.kern_model.specs.declared.kernel.Asked.{Asked}
use Rattle.script_lines.specs.declared.line_error.LineError.{LineError}
use Rattle.bus_lines.specs.World.{World}

-- The world behind it, what the kernel was asked, the lines of sends, of requests and of the reply, why the line is
-- refused, if it is, and the random words that it used up.
pub record Did : Type 0 where
  pub world : World
  pub asked : List Asked
  pub sent : List ℕ
  pub requests : List ℕ
  pub reply : List ℕ
  pub refusal : Option LineError
  pub words : List ℕ

abbrev pub nothing_did : World → Did
nothing_did world =
    record { world = world; asked = []; sent = []; requests = []; reply = []; refusal = None; words = [] }

abbrev pub refused_did : World → LineError → Did
refused_did world error = record (nothing_did world) { refusal = Some error }

-- the first of two, where there is one
abbrev pub first_of : {A : Type 0} → Option A → Option A → Option A
first_of None other = other
first_of (Some one) other = Some one

-- one after the other
abbrev pub followed : Did → Did → Did
followed a b = record {
  world = b.world;
  asked = a.asked ++ b.asked;
  sent = a.sent ++ b.sent;
  requests = a.requests ++ b.requests;
  reply = a.reply ++ b.reply;
  refusal = first_of a.refusal b.refusal;
  words = a.words ++ b.words;
}
