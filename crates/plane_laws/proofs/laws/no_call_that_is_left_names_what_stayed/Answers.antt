use Rattle.net_rules.specs.Moment.{footprint_named}
use Rattle.net_rules.proofs.HistoryLemmas.{orderly}
use Rattle.net_rules.proofs.StretchLemmas.{none_named}
use Rattle.net_plane.specs.Network.{moment_of}
use Rattle.net_plane.proofs.HistoryLemmas.{history_of, settled_holds}
use Rattle.plane_laws.proofs.StretchLemmas.{settles}
use Rattle.plane_laws.proofs.laws.no_call_that_is_left_names_what_stayed.Goals as goal

pub returns : goal.returns
returns c events before now name became none stays call member =
    let s = settles name (footprint_named before.inputs name) now before stays in
    none_named (moment_of before) name s.calls
    (orderly (moment_of before) (history_of events before became)).sound
    (settled_holds events before became none) s.stretch call (s.last call member)
