use Rattle.net_rules.specs.Moment.{footprint_named}
use Rattle.net_rules.proofs.HistoryLemmas.{orderly}
use Rattle.net_rules.proofs.StretchLemmas.{none_named}
use Rattle.net_plane.specs.Network.{moment_of}
use Rattle.net_plane.proofs.HistoryLemmas.{history_of, settled_holds, stretch_of}
use Rattle.net_plane.proofs.laws.no_call_names_what_stayed.Goals as goal

pub returns : goal.returns
returns c events before name calls became none stays =
    none_named (moment_of before) name calls (orderly (moment_of before) (history_of events before became)).sound (settled_holds events before became none) (stretch_of name (footprint_named before.inputs name) before calls stays)
