-- The graph that is lent.
use Rattle.std.proofs.Common.{List, refl, ap, sym, ◌∙◌}
use Rattle.kern_calls.specs.Lower.{lower_part}
use Rattle.kern_calls.proofs.CountLemmas.{set_of_items}
use Rattle.net_rules.specs.declared.inputs.Inputs.{Inputs}
use Rattle.net_rules.specs.declared.event.Notice.{Notice}
use Rattle.net_rules.specs.Sound.{IsSound}
use Rattle.given_objects.specs.Gifts.{AreGifts}
use Rattle.net_rebuild.specs.SettlingState.{SettlingState, held_of}
use Rattle.net_rebuild.specs.Beside.{IsSettlingStateOf, HoldsLower}
use Rattle.net_rebuild.proofs.LentLemmas.{rows_known, devices_known, wants_below, holds_below}
use Rattle.net_plane.specs.Lent.{Lends}
use Rattle.net_plane.proofs.SettledLemmas.{seen}

pub lends : (inputs : Inputs) (c : SettlingState) (notices : List Notice) → IsSound inputs.conf → IsSettlingStateOf inputs c → AreGifts c.gifts → HoldsLower c.graph → Lends (seen inputs c notices) c.graph
lends inputs c notices sound beside are lower = record {
  agrees = beside.agrees;
  rows = rows_known inputs c beside;
  devices = devices_known inputs c beside;
  wants = wants_below inputs c beside sound;
  holds = holds_below c are lower ∙ ap lower_part (sym (set_of_items (held_of c)));
  loads = refl;
}
