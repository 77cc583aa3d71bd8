-- What is known of the names of every graph is sound.
use Rattle.std.proofs.Common.{◌≡◌, [], Option, Some, None, refl}
use Rattle.kern_model.proofs.MemberLemmas.{none_in_nil}
use Rattle.net_rules.proofs.HistoryLemmas.{no_rows_sound}
use Rattle.graph_rules.specs.State.{Known, nothing_known}
use Rattle.graph_tables.specs.Whole.{IsWhole}
use Rattle.dev_graph.specs.Inside.{known_in}

nothing_whole : IsWhole nothing_known
nothing_whole = record {
  names = record {
    levels = no_rows_sound.levels;
    standing = no_rows_sound.names;
    names = record { once = tt; plain = []; front = refl };
    ports_once = λ row m. absurd (none_in_nil row m);
    ports = record {
      bridges = λ p m. absurd (none_in_nil p m);
      plain = λ p m. absurd (none_in_nil p m);
      known = λ p m. absurd (none_in_nil p m);
      once = tt;
      free = λ p m row in_rows owned. none_in_nil p m;
    };
  };
  vlans = no_rows_sound.vlans;
}

pub whole_in : (names : Option Known) → ((s : Known) → names ≡ Some s → IsWhole s) → IsWhole (known_in names)
whole_in None whole = nothing_whole
whole_in (Some s) whole = whole s refl
