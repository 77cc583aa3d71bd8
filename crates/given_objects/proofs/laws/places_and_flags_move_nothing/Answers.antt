use Rattle.given_objects.proofs.KeepLemmas.{place_held, place_given, loses_link_held, loses_link_given}
use Rattle.given_objects.proofs.laws.places_and_flags_move_nothing.Goals as goal

pub returns-clause-place_held : goal.returns-clause-place_held
returns-clause-place_held c = place_held

pub returns-clause-place_given : goal.returns-clause-place_given
returns-clause-place_given c = place_given

pub returns-clause-loses_link_held : goal.returns-clause-loses_link_held
returns-clause-loses_link_held c = loses_link_held

pub returns-clause-loses_link_given : goal.returns-clause-loses_link_given
returns-clause-loses_link_given c = loses_link_given
