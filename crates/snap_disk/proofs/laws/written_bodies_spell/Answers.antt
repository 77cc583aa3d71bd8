use Rattle.snap_disk.proofs.WrittenLemmas.{written_spells}
use Rattle.snap_disk.proofs.laws.written_bodies_spell.Goals as goal

pub returns : goal.returns
returns c = written_spells
