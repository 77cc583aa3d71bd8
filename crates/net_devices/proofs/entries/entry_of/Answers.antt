use Rattle.std.proofs.Common.{ap, sym, ◌∙◌}
use Rattle.net_addr.specs.Byte.{colon}
use Rattle.net_rows.proofs.CutLemmas.{no_first_cut, is_first_cut}
use Rattle.net_devices.specs.Entries as spec
use Rattle.net_devices.proofs.entries.entry_of.Goals as goal

pub returns-in-Some : goal.returns-in-Some
returns-in-Some c = c.entry_at.ensures ∙ ap (spec.entry_cut c.args.word.now) (sym (is_first_cut colon c.args.word.now c.in-Some.name.now c.in-Some.suffix.now c.in-Some.ensures))

pub returns-in-None : goal.returns-in-None
returns-in-None c = c.entry_at-in-None.ensures ∙ ap (spec.entry_cut c.args.word.now) (sym (no_first_cut colon c.args.word.now c.in-None.ensures))
