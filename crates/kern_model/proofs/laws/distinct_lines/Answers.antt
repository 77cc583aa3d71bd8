use Rattle.kern_model.proofs.KeepLemmas.{one_of_put_line, one_of_take_line}
use Rattle.kern_model.proofs.LineLemmas.{object_of_line, taken_of_line}
use Rattle.kern_model.proofs.laws.distinct_lines.Goals as goal

pub returns-clause-puts : goal.returns-clause-puts
returns-clause-puts c = object_of_line

pub returns-clause-held_puts : goal.returns-clause-held_puts
returns-clause-held_puts c devices objects allowed a b h g p q same = one_of_put_line devices objects a b allowed h g (object_of_line a b p q same)

pub returns-clause-takes : goal.returns-clause-takes
returns-clause-takes c = taken_of_line

pub returns-clause-held : goal.returns-clause-held
returns-clause-held c devices objects allowed a b m n x y h g p q small little same = one_of_take_line devices objects a b allowed h g (taken_of_line a b m n x y p q small little same)
