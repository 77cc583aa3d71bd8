use Rattle.uci_delta.proofs.HeadLemmas.{head_cut, no_cut, no_section, no_option, no_kind}
use Rattle.uci_delta.proofs.head.read_head.Goals as goal

pub returns-in_default : goal.returns-in_default
returns-in_default c = λ kind section option h. no_cut _ _ kind section option c.in_default.ensures h

pub returns-in_default-of : goal.returns-in_default-of
returns-in_default-of c = λ kind section option h. c.in_default-of.ensures kind (head_cut _ _ _ _ kind section option c.in-Some.ensures h).0

pub returns-then-not-is_name-2 : goal.returns-then-not-is_name-2
returns-then-not-is_name-2 c = λ kind section option h. no_section _ _ _ _ _ section kind _ option _ c.in-Some.ensures c.cut_place.ensures c.is_name-2.ensures c.if-not-is_name-2.true h

pub returns-then-not-is_named_option : goal.returns-then-not-is_named_option
returns-then-not-is_named_option c = λ kind section option h. no_option _ _ _ _ _ section kind _ option _ c.in-Some.ensures c.cut_place.ensures c.is_named_option.ensures c.if-not-is_named_option.true h

pub returns-then-not-fits : goal.returns-then-not-fits
returns-then-not-fits c = λ kind section option h. no_kind _ _ _ _ _ section kind _ _ option _ c.in-Some.ensures c.in-Some-of.ensures c.cut_place.ensures c.fits.ensures c.if-not-fits.true h
