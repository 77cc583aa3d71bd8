use Rattle.net_gifts.proofs.FoldLemmas.{given_list, withdrawn_list}
use Rattle.net_gifts.proofs.BareLemmas.{more_bare, less_bare}
use Rattle.net_gifts.proofs.laws.gifts_move_with_lists.Goals as goal

pub returns-clause-give : goal.returns-clause-give
returns-clause-give c = given_list

pub returns-clause-withdraw : goal.returns-clause-withdraw
returns-clause-withdraw c = withdrawn_list

pub returns-clause-more : goal.returns-clause-more
returns-clause-more c = more_bare

pub returns-clause-less : goal.returns-clause-less
returns-clause-less c = less_bare
