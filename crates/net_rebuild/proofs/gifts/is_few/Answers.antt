use Rattle.std.specs.Option.{option_copied}
use Rattle.net_rebuild.proofs.GiftLemmas.{few_by}
use Rattle.net_rebuild.proofs.gifts.is_few.Goals as goal

pub returns : goal.returns
returns c = few_by c.args.row.now (option_copied c.args.answer) c.gives_few.result c.tells_few.result c.gives_few.ensures c.tells_few.ensures
