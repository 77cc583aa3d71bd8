use Rattle.std.proofs.Common.{[]}
use Rattle.uci_tool.specs.Folder.{folder_of}
use Rattle.uci_tool.proofs.AloneLemmas.{words_front, alone_images}
use Rattle.uci_tool.proofs.alone.carry_words.Goals as goal

pub returns-in_default-clause-carries : goal.returns-in_default-clause-carries
returns-in_default-clause-carries g c = words_front c.args.words.now (folder_of c.args.store.now) []

pub returns-in-Ok-carry-clause-images : goal.returns-in-Ok-carry-clause-images
returns-in-Ok-carry-clause-images g c =
    alone_images g.D.Disk.view c.args.words.now c.in-Ok.asked c.in-Some.command c.args.store.now [] c.args.files.now c.carry.new.files c.in-Ok.ensures c.in-Some.is c.in-Ok-carry.ensures.images

pub returns-clause-images : goal.returns-clause-images
returns-clause-images g c =
    alone_images g.D.Disk.view c.args.words.now c.in-Ok.asked c.in-Some.command c.args.store.now [] c.args.files.now c.carry.new.files c.in-Ok.ensures c.in-Some.is c.in-Err.ensures.images
