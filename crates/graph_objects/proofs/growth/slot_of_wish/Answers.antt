use Rattle.std.proofs.Common.{arith, ◌<◌, length}
use Rattle.graph_objects.specs.Keys.{key_of}
use Rattle.graph_objects.specs.Deciders.{deciders}
use Rattle.graph_objects.proofs.GrowLemmas.{within}
use Rattle.graph_objects.proofs.DeciderLemmas.{as_many_deciders, none_new_slot, still_listed, listed_with}
use Rattle.graph_objects.proofs.growth.slot_of_wish.Goals as goal

pub returns-in_err-list_wish-clause-listed : goal.returns-in_err-list_wish-clause-listed
returns-in_err-list_wish-clause-listed c =
    let old = c.args.slots.now.entries in
    let new = c.slot_for.new.slots.entries in
    let has = c.in_ok-index.ensures.ok in
    let index = c.in_ok-index.index in
    let grown = still_listed c.args.by_id.now.items (deciders old) (deciders new) (none_new_slot old new (key_of c.args.wish.now.object) index has) c.requires.listed in
    let inside : index < length (deciders new) = omega (arith, within new index _ has.there, as_many_deciders new) in
    listed_with c.args.by_id.now.items c.list_wish.new.by_id.items index (deciders new) c.in_err-list_wish.ensures.more inside grown

pub returns-clause-listed : goal.returns-clause-listed
returns-clause-listed c =
    let old = c.args.slots.now.entries in
    let new = c.slot_for.new.slots.entries in
    let has = c.in_ok-index.ensures.ok in
    let index = c.in_ok-index.index in
    let grown = still_listed c.args.by_id.now.items (deciders old) (deciders new) (none_new_slot old new (key_of c.args.wish.now.object) index has) c.requires.listed in
    let inside : index < length (deciders new) = omega (arith, within new index _ has.there, as_many_deciders new) in
    listed_with c.args.by_id.now.items c.list_wish.new.by_id.items index (deciders new) c.in_ok-list_wish.ensures.more inside grown
