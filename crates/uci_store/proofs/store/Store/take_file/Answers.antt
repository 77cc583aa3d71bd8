use Rattle.std.proofs.Common.{ℕ, ◌+◌, Some, sym, subst, arith, rules}
use Rattle.uci_store.specs.Applying.{AreSoFar}
use Rattle.uci_store.proofs.ApplyLemmas.{taken_on, large_on, too_large}
use Rattle.uci_store.proofs.store.Store.take_file.Goals as goal

pub returns-in_ok-push-in-Ok-clause-more : goal.returns-in_ok-push-in-Ok-clause-more
returns-in_ok-push-in-Ok-clause-more c =
    taken_on c.args.self.now c.args.holder (c.args.place + 2) (c.args.place + 3) c.args.so_far.now.files.items c.push.new.self.items c.in-Ok.new c.args.so_far.now.large (omega arith) c.in-Ok.ensures.number c.in-Ok.ensures.is
    c.in_ok-push-in-Ok.ensures.items c.requires.so_far

pub returns-in-Err-TooLarge-clause-more : goal.returns-in-Err-TooLarge-clause-more
returns-in-Err-TooLarge-clause-more c =
    let store = c.args.self.now in
    let holder = c.args.holder in
    let file = c.args.place + 2 in
    let bytes = c.in-Err-TooLarge.bytes in
    let so_far = c.args.so_far.now in
    subst (λ (n : ℕ). AreSoFar store holder (c.args.place + 3) so_far.files.items (Some n)) (sym c.unwrap_or.ensures)
    (large_on store holder file (c.args.place + 3) bytes so_far.files.items so_far.large (omega arith) (omega arith) (omega (arith, c.requires.within)) (search rules)
    (too_large store holder file c.in-Err-TooLarge.field-0 bytes c.in-Err-TooLarge.field-0-is c.in-Err-TooLarge.ensures.refused) c.requires.so_far)
