use Rattle.std.proofs.Common.{ℕ, ◌≡◌, ◌+◌, List, [], length, Option, Some, None, sym, subst, arith, rules}
use Rattle.std.proofs.lemmas.Grind.{common_steps}
use Rattle.snap_disk.specs.declared.new_file.NewFile.{NewFile}
use Rattle.uci_store.specs.Applying.{AreSoFar}
use Rattle.uci_store.proofs.ApplyLemmas.{start_found, all_large}
use Rattle.uci_store.proofs.store.Store.new_files.Goals as goal

pub loop-place-init : goal.loop-place-init
loop-place-init c =
    let e : ◌≡◌ {A = List NewFile} c.new.result.items [] = search rules in
    subst (λ (l : List NewFile). AreSoFar c.args.self.now c.args.holder 2 l None) (sym e) (start_found c.args.self.now c.args.holder)

pub loop-place-preserved : goal.loop-place-preserved
loop-place-preserved c =
    subst (λ (k : ℕ). AreSoFar c.args.self.now c.args.holder k c.take_file.new.so_far.files.items c.take_file.new.so_far.large) (omega arith) c.in_ok-take_file.ensures.more

pub returns-in-Some-clause-refused : goal.returns-in-Some-clause-refused
returns-in-Some-clause-refused c =
    let store = c.args.self.now in
    let file = c.loop-place.place + 2 in
    let new = c.loop-place.so_far.files.items in
    let large : ◌≡◌ {A = Option ℕ} c.loop-place.so_far.large (Some c.in-Some.bytes) = let a = c.in-Some.is in cc in
    let end : c.loop-place.place ≡ length store.packages.items = grind (arith, common_steps) in
    all_large store c.args.holder file c.in-Some.bytes new (omega (arith, end)) (subst (λ (l : Option ℕ). AreSoFar store c.args.holder file new l) large c.loop-place.invariant)
