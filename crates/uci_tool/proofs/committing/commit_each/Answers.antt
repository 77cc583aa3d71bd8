use Rattle.std.proofs.Common.{List, ℕ, ◌≡◌, ◌<◌, length, Result, Err, Option, ap, sym, subst, refl, ◌∙◌}
use Rattle.uci_store.specs.Store.{names_of}
use Rattle.uci_cli.specs.declared.refusal.Refusal.{Refusal}
use Rattle.uci_tool.specs.declared.stop.Stop.{Stop}
use Rattle.uci_tool.specs.Answers.{Changes, Carries, Writes}
use Rattle.uci_tool.specs.Commit.{commit_package, commit_each}
use Rattle.uci_tool.specs.Folder.{folder_of}
use Rattle.uci_tool.specs.Passes.{commit_passes}
use Rattle.uci_tool.proofs.JoinLemmas.{commits_cut, commits_more, commits_stop, commits_leave, name_of_old}
use Rattle.uci_tool.specs.Stops.{StaysOrStops}
use Rattle.uci_tool.specs.Passes.{step_to}
use Rattle.uci_tool.proofs.StopLemmas.{commits_images}
use Rattle.uci_tool.proofs.committing.commit_each.Goals as goal

pub returns-in_default-clause-carries : goal.returns-in_default-clause-carries
returns-in_default-clause-carries g c = commits_cut c.args.store.now c.loop-place.store c.loop-place.store (g.D.Disk.view c.args.files.now) (g.D.Disk.view c.loop-place.files) (g.T.Disk.view c.args.staged.now)
    (g.T.Disk.view c.loop-place.staged) c.loop-place.place c.loop-place.invariant.so refl

pub returns-in-Err : goal.returns-in-Err
returns-in-Err g c =
    let old = c.args.store.now in
    let now = c.loop-place.store in
    let next = c.commit_package.new.store in
    let a = g.D.Disk.view c.args.files.now in
    let b = g.D.Disk.view c.loop-place.files in
    let e = g.D.Disk.view c.commit_package.new.files in
    let s = g.T.Disk.view c.args.staged.now in
    let t = g.T.Disk.view c.loop-place.staged in
    let u = g.T.Disk.view c.commit_package.new.staged in
    let inside : c.loop-place.place < length (names_of old) = subst (λ (z : List (List ℕ)). c.loop-place.place < length z) c.packages-place-end.ensures c.loop-place-test.true in
    let name = name_of_old old now a b s t c.loop-place.place c.in-Ok.name c.loop-place.invariant.so c.in-Ok.ensures in
    record {
      carries = subst (λ (z : Result (Option Refusal) Stop). Carries z (λ refusal. commit_each (folder_of old) (names_of old) ≡ record { refusal = refusal; after = folder_of next }) (folder_of next)
          (commit_passes (folder_of old) (names_of old))) (sym c.ended_by.ensures)
          (commits_stop old now next a b s t c.loop-place.place c.in-Ok.name c.in-Err.stop c.loop-place.invariant.so inside name
          (subst (λ (z : List ℕ). Changes {X = Unit {0}} (Err c.in-Err.stop) (folder_of now) (folder_of next) (commit_package (folder_of now) z)) c.as_bytes.ensures c.in-Err.ensures.changes));
      writes = subst (λ (z : Result (Option Refusal) Stop). Writes z old next a e s u) (sym c.ended_by.ensures) (commits_leave old now next a b e s t u c.loop-place.place c.in-Err.stop c.loop-place.invariant.so c.in-Err.ensures.writes);
      images = commits_images g.D.Disk.view old now c.args.files.now c.loop-place.files c.commit_package.new.files s t c.loop-place.place c.in-Ok.name c.loop-place.invariant.so inside name c.loop-place.invariant.images
          (subst (λ (z : List ℕ). StaysOrStops now g.D.Disk.view c.loop-place.files c.commit_package.new.files (step_to (folder_of now) (commit_package (folder_of now) z))) c.as_bytes.ensures c.in-Err.ensures.images);
    }

pub loop-place-preserved : goal.loop-place-preserved
loop-place-preserved g c =
    let old = c.args.store.now in
    let now = c.loop-place.store in
    let next = c.commit_package.new.store in
    let a = g.D.Disk.view c.args.files.now in
    let b = g.D.Disk.view c.loop-place.files in
    let e = g.D.Disk.view c.commit_package.new.files in
    let s = g.T.Disk.view c.args.staged.now in
    let t = g.T.Disk.view c.loop-place.staged in
    let u = g.T.Disk.view c.commit_package.new.staged in
    let inside : c.loop-place.place < length (names_of old) = subst (λ (z : List (List ℕ)). c.loop-place.place < length z) c.packages-place-end.ensures c.loop-place-test.true in
    let name = name_of_old old now a b s t c.loop-place.place c.in-Ok.name c.loop-place.invariant.so c.in-Ok.ensures in
    record {
      so = commits_more old now next a b e s t u c.loop-place.place c.in-Ok.name c.in-Ok-commit_package.field-0 c.loop-place.invariant.so inside name
          (ap (λ (z : List ℕ). commit_package (folder_of now) z) (sym c.as_bytes.ensures) ∙ c.in-Ok-commit_package.ensures.changes) c.in-Ok-commit_package.ensures.writes;
      images = commits_images g.D.Disk.view old now c.args.files.now c.loop-place.files c.commit_package.new.files s t c.loop-place.place c.in-Ok.name c.loop-place.invariant.so inside name c.loop-place.invariant.images
          (subst (λ (z : List ℕ). StaysOrStops now g.D.Disk.view c.loop-place.files c.commit_package.new.files (step_to (folder_of now) (commit_package (folder_of now) z))) c.as_bytes.ensures c.in-Ok-commit_package.ensures.images);
    }
