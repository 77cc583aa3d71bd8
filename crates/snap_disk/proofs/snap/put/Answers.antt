use Rattle.std.proofs.Common.{◌+◌, ◌-◌, ap, sym, arith, refl, ◌∙◌, subst}
use Rattle.std.proofs.lemmas.List.{length-set}
use Rattle.snap_disk.specs.Opened.{put}
use Rattle.snap_disk.specs.Phase.{ArePackageFiles}
use Rattle.snap_disk.proofs.PutLemmas.{put_none}
use Rattle.snap_disk.proofs.snap.put.Goals as goal

pub loop-file-init : goal.loop-file-init
loop-file-init c = record { are = subst (ArePackageFiles _) (sym (c.into_iter-file-iterator.ensures.into_iter_gives.0 ∙ c.into_vec-file-items.ensures)) c.requires; puts = refl }

pub overflow_sub-file : goal.overflow_sub-file
overflow_sub-file c = (subst (ArePackageFiles _) c.in-Some.ensures.steps.0 c.loop-file.invariant.are).0.low

pub index_mut-requires : goal.index_mut-requires
index_mut-requires c = let is = (subst (ArePackageFiles _) c.in-Some.ensures.steps.0 c.loop-file.invariant.are).0 in omega (arith, is.low, is.number)

pub loop-file-preserved : goal.loop-file-preserved
loop-file-preserved c = record {
  are = subst (λ (n : _). ArePackageFiles (n + 2) c.next.new.self.rest.items) (sym (length-set c.loop-file.packages.items (c.in-Some.file.file - 2) c.in-Some.file.bytes))
      (subst (ArePackageFiles _) c.in-Some.ensures.steps.0 c.loop-file.invariant.are).1;
  puts = ap (λ (files : _). put files c.loop-file.packages.items) (sym c.in-Some.ensures.steps.0) ∙ c.loop-file.invariant.puts;
}

pub returns : goal.returns
returns c =
    put_none c.loop-file.file-iterator.rest.items c.loop-file.packages.items (omega (arith, c.in-None.ensures.steps.0, c.loop-file.file-iterator.rest.ok))
    ∙ c.loop-file.invariant.puts ∙ ap (λ (files : _). put files c.args.packages.now.items) (c.into_iter-file-iterator.ensures.into_iter_gives.0 ∙ c.into_vec-file-items.ensures)
