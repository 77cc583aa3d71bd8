use Rattle.std.proofs.Common.{ap, sym, subst, ◌∙◌, ◌++◌, ◌∷◌, []}
use Rattle.plane_disk.specs.Images.{IsImage}
use Rattle.plane_disk.specs.MemDisk.{state_of, contents_of}
use Rattle.plane_disk.specs.Sound.{seen_is_image}
use Rattle.plane_disk.specs.declared.call.DiskCall.TheVariants.{Sync}
use Rattle.plane_disk.proofs.StateLemmas.{image_alone}
use Rattle.plane_disk.proofs.ViewLemmas.{state_more, elapses_more}
use Rattle.plane_disk.proofs.mem_disk.MemDiskDisk.sync.Goals as goal

pub returns-clause-whole : goal.returns-clause-whole
returns-clause-whole c = λ image is.
    let old = c.args.self.now in
    let calls = c.in-Ok.ensures.recorded ∙ ap (λ d. d.calls ++ Sync ∷ []) c.self.view_is in
    let state = state_more old.start c.self.inside.start.items old.calls c.record_sync.new.calls.items Sync (ap (λ d. d.start) c.self.view_is) calls in
    image_alone (state_of old).seen image (subst (λ s. IsImage s image) state is)

pub returns-clause-crash : goal.returns-clause-crash
returns-clause-crash c = λ image is.
    let old = c.args.self.now in
    let calls = c.in-Ok.ensures.recorded ∙ ap (λ d. d.calls ++ Sync ∷ []) c.self.view_is in
    let state = state_more old.start c.self.inside.start.items old.calls c.record_sync.new.calls.items Sync (ap (λ d. d.start) c.self.view_is) calls in
    subst (IsImage (state_of old)) (sym (image_alone (state_of old).seen image (subst (λ s. IsImage s image) state is))) (seen_is_image (contents_of old.start) old.calls)

pub returns-clause-time : goal.returns-clause-time
returns-clause-time c =
    let old = c.args.self.now in
    let calls = c.in-Ok.ensures.recorded ∙ ap (λ d. d.calls ++ Sync ∷ []) c.self.view_is in
    elapses_more old.start c.self.inside.start.items old.calls c.record_sync.new.calls.items old.faults c.self.inside.faults Sync (ap (λ d. d.start) c.self.view_is) calls
