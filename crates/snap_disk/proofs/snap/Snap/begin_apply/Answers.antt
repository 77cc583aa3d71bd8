use Rattle.std.proofs.Common.{refl, ap, sym, ◌∙◌, Some}
use Rattle.snap_disk.specs.Opened.{put}
use Rattle.snap_disk.specs.declared.snap.Snap.{Snap}
use Rattle.snap_disk.proofs.LoadLemmas.{same_phase}
use Rattle.snap_disk.proofs.ObjectLemmas.{holds_body, body_same, opens_after, images_of_phase, staged_seen, apply_images, apply_shows, applied_state, put_within, put_long}
use Rattle.snap_disk.proofs.snap.Snap.begin_apply.Goals as goal

pub returns-in-Ok-clause-open : goal.returns-in-Ok-clause-open
returns-in-Ok-clause-open g c =
    let snap = c.args.self.now in
    let kept = c.in_ok-kept.kept in
    let after : Snap = record { packages = c.put.new.packages; kept = Some kept; failed = snap.failed } in
    let names = (g.D.Disk.view c.args.disk.now).names in
    let text = c.deref-2.ensures.value ∙ c.in_ok-body.ensures in
    let staged = staged_seen names snap kept _ c.deref-2.result.now _ c.args.new.items text (sym c.deref.ensures.value) c.in_ok-kept.ensures.staged in
    let is = c.put.ensures ∙ ap (λ (f : _). put f snap.packages.items) c.from_vec.ensures in
    opens_after snap after _ _ _ _ _ c.in-Ok.ensures.phase c.requires.open c.requires.ready (put_long c.args.new.items _ _ is) (put_within _ c.args.new.items _ _ c.requires.files c.requires.open.within is)
    staged.files (apply_shows names snap after kept _ c.args.new.items _ c.deref-3.ensures.value is refl staged.reads)

pub returns-in-Ok-clause-ok : goal.returns-in-Ok-clause-ok
returns-in-Ok-clause-ok g c =
    let snap = c.args.self.now in
    let kept = c.in_ok-kept.kept in
    let names = (g.D.Disk.view c.args.disk.now).names in
    let staged = staged_seen names snap kept _ _ _ c.args.new.items refl (sym c.deref.ensures.value) c.in_ok-kept.ensures.staged in
    let is = c.put.ensures ∙ ap (λ (f : _). put f snap.packages.items) c.from_vec.ensures in
    (c.requires.ready, applied_state _ c.args.new.items kept c.args.pending snap.packages.items c.put.new.packages.items c.requires.files staged.back c.in_ok-kept.ensures.pending is)

pub returns-in-Ok-clause-images : goal.returns-in-Ok-clause-images
returns-in-Ok-clause-images g c =
    let snap = c.args.self.now in
    let kept = c.in_ok-kept.kept in
    let names = (g.D.Disk.view c.args.disk.now).names in
    let text = c.deref-2.ensures.value ∙ c.in_ok-body.ensures in
    let staged = staged_seen names snap kept _ c.deref-2.result.now _ c.deref-3.result.now text (c.deref-3.ensures.value ∙ sym c.deref.ensures.value) c.in_ok-kept.ensures.staged in
    images_of_phase snap _ _ _ _ _ _ c.in-Ok.ensures.phase c.requires.open (apply_images names snap kept c.args.pending _ _ _ c.deref-3.ensures.value c.in_ok-kept.ensures.pending c.requires.none c.requires.open.within staged)

pub returns-in-Err-clause-images : goal.returns-in-Err-clause-images
returns-in-Err-clause-images g c =
    let snap = c.args.self.now in
    let kept = c.in_ok-kept.kept in
    let names = (g.D.Disk.view c.args.disk.now).names in
    let text = c.deref-2.ensures.value ∙ c.in_ok-body.ensures in
    let staged = staged_seen names snap kept _ c.deref-2.result.now _ c.deref-3.result.now text (c.deref-3.ensures.value ∙ sym c.deref.ensures.value) c.in_ok-kept.ensures.staged in
    images_of_phase snap _ _ _ _ _ _ c.in-Err.ensures.phase c.requires.open (apply_images names snap kept c.args.pending _ _ _ c.deref-3.ensures.value c.in_ok-kept.ensures.pending c.requires.none c.requires.open.within staged)

pub returns-in-Ok-clause-body : goal.returns-in-Ok-clause-body
returns-in-Ok-clause-body g c =
    let names = (g.D.Disk.view c.args.disk.now).names in
    let text = c.deref-2.ensures.value ∙ c.in_ok-body.ensures in
    let same = body_same names c.in_ok-kept.kept c.args.pending c.args.new.items c.deref.result.now c.args.self.now.packages.items c.in_ok-kept.ensures.pending c.in_ok-kept.ensures.files c.deref.ensures.value in
    holds_body c.args.self.now _ _ _ _ _ c.deref-2.result.now _ c.in-Ok.ensures.phase c.requires.open c.requires.ready (λ l. refl) (text ∙ same)

pub returns-in-Ok-clause-same : goal.returns-in-Ok-clause-same
returns-in-Ok-clause-same g c = same_phase _ _ _ _ _ c.in-Ok.ensures.phase c.in-Ok.ensures.cause.later

pub returns-in-Err-clause-same : goal.returns-in-Err-clause-same
returns-in-Err-clause-same g c = same_phase _ _ _ _ _ c.in-Err.ensures.phase c.in-Err.ensures.cause.later
