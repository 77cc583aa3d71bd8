use Rattle.std.proofs.Common.{arith, ap, subst, ◌∙◌, ◌<◌, ◌++◌, ◌∷◌, [], length, not, refl, inl, inr, Some}
use Rattle.plane_words.specs.Causes.{next_count}
use Rattle.plane_disk.specs.Calls.{seen_after}
use Rattle.plane_disk.specs.Images.{IsImage}
use Rattle.plane_disk.specs.MemDisk.{state_of, names_of, contents_of, IsToFail}
use Rattle.plane_disk.specs.Sound.{seen_is_image}
use Rattle.plane_disk.specs.declared.call.DiskCall.TheVariants.{Write}
use Rattle.plane_disk.proofs.KeptLemmas.{kept_seen, kept_count, kept_call}
use Rattle.plane_disk.proofs.StateLemmas.{crash_of_write, torn_seen}
use Rattle.plane_disk.proofs.ViewLemmas.{state_more, elapses_more}
use Rattle.plane_disk.proofs.mem_disk.MemDiskDisk.write_at.Goals as goal

pub write-requires-clause-number : goal.write-requires-clause-number
write-requires-clause-number c = let count = kept_count _ _ _ _ _ c.self.invariant in let names = ap (λ d. length (names_of d.start)) c.self.view_is in omega (arith, count, names, c.requires.number)

pub invariant_of-self-then-fails : goal.invariant_of-self-then-fails
invariant_of-self-then-fails c = kept_call _ _ _ _ _ _ _ (Write c.args.file c.args.at c.args.bytes.now (not c.is_to_fail-fails.result)) (λ s. refl) c.in-Ok.ensures.recorded c.in-Ok.ensures.seen c.self.invariant

pub invariant_of-self-else-fails : goal.invariant_of-self-else-fails
invariant_of-self-else-fails c = kept_call _ _ _ _ _ _ _ (Write c.args.file c.args.at c.args.bytes.now (not c.is_to_fail-fails.result)) (λ s. refl) c.in-Ok.ensures.recorded c.in-Ok.ensures.seen c.self.invariant

pub returns-then-fails-clause-crash : goal.returns-then-fails-clause-crash
returns-then-fails-clause-crash c = λ image is.
    let old = c.args.self.now in
    let call = Write c.args.file c.args.at c.args.bytes.now (not c.is_to_fail-fails.result) in
    let calls = c.in-Ok.ensures.recorded ∙ ap (λ d. d.calls ++ call ∷ []) c.self.view_is in
    let state = state_more old.start c.self.inside.start.items old.calls c.write.new.calls.items call (ap (λ d. d.start) c.self.view_is) calls in
    let seen = kept_seen _ _ _ _ _ c.self.invariant in
    let count = kept_count _ _ _ _ _ c.self.invariant in
    let names = ap (λ d. length (names_of d.start)) c.self.view_is in
    let long = ap (λ d. length (state_of d).seen) c.self.view_is in
    let within : c.args.file < length (state_of old).seen = omega (arith, c.requires.number, count, names, long, ap length seen) in
    inr (crash_of_write (state_of old) c.args.file c.args.at c.args.bytes.now (not c.is_to_fail-fails.result) (seen_is_image (contents_of old.start) old.calls) within c.requires.inside image (subst (λ s. IsImage s image) state is))

pub returns-then-fails-clause-time : goal.returns-then-fails-clause-time
returns-then-fails-clause-time c =
    let old = c.args.self.now in
    let call = Write c.args.file c.args.at c.args.bytes.now (not c.is_to_fail-fails.result) in
    let calls = c.in-Ok.ensures.recorded ∙ ap (λ d. d.calls ++ call ∷ []) c.self.view_is in
    elapses_more old.start c.self.inside.start.items old.calls c.write.new.calls.items old.faults c.saturating_add-self-inside-then-fails.result call (ap (λ d. d.start) c.self.view_is) calls

pub returns-then-fails-clause-ends : goal.returns-then-fails-clause-ends
returns-then-fails-clause-ends c = record {
  start = ap (λ d. d.start) c.self.view_is;
  failing = ap (λ d. d.failing) c.self.view_is;
  fuse = ap (λ d. d.fuse) c.self.view_is;
  made = c.saturating_add-self-inside.ensures ∙ ap (λ d. next_count d.made) c.self.view_is;
  fails = inl (subst (λ d. IsToFail d.failing d.fuse c.saturating_add-self-inside.result) c.self.view_is
      (subst (λ f. IsToFail f c.self.inside.fuse c.saturating_add-self-inside.result) c.deref.ensures.value (c.is_to_fail-fails.ensures.0 c.if-fails.true)));
  passes = tt;
  faultless = tt;
  later = omega (arith, ap (λ d. d.refused) c.self.view_is);
}

pub returns-clause-torn : goal.returns-clause-torn
returns-clause-torn c =
    let old = c.args.self.now in
    let call = Write c.args.file c.args.at c.args.bytes.now (not c.is_to_fail-fails.result) in
    let calls = c.in-Ok.ensures.recorded ∙ ap (λ d. d.calls ++ call ∷ []) c.self.view_is in
    let state = state_more old.start c.self.inside.start.items old.calls c.write.new.calls.items call (ap (λ d. d.start) c.self.view_is) calls in
    let seen = kept_seen _ _ _ _ _ c.self.invariant in
    let count = kept_count _ _ _ _ _ c.self.invariant in
    let names = ap (λ d. length (names_of d.start)) c.self.view_is in
    let long = ap (λ d. length (state_of d).seen) c.self.view_is in
    let within : c.args.file < length (state_of old).seen = omega (arith, c.requires.number, count, names, long, ap length seen) in
    (seen_after (state_of old).seen call, ap (λ s. Some s.seen) state, torn_seen (state_of old).seen c.args.file c.args.at c.args.bytes.now (not c.is_to_fail-fails.result) within c.requires.inside)

pub returns-clause-crash : goal.returns-clause-crash
returns-clause-crash c = λ image is.
    let old = c.args.self.now in
    let call = Write c.args.file c.args.at c.args.bytes.now (not c.is_to_fail-fails.result) in
    let calls = c.in-Ok.ensures.recorded ∙ ap (λ d. d.calls ++ call ∷ []) c.self.view_is in
    let state = state_more old.start c.self.inside.start.items old.calls c.write.new.calls.items call (ap (λ d. d.start) c.self.view_is) calls in
    let seen = kept_seen _ _ _ _ _ c.self.invariant in
    let count = kept_count _ _ _ _ _ c.self.invariant in
    let names = ap (λ d. length (names_of d.start)) c.self.view_is in
    let long = ap (λ d. length (state_of d).seen) c.self.view_is in
    let within : c.args.file < length (state_of old).seen = omega (arith, c.requires.number, count, names, long, ap length seen) in
    inr (crash_of_write (state_of old) c.args.file c.args.at c.args.bytes.now (not c.is_to_fail-fails.result) (seen_is_image (contents_of old.start) old.calls) within c.requires.inside image (subst (λ s. IsImage s image) state is))

pub returns-clause-time : goal.returns-clause-time
returns-clause-time c =
    let old = c.args.self.now in
    let call = Write c.args.file c.args.at c.args.bytes.now (not c.is_to_fail-fails.result) in
    let calls = c.in-Ok.ensures.recorded ∙ ap (λ d. d.calls ++ call ∷ []) c.self.view_is in
    elapses_more old.start c.self.inside.start.items old.calls c.write.new.calls.items old.faults c.self.inside.faults call (ap (λ d. d.start) c.self.view_is) calls
