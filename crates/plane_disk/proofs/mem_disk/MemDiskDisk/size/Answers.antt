use Rattle.std.proofs.Common.{arith, ap, sym, ◌∙◌, ◌<◌, length, []}
use Rattle.std.proofs.lemmas.List.{get_or_default}
use Rattle.plane_disk.specs.Files.{bytes_of}
use Rattle.plane_disk.specs.MemDisk.{state_of, names_of}
use Rattle.plane_disk.proofs.KeptLemmas.{kept_seen, kept_count}
use Rattle.plane_disk.proofs.mem_disk.MemDiskDisk.size.Goals as goal

pub index-requires : goal.index-requires
index-requires c = let count = kept_count _ _ _ _ _ c.self.invariant in let names = ap (λ d. length (names_of d.start)) c.self.view_is in omega (arith, count, names, c.requires)

pub returns : goal.returns
returns c =
    let count = kept_count _ _ _ _ _ c.self.invariant in
    let names = ap (λ d. length (names_of d.start)) c.self.view_is in
    let within : c.args.file < length c.self.inside.seen.items = omega (arith, count, names, c.requires) in
    let seen = kept_seen _ _ _ _ _ c.self.invariant in
    ap length (c.as_bytes.ensures ∙ (c.index.ensures ∙ get_or_default c.self.inside.seen.items c.args.file c.index.result.now [] within))
    ∙ ap (λ f. length (bytes_of f c.args.file)) (sym seen ∙ ap (λ d. (state_of d).seen) c.self.view_is)
