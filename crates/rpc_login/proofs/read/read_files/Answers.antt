use Rattle.std.proofs.Common.{◌<◌, ◌∙◌, sym, length, arith}
use Rattle.rpc_login.proofs.ReadLemmas.{files_go_on, file_missing}
use Rattle.rpc_login.proofs.read.read_files.Goals as goal

pub returns-in_default : goal.returns-in_default
returns-in_default c =
    let h : c.loop-index.index < length c.args.files.now = omega arith in
    λ _. sym (file_missing _ _ c.args.files.now c.loop-index.index c.index-files-index.result h c.index-files-index.is c.loop-index.invariant
    (sym c.in_ok-more.ensures ∙ c.in_default.is))

pub loop-index-preserved : goal.loop-index-preserved
loop-index-preserved c =
    let h : c.loop-index.index < length c.args.files.now = omega arith in
    files_go_on _ _ _ c.args.files.now c.loop-index.index c.index-files-index.result c.in-Some.more h c.index-files-index.is c.loop-index.invariant
    (sym c.in_ok-more.ensures ∙ c.in-Some.is) c.in_ok-groups.ensures
