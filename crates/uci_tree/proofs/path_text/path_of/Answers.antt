use Rattle.std.proofs.Common.{◌≡◌, Err, true, false}
use Rattle.std.proofs.lemmas.Result.{err_from_is_err_and}
use Rattle.uci_tree.specs.declared.path_text.PathError.TheVariants.{NoPath}
use Rattle.uci_tree.proofs.PathLemmas.{not_named, not_a_ref, path_found}
use Rattle.uci_tree.proofs.path_text.path_of.Goals as goal

pub returns-then-not-is_name-clause-none : goal.returns-then-not-is_name-clause-none
returns-then-not-is_name-clause-none c = λ e path s. not_named _ _ _ path c.in-Some.ensures (λ m. let t : false ≡ true = c.if-not-is_name.ensures.1 m in cc) s

pub returns-in_err-read_ref-clause-none : goal.returns-in_err-read_ref-clause-none
returns-in_err-read_ref-clause-none c = λ e path s.
    let p = err_from_is_err_and c.from_residual.result c.from_residual.ensures.1 in
    let w : c.read_ref.result ≡ Err NoPath = cc (p.1, p.2, e) in
    not_a_ref _ _ _ _ _ path c.in-Some.ensures c.cut_option.ensures (c.read_ref.ensures.none w) s

pub returns-clause-found : goal.returns-clause-found
returns-clause-found c = rw (c.in_ok-from_bytes.ensures, c.in_ok-copy_option.ensures) (path_found _ _ _ _ _ _ c.in-Some.ensures (c.is_name.ensures.0 c.if-not-is_name.false) c.cut_option.ensures c.in_ok-read_ref.ensures.found)
