use Rattle.std.proofs.Common.{rules, not, bytes_eq}
use Rattle.std.proofs.lemmas.Fn.{filter_same}
use Rattle.uci_tree.specs.declared.package.Opt.{Opt}
use Rattle.net_modern.proofs.options.take_out.Goals as goal

pub returns : goal.returns
returns c = filter_same _ (λ (option : Opt). not (bytes_eq option.name c.args.name.now)) _ (λ x b f' k. search rules) _ _ c.retain.ensures.filtered
