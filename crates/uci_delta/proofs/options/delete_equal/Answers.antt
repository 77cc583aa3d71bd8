use Rattle.std.proofs.Common.{ap, sym, ◌∙◌, ◌≡◌, nat_eq, length, not, bytes_eq, rules, arith}
use Rattle.std.specs.Vec.{vec_len}
use Rattle.std.proofs.lemmas.Fn.{filter_same}
use Rattle.std.specs.List.{filter}
use Rattle.uci_delta.specs.Options.{left_of}
use Rattle.uci_delta.proofs.OptionLemmas.{list_left}
use Rattle.uci_delta.proofs.options.delete_equal.Goals as goal

pub returns-in-Many : goal.returns-in-Many
returns-in-Many c =
    let kept : c.retain.new.self.items ≡ filter (λ other. not (bytes_eq other c.args.item.now)) c.into_vec-left.result.items = filter_same _ _ _ (λ x b f' k. search rules) _ _ c.retain.ensures.filtered in
    let all : c.into_vec-left.result.items ≡ c.in-Many.items = c.into_vec-left.ensures ∙ c.replace.ensures.value in
    let long : vec_len c.retain.new.self ≡ length c.retain.new.self.items = omega (arith, c.retain.new.self.ok.0) in
    ap (left_of c.args.item.now) c.in-Many.is ∙ list_left _ _ _ (ap (filter (λ other. not (bytes_eq other c.args.item.now))) (sym all) ∙ sym kept ∙ sym c.from_vec.ensures)
    (c.is_empty-is_empty.ensures ∙ ap (λ n. nat_eq n 0) (long ∙ ap length (sym c.from_vec.ensures)))
