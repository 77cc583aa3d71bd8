use Rattle.std.proofs.Common.{refl}
use Rattle.uci_delta.proofs.OptionLemmas.{option_found, put_pushed, put_written}
use Rattle.uci_delta.proofs.options.put_value.Goals as goal

pub returns-in_default-clause-done : goal.returns-in_default-clause-done
returns-in_default-clause-done c = put_pushed c.args.name.now _ (λ before. c.args.value) c.args.options.now.items _ _
    (option_found _ c.args.options.now.items _ c.args.name.now _ _ c.option_place.ensures c.as_slice.ensures.value c.as_bytes.ensures c.in_default.is) c.in_ok-name.ensures refl c.in_ok-push.ensures.items

pub returns-clause-done : goal.returns-clause-done
returns-clause-done c = put_written c.args.name.now (λ before. c.args.value) c.args.options.now.items _ c.index_mut.result.now _
    (option_found _ c.args.options.now.items _ c.args.name.now _ _ c.option_place.ensures c.as_slice.ensures.value c.as_bytes.ensures c.in-Some.is) c.index_mut.ensures.value refl
