use Rattle.std.proofs.Common.{refl, sym, ap, ◌∙◌}
use Rattle.std.specs.Prelude.{position}
use Rattle.bus_clients.specs.Clients.{has_key}
use Rattle.bus_clients.proofs.ClientLemmas.{first_none, not_none}
use Rattle.bus_clients.proofs.FedLemmas.{fed_at}
use Rattle.bus_clients.proofs.script_bus.ScriptBus.feed.Goals as goal

pub returns-in_default-clause-unknown : goal.returns-in_default-clause-unknown
returns-in_default-clause-unknown c =
    ((λ _. first_none c.args.key c.args.self.now.clients.items (ap (position (has_key c.args.key)) (sym c.deref.ensures.value) ∙ sym c.in_default.ensures.place)), (λ _. refl))

pub returns-in-Ok-clause-fed : goal.returns-in-Ok-clause-fed
returns-in-Ok-clause-fed c =
    fed_at c.args.key c.args.piece.now c.args.self.now.clients.items c.in-Some.place c.index_mut.result.now c.feed.new.self c.in-Ok.fed
    (ap (position (has_key c.args.key)) (sym c.deref.ensures.value) ∙ sym c.in-Some.ensures.place) c.index_mut.ensures.value c.in-Ok.ensures.fed

pub returns-in-Ok-clause-unknown : goal.returns-in-Ok-clause-unknown
returns-in-Ok-clause-unknown c =
    ((λ e. absurd (cc e)), (λ none. absurd (not_none c.args.key c.args.self.now.clients.items c.in-Some.place c.feed.new.self (ap (position (has_key c.args.key)) (sym c.deref.ensures.value) ∙ sym c.in-Some.ensures.place) none)))

pub returns-in-Err-clause-unknown : goal.returns-in-Err-clause-unknown
returns-in-Err-clause-unknown c =
    ((λ e. absurd (cc e)), (λ none. absurd (not_none c.args.key c.args.self.now.clients.items c.in-Some.place c.feed.new.self (ap (position (has_key c.args.key)) (sym c.deref.ensures.value) ∙ sym c.in-Some.ensures.place) none)))
