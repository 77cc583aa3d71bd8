use Rattle.std.proofs.Common.{ℕ, List, Bor, ◌≡◌, drop}
use Rattle.std.specs.Option.{option_map}
use Rattle.serde_json.specs.View.{items_view}
use Rattle.rpc_login.specs.Form as spec
use Rattle.rpc_login.proofs.ReadLemmas.{behind}
use Rattle.rpc_login.proofs.read.read_texts.Given as goal

-- the perms so far, and then those of the other texts
abbrev pub invariant-loop-item : goal.invariant-loop-item
invariant-loop-item l =
    let perms = spec.texts l.write l.scope (option_map (λ (name : Bor (List ℕ)). name.now) l.object) in
    perms (items_view l.items.items) ≡ behind l.perms (perms (items_view (drop l.item-index l.items.items)))
