use Rattle.std.proofs.Common.{ℕ, ◌≡◌, ◌+◌, ap, Some, None, Option, bytes_eq, position}
use Rattle.std.specs.Option.{option_map}
use Rattle.uci_store.proofs.store.Store.file_of.Goals as goal

pub returns-in-Some-clause-is : goal.returns-in-Some-clause-is
returns-in-Some-clause-is c =
    let e : ◌≡◌ {A = Option ℕ} (Some c.in-Some.place) (position (λ name. bytes_eq name c.args.«package».now) c.args.self.now.packages.items) = let a = c.in-Some.is in let b = c.place_of.ensures.is in cc in
    ap (option_map (λ (place : ℕ). place + 2)) e

pub returns-in-None-clause-is : goal.returns-in-None-clause-is
returns-in-None-clause-is c =
    let e : ◌≡◌ {A = Option ℕ} None (position (λ name. bytes_eq name c.args.«package».now) c.args.self.now.packages.items) = let a = c.in-None.is in let b = c.place_of.ensures.is in cc in
    ap (option_map (λ (place : ℕ). place + 2)) e
