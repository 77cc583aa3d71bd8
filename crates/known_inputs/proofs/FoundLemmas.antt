-- Open asks by number and by name.
use Rattle.std.proofs.Common.{arith, ℕ, ◌≡◌, ◌==◌, Contains, true, Some, refl, sym, ◌∙◌}
use Rattle.std.specs.Prelude.{bytes_eq}
use Rattle.std.proofs.lemmas.Bool.Decides.{nat_tests}
use Rattle.kern_model.proofs.TestLemmas.{bytes_same, same_bytes}
use Rattle.net_rules.specs.declared.inputs.Inputs.{Inputs}
use Rattle.net_rules.specs.declared.inputs.OpenInterface.{OpenInterface}
use Rattle.net_rules.specs.Inputs.{open_interface}
use Rattle.net_rules.specs.Numbers.{interface_numbers}
use Rattle.known_inputs.specs.Known.{StandOnce}
use Rattle.known_inputs.specs.Steps.{request_of}
use Rattle.known_inputs.proofs.PlaceLemmas.{found_member}
use Rattle.known_inputs.proofs.RisingLemmas.{rising_distinct, same_number}

itself : (n : ℕ) → (n == n) ≡ true
itself n = let same : n ≡ n = refl in grind (arith, nat_tests, same)

pub found_numbered : (inputs : Inputs) (o : OpenInterface) → StandOnce inputs → Contains inputs.interfaces o → request_of inputs o.number ≡ Some o
found_numbered inputs o stand member =
    found_member (λ (x : OpenInterface). x.number) (λ n. n == o.number) (same_number o.number) inputs.interfaces o
    (rising_distinct 1 inputs.next (interface_numbers inputs) stand.numbers) member (itself o.number)

pub found_named : (inputs : Inputs) (o : OpenInterface) → StandOnce inputs → Contains inputs.interfaces o → open_interface inputs.interfaces o.request.name ≡ Some o
found_named inputs o stand member =
    found_member (λ (x : OpenInterface). x.request.name) (λ name. bytes_eq name o.request.name) (λ a b p q. bytes_same a o.request.name p ∙ sym (bytes_same b o.request.name q)) inputs.interfaces o
    stand.requests.once member (same_bytes o.request.name o.request.name refl)
