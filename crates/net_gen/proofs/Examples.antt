-- Addresses, sections and words of a made network that the checker computes, up to the digits of a number.
use Rattle.std.proofs.Common.{ℕ, ◌≡◌, List, [], ◌∷◌, ◌++◌, map, true, false, codes, decimal, refl}
use Rattle.uci_tree.specs.declared.package.Section.{Section}
use Rattle.net_gen.specs.declared.packages.Standing.TheVariants as standing
use Rattle.net_gen.specs.Packages.{bridge_name, address, stands, sections}
use Rattle.net_gen.specs.Steps.{steps, word_of}

-- the third byte is the low one of the number, and the second one the rest
address_past_a_byte : address 256
    ≡ codes "10." ++ decimal 1 ++ codes "." ++ decimal 0 ++ codes ".1/24"
address_past_a_byte = refl

last_address : address 1000
    ≡ codes "10." ++ decimal 3 ++ codes "." ++ decimal 232 ++ codes ".1/24"
last_address = refl

thirds_go : (stands standing.WithoutThirds 3 ≡ false) × (stands standing.WithoutThirds 4 ≡ true)
thirds_go = (refl, refl)

abbrev interface_name : ℕ → List ℕ
interface_name k = codes "n" ++ decimal k

-- three bridges without the third interface
three_bridges : map (λ (s : Section). s.name) (sections standing.WithoutThirds 3)
    ≡ bridge_name 1 ∷ interface_name 1 ∷ bridge_name 2 ∷ interface_name 2 ∷ bridge_name 3 ∷ []
three_bridges = refl

words : map word_of steps ≡ codes "add" ∷ codes "del" ∷ codes "add" ∷ codes "reload" ∷ []
words = refl
