use Rattle.std.proofs.Common.{◌≡◌, ℕ, ◌<◌, length, slice_index, Ok, ap, ◌∙◌, refl, rules}
use Rattle.std.specs.Net.Addr.{segments_of}
use Rattle.std.specs.Net.Grammar.{IsColonHex}
use Rattle.net_addr.proofs.OctetLemmas.{segments_of-octets_of}
use Rattle.net_addr.proofs.SpellingLemmas.{Spells_unique, IsIpText-std_addr, std_addr}
use Rattle.net_addr.proofs.read.read_addr.Goals as goal

pub returns-in-Ok-V4-clause-only : goal.returns-in-Ok-V4-clause-only
returns-in-Ok-V4-clause-only c = λ a h. ap Ok (Spells_unique _ _ a (search rules) h)

pub returns-in-Ok-V6-clause-found : goal.returns-in-Ok-V6-clause-found
returns-in-Ok-V6-clause-found c =
    let count : length c.octets-in-Ok-V6.result ≡ 16 = search rules in
    let fit : (k : ℕ) → slice_index c.octets-in-Ok-V6.result k < 256 = search rules in
    let back : segments_of c.octets-in-Ok-V6.result ≡ c.in-Ok-V6.ip.segments = ap segments_of c.octets-in-Ok-V6.ensures ∙ segments_of-octets_of _ in
    let spelled : IsColonHex c.args.text.now c.in-Ok-V6.ip.segments = search rules in
    (record { count = count; fit = fit }, rw back spelled)

pub returns-in-Ok-V6-clause-only : goal.returns-in-Ok-V6-clause-only
returns-in-Ok-V6-clause-only c = λ a h. ap Ok (Spells_unique _ _ a (returns-in-Ok-V6-clause-found c) h)

pub returns-in-Err-clause-only : goal.returns-in-Err-clause-only
returns-in-Err-clause-only c = λ a h. absurd (c.in-Err.ensures (std_addr a) (IsIpText-std_addr _ a h))

pub returns-in-Err-clause-refused : goal.returns-in-Err-clause-refused
returns-in-Err-clause-refused c = (refl, λ a h. c.in-Err.ensures (std_addr a) (IsIpText-std_addr _ a h))
