use Rattle.std.proofs.Common.{◌≡◌, ℕ, length, refl, sym, ap, subst, ◌∙◌, rules}
use Rattle.net_addr.specs.declared.address.Addr.{Addr}
use Rattle.net_addr.specs.declared.address.Addr.TheVariants as Family
use Rattle.net_addr.specs.Network.{IsNetworkOf}
use Rattle.net_addr.proofs.NetworkLemmas.{network_from_octets}
use Rattle.net_addr.proofs.network.network_of.Goals.{in-V4, in-V6}
use Rattle.net_addr.proofs.network.network_of.Goals as goal

pub returns : goal.returns
returns c =
    let P : Addr → Type 0 = λ a. IsNetworkOf c.args.cidr (a, c.cidr.inside.length) in
    let pair : Addr → Addr × ℕ = λ a. (a, c.cidr.inside.length) in
    elim c.match-cidr.branch [
      | in-V4 w ↦
          let count : length w.clear_hosts.new.octets ≡ length w.in-V4.v4.0 = search rules in
          subst P (sym w.addr-is) (network_from_octets c.args.cidr (Family.V4 w.in-V4.v4) (Family.V4 (record { 0 = w.clear_hosts.new.octets })) c.cidr.inside.length (ap pair (sym w.in-V4.is) ∙ c.cidr.view_is) refl count
          w.clear_hosts.ensures)
      | in-V6 w ↦
          let count : length w.clear_hosts-in-V6.new.octets ≡ length w.in-V6.v6.0 = search rules in
          subst P (sym w.addr-is) (network_from_octets c.args.cidr (Family.V6 w.in-V6.v6) (Family.V6 (record { 0 = w.clear_hosts-in-V6.new.octets })) c.cidr.inside.length (ap pair (sym w.in-V6.is) ∙ c.cidr.view_is) refl count
          w.clear_hosts-in-V6.ensures)
    ]
