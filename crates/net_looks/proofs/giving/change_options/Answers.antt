use Rattle.std.proofs.Common.{ℕ, List, map, ap}
use Rattle.net_addr.specs.declared.address.Addr.{Addr}
use Rattle.kern_model.specs.declared.object.Object.TheVariants as object
use Rattle.net_rules.specs.Want.{default_route}
use Rattle.net_looks.proofs.GivingLemmas.{first_can, second_can, two_done}
use Rattle.net_looks.proofs.giving.change_options.Goals as goal

pub change_addresses-requires : goal.change_addresses-requires
change_addresses-requires c = first_can c.args.change c.args.gifts.now (map (object.Address c.args.dev.now) c.args.row.now.addresses) (map (default_route c.args.dev.now c.args.row.now.metric) c.args.row.now.gateways)
    (map (object.Address c.args.dev.now) c.as_slice.result.now) (ap (λ (z : List (Addr × ℕ)). map (object.Address c.args.dev.now) z) c.as_slice.ensures) c.requires

pub change_gateways-requires : goal.change_gateways-requires
change_gateways-requires c = second_can c.args.change c.args.gifts.now c.change_addresses.new.gifts (map (object.Address c.args.dev.now) c.args.row.now.addresses)
    (map (default_route c.args.dev.now c.args.row.now.metric) c.args.row.now.gateways) (map (object.Address c.args.dev.now) c.as_slice.result.now) (map (default_route c.args.dev.now c.args.row.now.metric) c.as_slice-2.result.now)
    (ap (λ (z : List (Addr × ℕ)). map (object.Address c.args.dev.now) z) c.as_slice.ensures) (ap (λ (z : List Addr). map (default_route c.args.dev.now c.args.row.now.metric) z) c.as_slice-2.ensures) c.change_addresses.ensures c.requires

pub returns : goal.returns
returns c = two_done c.args.change c.args.gifts.now c.change_addresses.new.gifts c.change_gateways.new.gifts (map (object.Address c.args.dev.now) c.args.row.now.addresses)
    (map (default_route c.args.dev.now c.args.row.now.metric) c.args.row.now.gateways) (map (object.Address c.args.dev.now) c.as_slice.result.now) (map (default_route c.args.dev.now c.args.row.now.metric) c.as_slice-2.result.now)
    (ap (λ (z : List (Addr × ℕ)). map (object.Address c.args.dev.now) z) c.as_slice.ensures) (ap (λ (z : List Addr). map (default_route c.args.dev.now c.args.row.now.metric) z) c.as_slice-2.ensures) c.change_addresses.ensures
    c.change_gateways.ensures
