use Rattle.std.proofs.Common.{List, sym, subst, not}
use Rattle.std.specs.Prelude.{◌==◌}
use Rattle.ubus_table.specs.declared.rows.Client.{Client}
use Rattle.ubus_state.specs.Rising.{IsRising, client_number}
use Rattle.ubus_state.proofs.RisingLemmas.{rising_filtered}
use Rattle.ubus_state.proofs.client_rows.ClientRows.remove.Goals as goal

pub invariant_of-self : goal.invariant_of-self
invariant_of-self c = record {
  rising = subst (λ (rows : List Client). IsRising client_number rows c.args.self.now.next) (sym c.drop_client.ensures)
      (rising_filtered client_number (λ (client : Client). not (client.number == c.args.number)) c.args.self.now.rows.items c.args.self.now.next c.args.self.now.rising);
}
