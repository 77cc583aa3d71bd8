use Rattle.ubus_send.proofs.FitsLemmas.{fits_to}
use Rattle.bus_clients.proofs.sends.append_send.Goals as goal

pub write_frame-requires : goal.write_frame-requires
write_frame-requires c = record { fits = fits_to c.args.frame.now c.requires }
