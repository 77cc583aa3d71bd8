use Rattle.uci_tool.specs.Folder.{folder_of}
use Rattle.plane_run.proofs.ReadLemmas.{network_refuses, wireless_refuses}
use Rattle.plane_run.proofs.rows.load_rows.Goals as goal

pub returns-in-Err-clause-refused : goal.returns-in-Err-clause-refused
returns-in-Err-clause-refused c =
    network_refuses (folder_of c.args.store.now) c.in-Err.end c.in-Err.ensures.refused

pub returns-in-Err-load-clause-refused : goal.returns-in-Err-load-clause-refused
returns-in-Err-load-clause-refused c =
    wireless_refuses (folder_of c.args.store.now) c.in-Ok.network c.in-Err-load.end c.in-Ok.ensures.found
    c.in-Err-load.ensures.refused
