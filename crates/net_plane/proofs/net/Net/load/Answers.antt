use Rattle.std.proofs.Common.{inl, refl, OnOk, ap, subst, ◌∙◌}
use Rattle.net_rows.specs.declared.rows.Conf.{Conf}
use Rattle.net_rules.specs.declared.event.Event.TheVariants as event
use Rattle.net_conf.specs.Conf.{conf}
use Rattle.net_conf.specs.Limits.{passed_limit}
use Rattle.net_plane.specs.Taken.{IsAfter}
use Rattle.net_plane.proofs.AnswerLemmas.{memory_alone, always}
use Rattle.net_plane.proofs.EventLemmas.{kernel_stays}
use Rattle.net_plane.proofs.LoadLemmas.{rows_told, within_told, refused_told}
use Rattle.net_plane.proofs.net.Net.load.Goals as goal

pub take_rows-requires : goal.take_rows-requires
take_rows-requires c =
    let are = rows_told c.read_conf-read.result c.told_rows.result c.in-Ok.rows (conf c.args.network.now c.args.wireless.now) c.told_rows.ensures c.in-Ok.is c.read_conf-read.ensures.rows in
    let within = within_told c.read_conf-read.result c.told_rows.result c.in-Ok.rows c.told_rows.ensures c.in-Ok.is c.read_conf-read.ensures.within in
    record { network = c.args.network.now; wireless = c.args.wireless.now; read = are; within = ap passed_limit are ∙ within }

pub returns-in-Ok-clause-ok : goal.returns-in-Ok-clause-ok
returns-in-Ok-clause-ok c =
    let are = rows_told c.read_conf-read.result c.told_rows.result c.in-Ok.rows (conf c.args.network.now c.args.wireless.now) c.told_rows.ensures c.in-Ok.is c.read_conf-read.ensures.rows in
    subst (λ (r : Conf). OnOk c.take_rows.result (IsAfter c.args.self.now (event.Load r) c.take_rows.new.self)) are c.take_rows.ensures.ok

pub returns-in-Ok-clause-within : goal.returns-in-Ok-clause-within
returns-in-Ok-clause-within c = always (Unit {0}) c.take_rows.result (within_told c.read_conf-read.result c.told_rows.result c.in-Ok.rows c.told_rows.ensures c.in-Ok.is c.read_conf-read.ensures.within)

pub returns-in-Ok-clause-refused : goal.returns-in-Ok-clause-refused
returns-in-Ok-clause-refused c e is = inl (memory_alone (Unit {0}) c.take_rows.result c.take_rows.ensures.causes e is)

pub returns-in-Err-clause-refused : goal.returns-in-Err-clause-refused
returns-in-Err-clause-refused c e is =
    refused_told c.read_conf-read.result c.told_rows.result c.in-Err.error e (passed_limit (conf c.args.network.now c.args.wireless.now)) c.told_rows.ensures c.in-Err.is (cc is) c.read_conf-read.ensures.limit

pub returns-in-Err-clause-kernel : goal.returns-in-Err-clause-kernel
returns-in-Err-clause-kernel c = kernel_stays c.args.self.now c.args.self.now refl
