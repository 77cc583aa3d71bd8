use Rattle.std.proofs.Common.{arith, ◌≡◌, length, Some, refl, sym, ap, subst, ◌∙◌}
use Rattle.graph_objects.specs.Marks.{held_of}
use Rattle.graph_rules.specs.State.{Known, names_in}
use Rattle.graph_rules.specs.Conditions.{ArePorts}
use Rattle.graph_tables.specs.Whole.{IsWhole}
use Rattle.dev_graph.specs.Inside.{known_in}
use Rattle.dev_graph.proofs.GraphLemmas.{IsReady, whole_ports, whole_parts, ready_parts, whole_some, same_held, known_before, ports_now, tied_stays, none_joined}
use Rattle.dev_graph.proofs.graph.Graph.set_ports.Goals as goal

pub table-requires : goal.table-requires
table-requires c =
    let s : Known = c.in-Some.names in
    let radio = c.args.radio.now in
    let before = known_before c.self.inside.names s (held_of c.self.inside.objects) c.self.inside.loads c.args.self.now c.in-Some.is c.self.view_is in
    let ports : ArePorts s.rows (names_in s) radio = subst (λ (k : Known). ArePorts k.rows (names_in k) radio) (sym before) c.requires in
    let t : Known = record s { radio = radio } in
    let whole : IsWhole t = whole_ports s radio (c.self.invariant.whole s c.in-Some.is) ports in
    whole_parts t c.rows-rows.result.now c.vlans-vlans.result.now c.names.result.now radio c.rows-rows.ensures c.vlans-vlans.ensures c.names.ensures.names refl whole

pub set_ports-requires : goal.set_ports-requires
set_ports-requires c =
    let before = known_before c.self.inside.names c.in-Some.names (held_of c.self.inside.objects) c.self.inside.loads c.args.self.now c.in-Some.is c.self.view_is in
    subst (λ (k : Known). ArePorts k.rows (names_in k) c.args.radio.now) (sym before) c.requires

pub judge-requires : goal.judge-requires
judge-requires c =
    let s : Known = c.in-Some.names in
    let radio = c.args.radio.now in
    let before = known_before c.self.inside.names s (held_of c.self.inside.objects) c.self.inside.loads c.args.self.now c.in-Some.is c.self.view_is in
    let ports : ArePorts s.rows (names_in s) radio = subst (λ (k : Known). ArePorts k.rows (names_in k) radio) (sym before) c.requires in
    let t : Known = record s { radio = radio } in
    let whole : IsWhole t = whole_ports s radio (c.self.invariant.whole s c.in-Some.is) ports in
    let size : length c.self.inside.used.items ≡ length t.names = c.self.invariant.used ∙ ap (λ n. length (known_in n).names) c.in-Some.is in
    let fresh : IsReady t c.in_ok-objects.objects.wishes (length c.self.inside.used.items) =
    ready_parts t c.rows-rows.result.now c.vlans-vlans.result.now c.names.result.now radio c.rows-rows.ensures c.vlans-vlans.ensures c.names.ensures.names refl c.in_ok-objects.objects (length c.self.inside.used.items) whole size
    c.in_ok-objects.ensures.wishes in
    let ready : IsReady c.set_ports.new.self c.in_ok-objects.objects.wishes (length c.self.inside.used.items) =
    subst (λ (k : Known). IsReady k c.in_ok-objects.objects.wishes (length c.self.inside.used.items)) (sym c.in_ok-set_ports.ensures.ok) fresh in
    record { sound = ready.whole.names; size = ready.size; wishes = ready.wishes }

pub invariant_of-self-2 : goal.invariant_of-self-2
invariant_of-self-2 c =
    let s : Known = c.in-Some.names in
    let radio = c.args.radio.now in
    let before = known_before c.self.inside.names s (held_of c.self.inside.objects) c.self.inside.loads c.args.self.now c.in-Some.is c.self.view_is in
    let ports : ArePorts s.rows (names_in s) radio = subst (λ (k : Known). ArePorts k.rows (names_in k) radio) (sym before) c.requires in
    let t : Known = record s { radio = radio } in
    let whole : IsWhole t = whole_ports s radio (c.self.invariant.whole s c.in-Some.is) ports in
    let size : length c.self.inside.used.items ≡ length t.names = c.self.invariant.used ∙ ap (λ n. length (known_in n).names) c.in-Some.is in
    let fresh : IsReady t c.in_ok-objects.objects.wishes (length c.self.inside.used.items) =
    ready_parts t c.rows-rows.result.now c.vlans-vlans.result.now c.names.result.now radio c.rows-rows.ensures c.vlans-vlans.ensures c.names.ensures.names refl c.in_ok-objects.objects (length c.self.inside.used.items) whole size
    c.in_ok-objects.ensures.wishes in
    let ready : IsReady c.set_ports.new.self c.in_ok-objects.objects.wishes (length c.self.inside.used.items) =
    subst (λ (k : Known). IsReady k c.in_ok-objects.objects.wishes (length c.self.inside.used.items)) (sym c.in_ok-set_ports.ensures.ok) fresh in
    record {
      whole = whole_some c.set_ports.new.self ready.whole;
      used = c.judge.ensures.size;
      looked = c.judge.ensures.used;
      room = omega (arith, ready.size, c.self.invariant.used, c.self.invariant.room);
      none = c.self.invariant.none;
      wishes = c.judge.ensures.wishes;
    }

pub returns-clause-ok : goal.returns-clause-ok
returns-clause-ok c =
    ports_now c.self.inside.names c.in-Some.names (held_of c.self.inside.objects) c.self.inside.loads c.args.self.now c.in-Some.is c.self.view_is c.args.radio.now c.set_ports.new.self (held_of c.judge.new.objects)
    c.in_ok-set_ports.ensures.ok (same_held c.in_ok-objects.objects c.judge.new.objects c.judge.ensures.held ∙ c.in_ok-objects.ensures.held)

pub invariant_of-self-in_err-objects : goal.invariant_of-self-in_err-objects
invariant_of-self-in_err-objects c = tied_stays c.self.inside c.in-Some.names c.in-Some.is c.self.invariant

pub invariant_of-self-in_err-set_ports : goal.invariant_of-self-in_err-set_ports
invariant_of-self-in_err-set_ports c = tied_stays c.self.inside c.set_ports.new.self (c.in-Some.is ∙ ap (λ (k : Known). Some k) (sym c.in_err-set_ports.ensures.err)) c.self.invariant

pub returns-in_default-clause-ok : goal.returns-in_default-clause-ok
returns-in_default-clause-ok c = none_joined c.self.inside.names (held_of c.self.inside.objects) c.self.inside.loads c.args.self.now c.in_default.is c.self.view_is c.args.radio.now c.requires
