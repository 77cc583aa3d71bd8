use Rattle.std.proofs.Common.{ℕ, List, [], map, ◌++◌, ◌≡◌, ap, sym, subst, ◌∙◌}
use Rattle.net_rows.specs.declared.rows.Conf.{Conf}
use Rattle.net_rows.specs.declared.rows.NameRow.{NameRow}
use Rattle.net_rows.specs.declared.rows.VlanRow.{VlanRow}
use Rattle.graph_rules.specs.declared.ids.RadioPort.{RadioPort}
use Rattle.graph_rules.specs.After.{kept_names}
use Rattle.graph_counts.specs.Counted.{network_of}
use Rattle.graph_counts.specs.Sound.{IsSound}
use Rattle.graph_rules.specs.State.{Named, Known, name_list}
use Rattle.graph_counts.specs.Told.{HasFewClaims}
use Rattle.graph_counts.proofs.LoadLemmas.{names_kept, few_kept, sound_parts}
use Rattle.graph_counts.proofs.counted.CountedNames.load.Goals as goal

pub counts_of-requires-clause-front : goal.counts_of-requires-clause-front
counts_of-requires-clause-front c = ap name_list c.in_ok-names.ensures ∙ names_kept c.args.old.now _

pub counts_of-requires-clause-few : goal.counts_of-requires-clause-few
counts_of-requires-clause-few c = subst HasFewClaims (sym c.in_ok-names.ensures) (few_kept c.args.old.now _ c.requires.few)

pub counts_of-requires-clause-sound : goal.counts_of-requires-clause-sound
counts_of-requires-clause-sound c = sound_parts c.args.old.now _ c.args.conf.now c.args.plain.now c.args.radio.now _ _ c.requires.can c.as_slice-rows.ensures c.in_ok-names.ensures

pub invariant_of-result : goal.invariant_of-result
invariant_of-result c =
    let old : List Named = c.args.old.now in
    let plain : List (List ℕ) = c.args.plain.now in
    let radio : List RadioPort = c.args.radio.now in
    let slice : List NameRow = c.as_slice-rows.result.now in
    let rows : List NameRow = c.in_ok-rows.field-0.names in
    let vlans : List VlanRow = c.in_ok-rows.field-0.vlans in
    let names : List Named = c.in_ok-names.names in
    let copied : rows ≡ c.args.conf.now.names = ap (λ (k : Conf). k.names) c.in_ok-rows.ensures in
    let same : slice ≡ rows = c.as_slice-rows.ensures ∙ sym copied in
    let kept : names ≡ kept_names old (map (λ (r : NameRow). r.name) rows ++ plain) = c.in_ok-names.ensures ∙ ap (λ (rs : List NameRow). kept_names old (map (λ (r : NameRow). r.name) rs ++ plain)) same in
    record {
      sound = subst (λ (ps : List RadioPort). let k : Known = record { rows = rows; vlans = vlans; names = names; radio = ps } in IsSound k) (sym c.in_ok-ports.ensures)
          (sound_parts old names c.args.conf.now plain radio rows vlans c.requires.can copied kept);
      few = subst HasFewClaims (sym c.in_ok-names.ensures) (few_kept old _ c.requires.few);
      counts =
          c.in_ok-counts.ensures
          ∙ ap (λ (rs : List NameRow). let k : Known = record { rows = rs; vlans = []; names = names; radio = radio } in network_of k) same
          ∙ ap (λ (ps : List RadioPort). let k : Known = record { rows = rows; vlans = vlans; names = names; radio = ps } in network_of k) (sym c.in_ok-ports.ensures);
    }
