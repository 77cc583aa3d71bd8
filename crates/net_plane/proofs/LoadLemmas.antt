-- Rows that are loaded.
use Rattle.std.proofs.Common.{arith, ◌≡◌, ◌≤◌, ◌⊎◌, inl, inr, ℕ, List, ◌++◌, length, Contains, Option, Some, None, Result, Ok, Err, OnOk, IfOk, refl, ap, sym, subst, ◌∙◌}
use Rattle.kern_model.proofs.MemberLemmas.{map_member}
use Rattle.uci_tree.specs.declared.package.Package.{Package}
use Rattle.net_rows.specs.declared.rows.Conf.{Conf}
use Rattle.net_rows.specs.declared.conf_error.ConfError.{ConfError}
use Rattle.net_rows.specs.declared.conf_error.ConfError.TheVariants as fault
use Rattle.net_conf.specs.Conf.{conf}
use Rattle.net_conf.specs.Limits.{passed_limit}
use Rattle.net_modern.specs.Rewriting.{modern}
use Rattle.net_devices.specs.Counted.{counted, all_said}
use Rattle.net_devices.specs.Devices.{all_names}
use Rattle.net_conf.proofs.ReadLemmas.{said_are_read}
use Rattle.net_conf.proofs.LevelLemmas.{sound_levels}
use Rattle.net_conf.proofs.NameLemmas.{sound_names}
use Rattle.net_conf.proofs.VlanLemmas.{sound_vlans}
use Rattle.net_conf.proofs.ConfLimitLemmas.{are_few}
use Rattle.net_rules.specs.declared.inputs.Inputs.{Inputs}
use Rattle.net_rules.specs.declared.event.Event.TheVariants as event
use Rattle.net_rules.specs.Rows.{names_of}
use Rattle.net_rules.specs.RadioPorts.{RadioPort, radio_ports}
use Rattle.net_rules.specs.Inputs.{facts_of}
use Rattle.net_rules.specs.After.{after}
use Rattle.net_rules.specs.Sound.{IsSound}
use Rattle.graph_rules.specs.Answers.{port_of}
use Rattle.graph_rules.specs.Conditions.{CanLoad}
use Rattle.net_rebuild.specs.Knowing.{AreFurther}
use Rattle.net_rebuild.proofs.GraphLoadLemmas.{can_load_radios}
use Rattle.known_inputs.specs.Known.{StandOnce}
use Rattle.net_rebuild.proofs.FurtherLemmas.{are_further, ports_are_there}
use Rattle.net_rebuild.specs.Follower.{Follower}
use Rattle.net_rebuild.specs.InStep.{inputs_of, IsInStep}
use Rattle.net_rebuild.specs.declared.rebuild.Rebuild.{Rebuild}
use Rattle.net_rebuild.specs.Rebuild.{AreFewRows, IsRebuildOf}
use Rattle.net_rebuild.specs.Begun.{HasBegun}
use Rattle.net_plane.specs.Read.{AreRead}
use Rattle.net_plane.specs.declared.net_error.NetError.{NetError}
use Rattle.net_plane.specs.declared.net_error.NetError.TheVariants as error
use Rattle.net_plane.specs.NetError.{told_rows}

-- rows that are read are sound
pub read_sound : (network wireless : Package) → IsSound (conf network wireless)
read_sound network wireless = record {
  levels = sound_levels (conf network wireless) (all_said (modern network).sections) (all_names (modern network).sections) refl;
  names = sound_names (conf network wireless) (all_said (modern network).sections) refl (said_are_read (counted (modern network).sections));
  vlans = sound_vlans (conf network wireless) (all_said (modern network).sections) (modern network).sections refl;
}

-- what is told of rows, by what was read
rows_read : (read : Result Conf ConfError) (rows wanted : Conf) → told_rows read ≡ Ok rows → IfOk read (λ r. r ≡ wanted) → rows ≡ wanted
rows_read (Ok r) rows wanted is h = cc (is, h)
rows_read (Err (fault.Limit number)) rows wanted is h = cc is
rows_read (Err fault.Memory) rows wanted is h = cc is

pub rows_told : (read : Result Conf ConfError) (told : Result Conf NetError) (rows wanted : Conf) → told ≡ told_rows read → told ≡ Ok rows → IfOk read (λ r. r ≡ wanted) → rows ≡ wanted
rows_told read told rows wanted as_told is h = rows_read read rows wanted (sym as_told ∙ is) h

within_read : {P : Type 0} (read : Result Conf ConfError) (rows : Conf) → told_rows read ≡ Ok rows → OnOk read P → P
within_read (Ok r) rows is p = p
within_read (Err (fault.Limit number)) rows is p = absurd (cc is)
within_read (Err fault.Memory) rows is p = absurd (cc is)

pub within_told : {P : Type 0} (read : Result Conf ConfError) (told : Result Conf NetError) (rows : Conf) → told ≡ told_rows read → told ≡ Ok rows → OnOk read P → P
within_told read told rows as_told is p = within_read read rows (sym as_told ∙ is) p

-- why no rows were read
abbrev Why : Option ℕ → NetError → Type 0
Why passed e = (e ≡ error.Memory) ⊎ ((number : ℕ) × (e ≡ error.Limit number) × (passed ≡ Some number))

refused_read : (read : Result Conf ConfError) (e : NetError) (passed : Option ℕ) → told_rows read ≡ Err e → ((number : ℕ) → read ≡ Err (fault.Limit number) → passed ≡ Some number) → Why passed e
refused_read (Ok r) e passed is why = absurd (cc is)
refused_read (Err (fault.Limit number)) e passed is why = inr (number, cc is, why number refl)
refused_read (Err fault.Memory) e passed is why = inl (cc is)

pub refused_told : (read : Result Conf ConfError) (told : Result Conf NetError) (e f : NetError) (passed : Option ℕ) → told ≡ told_rows read → told ≡ Err e → e ≡ f → ((number : ℕ) → read ≡ Err (fault.Limit number) → passed ≡ Some number)
    → (f ≡ error.Memory) ⊎ ((number : ℕ) × (f ≡ error.Limit number) × (passed ≡ Some number))
refused_told read told e f passed as_told is same why = refused_read read f passed (sym as_told ∙ is ∙ ap Err same) why

-- ---- rows that were read, in a graph

pub are_few_rows : (rows : Conf) → AreRead rows → AreFewRows rows
are_few_rows rows read =
    let few = are_few rows read.within in
    let interfaces : length rows.interfaces ≤ 1024 = few.interfaces in
    let routes : length rows.routes ≤ 4096 = few.routes in
    record { interfaces = interfaces; routes = omega (arith, routes) }

pub sound_rows : (rows : Conf) → AreRead rows → IsSound rows
sound_rows rows read = subst IsSound (sym read.read) (read_sound read.network read.wireless)

-- the rows after a load are those that were loaded
loaded_conf : (inputs : Inputs) (rows : Conf) → (after inputs (event.Load rows)).conf ≡ rows
unfolding after
loaded_conf inputs rows = refl

module _ (f : Follower) (rows : Conf) (made : Rebuild) (rebuild : IsRebuildOf f (event.Load rows) made) (read : AreRead rows) where
  pub conf_loaded : made.inputs.inputs.conf ≡ rows
  conf_loaded = ap (λ (i : Inputs). i.conf) rebuild.inputs ∙ loaded_conf (inputs_of f) rows

  pub sound_loaded : IsSound made.inputs.inputs.conf
  sound_loaded = subst IsSound (sym conf_loaded) (sound_rows rows read)

  -- it is what is made anew for the rows that it has
  pub rebuild_loaded : IsRebuildOf f (event.Load made.inputs.inputs.conf) made
  rebuild_loaded = subst (λ (c : Conf). IsRebuildOf f (event.Load c) made) (sym conf_loaded) rebuild

  pub can_load : StandOnce made.inputs.inputs → CanLoad made.inputs.inputs.conf made.plain.items made.ports.items
  can_load once =
      let now : Inputs = made.inputs.inputs in
      let further : AreFurther now.conf made.plain.items = subst (λ (names : List (List ℕ)). AreFurther now.conf names) (sym rebuild.further) (are_further now once.devices) in
      let within : passed_limit now.conf ≡ None = ap passed_limit conf_loaded ∙ read.within in
      can_load_radios read.network read.wireless (facts_of now) made.plain.items made.ports.items (conf_loaded ∙ read.read) within further rebuild.ports
      (λ p member.
      let among : Contains (radio_ports (facts_of now)) (port_of p) = subst (λ (ports : List RadioPort). Contains ports (port_of p)) rebuild.ports (map_member port_of made.ports.items p member) in
      subst (λ (names : List (List ℕ)). Contains (names_of now.conf ++ names) p.port) (sym rebuild.further) (ports_are_there now (port_of p) among))

  -- what began with these rows began with the load
  pub begun_loaded : (now : Follower) → HasBegun (event.Load made.inputs.inputs.conf) 1 f now → HasBegun (event.Load rows) 1 f now
  begun_loaded now begun = subst (λ (c : Conf). HasBegun (event.Load c) 1 f now) conf_loaded begun

-- rows are few where what is kept is in step
pub few_in_step : (f : Follower) → IsInStep f → AreFewRows (inputs_of f).conf
few_in_step f step = record { interfaces = step.counted.room.rows; routes = step.room.routes }
