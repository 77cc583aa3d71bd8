-- A graph shares the used names of its network.
use Rattle.std.proofs.Common.{◌≡◌, inl, inr, ℕ, List, [], ◌∷◌, ◌++◌, map, Bool, true, false, cond, Contains, Option, Some, None, refl, ap, sym, subst, ◌∙◌}
use Rattle.std.specs.Prelude.{bytes_eq, is_some}
use Rattle.std.specs.Option.{option_and_then}
use Rattle.std.proofs.lemmas.List.Elements.{Contains-append_left}
use Rattle.uci_tree.specs.declared.package.Package.{Package}
use Rattle.kern_model.proofs.MemberLemmas.{here, there}
use Rattle.kern_model.proofs.TestLemmas.{bytes_same}
use Rattle.net_rows.specs.Dotted.{vlan_parts}
use Rattle.net_rows.specs.declared.rows.Conf.{Conf}
use Rattle.net_rows.specs.declared.rows.NameRow.{NameRow}
use Rattle.net_rows.specs.declared.rows.NameKind.{NameKind}
use Rattle.net_rows.specs.declared.rows.NameKind.TheVariants.{Plain, Vlan}
use Rattle.net_rules.specs.Facts.{Facts}
use Rattle.net_rules.specs.Rows.{row_at, rowless, names_of}
use Rattle.net_rules.specs.RadioPorts.{radio_ports_of}
use Rattle.net_rules.specs.Standing.{standing_of, standing_of_row, standing_at}
use Rattle.net_rules.specs.Sound.{IsSound}
use Rattle.net_rules.specs.Available.{is_present, available}
use Rattle.net_rules.specs.Used.{used}
use Rattle.net_rules.proofs.DeviceLemmas.{not_broken, present_alone, used_available, used_known}
use Rattle.net_conf.specs.Conf.{conf}
use Rattle.graph_rules.specs.declared.ids.RadioPort.{RadioPort}
use Rattle.graph_rules.specs.State.{Named, Known, named_in, device_among, name_list, names_in}
use Rattle.graph_rules.specs.After.{kept_names, known_of}
use Rattle.graph_rules.specs.Agreeing.{Agrees, SharesUsed, wanted_on_names}
use Rattle.graph_rules.specs.Wanted.{want_in}
use Rattle.graph_rules.proofs.WantLemmas.{wants_same}
use Rattle.graph_laws.specs.Knowing.{KnowsRows}
use Rattle.graph_wishes.proofs.StoodLemmas.{row_or_less}
use Rattle.graph_laws.proofs.LoadLemmas.{read_sound}

-- a name with a device is among the names
with_device : (names : List Named) (name : List ℕ) → is_some (device_among names name) ≡ true → Contains (name_list names) name
with_device [] name h = cc h
with_device (n ∷ ns) name h = go (bytes_eq n.name name) refl h (with_device ns name)
  where
    go : (b : Bool) → bytes_eq n.name name ≡ b → is_some (option_and_then (λ (x : Named). x.device) (cond {A = Option Named} b (Some n) (named_in ns name))) ≡ true → (is_some (device_among ns name) ≡ true → Contains (name_list ns) name)
        → Contains (n.name ∷ name_list ns) name
    go true is some rest = subst (Contains (n.name ∷ name_list ns)) (bytes_same n.name name is) (here n.name (name_list ns))
    go false is some rest = there n.name (name_list ns) name (rest some)

module _ (facts : Facts) (sound : IsSound facts.conf) where
  -- an available name without a row is there
  by_form : (name : List ℕ) (b : Bool) → standing_at facts name ≡ standing_of (cond {A = NameKind} b (Vlan None 0) Plain) b (radio_ports_of facts name) → available facts name ≡ true → is_present facts name ≡ true
  by_form name true is h = absurd (not_broken facts sound name is h)
  by_form name false is h = present_alone facts sound name true is h

  rowless_present : (name : List ℕ) → row_at facts.conf.names name ≡ rowless name → available facts name ≡ true → is_present facts name ≡ true
  rowless_present name less h = by_form name (is_some (vlan_parts name)) (ap (λ (r : NameRow). standing_of_row r (radio_ports_of facts name)) less) h

  module _ (s : Known) (agrees : Agrees facts s) (knows : KnowsRows s) where
    used_in_graph : (name : List ℕ) → used facts name ≡ true → Contains (names_in s) name
    used_in_graph name h = elim (row_or_less facts.conf.names name) as (λ _. Contains (names_in s) name) [
      | inl member ↦ knows name (subst (λ (rows : List NameRow). Contains (map (λ (row : NameRow). row.name) rows) name) (sym agrees.rows) member)
      | inr less ↦ with_device s.names name (ap is_some (agrees.devices name) ∙ rowless_present name less (used_available facts sound name h))
    ]

    pub shares : SharesUsed facts s
    shares = record {
      known = λ name h member. used_in_graph name h;
      only = λ name h member. used_known facts sound name h;
    }

pub wants : (network wireless : Package) (facts : Facts) (s : Known) → facts.conf ≡ conf network wireless → Agrees facts s → KnowsRows s → want_in s ≡ wanted_on_names facts
wants network wireless facts s is agrees knows = wants_same facts s agrees (shares facts (subst IsSound (sym is) (read_sound network wireless)) s agrees knows)

names_kept : (old : List Named) (names : List (List ℕ)) → name_list (kept_names old names) ≡ names
names_kept old [] = refl
names_kept old (name ∷ names) = ap (λ (z : List (List ℕ)). name ∷ z) (names_kept old names)

pub knows_loaded : (old : List Named) (rows : Conf) (plain : List (List ℕ)) (radio : List RadioPort) → KnowsRows (known_of old rows plain radio)
knows_loaded old rows plain radio name h = subst (λ (z : List (List ℕ)). Contains z name) (sym (names_kept old (names_of rows ++ plain))) (Contains-append_left (names_of rows) plain name h)
