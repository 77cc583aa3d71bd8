-- The names that are read, and the own ports of bridges: each stands once.
use Rattle.std.proofs.Common.{◌≡◌, inl, inr, ℕ, List, [], ◌∷◌, ◌++◌, map, Bool, true, false, cond, Option, Some, None, Contains, refl, ap, sym, subst}
use Rattle.std.specs.Prelude.{bytes_eq, codes, filter}
use Rattle.std.specs.List.{flat_map}
use Rattle.plane_words.specs.Distinct.{AreDistinct}
use Rattle.kern_model.specs.Name.{is_name}
use Rattle.kern_model.proofs.MemberLemmas.{first_or_later, none_in_nil}
use Rattle.kern_model.proofs.TestLemmas.{of_any, same_bytes, from_filter_map}
use Rattle.uci_tree.specs.declared.package.Value.{Value}
use Rattle.uci_tree.specs.declared.package.Value.TheVariants.{One, Many}
use Rattle.uci_tree.specs.declared.package.Opt.{Opt}
use Rattle.uci_tree.specs.declared.package.Section.{Section}
use Rattle.uci_tree.specs.declared.package.Package.{Package}
use Rattle.net_rows.specs.declared.stated.Stated.{Stated}
use Rattle.net_rows.specs.declared.stated.Stated.TheVariants.{Absent, Unread, Read}
use Rattle.net_rows.specs.declared.dotted.VlanParts.{VlanParts}
use Rattle.net_rows.specs.Dotted.{vlan_parts}
use Rattle.net_rows.specs.Options.{value_of}
use Rattle.net_rows.specs.Stated.{stated, name_of}
use Rattle.net_rows.specs.declared.rows.NameRow.{NameRow}
use Rattle.net_rules.specs.Rows.{names_of, ports_of_kind}
use Rattle.net_modern.specs.Rewriting.{modern}
use Rattle.net_devices.specs.declared.said.StatedKind.{StatedKind}
use Rattle.net_devices.specs.declared.said.StatedKind.TheVariants.{Untyped, Wrong, Bridge, Vlan}
use Rattle.net_devices.specs.declared.said.DeviceSection.{DeviceSection}
use Rattle.net_devices.specs.declared.said.Said.{Said}
use Rattle.net_devices.specs.declared.said.Said.TheVariants.{Device, Interface}
use Rattle.net_devices.specs.EachOnce.{has, with_name, with_names, each_once}
use Rattle.net_devices.specs.Said.{port_words, bridge_kind, vlan_kind, kind_by, device_section, interface_of, interface_said, said_in, said_by}
use Rattle.net_devices.specs.Counted.{counted, all_said}
use Rattle.net_devices.specs.Devices.{all_names}
use Rattle.net_devices.specs.Names.{section_of, own_name, mentioned_by}
use Rattle.net_devices.specs.Kinds.{is_own_port, untyped_kind, kind_in, kind_of}
use Rattle.net_devices.specs.Kinds.{kind_by as kind_of_stated}
use Rattle.net_devices.specs.NameRows.{name_row, rows_behind}
use Rattle.net_conf.specs.Conf.{conf}
use Rattle.net_conf.proofs.RowLemmas.{no_both}
use Rattle.net_conf.proofs.ClosedLemmas.{of_section}
use Rattle.net_conf.proofs.DistinctLemmas.{distinct_kept, distinct_pushed}

-- a list in which each name stands once
with_name_once : (b : Bool) (names : List (List ℕ)) (name : List ℕ) → has names name ≡ b → AreDistinct names → AreDistinct (cond {A = List (List ℕ)} b names (names ++ name ∷ []))
with_name_once true names name h distinct = distinct
with_name_once false names name h distinct =
    distinct_pushed names name distinct (λ member. no_both (has names name) (of_any (λ (other : List ℕ). bytes_eq other name) names name member (same_bytes name name refl)) h)

with_names_once : (more names : List (List ℕ)) → AreDistinct names → AreDistinct (with_names names more)
with_names_once [] names distinct = distinct
with_names_once (name ∷ more) names distinct = with_names_once more (with_name names name) (with_name_once (has names name) names name refl distinct)

once_are_distinct : (names : List (List ℕ)) → AreDistinct (each_once names)
once_are_distinct names = with_names_once names [] tt

-- the rows of names have those names
rows_named : (said : List Said) (names earlier : List (List ℕ)) → map (λ (row : NameRow). row.name) (rows_behind said earlier names) ≡ names
rows_named said [] earlier = refl
rows_named said (name ∷ others) earlier = ap (λ (z : List (List ℕ)). name ∷ z) (rows_named said others (earlier ++ name ∷ []))

-- a section that says a bridge names each port once
abbrev IsOnceKind : StatedKind → Type 0
IsOnceKind Untyped = Unit {0}
IsOnceKind Wrong = Unit {0}
IsOnceKind (Bridge empty ports bad) = AreDistinct ports
IsOnceKind (Vlan lower id) = Unit {0}

abbrev IsOnce : Said → Type 0
IsOnce (Device section) = IsOnceKind section.kind
IsOnce (Interface device) = Unit {0}

abbrev AreOnce : List Said → Type 0
AreOnce said = (saying : Said) → Contains said saying → IsOnce saying

of_type : (options : List Opt) (bridge vlan : Bool) → IsOnceKind (cond {A = StatedKind} bridge (bridge_kind options) (cond {A = StatedKind} vlan (vlan_kind options) Wrong))
of_type options true vlan = once_are_distinct (filter is_name (port_words options))
of_type options false true = tt
of_type options false false = tt

of_value : (options : List Opt) (value : Option Value) → IsOnceKind (kind_by options value)
of_value options None = tt
of_value options (Some (Many items)) = tt
of_value options (Some (One text)) = of_type options (bytes_eq text (codes "bridge")) (bytes_eq text (codes "8021q"))

of_interface : (stated : Stated (List ℕ)) (saying : Said) → interface_of stated ≡ Some saying → IsOnce saying
of_interface Absent saying h = cc h
of_interface Unread saying h = cc h
of_interface (Read device) saying h = let same : Interface device ≡ saying = cc h in subst IsOnce same tt

of_saying : (device interface : Bool) (options : List Opt) (saying : Said) → cond {A = Option Said} device (Some (Device (device_section options))) (cond {A = Option Said} interface (interface_said options) None) ≡ Some saying
    → IsOnce saying
of_saying true interface options saying h = let same : Device (device_section options) ≡ saying = cc h in subst IsOnce same (of_value options (value_of (codes "type") options))
of_saying false true options saying h = of_interface (stated name_of (value_of (codes "device") options)) saying h
of_saying false false options saying h = cc h

said_once : (sections : List Section) → AreOnce (said_by sections)
said_once sections saying h =
    let from = from_filter_map said_in sections saying h in
    of_saying (bytes_eq from.source.kind (codes "device")) (bytes_eq from.source.kind (codes "interface")) from.source.options saying from.gives

module _ (said : List Said) (once : AreOnce said) where
  -- the own ports of a bridge
  untyped_ports : (parts : Option VlanParts) → AreDistinct (ports_of_kind (untyped_kind parts))
  untyped_ports None = tt
  untyped_ports (Some parts) = tt

  stated_ports : (name : List ℕ) (kind : StatedKind) → IsOnceKind kind → AreDistinct (ports_of_kind (kind_of_stated said name kind))
  stated_ports name Untyped h = untyped_ports (vlan_parts name)
  stated_ports name Wrong h = tt
  stated_ports name (Bridge empty ports bad) h = distinct_kept (is_own_port said name) ports h
  stated_ports name (Vlan lower id) h = tt

  section_ports : (name : List ℕ) (section : Option DeviceSection) → section_of said name ≡ section → AreDistinct (ports_of_kind (kind_in said name section))
  section_ports name None h = untyped_ports (vlan_parts name)
  section_ports name (Some section) h = stated_ports name section.kind (once (Device section) (of_section said name section h).member)

  row_kind : (names earlier : List (List ℕ)) (row : NameRow) → Contains (rows_behind said earlier names) row → row.kind ≡ kind_of said row.name
  row_kind [] earlier row h = absurd (none_in_nil row h)
  row_kind (name ∷ others) earlier row h = elim (first_or_later (name_row said earlier name) (rows_behind said (earlier ++ name ∷ []) others) row h) as (λ _. row.kind ≡ kind_of said row.name) [
    | inl same ↦ subst (λ (r : NameRow). r.kind ≡ kind_of said r.name) same refl
    | inr later ↦ row_kind others (earlier ++ name ∷ []) row later
  ]

  ports_once : (names : List (List ℕ)) (row : NameRow) → Contains (rows_behind said [] names) row → AreDistinct (ports_of_kind row.kind)
  ports_once names row h = subst (λ kind. AreDistinct (ports_of_kind kind)) (sym (row_kind names [] row h)) (section_ports row.name (section_of said row.name) refl)

-- the rows that are read of two packages
pub names_read_once : (network wireless : Package) → AreDistinct (names_of (conf network wireless))
names_read_once network wireless =
    let said = all_said (modern network).sections in
    subst AreDistinct (sym (rows_named said (all_names (modern network).sections) [])) (once_are_distinct (flat_map own_name said ++ flat_map (mentioned_by said) said))

pub ports_read_once : (network wireless : Package) (row : NameRow) → Contains (conf network wireless).names row → AreDistinct (ports_of_kind row.kind)
ports_read_once network wireless row h = ports_once (all_said (modern network).sections) (said_once (counted (modern network).sections)) (all_names (modern network).sections) row h
