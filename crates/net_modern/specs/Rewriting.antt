-- Network files from before OpenWrt 21.02, rewritten as later releases write them (OpenWrt's network configuration).
use Rattle.std.specs.Prelude.{ℕ, ◌+◌, ◌-◌, ◌^◌, min, Bool, not, ◌&&◌, List, [], ◌∷◌, ◌++◌, if◌then◌else◌}
use Rattle.uci_tree.specs.declared.package.Section.{Section}
use Rattle.uci_tree.specs.declared.package.Package.{Package}
use Rattle.net_modern.specs.Rules.{is_bridged, bridge_name, has_device, rewritten, over_bridge, bridge_section}

-- a package while its sections are gone through: those behind, those that were added at the end, and how many were ever
-- added
pub record Progress : Type 0 where
  pub before : List Section
  pub added : List Section
  pub made : ℕ

-- how many were ever added, with one more; the count stands still at the end of its 64 bits
abbrev pub one_more : ℕ → ℕ
one_more made = min (made + 1) (2 ^ 64 - 1)

-- all sections, where these come next
abbrev pub sections_now : Progress → List Section → List Section
sections_now progress later = progress.before ++ (later ++ progress.added)

-- the second rule is for the section, where this says whether a `device` section has the name of its bridge
abbrev pub gets_bridge : Bool → Section → Bool
gets_bridge is_there section = is_bridged section && not is_there

-- a section, by the rules; the section of a bridge is named as the one that it is of all that were ever added
abbrev pub after_section : Bool → Progress → Section → Progress
after_section is_there progress section =
    if gets_bridge is_there section
    then record {
      before = progress.before ++ over_bridge section ∷ [];
      added = progress.added ++ bridge_section (one_more progress.made) section ∷ [];
      made = one_more progress.made;
    }
    else record progress { before = progress.before ++ rewritten section ∷ [] }

-- the sections that are added for a section
abbrev pub added_for : Bool → ℕ → Section → List Section
added_for is_there made section = if gets_bridge is_there section then bridge_section (one_more made) section ∷ []
    else []

-- sections in file order, each by the package as it is when its turn comes
abbrev pub after_sections : Progress → List Section → Progress
after_sections progress [] = progress
after_sections progress (section ∷ later) =
    after_sections (after_section (has_device (sections_now progress (section ∷ later)) (bridge_name section)) progress
    section) later

abbrev pub finished : Package → Progress → Package
finished tree progress = record tree { sections = progress.before ++ progress.added; made = progress.made }

-- nothing is gone through
abbrev pub at_start : ℕ → Progress
at_start made = record { before = []; added = []; made = made }

-- a package as later releases write it
abbrev pub modern : Package → Package
modern tree = finished tree (after_sections (at_start tree.made) tree.sections)
