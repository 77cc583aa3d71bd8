-- Prefixes by the cut of their text at a slash.
use Rattle.std.proofs.Common.{ℕ, ◌≡◌, List, Option, Some, None, refl, sym, ◌∙◌, ap}
use Rattle.net_addr.specs.declared.address.Addr.{Addr}
use Rattle.net_addr.specs.Byte.{slash}
use Rattle.net_rows.specs.Cut.{HasNone, CutsAtFirst}
use Rattle.net_rows.proofs.CutLemmas.{no_first_cut, is_first_cut}
use Rattle.net_interfaces.specs.declared.address.Family.{Family}
use Rattle.net_interfaces.specs.Address.{addr_of}
use Rattle.net_interfaces.specs.Prefix.{length_of, both, prefix_at, prefix_of}

both_none : (addr : Option Addr) → both addr None ≡ None
both_none None = refl
both_none (Some addr) = refl

pub alone_is : (family : Family) (alone : ℕ) (text : List ℕ) → HasNone slash text → both (addr_of family text) (Some alone) ≡ prefix_of family alone text
alone_is family alone text none = sym (ap (prefix_at family alone text) (no_first_cut slash text none))

pub cut_is : (family : Family) (alone : ℕ) (text front back : List ℕ) → CutsAtFirst slash text front back → both (addr_of family front) (length_of family back) ≡ prefix_of family alone text
cut_is family alone text front back cut = sym (ap (prefix_at family alone text) (is_first_cut slash text front back cut))

pub no_length_is : (family : Family) (alone : ℕ) (text front back : List ℕ) → CutsAtFirst slash text front back → None ≡ length_of family back → None ≡ prefix_of family alone text
no_length_is family alone text front back cut none = sym (both_none (addr_of family front)) ∙ (ap (both (addr_of family front)) none ∙ cut_is family alone text front back cut)
