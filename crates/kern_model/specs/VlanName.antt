-- Names that stand for VLANs (OpenWrt's network configuration; IEEE 802.1Q).
use Rattle.std.specs.Prelude.{ℕ, ◌≡◌, ◌≤◌, List, ◌++◌, codes, decimal, true}
use Rattle.kern_model.specs.declared.vlan_name.TheConstants.{LEAST_VLAN_ID, MOST_VLAN_ID}
use Rattle.kern_model.specs.Name.{is_name}

-- a name of the form X.N, which stands for VLAN N over X: the whole and X are device names, and N
-- is a decimal without leading zeros, from the least to the most identifier of a VLAN
pub record IsVlanName (name : List ℕ) : Type 0 where
  pub lower : List ℕ
  pub id : ℕ
  pub spelled : name ≡ lower ++ (codes "." ++ decimal id)
  pub whole : is_name name ≡ true
  pub named : is_name lower ≡ true
  pub least : LEAST_VLAN_ID ≤ id
  pub most : id ≤ MOST_VLAN_ID

-- a device name that is not of that form
pub record IsPlainName (name : List ℕ) : Type 0 where
  pub named : is_name name ≡ true
  pub plain : IsVlanName name → ⊥
