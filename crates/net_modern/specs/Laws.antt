-- What the rewriting of old network files keeps.
use Rattle.std.specs.Prelude.{◌≡◌}
use Rattle.uci_tree.specs.declared.package.Package.{Package}
use Rattle.uci_tree.specs.Valid.{IsValid}
use Rattle.net_modern.specs.Rewriting.{modern}

-- what was rewritten is as later releases write it
abbrev pub IsRewrittenOnce : Type 0
IsRewrittenOnce = (tree : Package) → modern (modern tree) ≡ modern tree

-- a valid package stays valid
abbrev pub StaysValid : Type 0
StaysValid = (tree : Package) → IsValid tree → IsValid (modern tree)
