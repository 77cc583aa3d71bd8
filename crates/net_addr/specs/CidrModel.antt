-- What a contract sees of a `Cidr`: its address, and the length of its prefix in bits.
use Rattle.std.specs.Prelude.{ℕ, ◌≤◌}
use Rattle.net_addr.specs.declared.address.Addr.{Addr}
use Rattle.net_addr.specs.declared.prefix.Cidr.TheInside.{Inside}
use Rattle.net_addr.specs.Width.{bits}

-- the address and the length
abbrev pub cidr_view : Inside → Addr × ℕ
cidr_view c = (c.addr, c.length)

-- the fields that give this address and this length
abbrev pub of_pair : Addr × ℕ → Inside
of_pair c = record { addr = c.0; length = c.1 }

-- the prefix is no longer than the address
abbrev pub IsWithin : Inside → Type 0
IsWithin c = c.length ≤ bits c.addr
