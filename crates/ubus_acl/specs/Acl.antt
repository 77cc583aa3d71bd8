-- What a client may do: what some record of its user or its group allows. The user `root` may do all.
use Rattle.std.specs.Prelude.{ℕ, List, Bool, ◌||◌, codes}
use Rattle.std.specs.List.{list_any}
use Rattle.ubus_acl.specs.declared.record.Record.{Record}
use Rattle.ubus_acl.specs.declared.acl.Acl.{Acl}
use Rattle.ubus_acl.specs.Record.{same_text, allows_call, allows_publish, allows_subscribe, allows_send, allows_listen}
use Rattle.ubus_acl.specs.Record.{lets}

abbrev pub is_root : List ℕ → Bool
is_root user = same_text user (codes "root")

-- the user is `root`, or some record of the user or the group allows it
abbrev pub may : (Record → Bool) → List ℕ → List ℕ → Acl → Bool
may allows user group acl = is_root user || list_any (lets allows user group) acl.records

-- call this method of an object of this path
abbrev pub may_call : List ℕ → List ℕ → List ℕ → List ℕ → Acl → Bool
may_call user group object method acl = may (allows_call object method) user group acl

-- add an object of this path
abbrev pub may_publish : List ℕ → List ℕ → List ℕ → Acl → Bool
may_publish user group path acl = may (allows_publish path) user group acl

-- subscribe to an object of this path
abbrev pub may_subscribe : List ℕ → List ℕ → List ℕ → Acl → Bool
may_subscribe user group path acl = may (allows_subscribe path) user group acl

-- send an event of this id
abbrev pub may_send : List ℕ → List ℕ → List ℕ → Acl → Bool
may_send user group id acl = may (allows_send id) user group acl

-- listen for events by this pattern
abbrev pub may_listen : List ℕ → List ℕ → List ℕ → Acl → Bool
may_listen user group pattern acl = may (allows_listen pattern) user group acl
