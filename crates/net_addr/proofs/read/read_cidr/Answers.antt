use Rattle.std.proofs.Common.{◌≡◌, ℕ, Some, Ok, ap, arith}
use Rattle.net_addr.specs.declared.address.Addr.{Addr}
use Rattle.net_addr.specs.Width.{bits}
use Rattle.net_addr.specs.Spelling.{Spells}
use Rattle.net_addr.specs.CidrSpelling.{SpellsCidr, before_slash}
use Rattle.net_addr.proofs.SpellingLemmas.{Spells_unique}
use Rattle.net_addr.proofs.CidrLemmas.{SpellsCidr_unique, address_given, suffix_given, cidr_found, length_is_small}
use Rattle.net_addr.proofs.read.read_cidr.Goals as goal

pub returns-in_err-addr-clause-only : goal.returns-in_err-addr-clause-only
returns-in_err-addr-clause-only c = λ d h. absurd (c.in_err-addr.ensures.refused.1 d.0 (address_given _ _ d c.before_slash-address.ensures.text h))

no_suffix : (c : goal.In_default) (d : Addr × ℕ) → ¬ (SpellsCidr c.args.text.now d)
no_suffix c d h =
    let given = c.in_default.ensures.only d.1 (suffix_given _ _ d c.before_slash-address.ensures.text h) (length_is_small _ d h) in
    cc

pub returns-in_default-clause-only : goal.returns-in_default-clause-only
returns-in_default-clause-only c = λ d h. absurd (no_suffix c d h)

pub returns-in_default-clause-refused : goal.returns-in_default-clause-refused
returns-in_default-clause-refused c =
    let spelled : Spells (before_slash c.args.text.now) c.in_ok-addr.addr = rw (← c.before_slash-address.ensures.text) c.in_ok-addr.ensures.found in
    ((c.in_ok-addr.addr, spelled), no_suffix c)

pub returns-in-Some-new-clause-found : goal.returns-in-Some-new-clause-found
returns-in-Some-new-clause-found c =
    let made = c.in-Some-new.ensures.some in
    let spelled = cidr_found c.args.text.now _ c.in_ok-addr.addr c.in-Some.length c.before_slash-address.ensures.text c.in_ok-addr.ensures.found c.in-Some.ensures.found made.1 in
    rw made.0 spelled

pub returns-in-Some-new-clause-only : goal.returns-in-Some-new-clause-only
returns-in-Some-new-clause-only c = λ d h. ap Ok (SpellsCidr_unique _ _ d (returns-in-Some-new-clause-found c) h)

no_room : (c : goal.In-None) (d : Addr × ℕ) → ¬ (SpellsCidr c.args.text.now d)
no_room c d h =
    let given : Some c.in-Some.length ≡ Some d.1 = c.in-Some.ensures.only d.1 (suffix_given _ _ d c.before_slash-address.ensures.text h) (length_is_small _ d h) in
    let size : c.in-Some.length ≡ d.1 = cc in
    let address = Spells_unique _ c.in_ok-addr.addr d.0 c.in_ok-addr.ensures.found (address_given _ _ d c.before_slash-address.ensures.text h) in
    omega (arith, c.in-None.ensures.none, h.room, ap bits address)

pub returns-in-None-clause-only : goal.returns-in-None-clause-only
returns-in-None-clause-only c = λ d h. absurd (no_room c d h)

pub returns-in-None-clause-refused : goal.returns-in-None-clause-refused
returns-in-None-clause-refused c =
    let spelled : Spells (before_slash c.args.text.now) c.in_ok-addr.addr = rw (← c.before_slash-address.ensures.text) c.in_ok-addr.ensures.found in
    ((c.in_ok-addr.addr, spelled), no_room c)
