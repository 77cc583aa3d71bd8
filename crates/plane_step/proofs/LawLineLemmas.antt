-- What a line does is one thing.
use Rattle.std.proofs.Common.{arith, ℕ, ◌≡◌, ◌≤◌, List, Bool, Option, Some, None, refl, ap, sym, subst, ◌∙◌}
use Rattle.uci_staged.specs.declared.change.StagedChange.{StagedChange}
use Rattle.uci_staged.specs.Change.{forgotten}
use Rattle.rpc_session.specs.SessionList.{SessionList}
use Rattle.rpc_session.specs.Sessions.{first_expired, destroyed}
use Rattle.script_lines.specs.declared.script_line.ScriptLine.{ScriptLine}
use Rattle.script_lines.specs.declared.script_line.ScriptLine.TheVariants as line
use Rattle.step_net.specs.Moved.{fails_first}
use Rattle.step_net.specs.NetLine.{NetLine}
use Rattle.plane_step.specs.Ground.{Ground}
use Rattle.plane_step.specs.Means.{Means}
use Rattle.bus_lines.specs.World.{World}
use Rattle.bus_lines.specs.Did.{Did}
use Rattle.plane_step.specs.Expiry.{Goes, Reached, Expired, keeping}
use Rattle.plane_step.specs.Does.{Does, PlainDoes, AtDoes, ground_of, plain_did}
use Rattle.plane_step.specs.Plain.{IsPlain}

-- ---- sessions that expire

one_expiry : (now : ℕ) (before same : SessionList) (staged again : List StagedChange)
    (list other : SessionList) (left more : List StagedChange) → Goes now before staged list left
    → Goes now same again other more → first_expired now list.sessions ≡ None
    → first_expired now other.sessions ≡ None → before ≡ same → staged ≡ again
    → (list ≡ other) × (left ≡ more)
one_expiry now _ _ _ _ _ _ _ _ (Goes.none l s) (Goes.none m t) none never p q = (p, q)
one_expiry now _ _ _ _ _ _ _ _ (Goes.none l s) (Goes.more key m less end t more first went others) none never p q =
    let there = ap (λ (k : SessionList). first_expired now k.sessions) p in
    absurd (cc (none, first, there))
one_expiry now _ _ _ _ _ _ _ _ (Goes.more id l fewer last s left first gone rest) (Goes.none m t) none never p q =
    let there = ap (λ (k : SessionList). first_expired now k.sessions) p in
    absurd (cc (never, first, there))
one_expiry now _ _ _ _ _ _ _ _ (Goes.more id l fewer last s left first gone rest) (Goes.more key m less end t more one went others) none never p q =
    let there = ap (λ (k : SessionList). first_expired now k.sessions) p in
    let same : id ≡ key = cc (first, one, there) in
    let destroys : destroyed id l ≡ destroyed key m = λ i. destroyed (same i) (p i) in
    let lists : fewer ≡ less = cc (gone, went, destroys) in
    one_expiry now fewer less (forgotten id s) (forgotten key t) last end left more rest others none never lists
    (λ i. forgotten (same i) (q i))

one_reached : (world : World) (moment : ℕ) (found other : World) → Reached world moment found
    → Reached world moment other
    → (world.now ≤ moment → first_expired moment found.sessions.sessions ≡ None)
    → (world.now ≤ moment → first_expired moment other.sessions.sessions ≡ None) → found ≡ other
one_reached world moment _ _ (Reached.past p) (Reached.past q) live alive = refl
one_reached world moment _ _ (Reached.past p) (Reached.comes q list staged e) live alive = absurd (omega (arith, p, q))
one_reached world moment _ _ (Reached.comes p list staged e) (Reached.past q) live alive = absurd (omega (arith, p, q))
one_reached world moment _ _ (Reached.comes p list staged e) (Reached.comes q other more f) live alive =
    let same = one_expiry moment world.sessions world.sessions world.files.staged world.files.staged list other staged
    more e f (live p) (alive q) refl refl in
    λ i. keeping world (same.0 i) (same.1 i)

one_found : (world : World) (moment : ℕ) (found other : World) → Expired world moment found
    → Expired world moment other → found ≡ other
one_found world moment found other p q =
    one_reached world moment found other p.reached q.reached p.live q.live

-- ---- lines

module _ (one : (ground : Ground) (number : ℕ) (read : Option ScriptLine) (act other : NetLine)
    → Means ground number read act → Means ground number read other → act ≡ other) where
  one_plain : (world : World) (number : ℕ) (read : Option ScriptLine) (events : List Bool)
      (did other : Did) → PlainDoes world number read events did
      → PlainDoes world number read events other → did ≡ other
  one_plain world number read events did other p q =
      p.is
      ∙ ap (λ (act : NetLine). plain_did world read act (fails_first events))
      (one (ground_of world) number read p.act q.act p.means q.means)
      ∙ sym q.is

  one_at : (world : World) (number moment : ℕ) (events : List Bool) (did other : Did)
      → AtDoes world number moment events did → AtDoes world number moment events other → did ≡ other
  one_at world number moment events did other p q =
      let same = one_found world moment p.found q.found p.expired q.expired in
      one_plain q.found number (Some (line.At moment)) events did other
      (subst (λ (w : World). PlainDoes w number (Some (line.At moment)) events did) same p.does) q.does

  pub one_line : (world : World) (number : ℕ) (read : Option ScriptLine) (words : List ℕ)
      (events : List Bool) (did other : Did) → IsPlain read → Does world number read words events did
      → Does world number read words events other → did ≡ other
  one_line world number None words events did other plain p q = one_plain world number None events did other p q
  one_line world number (Some (line.At moment)) words events did other plain p q =
      one_at world number moment events did other p q
  one_line world number (Some (line.Device what)) words events did other plain p q =
      one_plain world number (Some (line.Device what)) events did other p q
  one_line world number (Some (line.Answer interface request json)) words events did other plain p q =
      one_plain world number (Some (line.Answer interface request json)) events did other p q
  one_line world number (Some (line.Radio radio request json)) words events did other plain p q =
      one_plain world number (Some (line.Radio radio request json)) events did other p q
  one_line world number (Some (line.Operator interface up)) words events did other plain p q =
      one_plain world number (Some (line.Operator interface up)) events did other p q
  one_line world number (Some line.Reload) words events did other plain p q =
      one_plain world number (Some line.Reload) events did other p q
  one_line world number (Some (line.Uci rest)) words events did other plain p q =
      one_plain world number (Some (line.Uci rest)) events did other p q
  one_line world number (Some (line.Call session object method json)) words events did other plain p q = absurd plain
  one_line world number (Some (line.OpenClient client user group)) words events did other plain p q = absurd plain
  one_line world number (Some (line.ClientBytes client bytes)) words events did other plain p q = absurd plain
  one_line world number (Some (line.CloseClient client)) words events did other plain p q = absurd plain
  one_line world number (Some line.Dump) words events did other plain p q =
      one_plain world number (Some line.Dump) events did other p q
  one_line world number (Some (line.InterfaceStatus name)) words events did other plain p q =
      one_plain world number (Some (line.InterfaceStatus name)) events did other p q
  one_line world number (Some (line.DeviceStatus name)) words events did other plain p q =
      one_plain world number (Some (line.DeviceStatus name)) events did other p q
  one_line world number (Some (line.RadioStatus name)) words events did other plain p q =
      one_plain world number (Some (line.RadioStatus name)) events did other p q
