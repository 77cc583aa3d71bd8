use Rattle.std.proofs.Common.{ℕ, ◌≡◌, List, ap, subst, refl}
use Rattle.ubus_frames.specs.Fault.{IsFrameFault}
use Rattle.ubus_frames.specs.Feeding.{IsFaultOf}
use Rattle.ubus_frames.specs.Stream.{stands}
use Rattle.ubus_frames.proofs.StreamLemmas.{fault_there, refuses_from}
use Rattle.ubus_frames.proofs.feeder.Feeder.feed.Goals as goal

pub returns-in-Some-clause-refused : goal.returns-in-Some-clause-refused
returns-in-Some-clause-refused c = λ error e n.
    let same : c.in-Some.fault ≡ error = cc e in
    let there = fault_there _ _ _ c.self.invariant c.in-Some.is in
    stands (subst (λ (rest : List ℕ). IsFrameFault rest error) (ap (λ s. s.rest) c.self.view_is) (subst (IsFrameFault c.self.inside.rest.items) same there)) refl

pub invariant_of-self-in-Ok-Some : goal.invariant_of-self-in-Ok-Some
invariant_of-self-in-Ok-Some c = subst (IsFaultOf c.move_frames.new.bytes.items) c.in-Ok-Some.field-0-is c.in-Ok-Some.ensures.moved.fault_is

pub returns-in-Ok-Some-clause-refused : goal.returns-in-Ok-Some-clause-refused
returns-in-Ok-Some-clause-refused c = λ error e n.
    let same : c.in-Ok-Some.fault ≡ error = cc e in
    refuses_from c.args.piece.now c.args.self.now c.self.inside.ready.items c.move_frames.new.ready.items c.self.inside.rest.items _ c.move_frames.new.bytes.items _ _ _ error
    c.self.view_is c.self.invariant c.in_default.is c.in_ok-extend_from_slice.ensures.items c.in-Ok-Some.ensures.moved c.in-Ok-Some.field-0-is same
