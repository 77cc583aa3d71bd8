-- Interfaces that have a place.
use Rattle.std.proofs.Common.{◌≡◌, ℕ, List, Bool, true, false, Option, Some, None, refl, ap, sym, ◌∙◌}
use Rattle.std.specs.Prelude.{is_none}
use Rattle.net_rows.specs.declared.rows.Conf.{Conf}
use Rattle.net_rows.specs.declared.rows.InterfaceRow.{InterfaceRow}
use Rattle.net_rules.specs.declared.answer.Answer.{Answer}
use Rattle.net_rules.specs.declared.event.Event.TheVariants as event
use Rattle.net_rules.specs.declared.refusal.Refusal.{Refusal}
use Rattle.net_rules.specs.declared.refusal.Refusal.TheVariants as refused
use Rattle.net_rules.specs.Rows.{interface_named}
use Rattle.net_rules.specs.Inputs.{open_interface}
use Rattle.net_rules.specs.Moment.{Moment}
use Rattle.net_rules.specs.Refusal.{refusal, refused_if, or_else, is_too_long, stale_number, number_of_interface}
use Rattle.net_rules.specs.declared.refusal.TheConstants.{MOST_IN_ANSWER}
use Rattle.net_reach.specs.Reach.{interface_place}
use Rattle.net_refused.proofs.LookLemmas.{lacks}

none_named : (conf : Conf) (name : List ℕ) → is_none (interface_place conf name) ≡ is_none (interface_named conf name)
none_named conf name = lacks (λ (row : InterfaceRow). row.name) conf.interfaces name (interface_place conf name) refl

-- an operator state is refused where the interface has no place, and is free where it has one
module _ (moment : Moment) (interface : List ℕ) (up : Bool) where
  pub operator_state_refused : interface_place moment.inputs.conf interface ≡ None → refusal moment (event.Operator interface up) ≡ Some refused.NoInterface
  operator_state_refused none = ap (λ (b : Bool). refused_if b refused.NoInterface) (sym (none_named moment.inputs.conf interface) ∙ ap is_none none)

  pub operator_state_free : (place : ℕ) → interface_place moment.inputs.conf interface ≡ Some place → refusal moment (event.Operator interface up) ≡ None
  operator_state_free place is = ap (λ (b : Bool). refused_if b refused.NoInterface) (sym (none_named moment.inputs.conf interface) ∙ ap is_none is)

-- an answer that is free is one for an interface that has a place
module _ (moment : Moment) (interface : List ℕ) (number : ℕ) (answer : Answer) where
  abbrev later : Option Refusal
  later = stale_number number (number_of_interface (open_interface moment.inputs.interfaces interface))

  named_by : (long none : Bool) → or_else (refused_if long (refused.Limit MOST_IN_ANSWER)) (or_else (refused_if none refused.NoInterface) later) ≡ None → none ≡ false
  named_by true none free = cc free
  named_by false true free = cc free
  named_by false false free = refl

  pub answer_placed : refusal moment (event.Answer interface number answer) ≡ None → interface_place moment.inputs.conf interface ≡ None → ⊥
  answer_placed free none =
      let lacking : is_none (interface_named moment.inputs.conf interface) ≡ true = sym (none_named moment.inputs.conf interface) ∙ ap is_none none in
      let named : is_none (interface_named moment.inputs.conf interface) ≡ false = named_by (is_too_long answer) (is_none (interface_named moment.inputs.conf interface)) free in
      cc (lacking, named)
