-- Requests that are needed stay.
use Rattle.std.proofs.Common.{ℕ, ◌≡◌, List, [], ◌++◌, map, Bool, refl, ap, sym, ◌∙◌}
use Rattle.std.specs.Prelude.{filter, nat_le}
use Rattle.std.specs.Ordering.{nat_cmp}
use Rattle.plane_words.specs.InOrder.{ordered}
use Rattle.net_rules.specs.declared.inputs.Inputs.{Inputs}
use Rattle.net_rules.specs.declared.inputs.OpenInterface.{OpenInterface}
use Rattle.net_rules.specs.declared.inputs.OpenRadio.{OpenRadio}
use Rattle.net_rules.specs.declared.event.Notice.TheVariants as notice
use Rattle.net_rules.specs.Notices.{numbers_of, interface_notice, radio_notice, notices_between}
use Rattle.net_rules.specs.Fresh.{IsReached}
use Rattle.net_rules.proofs.AfterLemmas.{idle}
use Rattle.net_rules.proofs.ReachedLemmas.{reached_kept}
use Rattle.net_rules.proofs.NumberLemmas.{reached_numbered}
use Rattle.net_rules.specs.Touched.{HasSameRequests, asked_of}
use Rattle.net_rules.proofs.TouchNumberLemmas.{none_lost, none_new}
use Rattle.net_rules.proofs.AskedLemmas.{asked_then}
use Rattle.net_rules.proofs.ToldLemmas.{told_then}
use Rattle.touch_laws.specs.Staying.{told_of}

module _ (inputs : Inputs) (reached : IsReached inputs) where
  same_requests : HasSameRequests inputs inputs
  same_requests = record { conf = refl; interfaces = refl; radios = refl; next = refl }

  pub requests_stay : (touched : List ℕ → Bool) → asked_of touched inputs ≡ inputs
  requests_stay touched =
      let kept = reached_kept inputs reached in
      sym (asked_then inputs inputs touched reached same_requests (λ name off. refl)) ∙ idle inputs kept.single kept.are.radios kept.are.interfaces

  -- between a moment and itself nothing is told
  abbrev new_interfaces : List OpenInterface
  new_interfaces = filter (λ o. nat_le inputs.next o.number) inputs.interfaces

  abbrev new_radios : List OpenRadio
  new_radios = filter (λ o. nat_le inputs.next o.number) inputs.radios

  nothing_between : notices_between inputs inputs ≡ []
  nothing_between =
      ap (λ ns. map notice.Dropped (ordered nat_cmp ns) ++ (map (interface_notice inputs.conf) new_interfaces ++ map (radio_notice inputs.conf) new_radios)) (none_lost (numbers_of inputs) (numbers_of inputs) (λ n h. h))
      ∙ ap (λ os. map (interface_notice inputs.conf) os ++ map (radio_notice inputs.conf) new_radios) (none_new (λ (o : OpenInterface). o.number) inputs.next 1 inputs.interfaces (reached_numbered inputs reached).interfaces)
      ∙ ap (λ os. map (radio_notice inputs.conf) os) (none_new (λ (o : OpenRadio). o.number) inputs.next 1 inputs.radios (reached_numbered inputs reached).radios)

  pub none_told : (touched : List ℕ → Bool) → told_of touched inputs ≡ []
  none_told touched = sym (told_then inputs inputs touched reached same_requests) ∙ ap (notices_between inputs) (requests_stay touched) ∙ nothing_between
