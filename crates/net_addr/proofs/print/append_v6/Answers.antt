use Rattle.std.proofs.Common.{◌≡◌, ◌<◌, ℕ, ap, ◌∙◌, arith, rules, length, slice_index}
use Rattle.std.specs.Net.Addr.{segments_of}
use Rattle.net_addr.proofs.AppendedLemmas.{Appends-append, Appends-same_text}
use Rattle.net_addr.proofs.GroupLemmas.{v6_text_short, v6_text_long}
use Rattle.net_addr.proofs.PrintedLemmas.{length-v6_text}
use Rattle.net_addr.proofs.print.append_v6.Goals as goal

pub returns-then-length-lt2-clause-text : goal.returns-then-length-lt2-clause-text
returns-then-length-lt2-clause-text c =
    let groups : c.segments-all.result ≡ segments_of c.args.address.0 = c.segments-all.ensures ∙ c.from_octets.ensures in
    let run = ap (λ (r : ℕ × ℕ). r.1) c.longest_zero_run-start.ensures.value in
    Appends-same_text _ _ _ _ _ _ (v6_text_short c.args.address.0 c.segments-all.result groups (omega (arith, run))) c.append_groups.ensures.text

pub returns-then-length-lt2-clause-fits : goal.returns-then-length-lt2-clause-fits
returns-then-length-lt2-clause-fits c =
    let text = returns-then-length-lt2-clause-text c in
    let count : length c.args.address.0 ≡ 16 = search rules in
    let fit : (k : ℕ) → slice_index c.args.address.0 k < 256 = search rules in
    omega (arith, text.ends, length-v6_text c.args.address.0 (record { count = count; fit = fit }))

pub returns-clause-text : goal.returns-clause-text
returns-clause-text c =
    let groups : c.segments-all.result ≡ segments_of c.args.address.0 = c.segments-all.ensures ∙ c.from_octets.ensures in
    let value = c.longest_zero_run-start.ensures.value in
    let run = ap (λ (r : ℕ × ℕ). r.1) value in
    let head = Appends-append _ _ _ _ _ _ _ _ c.append_groups-end.ensures.text c.append-end.ensures in
    let all = Appends-append _ _ _ _ _ _ _ _ head c.append_groups-2.ensures.text in
    Appends-same_text _ _ _ _ _ _ (v6_text_long c.args.address.0 c.segments-all.result groups (omega (arith, run))) (rw value at all)
