use denote.Ref.{Bor}
use Rattle.std.proofs.Common.{◌≡◌, ℕ, ◌-◌, ◌<◌, ◌∙◌, List, ap, arith, sym}
use Rattle.std.specs.Prelude.{Option, option_map}
use Rattle.std.specs.Option.{option_or}
use Rattle.omf_linking.specs.Inner.LineParsing.{key_seen}
use Rattle.omf_placement.specs.Inner.Parsing.{parts_after}
use Rattle.omf_lines.specs.TextLines.{opening_on}
use Rattle.omf_lines.proofs.TextLineLaws.{key_or, opened_from, opened_next}
use Rattle.omf_lines.proofs.text_line.opening_before.Goals as goal

pub loop-rest-preserved : goal.loop-rest-preserved
loop-rest-preserved c =
    let left = c.loop-rest.left in
    let key = option_map key_seen c.loop-rest.opening in
    let rest = parts_after 10 (option_map (λ t. t.now) c.cut.result.1) in
    let some : 0 < left = omega (arith, c.if-left-eq0.false) in
    let new : option_map key_seen c.or-opening.result ≡ option_or (opening_on c.cut.result.0.now) key
    = ap (option_map key_seen) c.or-opening.ensures ∙ key_or c.opening_on.result c.loop-rest.opening ∙ ap (λ o. option_or o key) c.opening_on.ensures in
    ap (λ k. opened_from k (left - 1) rest) new ∙ sym (opened_next key left c.cut.result.0.now _ rest some c.cut.ensures.parts)
    ∙ ap (λ (o : Option (Bor (List ℕ))). opened_from key left (parts_after 10 (option_map (λ t. t.now) o))) (sym c.in-Some.is) ∙ c.loop-rest.invariant
