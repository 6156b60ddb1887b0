use Rattle.std.proofs.Common.{◌≡◌}
use Rattle.std.specs.Prelude.{option_map}
use Rattle.omf_linking.specs.Inner.LineParsing.{key_seen}
use Rattle.omf_placement.specs.Inner.Parsing.{parts_after}
use Rattle.omf_lines.specs.TextLines.{opening_before}
use Rattle.omf_lines.proofs.TextLineLaws.{opened_from}
use Rattle.omf_lines.proofs.text_line.opening_before.Given as goal

-- the key so far is the last, unless a line that is left has one
abbrev pub invariant-loop-rest : goal.invariant-loop-rest
invariant-loop-rest l = opened_from (option_map key_seen l.opening) l.left (parts_after 10 (option_map (λ t. t.now) l.rest)) ≡ opening_before l.text l.before

abbrev pub decreases-loop-rest : goal.decreases-loop-rest
decreases-loop-rest l = l.left
