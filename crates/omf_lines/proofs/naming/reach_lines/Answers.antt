use Rattle.std.proofs.Common.{◌∙◌, ap, ◌++◌}
use Rattle.std.specs.String.{string_bytes}
use Rattle.omf_lines.proofs.naming.reach_lines.Goals as goal

pub returns : goal.returns
returns c = (string_bytes c.in_ok-lines.lines, string_bytes c.in_ok-line.line, c.in_ok-lines.ensures, c.in_ok-line.ensures, c.in_ok-push_str.ensures.bytes ∙ ap (λ xs. string_bytes c.in_ok-lines.lines ++ xs) c.deref.ensures)
