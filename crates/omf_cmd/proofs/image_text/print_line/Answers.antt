use Rattle.std.proofs.Common.{List, ℕ, ◌∙◌, ◌≡◌, arith, subst, sym, take, length}
use Rattle.std.proofs.lemmas.List.{take_all}
use Rattle.omf_frame.specs.Bytes.{AddsText}
use Rattle.omf_cmd.specs.Inner.RunLines.{line_text}
use Rattle.omf_cmd.specs.Relocated.{place_text}
use Rattle.omf_cmd.proofs.image_text.print_line.Goals as goal

pub returns-then-bytes-eq-LINE_BYTES : goal.returns-then-bytes-eq-LINE_BYTES
returns-then-bytes-eq-LINE_BYTES c =
    let whole : take 16 c.args.bytes.now ≡ c.args.bytes.now = take_all 16 c.args.bytes.now (omega (arith, c.if-bytes-eq-LINE_BYTES.true)) in
    subst (λ (bs : List ℕ). AddsText c.print_any_line.result c.args.text.now.items c.print_any_line.new.text.items (line_text (place_text c.args.segment) c.args.offset bs)) whole c.print_any_line.ensures
