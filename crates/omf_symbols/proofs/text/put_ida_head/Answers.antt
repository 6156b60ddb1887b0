use Rattle.std.specs.Prelude.{codes}
use Rattle.omf_placement.specs.Quoted.{hex}
use Rattle.omf_symbols.proofs.SymbolLaws.{three_parts}
use Rattle.omf_symbols.proofs.text.put_ida_head.Goals as goal

pub returns : goal.returns
returns c =
    three_parts c.args.text.now.items (codes "  set_name(0x") (hex 8 c.args.address) (codes ", \"") _ _ _
    c.in_ok-extend_from_slice.ensures.items c.in_ok-put_eight.ensures c.in_ok-extend_from_slice-2.ensures.items
