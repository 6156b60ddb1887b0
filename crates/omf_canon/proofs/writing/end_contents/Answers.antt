use Rattle.std.proofs.Common.{List, ℕ, length, ap, arith, length-append}
use Rattle.std.specs.Prelude.{option_map}
use Rattle.omf_reloc.specs.Inner.Walking.{plain_by}
use Rattle.omf_canon.specs.Inner.Names.{start_bytes}
use Rattle.omf_canon.proofs.CutLaws.{length-start_bytes}
use Rattle.omf_canon.proofs.writing.end_contents.Goals as goal

pub returns-clause-short : goal.returns-clause-short
returns-clause-short c =
    let start = option_map (plain_by c.args.threads.now) c.args.start.now in
    omega (
      arith,
      ap (λ (b : List ℕ). length b) c.in_ok-put_start.ensures,
      length-append c.push.new.self.items (start_bytes c.args.kind start),
      c.in_ok-push.ensures.len,
      c.new-body.ensures.len,
      length-start_bytes c.args.kind start,
    )
