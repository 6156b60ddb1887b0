use Rattle.std.proofs.Common.{rules, ap, ◌*◌}
use Rattle.std.specs.Vec.{vec_len}
use Rattle.omf_output.proofs.Written.{file-made}
use Rattle.omf_output.proofs.exe.file.written.Goals as goal

pub returns : goal.returns
returns c =
    file-made c.args.most c.args.program.now (16 * c.paragraphs.result) (vec_len c.in_ok-file.file) c.in_ok-file.file.items c.resize.new.self.items c.deref.result.now c.extend_from_slice.new.self.items
    c.in_ok-file.ensures (ap (λ x. 16 * x) c.paragraphs.ensures.value) (search rules) c.in_ok-resize.ensures.items (search rules) c.in_ok-extend_from_slice.ensures.items
