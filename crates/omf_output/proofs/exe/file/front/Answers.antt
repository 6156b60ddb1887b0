use Rattle.std.proofs.Common.{rules}
use Rattle.omf_output.proofs.Written.{front-made}
use Rattle.omf_output.proofs.exe.file.front.Goals as goal

pub returns : goal.returns
returns c =
    front-made c.args.most c.args.program.now c.header.result c.deref.result.now c.in_ok-file.file.items c.put_words.new.file.items c.put_table.new.file.items
    c.in_ok-file.ensures.items c.header.ensures c.in_ok-put_words.ensures (search rules) c.in_ok-put_table.ensures
