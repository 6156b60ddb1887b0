use Rattle.std.specs.Prelude.{◌==◌}
use Rattle.std.specs.Io.Buffered.{reader_buffer, reader_capacity, reader_inner}
use Rattle.omf_frame.proofs.Ahead.{buffer_taken}
use Rattle.omf_frame.proofs.device.BufferedSource.consume.Goals as goal

pub returns-clause-bytes : goal.returns-clause-bytes
returns-clause-bytes g c =
    let r = c.args.self.now.reading.reader in
    buffer_taken (reader_capacity r == 0) (g.R.Read.remaining (reader_inner r)) (reader_buffer r) c.args.count _ c.requires.shown c.consume.ensures.bytes
