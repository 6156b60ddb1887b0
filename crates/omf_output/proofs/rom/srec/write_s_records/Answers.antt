use Rattle.omf_output.specs.Rom.Motorola.{header_line, runs_text}
use Rattle.omf_output.proofs.Written.{both_written}
use Rattle.omf_output.proofs.rom.srec.write_s_records.Goals as goal

pub returns : goal.returns
returns c =
    both_written c.push_runs.result c.args.out.now.items c.push_header.new.out.items c.push_runs.new.out.items header_line (runs_text c.args.width c.args.start c.args.runs.now)
    c.in_ok-push_header.ensures c.push_runs.ensures
