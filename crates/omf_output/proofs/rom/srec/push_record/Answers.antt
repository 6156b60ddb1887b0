use Rattle.omf_output.proofs.rom.srec.push_record.Goals as goal

pub returns-in-Bits32 : goal.returns-in-Bits32
returns-in-Bits32 c = rw c.in-Bits32.is (rw c.big_endian.ensures at c.push_summed-in-Bits32.ensures)
