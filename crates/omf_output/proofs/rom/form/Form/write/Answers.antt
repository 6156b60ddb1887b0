use Rattle.std.proofs.Common.{subst}
use Rattle.omf_output.specs.Rom.Memory.{high, low}
use Rattle.omf_output.specs.Rom.Runs.{AreBelow}
use Rattle.omf_output.proofs.MemoryRuns.{below_all}
use Rattle.omf_output.proofs.rom.form.Form.write.Goals as goal

pub write_hex-requires : goal.write_hex-requires
write_hex-requires c = subst (λ f. AreBelow (high f) c.args.runs.now) c.in-Hex.is (below_all (low c.args.self) (high c.args.self) c.args.runs.now c.requires)

pub write_s_records-requires-clause-below : goal.write_s_records-requires-clause-below
write_s_records-requires-clause-below c = subst (λ f. AreBelow (high f) c.args.runs.now) c.in-SRecords.is (below_all (low c.args.self) (high c.args.self) c.args.runs.now c.requires)
