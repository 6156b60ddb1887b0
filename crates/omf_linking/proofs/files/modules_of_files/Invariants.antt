use Rattle.std.proofs.Common.{◌<◌, ◌^◌, length, take}
use Rattle.omf_linking.specs.Files.{HaveModules}
use Rattle.omf_linking.proofs.files.modules_of_files.Given as goal

-- the modules of the files so far
abbrev pub invariant-loop-file : goal.invariant-loop-file
invariant-loop-file l = record {
  have : HaveModules l.profile (take l.file l.files) l.modules.items;
  few : length l.modules.items < 2 ^ 32;
}
