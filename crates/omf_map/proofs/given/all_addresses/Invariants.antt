use Rattle.std.proofs.Common.{◌≡◌, ◌++◌, drop, length, map}
use Rattle.std.specs.Prelude.{zip}
use Rattle.omf_check.specs.Module.{typed_modules}
use Rattle.omf_map.specs.Addresses.{addresses_given, all_given}
use Rattle.omf_map.proofs.given.all_addresses.Given as goal

-- those of the modules so far, and those of the others
abbrev pub invariant-loop-j : goal.invariant-loop-j
invariant-loop-j l = let ms = typed_modules l.modules in record {
  all : l.addresses.items ++ map (addresses_given (all_given ms l.given)) (drop l.j (zip ms l.given)) ≡ map (addresses_given (all_given ms l.given)) (zip ms l.given);
  count : length l.addresses.items ≡ l.j;
}
