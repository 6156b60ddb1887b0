-- What is known of a program before its bytes.
use Rattle.std.specs.Prelude.{◌≡◌, ◌⊎◌, ◌≤◌, ◌^◌, List, length, true, nat_lt, Ok, is_some}
use Rattle.omf_output.specs.declared.exe.link.Plan.{Plan}
use Rattle.omf_output.specs.declared.exe.fault.ExeFault.{ExeFault}
use Rattle.omf_output.specs.declared.exe.fault.ExeFault.TheVariants as fault
use Rattle.omf_output.specs.Exe.Exe.{Program}
use Rattle.omf_output.specs.Exe.Linked.{far_pair, in_registers, one_start, starts}
use Rattle.omf_output.specs.Exe.Members.{Member, all_moving, memory_end, portions, stack}
use Rattle.omf_output.specs.Exe.Memory.{all_chunks, data_end}

-- Its registers, and where its data and its segments end.
pub record IsPlan (ms : List Member) (p : Plan) : Type 0 where
  pub code_is : one_start (starts ms) ≡ Ok (far_pair p.code)
  pub stack_is : in_registers (stack (portions ms)) ≡ Ok (far_pair p.stack)
  pub stack_there : p.has_stack ≡ is_some (stack (portions ms))
  pub data_ends : p.data_end ≡ data_end (all_chunks (all_moving ms))
  pub memory_ends : p.memory_end ≡ memory_end (portions ms)
  pub data_low : p.data_end ≤ 2 ^ 20
  pub memory_low : p.memory_end ≤ 2 ^ 20

-- Why a program that lies in the first megabyte with its words has no file: it has too many of them; or Memory.
abbrev pub IsManyOrMemory : Program → ExeFault → Type 0
IsManyOrMemory p f = ((f ≡ fault.TooMany) × (nat_lt 65535 (length p.words) ≡ true)) ⊎ (f ≡ fault.Memory)
