-- The length of the stack of a DOS program (MZ header: SP).
use Rattle.std.specs.Prelude.{ℕ, ◌==◌, List, ◌++◌, codes, decimal, Option, Some, None, if◌then◌else◌}
use Rattle.omf_combining.specs.Stack.{even}
use Rattle.omf_output.specs.Exe.Loading.{word}
use Rattle.omf_exe.specs.declared.options.ProgramKind.{ProgramKind}
use Rattle.omf_exe.specs.declared.options.ProgramKind.TheVariants.{Exe, Com}

-- The length of the stack of an .EXE file: its SP, at offset 10H, where 0 is 65,536.
abbrev pub file_stack : List ℕ → ℕ
file_stack bytes = if word bytes 16 == 0 then 65536 else word bytes 16

-- The length of the stack, if it is another than is asked for. A .COM file has none: DOS sets SS:SP.
abbrev pub other_stack : ProgramKind → Option ℕ → List ℕ → Option ℕ
other_stack Exe (Some size) bytes = if file_stack bytes == even size then None else Some (file_stack bytes)
other_stack Exe None bytes = None
other_stack Com size bytes = None

-- Its line.
abbrev pub stack_line : ℕ → List ℕ
stack_line n = codes "stack: SP is " ++ decimal n ++ codes ": the modules' own is longer, or begins within a paragraph\n"
