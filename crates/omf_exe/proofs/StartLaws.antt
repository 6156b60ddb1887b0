-- An .EXE file has its header.
use Rattle.std.proofs.Common.{◌≤◌, ◌+◌, ◌-◌, ◌*◌, ℕ, List, ◌++◌, Bool, length, sym, subst, arith}
use Rattle.std.specs.Prelude.{flat_map, replicate}
use Rattle.std.proofs.lemmas.List.{length-append}
use Rattle.omf_check.specs.Module.{Module}
use Rattle.omf_output.specs.Exe.Exe.{Program, as_bytes, entry_of, exe, header, paragraphs}
use Rattle.omf_output.specs.Exe.Linked.{linked}
use Rattle.omf_output.proofs.FileLaws.{length-bytes}
use Rattle.omf_exe.specs.Making.{AreBytesOf}
use Rattle.omf_exe.specs.declared.options.ProgramKind.TheVariants.{Exe}

exe-long : (most : ℕ) (p : Program) → 28 ≤ length (exe most p)
exe-long most p =
    let words = flat_map entry_of p.words in
    let rest = replicate (16 * paragraphs p - (4 * length p.words + 28)) 0 ++ p.image in
    omega (arith, length-append (as_bytes (header most p ++ words)) rest, length-bytes (header most p ++ words), length-append (header most p) words)

pub program-long : (most : ℕ) (ms : List Module) (bytes : List ℕ) (lacks_stack : Bool) → AreBytesOf Exe most ms bytes lacks_stack → 28 ≤ length bytes
program-long most ms bytes lacks_stack h = subst (λ (xs : List ℕ). 28 ≤ length xs) (sym h.file) (exe-long most (linked h.members))
