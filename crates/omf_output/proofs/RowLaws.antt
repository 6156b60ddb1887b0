-- The module of a worked example is a program.
use Rattle.std.proofs.Common.{◌≡◌, ◌⊎◌, ℕ, ◌+◌, ◌≤◌, [], ◌∷◌, length, refl, true, arith}
use Rattle.std.specs.Prelude.{All, IsOk}
use Rattle.std.proofs.lemmas.List.Elements.{All-cons, All-nil}
use Rattle.omf_records.specs.Values.{DataItem}
use Rattle.omf_reloc.specs.Inner.Names.{location_start}
use Rattle.omf_reloc.specs.Laws.{location_end}
use Rattle.omf_reloc.specs.Offsets.{outcome}
use Rattle.omf_reloc.specs.Plain.{PlainFixup}
use Rattle.omf_check.specs.Threads.{T0}
use Rattle.omf_check.specs.declared.method.FrameMethod.TheVariants.{Target as F5}
use Rattle.omf_output.specs.Exe.Memory.{Chunk, IsProgram, LiesIn, ModuleMoves, RecordMoves}
use Rattle.omf_output.specs.Exe.Relocations.{moves_together}
use Rattle.omf_output.specs.Exe.Rows.{at, at_0, fixup}

abbrev item : DataItem
item = record { segment = at 3 1; offset = at 4 0; bytes = 0xB8 ∷ 0 ∷ 0 ∷ 0xCB ∷ [] }

abbrev f : ℕ × PlainFixup
f = fixup 0xC801 F5 (T0 1)

record-moves : RecordMoves at_0.movers at_0.places item (f ∷ [])
record-moves = record {
  segment = λ e. refl;
  inside = All-cons (λ g. location_end g ≤ 4) f [] (omega arith) (All-nil (λ g. location_end g ≤ 4));
  together = All-cons (λ g. moves_together at_0.movers 1 g ≡ true) f [] refl (All-nil (λ g. moves_together at_0.movers 1 g ≡ true));
  reached = All-cons (λ g. IsOk (outcome at_0.places item g)) f [] refl (All-nil (λ g. IsOk (outcome at_0.places item g)));
  apart = (All-nil (λ g. (3 ≤ location_start g) ⊎ (location_end g ≤ 1)), tt);
}

abbrev chunk : Chunk
chunk = record { address = 0; bytes = 0xB8 ∷ 0 ∷ 0 ∷ 0xCB ∷ []; words = 1 ∷ [] }

pub is-program : IsProgram 4 (at_0 ∷ []) (0, 0) (0, 256)
is-program = record {
  moving = All-cons ModuleMoves at_0 [] (record { movers = record { segments = refl; groups = refl; externals = refl }; pieces = (tt, (record-moves, (tt, (λ main. (refl, refl), tt)))) }) (All-nil ModuleMoves);
  lying = All-cons (LiesIn 0 4) chunk [] (record { above = omega arith; below = omega arith; words = All-cons (λ w. w + 2 ≤ 4) 1 [] (omega arith) (All-nil (λ w. w + 2 ≤ 4)) }) (All-nil (LiesIn 0 4));
  uncovered = (All-cons (λ w. All (λ (e : Chunk). (0 + w + 2 ≤ e.address) ⊎ (e.address + length e.bytes ≤ 0 + w)) []) 1 [] (All-nil (λ (e : Chunk). (3 ≤ e.address) ⊎ (e.address + length e.bytes ≤ 1))) (All-nil (λ w. All (λ (e : Chunk). (0 + w + 2 ≤ e.address) ⊎ (e.address + length e.bytes ≤ 0 + w)) [])), tt);
  short = omega arith;
  few = omega arith;
  code_fits = (omega arith, omega arith);
  stack_fits = (omega arith, omega arith);
}
