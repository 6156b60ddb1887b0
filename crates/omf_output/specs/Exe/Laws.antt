-- Laws over the definitions, each the contract of a function of the same name.
use Rattle.std.specs.Prelude.{◌≡◌, ◌↔◌, ℕ, ◌+◌, ◌*◌, ◌%◌, ◌^◌, ◌<◌, ◌≤◌, List, [], length, map, flat_map, zip, option_map, All, Ok, IsOk, Result, true}
use Rattle.std.specs.List.{AllZip}
use Rattle.omf_records.specs.Values.{DataItem, Rec}
use Rattle.omf_image.specs.Limits.{profile_limits}
use Rattle.omf_placement.specs.declared.several.fault.DeriveFault.{DeriveFault}
use Rattle.omf_placement.specs.Derivation.{IsPlaceOf}
-- computed: derived_is_taken of omf_placement.
use Rattle.omf_placement.specs.Inner.Derived.{derived}
use Rattle.omf_placement.specs.Placement.{Places}
use Rattle.omf_placement.specs.Weak.{with_weak}
use Rattle.omf_reloc.specs.Image.{patched, laid, start}
use Rattle.omf_reloc.specs.Reach.{Reaches}
use Rattle.omf_reloc.specs.Laws.{AreInside}
use Rattle.omf_reloc.specs.Offsets.{outcome, outcome_at}
use Rattle.std.specs.Result.{result_map_both}
use Rattle.omf_reloc.specs.Plain.{PlainFixup, pieces}
use Rattle.omf_output.specs.Exe.Derived.{AreMovers}
use Rattle.omf_output.specs.Exe.Moved.{Movers, AreMoversOf, moved}
use Rattle.omf_output.specs.Exe.Loading.{Loaded, loaded}
use Rattle.omf_output.specs.Exe.Exe.{Program, CanBeWritten, exe}
use Rattle.omf_output.specs.Exe.Memory.{Chunk, MovingModule, ModuleMoves, LiesIn, AreUncovered, all_chunks, chunks, chunks_at, flat, flat_words, lying, with_bytes, moved_chunk, program, AllStart, IsProgram, moved_start, AbsoluteStay}
use Rattle.omf_output.specs.Exe.Judged.{PiecesApart, pieces_move}
use Rattle.omf_check.specs.Sound.{ModuleHolds}
use Rattle.omf_output.specs.Exe.Words.{AreApart, AreMoved}
use Rattle.omf_output.specs.Exe.Relocations.{moves_together, selector_moving, more, sites, words_moved, StandApart}

-- What a fixup that moves with the program adds at the placement moved by k paragraphs is what it adds at the placement, with k more at the selector of a
-- frame that moves. Where there is no such selector, as in a distance, it is the same. And it reaches at the one exactly where it reaches at the other.
abbrev pub OutcomesMove : Type 0
OutcomesMove = (k : ℕ) (mv : Movers) (pl : Places) (segment offset : ℕ) (f : ℕ × PlainFixup) → AreMoversOf mv pl → moves_together mv segment f ≡ true
    → outcome_at (moved k mv pl) segment offset f ≡ result_map_both (more k (selector_moving mv segment f)) (λ c. c) (outcome_at pl segment offset f)

-- A data record whose fixups lie inside it, reach and move with the program: its data at the placement moved by k paragraphs are its data at the
-- placement, with k added at each relocation word, where these are apart from the other locations.
abbrev pub DataMove : Type 0
DataMove = (k : ℕ) (mv : Movers) (pl : Places) (d : DataItem) (fixups : List (ℕ × PlainFixup)) → AreMoversOf mv pl → AreInside (length d.bytes) fixups
    → All (λ f. moves_together mv d.segment.item f ≡ true) fixups → All (λ f. IsOk (outcome pl d f)) fixups → StandApart mv d.segment.item fixups
    → patched (moved k mv pl) d fixups ≡ words_moved k (sites mv d.segment.item fixups) (patched pl d fixups)

-- The file of a program, loaded at a paragraph: the program's image there, with the paragraph added at each of its relocation words, and its CS:IP and SS:SP
-- with the paragraph added to CS and SS.
abbrev pub loaded_program : Program → ℕ → Loaded
loaded_program p k = record { address = 16 * k; image = words_moved k p.words p.image; code = ((p.code.0 + k) % 65536, p.code.1); stack = ((p.stack.0 + k) % 65536, p.stack.1) }

abbrev pub FilesAreLoaded : Type 0
FilesAreLoaded = (most : ℕ) (p : Program) (k : ℕ) → CanBeWritten p → loaded (exe most p) k ≡ loaded_program p k

-- The chunks of a module are what it lays, at its segments' addresses, where there are bytes.
abbrev pub ChunksAreLaid : Type 0
ChunksAreLaid = (mv : Movers) (pl : Places) (m : List Rec) → map (λ c. (c.address, c.bytes)) (chunks mv pl m) ≡ flat_map with_bytes (map (lying pl) (laid profile_limits pl (pieces m)))

-- Modules that move: their chunks at the placements moved by k paragraphs are their chunks, moved.
abbrev pub ChunksMove : Type 0
ChunksMove = (k : ℕ) (ms : List MovingModule) → All ModuleMoves ms → chunks_at k ms ≡ map (moved_chunk k) (all_chunks ms)

-- Chunks whose words no later chunk covers: the image of the moved chunks, from an address 16 k higher, is their image with k added at each word.
abbrev pub ImagesMove : Type 0
ImagesMove = (k base n : ℕ) (cs : List Chunk) → All (LiesIn base n) cs → AreUncovered cs
    → flat (base + 16 * k) n (map (moved_chunk k) cs) ≡ words_moved k (flat_words base cs) (flat base n cs)

-- The file of a program, loaded at any paragraph, has in memory what its modules put there at their placements moved by as many paragraphs; so do CS and SS.
abbrev pub ProgramsAreLoaded : Type 0
ProgramsAreLoaded = (most k n : ℕ) (ms : List MovingModule) (code stack : ℕ × ℕ) (extra : ℕ) → IsProgram n ms code stack
    → loaded (exe most (program n ms code stack extra)) k
    ≡ record { address = 16 * k; image = flat (16 * k) n (chunks_at k ms); code = ((code.0 + k) % 65536, code.1); stack = ((stack.0 + k) % 65536, stack.1) }

-- The start of a module that moves with its start is its start, k paragraphs higher.
abbrev pub StartsMove : Type 0
StartsMove = (k : ℕ) (m : MovingModule) → ModuleMoves m → AllStart m.movers (pieces m.records) → start (moved k m.movers m.places) m.records ≡ option_map (moved_start k) (start m.places m.records)

-- The placement of a module that moves with its start, moved by k paragraphs, reaches where the placement does.
abbrev pub PlacementsReach : Type 0
PlacementsReach = (k : ℕ) (m : MovingModule) → ModuleMoves m → AllStart m.movers (pieces m.records) → AbsoluteStay m.movers m.records → Reaches m.places m.records → Reaches (moved k m.movers m.places) m.records

-- A well-formed module that is judged to move, at a placement that reaches, moves.
abbrev pub JudgedMove : Type 0
JudgedMove = (m : MovingModule) → ModuleHolds profile_limits m.records → Reaches m.places m.records → AreMoversOf m.movers m.places
    → pieces_move m.movers (pieces m.records) ≡ true → PiecesApart m.movers (pieces m.records) → ModuleMoves m

-- Words that lie inside and do not overlap are moved, and nothing else.
abbrev pub WordsAreMoved : Type 0
WordsAreMoved = (k : ℕ) (words bytes : List ℕ) → All (λ at. at + 2 ≤ length bytes) words → AreApart words → AreMoved k words bytes (words_moved k words bytes)

-- The relocation words of a program do not overlap.
abbrev pub WordsStandApart : Type 0
WordsStandApart = (n : ℕ) (ms : List MovingModule) (code stack : ℕ × ℕ) → IsProgram n ms code stack → AreApart (flat_words 0 (all_chunks ms))

-- The placements of modules, each moved by k paragraphs.
abbrev pub all_moved : ℕ → List Movers → List Places → List Places
all_moved k mvs pls = map (λ x. moved k x.0 x.1) (zip mvs pls)

-- The placements of modules at their places, each external at the only public of its name, or if it is weak and has none at its default. No external has a
-- place given by hand.
abbrev pub derived_at : List (List Rec) → List Places → Result (List Places) DeriveFault
derived_at ms pls = derived (zip ms pls) (with_weak (zip ms pls) [])

-- Each external has an address below 2^32; a public with a higher one gives no place.
abbrev pub AreLow : List Places → Type 0
AreLow pls = All (λ pl. All (λ p. p.address < 2 ^ 32) pl.externals) pls

-- Well-formed modules whose externals are derived: at their segments and groups moved by k paragraphs, the externals are derived exactly at their places moved by
-- k paragraphs, if and only if each of these is below 2^32.
abbrev pub ExternalsMove : Type 0
ExternalsMove = (k : ℕ) (ms : List (List Rec)) (pls placements : List Places) (mvs : List Movers) → All (ModuleHolds profile_limits) ms → AllZip IsPlaceOf ms pls
    → AreMovers ms (zip ms pls) mvs → derived_at ms pls ≡ Ok placements
    → (derived_at ms (all_moved k mvs pls) ≡ Ok (all_moved k mvs placements)) ↔ AreLow (all_moved k mvs placements)
