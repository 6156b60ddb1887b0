-- The relocation words of modules in file order, and the first part of a module that overlaps one (this profile's rule).
use Rattle.std.specs.Prelude.{◌≡◌, ℕ, ◌+◌, All, List, [], ◌∷◌, ◌++◌, length, map, Bool, true, false, ◌==◌, ◌||◌, nat_le, slice_index_or, Option, Some, None, option_map, option_to_list, Result, Ok, Err, if◌then◌else◌, ⊤, ◌<◌, ◌≤◌, ◌^◌}
use Rattle.std.specs.List.{list_all, list_any}
use Rattle.omf_frame.specs.declared.fault.Place.{Place}
use Rattle.omf_records.specs.Values.{Contents, Plain, Iterated, Rec, width, location_offset}
-- computed: blocks_are_read and lengths_are_decided of omf_image.
use Rattle.omf_image.specs.Inner.Expanding.{expanded}
use Rattle.omf_image.specs.Limits.{profile_limits}
use Rattle.omf_check.specs.Sound.{ModuleHolds}
use Rattle.omf_placement.specs.Placement.{Places}
-- computed: threads_give_references and faults_are_walked of omf_reloc.
use Rattle.omf_reloc.specs.Inner.Pieces.{single_pieces}
use Rattle.omf_reloc.specs.Laws.{location_end}
use Rattle.omf_reloc.specs.Plain.{Piece, Kept, Fixed, End, PlainFixup, pieces}
use Rattle.omf_reloc.specs.Reach.{Reaches}
use Rattle.omf_output.specs.Exe.Memory.{Chunk, segment_address, AreUncovered, IsAway, chunks, flat_words, MovingModule, ModuleMoves, all_chunks}
use Rattle.omf_output.specs.Exe.Moved.{Movers, AreMoversOf}
use Rattle.omf_output.specs.Exe.Relocations.{site}
use Rattle.omf_output.specs.declared.exe.words.WordsFault.{WordsFault}
use Rattle.omf_output.specs.declared.exe.words.WordsFault.TheVariants as words
use Rattle.omf_output.specs.Exe.Judged.{PiecesApart, pieces_move}

-- No word of these addresses has a byte from one address up to another.
abbrev pub are_clear : List ℕ → ℕ → ℕ → Bool
are_clear ws from to = list_all (λ w. nat_le (w + 2) from || nat_le to w) ws

-- The addresses at which words begin, as flags; none beyond the last flag.
abbrev pub AreMarked : List Bool → List ℕ → Type 0
AreMarked starts ws = (x : ℕ) → slice_index_or starts x false ≡ list_any (λ w. w == x) ws

-- The last data record: its segment, and the address of its first byte. The blocks of an LIDATA have no fixups.
abbrev pub Open : Type 0
Open = Option (ℕ × ℕ)

abbrev pub opened : Places → Contents → Open → Open
opened pl (Plain d) last = Some (d.segment.item, segment_address pl d.segment.item + d.offset.item)
opened pl (Iterated d) last = None
opened pl _ last = last

-- The address of the relocation word of a fixup.
abbrev pub word_of : Movers → ℕ → ℕ → ℕ × PlainFixup → List ℕ
word_of mv segment address f = option_to_list (option_map (λ at. address + at) (site mv segment f))

-- The words after one more piece, unless it overlaps one of the words before it.
abbrev pub with_fixups : Movers → ℕ → ℕ → List (ℕ × PlainFixup) → List ℕ → Option (List ℕ)
with_fixups mv segment address [] ws = Some ws
with_fixups mv segment address (f ∷ fs) ws =
    if are_clear ws (address + (location_offset f.1.locat)) (address + location_end f) then with_fixups mv segment address fs (ws ++ word_of mv segment address f) else None

abbrev pub with_data : ℕ → ℕ → List ℕ → Option (List ℕ)
with_data address size ws = if are_clear ws address (address + size) then Some ws else None

abbrev pub with_contents : Places → ℕ → Contents → List ℕ → Option (List ℕ)
with_contents pl kind (Plain d) ws = with_data (segment_address pl d.segment.item + d.offset.item) (length d.bytes) ws
with_contents pl kind (Iterated d) ws = with_data (segment_address pl d.segment.item + d.offset.item) (length (expanded (width kind) profile_limits d.bytes)) ws
with_contents pl kind _ ws = Some ws

abbrev pub with_piece : Movers → Places → Open → Piece → List ℕ → Option (List ℕ)
with_piece mv pl last (Kept r) ws = with_contents pl r.kind r.contents ws
with_piece mv pl None (Fixed kind fixups) ws = Some ws
with_piece mv pl (Some o) (Fixed kind fixups) ws = with_fixups mv o.0 o.1 (map (λ f. (kind, f)) fixups) ws
with_piece mv pl last (End kind byte start) ws = Some ws

abbrev pub opened_after : Places → Piece → Open → Open
opened_after pl (Kept r) last = opened pl r.contents last
opened_after pl (Fixed kind fixups) last = last
opened_after pl (End kind byte start) last = last

abbrev pub or_place : Place → (List ℕ → Result (List ℕ) Place) → Option (List ℕ) → Result (List ℕ) Place
or_place at f None = Err at
or_place at f (Some ws) = f ws

-- The words after these pieces; or the place of the first that overlaps a word.
abbrev pub all_words : Movers → Places → Open → List (Place × Piece) → List ℕ → Result (List ℕ) Place
all_words mv pl last [] ws = Ok ws
all_words mv pl last (x ∷ xs) ws = or_place x.0 (λ more. all_words mv pl (opened_after pl x.1 last) xs more) (with_piece mv pl last x.1 ws)

-- An open data record has an address below 2^33.
abbrev pub IsLow : ℕ × ℕ → Type 0
IsLow o = o.1 < 2 ^ 33

-- A fault of the walk: the place of the overlap; or Memory.
abbrev pub IsWordsFault : Result (List ℕ) Place → WordsFault → Type 0
IsWordsFault r (words.Overlap place) = r ≡ Err place
IsWordsFault r words.Memory = ⊤

-- The pieces of a module without an overlap, read one fixup at a time after words of other modules: the words are followed by those of its chunks; no
-- chunk covers a byte of an earlier word; and in each data record no later location overlaps a word.
pub record AddsWords (mv : Movers) (pl : Places) (m : List Rec) (ws out : List ℕ) : Type 0 where
  pub words : out ≡ ws ++ flat_words 0 (chunks mv pl m)
  pub clear : All (λ c. All (λ w. IsAway w c) ws) (chunks mv pl m)
  pub uncovered : AreUncovered (chunks mv pl m)
  pub apart : PiecesApart mv (pieces m)

abbrev pub OverlapsAreFound : Type 0
OverlapsAreFound = (mv : Movers) (pl : Places) (m : List Rec) (xs : List (Place × Piece)) (ws out : List ℕ) → ModuleHolds profile_limits m → map (λ x. x.1) xs ≡ single_pieces m
    → all_words mv pl None xs ws ≡ Ok out → AddsWords mv pl m ws out

-- Modules whose words are added one module after the other.
abbrev pub AddInTurn : List MovingModule → List ℕ → List ℕ → Type 0
AddInTurn [] ws out = ws ≡ out
AddInTurn (m ∷ ms) ws out = (mid : List ℕ) × AddsWords m.movers m.places m.records ws mid × AddInTurn ms mid out

-- A well-formed module, at a placement that reaches, that is judged to move.
pub record IsJudged (m : MovingModule) : Type 0 where
  pub holds : ModuleHolds profile_limits m.records
  pub reaches : Reaches m.places m.records
  pub movers : AreMoversOf m.movers m.places
  pub moving : pieces_move m.movers (pieces m.records) ≡ true

-- The words of a chunk lie in its bytes.
abbrev pub HasItsWords : Chunk → Type 0
HasItsWords c = All (λ at. at + 2 ≤ length c.bytes) c.words

-- The modules move; the words are those of their chunks, one module after the other, each in the bytes of its chunk; and no later chunk, of any module,
-- covers a byte of one.
pub record AreJudged (ms : List MovingModule) (words : List ℕ) : Type 0 where
  pub moving : All ModuleMoves ms
  pub words_are : words ≡ flat_words 0 (all_chunks ms)
  pub inside : All HasItsWords (all_chunks ms)
  pub uncovered : AreUncovered (all_chunks ms)

abbrev pub ProgramsAreJudged : Type 0
ProgramsAreJudged = (ms : List MovingModule) (words : List ℕ) → All IsJudged ms → AddInTurn ms [] words → AreJudged ms words
