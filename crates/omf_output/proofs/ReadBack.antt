-- The texts, read back.
use Rattle.std.proofs.Common.{◌≡◌, ℕ, ◌+◌, ◌*◌, ◌/◌, ◌%◌, ◌<◌, ◌≤◌, List, [], ◌∷◌, ◌++◌, length, Bool, true, false, cond, eqb, refl, sym, subst, arith, append_assoc, codes, rules}
use Rattle.std.proofs.lemmas.Bool.{eqb-true}
use Rattle.omf_output.specs.declared.rom.hex.HexBase.{HexBase}
use Rattle.omf_output.specs.declared.rom.hex.HexBase.TheVariants.{Linear, Segment}
use Rattle.omf_output.specs.declared.rom.srec.SAddress.{SAddress}
use Rattle.omf_output.specs.declared.rom.run.Run.{Run}
use Rattle.omf_output.specs.Rom.IntelHex.{record_line, data_line, base_line, end_line, hex_lines, hex_text, limit}
use Rattle.omf_output.specs.Rom.Motorola.{limit as s_limit, record_line as s_line, data_digit, end_digit, s_lines, s_text}
use Rattle.omf_output.specs.Rom.Cut.{pieces_of}
use Rattle.omf_frame.specs.Bytes.{AreBytes}
use Rattle.omf_output.specs.Rom.Runs.{placed, memory, AreBelow, HaveBytes}
use Rattle.omf_output.specs.Rom.Reading.{MeansHex, MeansS}
use Rattle.omf_output.specs.Rom.Reading.MeansHex.{bytes_at, segment_base, linear_base, hex_ends}
use Rattle.omf_output.specs.Rom.Reading.MeansS.{s_bytes_at, s_ends, s_header}
use Rattle.omf_output.proofs.Pieces.{IsPiece, Every, said, all_said, all_sound}

-- ---- Intel HEX

-- a piece in the 64 KB of the record before it
data_said : (upper : ℕ) (p : ℕ × List ℕ) (text : List ℕ) (m : List (ℕ × ℕ)) → p.0 / 65536 ≡ upper → p.0 % 16 + length p.1 ≤ 16 → AreBytes p.1
    → MeansHex (65536 * upper) text m → MeansHex (65536 * upper) (data_line p.0 p.1 ++ text) (placed p.0 p.1 ++ m)
data_said upper p text m own within are says =
    let offset : ℕ = p.0 % 65536 in
    let high : offset / 256 ≡ p.0 / 256 % 256 = omega arith in
    let low : offset % 256 ≡ p.0 % 256 = omega arith in
    let at : 65536 * upper + offset ≡ p.0 = omega arith in
    let one = bytes_at (65536 * upper) offset p.1 text m are (omega arith) (omega arith) says in
    let two = subst (λ (h : ℕ). MeansHex (65536 * upper) (record_line (length p.1 ∷ h ∷ offset % 256 ∷ 0 ∷ p.1) ++ text) (placed (65536 * upper + offset) p.1 ++ m)) high one in
    let three = subst (λ (l : ℕ). MeansHex (65536 * upper) (record_line (length p.1 ∷ p.0 / 256 % 256 ∷ l ∷ 0 ∷ p.1) ++ text) (placed (65536 * upper + offset) p.1 ++ m)) low two in
    subst (λ (x : ℕ). MeansHex (65536 * upper) (data_line p.0 p.1 ++ text) (placed x p.1 ++ m)) at three

-- the record for other 64 KB
base_said : (base : HexBase) (before upper : ℕ) (text : List ℕ) (m : List (ℕ × ℕ)) → 65536 * upper < limit base
    → MeansHex (65536 * upper) text m → MeansHex (65536 * before) (base_line base upper ++ text) m
base_said Linear before upper text m small says = linear_base (65536 * before) upper text m (omega arith) says
base_said Segment before upper text m small says =
    let number : ℕ = 4096 * upper in
    let at : 65536 * upper ≡ 16 * number = omega arith in
    let high : number / 256 ≡ upper * 16 = omega arith in
    let low : number % 256 ≡ 0 = omega arith in
    let one = segment_base (65536 * before) number text m (omega arith) (subst (λ (x : ℕ). MeansHex x text m) at says) in
    let two = subst (λ (h : ℕ). MeansHex (65536 * before) (record_line (2 ∷ 0 ∷ 0 ∷ 2 ∷ h ∷ number % 256 ∷ []) ++ text) m) high one in
    subst (λ (l : ℕ). MeansHex (65536 * before) (record_line (2 ∷ 0 ∷ 0 ∷ 2 ∷ upper * 16 ∷ l ∷ []) ++ text) m) low two

-- a piece after the record that it needs
piece_said : (base : HexBase) (before : ℕ) (same : Bool) (p : ℕ × List ℕ) (text : List ℕ) (m : List (ℕ × ℕ)) → eqb (p.0 / 65536) before ≡ same → IsPiece (limit base) p
    → MeansHex (65536 * (p.0 / 65536)) text m → MeansHex (65536 * before) (cond same [] (base_line base (p.0 / 65536)) ++ (data_line p.0 p.1 ++ text)) (placed p.0 p.1 ++ m)
piece_said base before true p text m test piece says =
    let own : p.0 / 65536 ≡ before = eqb-true (p.0 / 65536) before test in
    data_said before p text m own piece.within piece.bytes (subst (λ (u : ℕ). MeansHex (65536 * u) text m) own says)
piece_said base before false p text m test piece says =
    base_said base before (p.0 / 65536) (data_line p.0 p.1 ++ text) (placed p.0 p.1 ++ m) (omega (arith, piece.below, piece.some)) (data_said (p.0 / 65536) p text m refl piece.within piece.bytes says)

joined : (a b c d : List ℕ) → ((a ++ b) ++ c) ++ d ≡ a ++ (b ++ (c ++ d))
joined a b c d = simp append_assoc

lines_said : (base : HexBase) (before : ℕ) (ps : List (ℕ × List ℕ)) → Every (IsPiece (limit base)) ps → MeansHex (65536 * before) (hex_lines base before ps ++ end_line) (said ps)
lines_said base before [] all = hex_ends (65536 * before)
lines_said base before (p ∷ ps) all =
    let others = lines_said base (p.0 / 65536) ps all.1 in
    let one = piece_said base before (eqb (p.0 / 65536) before) p (hex_lines base (p.0 / 65536) ps ++ end_line) (said ps) refl all.0 others in
    subst (λ (t : List ℕ). MeansHex (65536 * before) t (said (p ∷ ps))) (sym (joined (cond (eqb (p.0 / 65536) before) [] (base_line base (p.0 / 65536))) (data_line p.0 p.1) (hex_lines base (p.0 / 65536) ps) end_line)) one

pub hex_said : (base : HexBase) (runs : List Run) → AreBelow (limit base) runs → HaveBytes runs → MeansHex 0 (hex_text base runs) (memory runs)
hex_said base runs below are = subst (MeansHex 0 (hex_text base runs)) (all_said runs) (lines_said base 0 (pieces_of runs) (all_sound (limit base) runs below are))

-- ---- S-records

s_lines_said : (width : SAddress) (start : ℕ) (ps : List (ℕ × List ℕ)) → Every (IsPiece (s_limit width)) ps
    → MeansS width start (s_lines width ps ++ s_line (end_digit width) width start []) (said ps)
s_lines_said width start [] all = s_ends
s_lines_said width start (p ∷ ps) all =
    let others = s_lines_said width start ps all.1 in
    let one = s_bytes_at p.0 p.1 (s_lines width ps ++ s_line (end_digit width) width start []) (said ps) all.0.bytes (omega (arith, all.0.within)) all.0.below others in
    subst (λ (t : List ℕ). MeansS width start t (said (p ∷ ps))) (sym (append_assoc (s_line (data_digit width) width p.0 p.1) (s_lines width ps) (s_line (end_digit width) width start []))) one

pub s_said : (width : SAddress) (start : ℕ) (runs : List Run) → AreBelow (s_limit width) runs → HaveBytes runs → MeansS width start (s_text width start runs) (memory runs)
s_said width start runs below are =
    let lines : List ℕ = s_lines width (pieces_of runs) ++ s_line (end_digit width) width start [] in
    subst (MeansS width start (s_text width start runs)) (all_said runs)
    (s_header (codes "HDR") lines (said (pieces_of runs)) (search rules) (omega arith) (s_lines_said width start (pieces_of runs) (all_sound (s_limit width) runs below are)))
