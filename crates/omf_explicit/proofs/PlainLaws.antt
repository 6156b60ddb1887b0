-- A record with indices in place of frame numbers, and the record of a segment.
use Rattle.std.proofs.Common.{◌≡◌, ◌∙◌, ℕ, Bool, true, false, cond, List, [], ◌∷◌, ◌++◌, sym, ap}
use Rattle.std.specs.Prelude.{flat_map}
use Rattle.std.specs.List.{list_any}
use Rattle.byteorder.specs.Endian.{little_bytes}
use Rattle.omf_frame.specs.Fields.{index_bytes}
use Rattle.omf_frame.specs.Framing.{Raw, raw_of}
use Rattle.omf_records.specs.Shortest.{segment_bytes}
use Rattle.omf_records.specs.Values.{At, is_wide}
use Rattle.omf_explicit.specs.Explicit.{Frames, is_numbered, part_bytes, plain_part, segment_item}
use Rattle.omf_explicit.specs.declared.part.Part.{Part}

-- the parts of a FIXUPP that may have frame numbers
pub other_parts : (f g : Bool → List ℕ → List (At Part)) (r : Raw) (kind : ℕ) (body : List ℕ) (changed ends : Bool) → kind ≡ r.kind → body ≡ r.body → changed ≡ true → ends ≡ false
    → f (is_wide kind) body ≡ cond changed (cond ends (g (is_wide r.kind) r.body) (f (is_wide r.kind) r.body)) []
other_parts f g r kind body changed ends k b c e =
    let own = f (is_wide r.kind) r.body in
    ap (λ n. f (is_wide n) body) k
    ∙ ap (λ l. f (is_wide r.kind) l) b
    ∙ sym (ap (λ x. cond x (cond ends (g (is_wide r.kind) r.body) own) []) c ∙ ap (λ x. cond x (g (is_wide r.kind) r.body) own) e)

-- the bytes of parts with indices
abbrev pub plain_bytes : Frames → ℕ → List (At Part) → List ℕ
plain_bytes f kind ps = flat_map (λ p. part_bytes kind (plain_part f p.item)) ps

pub plain_made : (f : Frames) (r : Raw) (kind : ℕ) (all read : List (At Part)) (start body made : List ℕ) → kind ≡ r.kind → read ≡ all → list_any (λ p. is_numbered p.item) all ≡ true
    → start ≡ [] → body ≡ start ++ plain_bytes f kind read → made ≡ body
    → raw_of kind made ≡ cond (list_any (λ p. is_numbered p.item) all) (raw_of r.kind (plain_bytes f r.kind all)) r
plain_made f r kind all read start body made k p n s b m =
    let bytes : made ≡ plain_bytes f kind all = m ∙ b ∙ ap (λ l. l ++ plain_bytes f kind read) s ∙ ap (plain_bytes f kind) p in
    ap (raw_of kind) bytes
    ∙ ap (λ x. raw_of x (plain_bytes f x all)) k
    ∙ sym (ap (λ x. cond x (raw_of r.kind (plain_bytes f r.kind all)) r) n)

-- the contents of a segment's record, a field after another
pub segment_made : (n : ℕ) (none first frame offset size name class made : List ℕ) → none ≡ [] → first ≡ none ++ 2 ∷ [] → frame ≡ first ++ little_bytes 2 n → offset ≡ frame ++ 0 ∷ []
    → size ≡ offset ++ little_bytes 2 0 → name ≡ size ++ index_bytes 0 → class ≡ name ++ index_bytes 0 → made ≡ class ++ index_bytes 0
    → made ≡ segment_bytes 0x98 (segment_item n)
segment_made n none first frame offset size name class made e0 e1 e2 e3 e4 e5 e6 e7 =
    e7 ∙ ap (λ l. l ++ index_bytes 0) (e6 ∙ ap (λ l. l ++ index_bytes 0) (e5 ∙ ap (λ l. l ++ index_bytes 0) (e4 ∙ ap (λ l. l ++ little_bytes 2 0)
    (e3 ∙ ap (λ l. l ++ 0 ∷ []) (e2 ∙ ap (λ l. l ++ little_bytes 2 n) (e1 ∙ ap (λ l. l ++ 2 ∷ []) e0))))))
