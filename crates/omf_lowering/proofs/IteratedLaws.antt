-- The blocks of an LIDATA, of which the code has the width and the spec the type.
use Rattle.std.proofs.Common.{◌≡◌, ℕ, ◌+◌, ◌^◌, true, false, cond, Option, Some, None, Result, Ok, Err, refl, sym, ap, ◌∙◌}
use Rattle.std.specs.Prelude.{nat_le}
use Rattle.omf_frame.specs.Fault.{Fault}
use Rattle.omf_frame.specs.Types.{width_bytes}
use Rattle.omf_image.specs.Inner.Expanding.{expanded_length}
use Rattle.omf_image.specs.Limits.{profile_limits}
use Rattle.omf_image.specs.declared.limits.Limits.{Limits}
use Rattle.omf_frame.specs.Framing.{Raw}
use Rattle.omf_records.specs.Inner.Seen.{contents_seen, kind_seen, odd_if}
use Rattle.omf_records.specs.declared.record.Rec.{Rec as CodeRec}
use Rattle.omf_records.specs.declared.record.Rec.TheVariants as code
use Rattle.omf_records.specs.Values.{At, DataItem, width}
use Rattle.omf_records.specs.declared.record.Blocks.{Blocks as CodeBlocks}
use Rattle.omf_lowering.specs.Inner.Rolling.{blocks_seen}
use Rattle.omf_lowering.specs.Unrolled.{Before, Blocks, after_contents, begun, blocks_by, blocks_of}
use Rattle.omf_lowering.specs.declared.iterated.Iterated.{Iterated}
use Rattle.omf_lowering.proofs.WidthLaws.{width_odd}

abbrev by_width : ℕ → DataItem → Result ℕ Fault → Option Blocks
by_width w d (Ok size) = cond (nat_le (d.offset.item + size) (2 ^ 32)) (Some (record { width = w; item = d })) None
by_width w d (Err e) = None

same_by : (kind : ℕ) (d : DataItem) (r : Result ℕ Fault) → by_width (width kind) d r ≡ blocks_by kind d r
same_by kind d (Ok size) = refl
same_by kind d (Err e) = refl

module _ (segment offset : At ℕ) (b : CodeBlocks) where
  abbrev item : DataItem
  item = record { segment = segment; offset = offset; bytes = b.bytes.now }

  abbrev own : Option Blocks
  own = blocks_of (odd_if b.width 0xA2) item

  by_own : (limits : Limits) (r : Result ℕ Fault) → r ≡ expanded_length (width_bytes b.width) limits b.bytes.now → limits ≡ profile_limits → by_width (width_bytes b.width) item r ≡ own
  by_own limits r e is =
      ap (by_width (width_bytes b.width) item) (e ∙ ap (λ l. expanded_length (width_bytes b.width) l b.bytes.now) is)
      ∙ ap (λ w. by_width w item (expanded_length w profile_limits b.bytes.now)) (sym (width_odd b.width))
      ∙ same_by (odd_if b.width 0xA2) item (expanded_length (width (odd_if b.width 0xA2)) profile_limits b.bytes.now)

  abbrev iterated : Iterated
  iterated = record { segment = segment; offset = offset; blocks = b }

  pub blocks_some : (limits : Limits) (size : ℕ) → Ok size ≡ expanded_length (width_bytes b.width) limits b.bytes.now → limits ≡ profile_limits → nat_le (offset.item + size) (2 ^ 32) ≡ true
      → Some (blocks_seen iterated) ≡ own
  blocks_some limits size e is low = sym (ap (λ t. cond t (Some (blocks_seen iterated)) None) low) ∙ by_own limits (Ok size) e is

  pub blocks_far : (limits : Limits) (size : ℕ) → Ok size ≡ expanded_length (width_bytes b.width) limits b.bytes.now → limits ≡ profile_limits → nat_le (offset.item + size) (2 ^ 32) ≡ false → None ≡ own
  blocks_far limits size e is far = sym (ap (λ t. cond t (Some (blocks_seen iterated)) None) far) ∙ by_own limits (Ok size) e is

  pub blocks_none : (limits : Limits) (f : Fault) → Err f ≡ expanded_length (width_bytes b.width) limits b.bytes.now → limits ≡ profile_limits → None ≡ own
  blocks_none limits f e is = by_own limits (Err f) e is

  pub fits_by : (limits : Limits) (size : ℕ) → Ok size ≡ expanded_length (width_bytes b.width) limits b.bytes.now → limits ≡ profile_limits → Ok size ≡ expanded_length (width_bytes b.width) profile_limits b.bytes.now
  fits_by limits size e is = e ∙ ap (λ l. expanded_length (width_bytes b.width) l b.bytes.now) is

-- a module after an LIDATA
pub iterated_contents : (rec : CodeRec) (segment offset : At ℕ) (b : CodeBlocks) (x : Before) (r : Raw) (o : Option Blocks) → rec ≡ code.Iterated segment offset b → kind_seen rec ≡ r.kind
    → o ≡ blocks_of (odd_if b.width 0xA2) (record { segment = segment; offset = offset; bytes = b.bytes.now }) → Ok (begun o x r) ≡ after_contents x r (contents_seen rec)
iterated_contents rec segment offset b x r o is kind value =
    let same : odd_if b.width 0xA2 ≡ r.kind = sym (ap kind_seen is) ∙ kind in
    ap (λ q. Ok (begun q x r)) (value ∙ ap (λ k. blocks_of k (record { segment = segment; offset = offset; bytes = b.bytes.now })) same)
    ∙ sym (ap (λ y. after_contents x r (contents_seen y)) is)
