-- The state after one more record.
use Rattle.std.proofs.Common.{◌≡◌, ℕ, suc, ◌+◌, Bool, true, false, List, [], ◌∷◌, ◌++◌, length, map, Result, Ok, Err, refl, sym, ap, ◌∙◌, append_assoc, append-nil, arith}
use Rattle.std.proofs.lemmas.List.Sums.{fold-append}
use Rattle.omf_frame.specs.Bytes.{with_before}
use Rattle.omf_frame.specs.Fault.{Fault}
use Rattle.omf_frame.specs.Framing.{Raw}
use Rattle.omf_records.specs.Inner.Reads.{and_then}
use Rattle.omf_records.specs.Inner.Reading.{contents_or}
use Rattle.omf_records.specs.Values.{At, ExternalItem, Externs}
use Rattle.omf_lowering.specs.Externals.{OwnExternal, external_record}
use Rattle.omf_lowering.specs.Inner.State.{state_of, added}
use Rattle.omf_lowering.specs.Lowering.{Before, so_far, start, up_to_next, replacement, replaced, pieces, patches_in, patches, growths_in, growths, faults, faults_in, lowering_fault}
use Rattle.omf_lowering.specs.Patches.{piece_of, piece_in, pieces_from}

pub with_before-more : {A B : Type 0} (f : List A → A → List B) (before xs : List A) (x : A) → with_before f before (xs ++ x ∷ []) ≡ with_before f before xs ++ f (before ++ xs) x
with_before-more f before [] x = append-nil (f before x) ∙ ap (λ b. f b x) (sym (append-nil before))
with_before-more f before (y ∷ xs) x =
    ap (λ l. f before y ++ l) (with_before-more f (before ++ y ∷ []) xs x ∙ ap (λ b. with_before f (before ++ y ∷ []) xs ++ f b x) (append_assoc before (y ∷ []) xs))
    ∙ sym (append_assoc (f before y) (with_before f (before ++ y ∷ []) xs) (f (before ++ y ∷ xs) x))

pub pieces-append : (first : ℕ) (xs ys : List Raw) → pieces_from first (xs ++ ys) ≡ pieces_from first xs ++ pieces_from (first + length xs) ys
pieces-append first [] ys = ap (λ n. pieces_from n ys) (omega arith)
pieces-append first (x ∷ xs) ys =
    let same : first + 1 + length xs ≡ first + suc (length xs) = omega arith in
    ap (λ l. piece_in first x ++ l) (pieces-append (first + 1) xs ys ∙ ap (λ n. pieces_from (first + 1) xs ++ pieces_from n ys) same)
    ∙ sym (append_assoc (piece_in first x) (pieces_from (first + 1) xs) (pieces_from (first + suc (length xs)) ys))

no_piece : (number kind len : ℕ) (body : List ℕ) (r : Result (List (At ExternalItem)) Fault) → piece_of number kind len (contents_or body (and_then r (λ x. Ok (Externs x)))) ≡ []
no_piece number kind len body (Ok x) = refl
no_piece number kind len body (Err e) = refl

external_without : (first : ℕ) (local : Bool) (item : ExternalItem) → piece_in first (external_record (record { is_local = local; item = item })) ≡ []
external_without first true item = no_piece first 0xB4 _ _ _
external_without first false item = no_piece first 0x8C _ _ _

-- EXTDEFs and LEXTDEFs have no data
pub externals_without : (first : ℕ) (es : List OwnExternal) → pieces_from first (map external_record es) ≡ []
externals_without first [] = refl
externals_without first (e ∷ es) = ap (λ l. l ++ pieces_from (first + 1) (map external_record es)) (external_without first e.is_local e.item) ∙ externals_without (first + 1) es

pub so_far-more : (before : List Raw) (r : Raw) → so_far (before ++ r ∷ []) ≡ up_to_next (so_far before) r
so_far-more before r = fold-append up_to_next start before (r ∷ [])

pub replaced-more : (before : List Raw) (r : Raw) → replaced (before ++ r ∷ []) ≡ replaced before ++ replacement (so_far before) r
replaced-more before r = ap (λ (b : Before). b.records) (so_far-more before r)

pub state-more : (before : List Raw) (r : Raw) → state_of (before ++ r ∷ []) ≡ added (state_of before) r
state-more before r =
    let zero_too : 0 + length (replaced before) ≡ length (replaced before) = omega arith in
    let data_too : pieces (before ++ r ∷ []) ≡ pieces before ++ pieces_from (length (replaced before)) (replacement (so_far before) r) =
    ap (pieces_from 0) (replaced-more before r) ∙ pieces-append 0 (replaced before) (replacement (so_far before) r)
    ∙ ap (λ n. pieces before ++ pieces_from n (replacement (so_far before) r)) zero_too in
    let values : patches (before ++ r ∷ []) ≡ patches before ++ patches_in (so_far before) (pieces before) r = with_before-more (λ b x. patches_in (so_far b) (pieces b) x) [] before r in
    let grown : growths (before ++ r ∷ []) ≡ growths before ++ growths_in (so_far before) (pieces before) r =
    with_before-more (λ b x. growths_in (so_far b) (pieces b) x) [] before r in
    ap (λ b. record { before = b; data_before = pieces (before ++ r ∷ []); patches = patches (before ++ r ∷ []); growths = growths (before ++ r ∷ []) }) (so_far-more before r)
    ∙ ap (λ d. record { before = up_to_next (so_far before) r; data_before = d; patches = patches (before ++ r ∷ []); growths = growths (before ++ r ∷ []) }) data_too
    ∙ ap (λ p. record { before = up_to_next (so_far before) r; data_before = pieces before ++ pieces_from (length (replaced before)) (replacement (so_far before) r); patches = p; growths = growths (before ++ r ∷ []) }) values
    ∙ ap (λ g. record { before = up_to_next (so_far before) r; data_before = pieces before ++ pieces_from (length (replaced before)) (replacement (so_far before) r); patches = patches before ++ patches_in (so_far before) (pieces before) r; growths = g }) grown

pub faults-more : (before : List Raw) (r : Raw) → faults (before ++ r ∷ []) ≡ faults before ++ faults_in (lowering_fault before r)
faults-more before r = with_before-more (λ b x. faults_in (lowering_fault b x)) [] before r
