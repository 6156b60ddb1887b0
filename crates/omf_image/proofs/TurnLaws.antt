-- Pieces laid in turn.
use Rattle.std.proofs.Common.{◌≡◌, ℕ, ◌+◌, List, [], ◌∷◌, ◌++◌, length, Option, refl, sym, ◌∙◌, ap, subst, arith, append_assoc}
use Rattle.std.specs.Prelude.{IsSome, IsNone, slice_get}
use Rattle.std.specs.Option.{option_or}
use Rattle.std.proofs.lemmas.List.{append-nil}
use Rattle.omf_image.specs.declared.run.Run.{Run}
use Rattle.omf_image.specs.Overlay.{Laid, byte_of, byte_at, IsRun, AreRuns, IsRunAt, AreLaidOver}
use Rattle.omf_image.specs.Inner.Joined.{runs_of}
use Rattle.omf_image.specs.Laws.{ImagesAreOverlays, NoBytesCoverNothing}
use Rattle.omf_image.proofs.RunLaws.{byte_at-append, byte_some, joined_are_runs, runs_unique}
use Rattle.omf_image.proofs.SortedLaws.{no_byte}

pub bytes_in_turn : (done old pieces image : List Laid) → ((segment x : ℕ) → byte_at old segment x ≡ byte_at done segment x) → AreLaidOver old pieces image
    → (segment x : ℕ) → byte_at image segment x ≡ byte_at (done ++ pieces) segment x
bytes_in_turn done old [] image same h segment x =
    ap (λ ls. byte_at ls segment x) (sym h) ∙ same segment x ∙ ap (λ ls. byte_at ls segment x) (sym (append-nil done))
bytes_in_turn done old (l ∷ pieces) image same (next, laid, h) segment x =
    bytes_in_turn (done ++ l ∷ []) next pieces image
    (λ s y. laid s y ∙ ap (λ o. option_or (byte_of s y l) o) (same s y) ∙ sym (byte_at-append done l s y)) h segment x
    ∙ ap (λ ls. byte_at ls segment x) (append_assoc done (l ∷ []) pieces)

is_run_as : (f g : ℕ → Option ℕ) → ((x : ℕ) → f x ≡ g x) → (r : Run) → IsRun f r → IsRun g r
is_run_as f g e r h = record {
  nonempty = h.nonempty;
  covered = λ x from to. subst IsSome (e x) (h.covered x from to);
  after = subst IsNone (e (r.first + r.len)) h.after;
  before = λ x at. subst IsNone (e x) (h.before x at);
}

pub are_runs_as : (f g : ℕ → Option ℕ) → ((x : ℕ) → f x ≡ g x) → (runs : List Run) → AreRuns f runs → AreRuns g runs
are_runs_as f g e runs h = record {
  each = λ r c. is_run_as f g e r (h.each r c);
  all = λ r i. h.all r (is_run_as g f (λ x. sym (e x)) r i);
  rising = h.rising;
}

-- The k-th interval is unique.
pub run_at_unique : (byte : ℕ → Option ℕ) (k : ℕ) (r s : Option Run) → IsRunAt byte k r → IsRunAt byte k s → r ≡ s
run_at_unique byte k r s h i = h.2 ∙ ap (λ z. slice_get z k) (runs_unique byte h.0 i.0 h.1 i.1) ∙ sym i.2

pub images_are : ImagesAreOverlays
images_are pieces image h =
    let same : (segment x : ℕ) → byte_at image segment x ≡ byte_at pieces segment x = bytes_in_turn [] [] pieces image (λ s x. refl) h in
    let runs : (segment : ℕ) → AreRuns (byte_at image segment) (runs_of pieces segment) =
    λ s. are_runs_as (byte_at pieces s) (byte_at image s) (λ x. sym (same s x)) (runs_of pieces s) (joined_are_runs pieces s) in
    (same, λ s k run. (λ r. r.2 ∙ ap (λ z. slice_get z k) (runs_unique (byte_at image s) r.0 (runs_of pieces s) r.1 (runs s)), λ e. (runs_of pieces s, runs s, e)))

pub none_cover : NoBytesCoverNothing
none_cover l segment x e = no_byte (byte_of segment x l) (λ h. let i = byte_some segment x l h in let none : length l.bytes ≡ 0 = ap (λ (z : List ℕ). length z) e in omega (arith, i.1, none))
