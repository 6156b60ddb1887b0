-- The lines about what a link text does unseen, from the steps of a task.
use Rattle.std.proofs.Common.{◌≡◌, ℕ, ◌+◌, List, [], ◌∷◌, ◌++◌, ◌∙◌, refl, sym, ap, subst, Bool, true, false, drop, append_assoc, append-nil}
use Rattle.std.specs.Prelude.{IfOk, OnOk, Option, Some, None, Ok, Result, filter, option_map, if◌then◌else◌}
use Rattle.std.specs.List.{AllZip}
use Rattle.std.proofs.lemmas.List.Elements.{filter-append}
use Rattle.std.proofs.lemmas.Result.{IfOk-weaker}
use Rattle.omf_check.specs.Module.{Module, typed_modules}
use Rattle.omf_frame.specs.Bytes.{AddsText}
use Rattle.omf_placement.specs.Placement.{Places}
use Rattle.omf_records.specs.Values.{Rec}
use Rattle.omf_linking.specs.File.{InputFile}
use Rattle.omf_linking.specs.Folded.{IsFolded}
use Rattle.omf_linking.specs.FoldedText.{folded_text}
use Rattle.omf_linking.specs.PlainText.{plain_text}
use Rattle.omf_linking.specs.Reading.{AreModules}
use Rattle.omf_linker.specs.Link.Files.{AreLabeled}
use Rattle.omf_linker.specs.Link.Linked.{any}
use Rattle.omf_warnings.specs.Lines.{AddsLine, AreLines, HasLines, IsLine, align_line, frames_line, group_line, overlap_line, selector_line}
use Rattle.omf_lines.specs.Strays.{IsNearLine}
use Rattle.omf_linker.specs.Seen.Looks.{AreFoundAt, AreLooked, AreLookedFolded, AreLookedFrom, AreLookedIn, AreLookedOf, ArePlaced, Looks}
use Rattle.omf_linker.specs.declared.link.running.ShownAt.{ShownAt}
use Rattle.omf_linker.specs.declared.link.words.Task.{Task}
use Rattle.omf_warnings.specs.declared.allowed.Allowed.{Allowed}
use Rattle.omf_linker.specs.declared.seen.files.SeenLines.{SeenLines}
use Rattle.omf_linker.specs.declared.seen.files.SeenText.{SeenText}
use Rattle.omf_warnings.specs.declared.finding.Finding.{Finding as Found}
use Rattle.omf_warnings.specs.declared.finding.Finding.TheVariants.{Overlap, Align, Group, Frames, Selector, Near}

-- ---- lines

module _ (labels : List (List ℕ)) (ms : List (List Rec)) where
  -- the line of what is found
  abbrev Told : {E : Type 0} → Result (Unit {0}) E → Found → List ℕ → List ℕ → Type 0
  Told r f old new = OnOk r (HasLines labels ms (f ∷ []) old new)

  one-line : (f : Found) (old new line : List ℕ) → IsLine labels ms f line → new ≡ old ++ line → HasLines labels ms (f ∷ []) old new
  one-line f old new line i e = (line, (line, [], i, refl, sym (append-nil line)), e)

  of-text : {E : Type 0} (r : Result (Unit {0}) E) (f : Found) (line old new : List ℕ) → IsLine labels ms f line → AddsText r old new line → Told r f old new
  of-text r f line old new i e = IfOk-weaker r (λ _. new ≡ old ++ line) (λ _. HasLines labels ms (f ∷ []) old new) (λ u n. one-line f old new line i n) e

  pub told : {E : Type 0} (r : Result (Unit {0}) E) (f : Found) (old new : List ℕ) → AddsLine r labels ms f old new → Told r f old new
  told r (Overlap first second) old new e = of-text r (Overlap first second) (overlap_line labels ms first second) old new refl e
  told r (Align o a n) old new e = of-text r (Align o a n) (align_line labels ms o a n) old new refl e
  told r (Group far) old new e = of-text r (Group far) (group_line labels ms far) old new refl e
  told r (Frames first other) old new e = of-text r (Frames first other) (frames_line labels ms first other) old new refl e
  told r (Selector framed) old new e = of-text r (Selector framed) (selector_line labels ms framed) old new refl e
  told r (Near stray) old new e =
      IfOk-weaker r (λ _. (line : List ℕ) × IsNearLine labels ms stray line × (new ≡ old ++ line)) (λ _. HasLines labels ms (Near stray ∷ []) old new) (λ u h. one-line (Near stray) old new h.0 h.1 h.2) e

  -- no line, and one
  pub no-lines : (old : List ℕ) → HasLines labels ms [] old old
  no-lines old = ([], refl, sym (append-nil old))

  -- lines after others
  joined : (fs gs : List Found) (one other : List ℕ) → AreLines labels ms fs one → AreLines labels ms gs other → AreLines labels ms (fs ++ gs) (one ++ other)
  joined [] gs one other h g = subst (AreLines labels ms gs) (sym (ap (λ (t : List ℕ). t ++ other) h)) g
  joined (f ∷ fs) gs one other (line, others, i, h, e) g = (line, others ++ other, i, joined fs gs others other h g, ap (λ (t : List ℕ). t ++ other) e ∙ append_assoc line others other)

  pub more-lines : (fs gs : List Found) (old mid new : List ℕ) → HasLines labels ms fs old mid → HasLines labels ms gs mid new → HasLines labels ms (fs ++ gs) old new
  more-lines fs gs old mid new (one, h, e) (other, g, n) = (one ++ other, joined fs gs one other h g, n ∙ ap (λ (t : List ℕ). t ++ other) e ∙ append_assoc old one other)

  -- the lines of what is left
  pub next-lines : (p : Found → Bool) (xs : List Found) (k : ℕ) (x : Found) (old mid new : List ℕ) → drop k xs ≡ x ∷ drop (k + 1) xs → HasLines labels ms (filter p (x ∷ [])) old mid
      → HasLines labels ms (filter p (drop (k + 1) xs)) mid new → HasLines labels ms (filter p (drop k xs)) old new
  next-lines p xs k x old mid new e h g =
      subst (λ (fs : List Found). HasLines labels ms fs old new) (sym (ap (filter p) e ∙ filter-append p (x ∷ []) (drop (k + 1) xs)))
      (more-lines (filter p (x ∷ [])) (filter p (drop (k + 1) xs)) old mid new h g)

  pub last-lines : (p : Found → Bool) (xs : List Found) (k : ℕ) (old : List ℕ) → drop k xs ≡ [] → HasLines labels ms (filter p (drop k xs)) old old
  last-lines p xs k old e = subst (λ (fs : List Found). HasLines labels ms (filter p fs) old old) (sym e) (no-lines old)

  -- what counts, and what does not
  pub kept-line : {E : Type 0} (p : Found → Bool) (f : Found) (r : Result (Unit {0}) E) (old new : List ℕ) → p f ≡ true → AddsLine r labels ms f old new → OnOk r (HasLines labels ms (filter p (f ∷ [])) old new)
  kept-line p f r old new t e = subst (λ (b : Bool). OnOk r (HasLines labels ms (if b then f ∷ [] else []) old new)) (sym t) (told r f old new e)

  pub left-out : (p : Found → Bool) (f : Found) (old : List ℕ) → p f ≡ false → HasLines labels ms (filter p (f ∷ [])) old old
  left-out p f old t = subst (λ (b : Bool). HasLines labels ms (if b then f ∷ [] else []) old old) (sym t) (no-lines old)

-- ---- looks

-- without placements
pub no-places : {E : Type 0} (t : Task) (ms : List (List Rec)) (text : List ℕ) (r : Result ShownAt E) → ArePlaced t ms text None → IfOk r (λ s. s.placements ≡ None) → IfOk r (λ s. ArePlaced t ms text (option_map (λ p. p.items) s.placements))
no-places t ms text r p h = IfOk-weaker r (λ s. s.placements ≡ None) (λ s. ArePlaced t ms text (option_map (λ p. p.items) s.placements)) (λ s e. subst (λ q. ArePlaced t ms text (option_map (λ p. p.items) q)) (sym e) p) h

pub looked-in : {E : Type 0} (t : Task) (a : Allowed) (labels : List (List ℕ)) (ms : List Module) (text : List ℕ) (pls : Option (List Places)) (r : Result SeenLines E) → ArePlaced t (typed_modules ms) text pls
    → IfOk r (AreFoundAt a labels ms pls) → IfOk r (AreLooked t a labels ms text)
looked-in t a labels ms text pls r p h = IfOk-weaker r (AreFoundAt a labels ms pls) (AreLooked t a labels ms text) (λ l f. (pls, p, f)) h

pub looked-folded : {E : Type 0} (t : Task) (a : Allowed) (labels : List (List ℕ)) (ms ns : List Module) (text lower : List ℕ) (r : Result SeenText E) → AllZip IsFolded ms ns → lower ≡ folded_text (plain_text text)
    → IfOk r (λ s. IfOk s.looked (AreLookedIn t a labels ns lower)) → IfOk r (λ s. IfOk s.looked (AreLookedFolded t a labels ms text))
looked-folded t a labels ms ns text lower r z e h =
    IfOk-weaker r (λ s. IfOk s.looked (AreLookedIn t a labels ns lower)) (λ s. IfOk s.looked (AreLookedFolded t a labels ms text))
    (λ s g. IfOk-weaker s.looked (AreLookedIn t a labels ns lower) (AreLookedFolded t a labels ms text) (λ l f. (ns, z, subst (λ (x : List ℕ). AreLookedIn t a labels ns x l) e f)) g) h

module _ (Looked : Looks) where
  -- the modules of files
  pub looked-from : {E : Type 0} (files : List InputFile) (text : List ℕ) (ms : List Module) (labels : List (List ℕ)) (r : Result SeenText E) → AreLabeled files ms labels
      → IfOk r (λ s. IfOk s.looked (Looked labels ms text)) → IfOk r (λ s. IfOk s.looked (AreLookedFrom Looked files text))
  looked-from files text ms labels r a h =
      IfOk-weaker r (λ s. IfOk s.looked (Looked labels ms text)) (λ s. IfOk s.looked (AreLookedFrom Looked files text))
      (λ s g. IfOk-weaker s.looked (Looked labels ms text) (AreLookedFrom Looked files text) (λ l f. (ms, labels, a, f)) g) h

  -- those of an input
  pub looked-of : {E : Type 0} (input : List ℕ) (ms : List Module) (text : List ℕ) (r : Result SeenText E) → AreModules any input (Ok (ms, text))
      → IfOk r (λ s. IfOk s.looked (Looked [] ms text)) → IfOk r (λ s. IfOk s.looked (AreLookedOf Looked input))
  looked-of input ms text r a h =
      IfOk-weaker r (λ s. IfOk s.looked (Looked [] ms text)) (λ s. IfOk s.looked (AreLookedOf Looked input))
      (λ s g. IfOk-weaker s.looked (Looked [] ms text) (AreLookedOf Looked input) (λ l f. (ms, text, a, f)) g) h
