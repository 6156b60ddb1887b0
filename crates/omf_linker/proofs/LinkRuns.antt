-- A run of `omf-link`, from its steps.
use Rattle.std.proofs.Common.{◌≡◌, ℕ, ◌+◌, List, [], ◌∷◌, Result, Ok, Err, refl, sym, ap, subst, ◌∙◌, inl, inr}
use Rattle.std.specs.Io.KnownBytes.{Consumes, IsAtEnd}
use Rattle.std.specs.Prelude.{⊤, Option, Some, None, IfSome, filter_map, option_map, slice_get, zip}
use Rattle.std.proofs.KnownBytes.{Consumes-whole}
use Rattle.std.specs.List.{cons_option, enumerate_from}
use Rattle.omf_frame.specs.Device.{Device}
use Rattle.omf_placement.specs.Derive.{PlacedModule}
use Rattle.omf_placement.specs.Inner.Derived.{derived}
use Rattle.omf_placement.specs.declared.several.fault.DeriveFault.{DeriveFault}
use Rattle.omf_placement.specs.declared.several.fault.DeriveFault.TheVariants as derive
use Rattle.omf_layout.specs.declared.options.Options.{Options}
use Rattle.omf_placement.specs.Placement.{Places}
use Rattle.omf_placement.specs.Weak.{with_weak}
use Rattle.omf_records.specs.Values.{Rec}
use Rattle.omf_reloc.specs.declared.fault.ReachFault.{ReachFault}
use Rattle.omf_output.specs.declared.rom.form.Form.{Form}
use Rattle.omf_linking.specs.Faults.{far_by, of_derive, of_locator}
use Rattle.omf_linking.specs.Locator.Sparse.{IsOutcome, Sparse, sparse}
use Rattle.omf_linking.specs.Placing.{all_given, by_sparse, derived_or, found, frames_given, given_of, in_front, linked, or_missing, placed_by, places_given, places_of, with_segments}
use Rattle.omf_linking.specs.declared.locator.fault.LocatorFault.{LocatorFault}
use Rattle.omf_linking.specs.declared.locator.fault.LocatorFault.TheVariants as locator
use Rattle.omf_placement.specs.declared.frame.Frame.{Frame}
use Rattle.omf_placement.specs.declared.frame.Placed.{Placed}
use Rattle.omf_records.specs.Inner.Seen.{map_ok}
use Rattle.omf_reloc.specs.declared.fault.Kind.{Kind}
use Rattle.omf_reloc.specs.declared.fault.Kind.TheVariants as kinds
use Rattle.omf_check.specs.Module.{typed_modules}
use Rattle.omf_linking.specs.PlainText.{plain_text}
use Rattle.omf_linking.specs.Reading.{AreModules, IsPartRead, IsReadCause}
use Rattle.omf_linking.specs.Relocated.{first_fault}
use Rattle.omf_linking.specs.Starts.{main_starts, one_start}
use Rattle.omf_linking.specs.declared.fault.LinkFault.{LinkFault}
use Rattle.omf_linking.specs.declared.fault.LinkFault.TheVariants as link
use Rattle.omf_cmd.specs.Runs.{IsUnbroken}
use Rattle.omf_lines.specs.Faults.{IsNamed, is_of_modules}
use Rattle.omf_lines.specs.Named.{HasLines}
use Rattle.omf_linker.specs.Link.Drafted.{IsDrafted}
use Rattle.omf_linker.specs.Link.Linked.{any, IsFirstFault, IsLinked}
use Rattle.omf_linker.specs.Link.Mapped.{IsMapped}
use Rattle.omf_linker.specs.Link.Rom.{IsRom}
use Rattle.omf_linker.specs.Link.Runs.{IsShowCause, Shows}
use Rattle.omf_linker.specs.Link.Shown.{AreShownAt, AreShownIn, IsNamedAs, IsNoModule, IsShownOf}
use Rattle.omf_drafting.specs.Suiting.{options_for}
use Rattle.omf_lines.specs.declared.fault.ImageFault.{ImageFault}
use Rattle.omf_lines.specs.declared.fault.ImageFault.TheVariants as fault
use Rattle.omf_linker.specs.declared.link.words.Task.{Task}
use Rattle.omf_linker.specs.declared.link.words.Task.TheVariants as task

-- ---- a fault with its lines

pub with_lines : (Is : Result (List ℕ) LinkFault → Type 0) (labels : List (List ℕ)) (ms : List (List Rec)) (text : List ℕ) (f : LinkFault) (e : ImageFault) → Is (Err f) → IsNamed labels ms text f e → IsNamedAs Is labels ms text (Err e)
with_lines Is labels ms text f (fault.Link g) h (inl same) = inl (subst (λ (x : LinkFault). Is (Err x)) (sym same.0) h, ap is_of_modules same.0 ∙ same.1)
with_lines Is labels ms text f (fault.Link g) h (inr memory) = inr memory
with_lines Is labels ms text f (fault.Lines g lines) h n =
    (subst (λ (x : LinkFault). Is (Err x)) (sym n.0) h, ap is_of_modules n.0 ∙ n.1, subst (λ (x : LinkFault). HasLines labels ms text x lines.items) (sym n.0) n.2)
with_lines Is labels ms text f (fault.Outside a o lines) h n = absurd n
with_lines Is labels ms text f fault.NoRoom h n = absurd n
with_lines Is labels ms text f fault.Write h n = absurd n

pub no_module : (t : Task) (input : List ℕ) (f : LinkFault) → AreModules any input (Err f) → IsShownOf t input (Err (fault.Link f))
no_module t input f h = inl h

-- a text without a map
pub not_mapped : (labels : List (List ℕ)) (ms : List (List Rec)) (text : List ℕ) (f : LocatorFault) → IsOutcome {A = List Sparse} (sparse ms text) (Err f) → IsMapped labels ms text (Err (of_locator f))
not_mapped labels ms text locator.Memory h = tt
not_mapped labels ms text (locator.Line n why) h = h

-- the result for modules is the result for their input
pub in_input : (t : Task) (input : List ℕ) (r : Result (List ℕ) ImageFault) → AreShownIn t input r → IsShownOf t input r
in_input t input r h = inr h

-- ---- a result for bytes names no reader

not_derived : (f : DeriveFault) → of_derive f ≡ link.Read → ⊥
not_derived derive.Memory e = absurd cc
not_derived (derive.Undefined j i) e = absurd cc
not_derived (derive.Twice j i) e = absurd cc
not_derived (derive.TooHigh j i) e = absurd cc

not_found : (r : Result (List Places) DeriveFault) → derived_or r ≡ Err link.Read → ⊥
not_found (Ok pls) e = absurd cc
not_found (Err f) e = let same : of_derive f ≡ link.Read = cc in not_derived f same

far_first : (j : ℕ) (o : Option ReachFault) (fs : List LinkFault) → (slice_get fs 0 ≡ Some link.Read → ⊥) → slice_get (cons_option (option_map (λ f. link.Reach j f) o) fs) 0 ≡ Some link.Read → ⊥
far_first j None fs h e = h e
far_first j (Some f) fs h e = absurd cc

not_far : (g : PlacedModule → Option ReachFault) (ms : List (ℕ × PlacedModule)) → slice_get (filter_map (far_by g) ms) 0 ≡ Some link.Read → ⊥
not_far g [] e = absurd cc
not_far g (m ∷ ms) e = far_first m.0 (g m.1) (filter_map (far_by g) ms) (not_far g ms) e

-- a module's places
missing_found : {A : Type 0} (j : ℕ) (kind : Kind) (r : Result A ℕ) → or_missing j kind r ≡ Err link.Read → ⊥
missing_found j kind (Ok a) e = absurd cc
missing_found j kind (Err i) e = absurd cc

mapped_found : {A B : Type 0} (f : A → B) (r : Result A LinkFault) → (r ≡ Err link.Read → ⊥) → map_ok f r ≡ Err link.Read → ⊥
mapped_found f (Ok a) not e = absurd cc
mapped_found f (Err x) not e = let same : x ≡ link.Read = cc in not (ap Err same)

with_found : (j : ℕ) (m : List Rec) (gs : List (Option (Option Frame))) (r : Result (List Placed) LinkFault) → (r ≡ Err link.Read → ⊥) → with_segments j m gs r ≡ Err link.Read → ⊥
with_found j m gs (Ok ps) not e = mapped_found (placed_by ps) (or_missing j kinds.Group (frames_given m ps gs)) (missing_found j kinds.Group (frames_given m ps gs)) e
with_found j m gs (Err x) not e = let same : x ≡ link.Read = cc in not (ap Err same)

front_found : (r : Result Places LinkFault) (q : Result (List Places) LinkFault) → (r ≡ Err link.Read → ⊥) → (q ≡ Err link.Read → ⊥) → in_front r q ≡ Err link.Read → ⊥
front_found (Ok pl) q not more e = mapped_found (λ pls. pl ∷ pls) q more e
front_found (Err x) q not more e = let same : x ≡ link.Read = cc in not (ap Err same)

not_given : (j : ℕ) (m : List Rec) (s : Sparse) → places_given j m s ≡ Err link.Read → ⊥
not_given j m s e = with_found j m s.groups (or_missing j kinds.Segment (all_given 1 s.segments)) (missing_found j kinds.Segment (all_given 1 s.segments)) e

not_placed : (j : ℕ) (ms : List (List Rec × Sparse)) → places_of j ms ≡ Err link.Read → ⊥
not_placed j [] e = absurd cc
not_placed j (m ∷ ms) e = front_found (places_given j m.0 m.1) (places_of (j + 1) ms) (not_given j m.0 m.1) (not_placed (j + 1) ms) e

not_by : (ms : List (List Rec)) (ss : List Sparse) (r : Result (List Places) LinkFault) → (r ≡ Err link.Read → ⊥) → found ms ss r ≡ Err link.Read → ⊥
not_by ms ss (Ok pls) not e = not_found (derived (zip ms pls) (with_weak (zip ms pls) (given_of ss))) e
not_by ms ss (Err x) not e = let same : x ≡ link.Read = cc in not (ap Err same)

not_read : (ms : List (List Rec)) (r : Result (List Sparse) LocatorFault) → by_sparse ms r ≡ Err link.Read → ⊥
not_read ms (Ok ss) e = not_by ms ss (places_of 0 (zip ms ss)) (not_placed 0 (zip ms ss)) e
not_read ms (Err locator.Memory) e = absurd cc
not_read ms (Err (locator.Line n why)) e = absurd cc

not_linked : (ms : List (List Rec)) (text : List ℕ) → linked ms text ≡ Err link.Read → ⊥
not_linked [] text e = absurd cc
not_linked (m ∷ ms) text e = not_read (m ∷ ms) (sparse (m ∷ ms) text) e

not_started : (ss : List (ℕ × (ℕ × ℕ))) → one_start ss ≡ Err link.Read → ⊥
not_started [] e = absurd cc
not_started (s ∷ []) e = absurd cc
not_started (s ∷ t ∷ more) e = absurd cc

not_first : (ms : List (List Rec)) (text : List ℕ) → IsFirstFault ms text link.Read → ⊥
not_first ms text (inl h) = not_linked ms text h
not_first ms text (inr (pls, placed, inl h)) = not_far first_fault (enumerate_from 0 (zip ms pls)) h
not_first ms text (inr (pls, placed, inr (inl h))) = h.1
not_first ms text (inr (pls, placed, inr (inr h))) = not_started (main_starts (zip ms h.0.relocated)) h.2

-- a result that names no device
abbrev pub IsNoDevice : Result (List ℕ) ImageFault → Type 0
IsNoDevice (Err (fault.Link link.Read)) = ⊥
IsNoDevice (Err fault.Write) = ⊥
IsNoDevice _ = ⊤

not_told : (Is : Result (List ℕ) LinkFault → Type 0) (labels : List (List ℕ)) (ms : List (List Rec)) (text : List ℕ) (r : Result (List ℕ) ImageFault) → (Is (Err link.Read) → ⊥) → IsNamedAs Is labels ms text r → IsNoDevice r
not_told Is labels ms text (Ok shown) not h = tt
not_told Is labels ms text (Err (fault.Link link.Memory)) not h = tt
not_told Is labels ms text (Err (fault.Link link.Read)) not (inl h) = not h.0
not_told Is labels ms text (Err (fault.Link link.Read)) not (inr h) = absurd cc
not_told Is labels ms text (Err (fault.Link (link.Refused j why at))) not h = tt
not_told Is labels ms text (Err (fault.Link (link.NoText at))) not h = tt
not_told Is labels ms text (Err (fault.Link link.NoModules)) not h = tt
not_told Is labels ms text (Err (fault.Link (link.Line n why))) not h = tt
not_told Is labels ms text (Err (fault.Link (link.External f))) not h = tt
not_told Is labels ms text (Err (fault.Link (link.Reach j f))) not h = tt
not_told Is labels ms text (Err (fault.Link (link.Starts j k))) not h = tt
not_told Is labels ms text (Err (fault.Link (link.Space f))) not h = tt
not_told Is labels ms text (Err (fault.Lines g lines)) not h = tt
not_told Is labels ms text (Err (fault.Outside a o lines)) not h = tt
not_told Is labels ms text (Err fault.NoRoom) not h = tt
not_told Is labels ms text (Err fault.Write) not h = h

not_drafted : (o : Options) (ms : List (List Rec)) (r : Result (List ℕ) ImageFault) → IsDrafted o ms r → IsNoDevice r
not_drafted o ms (Ok shown) h = tt
not_drafted o ms (Err (fault.Link link.Memory)) h = tt
not_drafted o ms (Err (fault.Link link.Read)) h = h
not_drafted o ms (Err (fault.Link (link.Refused j why at))) h = tt
not_drafted o ms (Err (fault.Link (link.NoText at))) h = tt
not_drafted o ms (Err (fault.Link link.NoModules)) h = tt
not_drafted o ms (Err (fault.Link (link.Line n why))) h = tt
not_drafted o ms (Err (fault.Link (link.External f))) h = tt
not_drafted o ms (Err (fault.Link (link.Reach j f))) h = tt
not_drafted o ms (Err (fault.Link (link.Starts j k))) h = tt
not_drafted o ms (Err (fault.Link (link.Space f))) h = tt
not_drafted o ms (Err (fault.Lines g lines)) h = tt
not_drafted o ms (Err (fault.Outside a w lines)) h = tt
not_drafted o ms (Err fault.NoRoom) h = tt
not_drafted o ms (Err fault.Write) h = h

not_filed : (f : Form) (labels : List (List ℕ)) (ms : List (List Rec)) (text : List ℕ) (r : Result (List ℕ) ImageFault) → IsRom f labels ms text r → IsNoDevice r
not_filed f labels ms text (Ok file) h = tt
not_filed f labels ms text (Err (fault.Link g)) h = not_told (IsLinked ms text) labels ms text (Err (fault.Link g)) (not_first ms text) h
not_filed f labels ms text (Err (fault.Lines g lines)) h = tt
not_filed f labels ms text (Err (fault.Outside a o lines)) h = tt
not_filed f labels ms text (Err fault.NoRoom) h = tt
not_filed f labels ms text (Err fault.Write) h = h

not_shown_at : (t : Task) (labels : List (List ℕ)) (ms : List (List Rec)) (text : List ℕ) (r : Result (List ℕ) ImageFault) → AreShownAt t labels ms text r → IsNoDevice r
not_shown_at task.Image labels ms text r h = not_told (IsLinked ms text) labels ms text r (not_first ms text) h
not_shown_at (task.Rom f) labels ms text r h = not_filed f labels ms text r h
not_shown_at task.Map labels ms text r h = not_told (IsMapped labels ms text) labels ms text r (λ read. read) h
not_shown_at (task.Draft o) labels ms text r h = not_drafted (options_for ms o) ms r h

pub no_memory : (t : Task) (labels : List (List ℕ)) (ms : List (List Rec)) (text : List ℕ) → AreShownAt t labels ms text (Err (fault.Link link.Memory))
no_memory task.Image labels ms text = inr refl
no_memory (task.Rom f) labels ms text = inr refl
no_memory task.Map labels ms text = inr refl
no_memory (task.Draft o) labels ms text = tt

not_refused : (input : List ℕ) (r : Result (List ℕ) ImageFault) → IsNoModule input r → IsNoDevice r
not_refused input (Ok shown) h = tt
not_refused input (Err (fault.Link link.Memory)) h = tt
not_refused input (Err (fault.Link link.Read)) h = h
not_refused input (Err (fault.Link (link.Refused j why at))) h = tt
not_refused input (Err (fault.Link (link.NoText at))) h = tt
not_refused input (Err (fault.Link link.NoModules)) h = tt
not_refused input (Err (fault.Link (link.Line n why))) h = tt
not_refused input (Err (fault.Link (link.External f))) h = tt
not_refused input (Err (fault.Link (link.Reach j f))) h = tt
not_refused input (Err (fault.Link (link.Starts j k))) h = tt
not_refused input (Err (fault.Link (link.Space f))) h = tt
not_refused input (Err (fault.Lines g lines)) h = tt
not_refused input (Err (fault.Outside a o lines)) h = tt
not_refused input (Err fault.NoRoom) h = tt
not_refused input (Err fault.Write) h = h

no_device : (t : Task) (input : List ℕ) (r : Result (List ℕ) ImageFault) → IsShownOf t input r → IsNoDevice r
no_device t input r (inl h) = not_refused input r h
no_device t input r (inr h) = not_shown_at t [] (typed_modules h.modules) (plain_text h.text) r h.shown

-- ---- an input that is read

module _ (old new : Device) where
  -- whole
  unbroken : (r : Result (List ℕ) ImageFault) → IsUnbroken old new → IsNoDevice r → IsShowCause old new r
  unbroken (Ok shown) h n = h
  unbroken (Err (fault.Link link.Memory)) h n = h
  unbroken (Err (fault.Link link.Read)) h n = absurd n
  unbroken (Err (fault.Link (link.Refused j why at))) h n = h
  unbroken (Err (fault.Link (link.NoText at))) h n = h
  unbroken (Err (fault.Link link.NoModules)) h n = h
  unbroken (Err (fault.Link (link.Line k why))) h n = h
  unbroken (Err (fault.Link (link.External f))) h n = h
  unbroken (Err (fault.Link (link.Reach j f))) h n = h
  unbroken (Err (fault.Link (link.Starts j k))) h n = h
  unbroken (Err (fault.Link (link.Space f))) h n = h
  unbroken (Err (fault.Lines g lines)) h n = h
  unbroken (Err (fault.Outside a o lines)) h n = h
  unbroken (Err fault.NoRoom) h n = h
  unbroken (Err fault.Write) h n = n

  pub whole_cause : (t : Task) (input : List ℕ) (r : Result (List ℕ) ImageFault) → IsUnbroken old new → IsShownOf t input r → IsShowCause old new r
  whole_cause t input r h i = unbroken r h (no_device t input r i)

  -- in part
  pub part_cause : (A : Type 0) (f : LinkFault) → IsReadCause {A = A} old new (Err f) → IsShowCause old new (Err (fault.Link f))
  part_cause A link.Memory h = h
  part_cause A link.Read h = h
  part_cause A (link.Refused j why at) h = absurd h
  part_cause A (link.NoText at) h = absurd h
  part_cause A link.NoModules h = absurd h
  part_cause A (link.Line k why) h = absurd h
  part_cause A (link.External d) h = absurd h
  part_cause A (link.Reach j d) h = absurd h
  part_cause A (link.Starts j k) h = absurd h
  part_cause A (link.Space d) h = absurd h

read_whole : (t : Task) (input : List ℕ) (old new : Option (List ℕ)) (r : Result (List ℕ) ImageFault) → Consumes old new input → IsShownOf t input r → Shows t input old new r
read_whole t input old new (Ok shown) c i = (c, i)
read_whole t input old new (Err (fault.Link link.Memory)) c i = (input, c)
read_whole t input old new (Err (fault.Link link.Read)) c i = (input, c)
read_whole t input old new (Err (fault.Link (link.Refused j why at))) c i = (c, i)
read_whole t input old new (Err (fault.Link (link.NoText at))) c i = (c, i)
read_whole t input old new (Err (fault.Link link.NoModules)) c i = (c, i)
read_whole t input old new (Err (fault.Link (link.Line n why))) c i = (c, i)
read_whole t input old new (Err (fault.Link (link.External f))) c i = (c, i)
read_whole t input old new (Err (fault.Link (link.Reach j f))) c i = (c, i)
read_whole t input old new (Err (fault.Link (link.Starts j k))) c i = (c, i)
read_whole t input old new (Err (fault.Link (link.Space f))) c i = (c, i)
read_whole t input old new (Err (fault.Lines g lines)) c i = (c, i)
read_whole t input old new (Err (fault.Outside a o lines)) c i = (c, i)
read_whole t input old new (Err fault.NoRoom) c i = (c, i)
read_whole t input old new (Err fault.Write) c i = (c, i)

pub all_read : (t : Task) (old new : Option (List ℕ)) (bytes input : List ℕ) (r : Result (List ℕ) ImageFault) → old ≡ Some input → Consumes old new bytes → IsAtEnd new → IsShownOf t bytes r → Shows t input old new r
all_read t old new bytes input r told c end i =
    let h : IfSome old (λ xs. Shows t xs old new r) = Consumes-whole old new bytes (λ xs. Shows t xs old new r) c end (read_whole t bytes old new r c i) in
    subst (λ (o : Option (List ℕ)). IfSome o (λ xs. Shows t xs old new r)) told h

pub part_read : (t : Task) (A : Type 0) (input : List ℕ) (before after : Device) (old new : Option (List ℕ)) (f : LinkFault) → IsReadCause {A = A} before after (Err f) → IsPartRead old new
    → Shows t input old new (Err (fault.Link f))
part_read t A input before after old new link.Memory h p = p
part_read t A input before after old new link.Read h p = p
part_read t A input before after old new (link.Refused j why at) h p = absurd h
part_read t A input before after old new (link.NoText at) h p = absurd h
part_read t A input before after old new link.NoModules h p = absurd h
part_read t A input before after old new (link.Line k why) h p = absurd h
part_read t A input before after old new (link.External d) h p = absurd h
part_read t A input before after old new (link.Reach j d) h p = absurd h
part_read t A input before after old new (link.Starts j k) h p = absurd h
part_read t A input before after old new (link.Space d) h p = absurd h
