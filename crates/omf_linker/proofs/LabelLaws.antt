-- The modules of files and their labels, one file after another.
use Rattle.std.proofs.Common.{◌≡◌, ℕ, suc, ◌+◌, ◌≤◌, List, [], ◌∷◌, ◌++◌, length, map, take, refl, sym, ap, subst, ◌∙◌, append_assoc, append-nil, arith, String, Global}
use Rattle.std.specs.Prelude.{Err, Ok, Some, slice_get, string_bytes}
use Rattle.std.proofs.lemmas.List.{map-append}
use Rattle.omf_check.specs.Module.{Module}
use Rattle.omf_linking.specs.File.{InputFile}
use Rattle.omf_linking.specs.Files.{HaveModules, IsFile, IsFirstAtFault}
use Rattle.omf_linking.specs.declared.fault.LinkFault.{LinkFault}
use Rattle.omf_linker.specs.Link.Files.{AreLabeled, IsFileRefused, module_label, module_labels}
use Rattle.omf_lines.specs.Files.{IsFileNamed}
use Rattle.omf_linker.specs.Link.Linked.{any}
use Rattle.omf_linker.specs.Inner.Gathering.{AreAdded}
use Rattle.omf_lines.specs.declared.files_fault.FilesFault.{FilesFault}
use Rattle.omf_linker.specs.declared.link.labels.LabeledModules.{LabeledModules}
use Rattle.omf_linker.proofs.LinkFiles.{at_file}

-- ---- labels

-- one label more
pub label_more : (old new : List (String Global)) (start : List (List ℕ)) (name : List ℕ) (n : ℕ) (s : String Global) → map string_bytes old ≡ start ++ module_labels name n → new ≡ old ++ s ∷ [] → string_bytes s ≡ module_label name (n + 1)
    → map string_bytes new ≡ start ++ module_labels name (n + 1)
label_more old new start name n s held added is =
    let after : n + 1 ≡ suc n = omega arith in
    ap (map string_bytes) added ∙ map-append string_bytes old (s ∷ []) ∙ ap (λ (xs : List (List ℕ)). xs ++ string_bytes s ∷ []) held ∙ append_assoc start (module_labels name n) (string_bytes s ∷ [])
    ∙ ap (λ (x : List ℕ). start ++ (module_labels name n ++ x ∷ [])) (is ∙ ap (module_label name) after) ∙ ap (λ (k : ℕ). start ++ module_labels name k) (sym after)

pub all_labels : (now start : List (List ℕ)) (name : List ℕ) (n count : ℕ) → n ≤ count → count ≤ n → now ≡ start ++ module_labels name n → now ≡ start ++ module_labels name count
all_labels now start name n count low high held =
    let same : n ≡ count = omega (arith, low, high) in
    held ∙ ap (λ (k : ℕ). start ++ module_labels name k) same

-- ---- files

-- one more file
pub labeled_more : (fs : List InputFile) (ms : List Module) (labels : List (List ℕ)) (f : InputFile) (own : List Module) → AreLabeled fs ms labels → IsFile any f.bytes (Ok own)
    → AreLabeled (fs ++ f ∷ []) (ms ++ own) (labels ++ module_labels f.name (length own))
labeled_more [] ms labels f own (none, nothing) i =
    (own, [], [], i, (refl, refl), ap (λ (xs : List Module). xs ++ own) none ∙ sym (append-nil own), ap (λ (xs : List (List ℕ)). xs ++ module_labels f.name (length own)) nothing ∙ sym (append-nil (module_labels f.name (length own))))
labeled_more (g ∷ gs) ms labels f own (first, others, names, j, rest, e, l) i = (
  first,
  others ++ own,
  names ++ module_labels f.name (length own),
  j,
  labeled_more gs others names f own rest i,
  ap (λ (xs : List Module). xs ++ own) e ∙ append_assoc first others own,
  ap (λ (xs : List (List ℕ)). xs ++ module_labels f.name (length own)) l ∙ append_assoc (module_labels g.name (length first)) names (module_labels f.name (length own)),
)

-- the modules alone
pub labeled_have : (fs : List InputFile) (ms : List Module) (labels : List (List ℕ)) → AreLabeled fs ms labels → HaveModules any fs ms
labeled_have [] ms labels h = h.0
labeled_have (f ∷ fs) ms labels (own, others, names, i, rest, e, l) = (own, others, i, labeled_have fs others names rest, e)

-- the files before those that are left hold these modules, with these labels
pub record AreSoFar (files left : List InputFile) (all : LabeledModules) : Type 0 where
  pub done : List InputFile
  pub split : done ++ left ≡ files
  pub labeled : AreLabeled done all.modules.items (map string_bytes all.labels.items)

pub none_so_far : (files : List InputFile) (all : LabeledModules) → all.modules.items ≡ [] → all.labels.items ≡ [] → AreSoFar files files all
none_so_far files all e l = record { done = []; split = refl; labeled = (e, ap (map string_bytes) l) }

-- one more
pub next_so_far : (files left rest : List InputFile) (f : InputFile) (old new : LabeledModules) → left ≡ f ∷ rest → AreAdded f old new → AreSoFar files left old → AreSoFar files rest new
next_so_far files left rest f old new e a h = record {
  done = h.done ++ f ∷ [];
  split = append_assoc h.done (f ∷ []) rest ∙ ap (λ (xs : List InputFile). h.done ++ xs) (sym e) ∙ h.split;
  labeled = subst (λ (ns : List Module). AreLabeled (h.done ++ f ∷ []) ns (map string_bytes new.labels.items)) (sym a.modules)
      (subst (λ (ls : List (List ℕ)). AreLabeled (h.done ++ f ∷ []) (old.modules.items ++ a.own) ls) (sym a.labels) (labeled_more h.done old.modules.items (map string_bytes old.labels.items) f a.own h.labeled a.held));
}

pub all_so_far : (files left : List InputFile) (all : LabeledModules) → left ≡ [] → AreSoFar files left all → AreLabeled files all.modules.items (map string_bytes all.labels.items)
all_so_far files left all e h =
    let whole : h.done ≡ files = sym (append-nil h.done) ∙ ap (λ (xs : List InputFile). h.done ++ xs) (sym e) ∙ h.split in
    subst (λ (xs : List InputFile). AreLabeled xs all.modules.items (map string_bytes all.labels.items)) whole h.labeled

-- the next file is at fault
found_after : (done rest : List InputFile) (f : InputFile) → slice_get (done ++ f ∷ rest) (length done) ≡ Some f
found_after [] rest f = refl
found_after (g ∷ done) rest f = found_after done rest f

front_taken : (done rest : List InputFile) → take (length done) (done ++ rest) ≡ done
front_taken [] [] = refl
front_taken [] (f ∷ rest) = refl
front_taken (g ∷ done) rest = ap (λ (xs : List InputFile). g ∷ xs) (front_taken done rest)

pub file_refused : (files left rest : List InputFile) (f : InputFile) (all : LabeledModules) (e : LinkFault) (r : FilesFault) → left ≡ f ∷ rest → AreSoFar files left all → IsFile any f.bytes (Err e) → IsFileNamed f.name e r → IsFileRefused files r
file_refused files left rest f all e r i h fails named =
    let split : h.done ++ f ∷ rest ≡ files = ap (λ (xs : List InputFile). h.done ++ xs) (sym i) ∙ h.split in
    let first : IsFirstAtFault any files (record { file = length h.done; fault = e }) = record {
      before = all.modules.items;
      file = f;
      have = subst (λ (xs : List InputFile). HaveModules any xs all.modules.items) (sym (ap (λ (xs : List InputFile). take (length h.done) xs) (sym split) ∙ front_taken h.done (f ∷ rest))) (labeled_have h.done all.modules.items (map string_bytes all.labels.items) h.labeled);
      found = subst (λ (xs : List InputFile). slice_get xs (length h.done) ≡ Some f) split (found_after h.done rest f);
      fails = fails;
    } in
    at_file files (length h.done) e f.name r first refl named
