-- What is kept of the records so far is what they give.
use Rattle.std.proofs.Common.{◌≡◌, ℕ, List, [], ◌∷◌, ◌++◌, refl, sym, ap, ap₂, subst, ◌∙◌}
use Rattle.std.specs.Prelude.{flat_map, map, Option, Some, None, option_and_then}
use Rattle.std.proofs.lemmas.List.{append-nil, map-append}
use Rattle.std.specs.List.{last_or}
use Rattle.omf_frame.specs.Bytes.{last}
use Rattle.omf_frame.specs.Types.{width_of}
use Rattle.omf_frame.specs.declared.kinds.Width.{Width}
use Rattle.omf_records.specs.Values.{At, Rec, Contents, Header, Comment, Names, Segment, Group, Externs, Publics, Communals, Plain, Iterated, Fixups, ModEnd, Carried, Subrecord, Thread, Fixup, Reference}
use Rattle.omf_check.specs.Tables.{segments, groups, subrecords, subrecords_in, defined_names, defined_segments, defined_groups, defined_externals, data_in}
use Rattle.omf_check.specs.Threads.{frame_of, target_of}
use Rattle.omf_check.specs.Inner.Kept.{HasThreads, no_threads, set_thread}
use Rattle.omf_check.specs.declared.threads.Threads.{Threads}
use Rattle.omf_check.proofs.KeptLaws.{flat_more}
use Rattle.omf_check.proofs.ThreadLaws.{threads_kept}
use Rattle.omf_dump.specs.Contents.{location_fields, reference_fields, shown, start_items, subrecord_fields, subrecord_items}
use Rattle.omf_dump.specs.Fields.{Field, Item, item, with_items}
use Rattle.omf_dump.specs.Known.{Data, Tables, fixed_data, plain_data, tables}
use Rattle.omf_dump.specs.Inner.Keeping.{data_after, no_tables, with_contents}
use Rattle.omf_dump.specs.Inner.Resolving.{reference_fields_by, start_items_by, subrecord_fields_by, subrecord_items_by}
use Rattle.omf_check.proofs.KeptLaws.{threads_next}
use Rattle.omf_dump.specs.Inner.Showing.{Keeps, shown_by}
use Rattle.omf_dump.specs.Inner.Walking.{Holds}
use Rattle.omf_dump.specs.declared.known.Known.{Known}

-- ---- references, by the threads that are kept

reference_is : (t : Tables) (width : Width) (threads : Threads) (earlier : List Subrecord) (r : Reference) → HasThreads threads earlier
    → reference_fields_by t width threads r ≡ reference_fields t width (frame_of earlier r) (target_of earlier r) r
reference_is t width threads earlier r h = rw (threads_kept.frame threads earlier r h, threads_kept.target threads earlier r h) refl

subrecord_is : (t : Tables) (fixed : Option Data) (width : Width) (threads : Threads) (earlier : List Subrecord) (s : Subrecord) → HasThreads threads earlier
    → subrecord_fields_by t fixed width threads s ≡ subrecord_fields t fixed width earlier s
subrecord_is t d width threads earlier (Thread byte datum) h = refl
subrecord_is t d width threads earlier (Fixup locat r) h = ap (λ (fs : List Field). location_fields d width locat ++ fs) (reference_is t width threads earlier r h)

subrecords_are : (t : Tables) (fixed : Option Data) (width : Width) (threads : Threads) (earlier : List Subrecord) (subs : List (At Subrecord)) → HasThreads threads earlier
    → subrecord_items_by t fixed width threads subs ≡ subrecord_items t fixed width earlier subs
subrecords_are t d width threads earlier [] h = refl
subrecords_are t d width threads earlier (s ∷ subs) h =
    ap₂ (λ (x : Item) (xs : List Item). x ∷ xs) (ap (item s.within) (subrecord_is t d width threads earlier s.item h))
    (subrecords_are t d width (set_thread threads s.item) (earlier ++ s.item ∷ []) subs (threads_kept.one threads earlier s.item h))

start_is : (t : Tables) (width : Width) (threads : Threads) (earlier : List Subrecord) (start : Option Reference) → HasThreads threads earlier
    → start_items_by t width threads start ≡ start_items t width earlier start
start_is t width threads earlier None h = refl
start_is t width threads earlier (Some r) h = ap (λ (fs : List Field). item r.fix.within fs ∷ []) (reference_is t width threads earlier r h)

-- what is shown is what the records before give
pub shown_is : (known : Known) (earlier : List Subrecord) (kind : ℕ) (c : Contents) → HasThreads known.threads earlier → shown_by known kind c ≡ shown known.tables known.fixed earlier kind c
shown_is known earlier kind (Fixups subs) h = ap (with_items []) (subrecords_are known.tables known.fixed (width_of kind) known.threads earlier subs h)
shown_is known earlier kind (ModEnd byte start) h = ap (with_items _) (start_is known.tables (width_of kind) known.threads earlier start h)
shown_is known earlier kind (Header name) h = refl
shown_is known earlier kind (Comment byte class text) h = refl
shown_is known earlier kind (Names items) h = refl
shown_is known earlier kind (Segment s) h = refl
shown_is known earlier kind (Group g) h = refl
shown_is known earlier kind (Externs items) h = refl
shown_is known earlier kind (Publics p) h = refl
shown_is known earlier kind (Communals items) h = refl
shown_is known earlier kind (Plain d) h = refl
shown_is known earlier kind (Iterated d) h = refl
shown_is known earlier kind (Carried bytes) h = refl

-- ---- one more record

abbrev parts : List (List ℕ) → List ℕ → List ℕ → List (List ℕ) → Tables
parts ns ss gs es = record { names = ns; segments = ss; groups = gs; externals = es }

same_parts : (ns ns' : List (List ℕ)) (ss ss' gs gs' : List ℕ) (es es' : List (List ℕ)) → ns ≡ ns' → ss ≡ ss' → gs ≡ gs' → es ≡ es' → parts ns ss gs es ≡ parts ns' ss' gs' es'
same_parts ns ns' ss ss' gs gs' es es' a b c d = cc

-- the tables with what one record defines
grown_by : (t : Tables) (kind : ℕ) (c : Contents)
    → parts (t.names ++ defined_names c) (t.segments ++ map (λ s. s.name) (defined_segments kind c)) (t.groups ++ map (λ g. g.name.item) (defined_groups c)) (t.externals ++ defined_externals c) ≡ with_contents t c
grown_by t kind (Names items) = same_parts _ _ _ _ _ _ _ _ refl (append-nil t.segments) (append-nil t.groups) (append-nil t.externals)
grown_by t kind (Segment s) = same_parts _ _ _ _ _ _ _ _ (append-nil t.names) refl (append-nil t.groups) (append-nil t.externals)
grown_by t kind (Group g) = same_parts _ _ _ _ _ _ _ _ (append-nil t.names) (append-nil t.segments) refl (append-nil t.externals)
grown_by t kind (Externs items) = same_parts _ _ _ _ _ _ _ _ (append-nil t.names) (append-nil t.segments) (append-nil t.groups) refl
grown_by t kind (Communals items) = same_parts _ _ _ _ _ _ _ _ (append-nil t.names) (append-nil t.segments) (append-nil t.groups) refl
grown_by t kind _ = same_parts _ _ _ _ _ _ _ _ (append-nil t.names) (append-nil t.segments) (append-nil t.groups) (append-nil t.externals)

pub tables_more : (before : List Rec) (r : Rec) → tables (before ++ r ∷ []) ≡ with_contents (tables before) r.contents
tables_more before r =
    same_parts _ _ _ _ _ _ _ _
    (flat_more (λ (x : Rec). defined_names x.contents) before r)
    (ap (map (λ s. s.name)) (flat_more (λ (x : Rec). defined_segments x.kind x.contents) before r) ∙ map-append (λ s. s.name) (segments before) (defined_segments r.kind r.contents))
    (ap (map (λ g. g.name.item)) (flat_more (λ (x : Rec). defined_groups x.contents) before r) ∙ map-append (λ g. g.name.item) (groups before) (defined_groups r.contents))
    (flat_more (λ (x : Rec). defined_externals x.contents) before r)
    ∙ grown_by (tables before) r.kind r.contents

last_end : {A : Type 0} (o : Option A) (xs : List A) (x : A) → last_or o (xs ++ x ∷ []) ≡ Some x
last_end o [] x = refl
last_end o (y ∷ xs) x = last_end (Some y) xs x

fixed_by : (xs : List Contents) (c : Contents) → option_and_then plain_data (last (xs ++ data_in c)) ≡ data_after (option_and_then plain_data (last xs)) c
fixed_by xs (Plain d) = ap (option_and_then plain_data) (last_end None xs (Plain d))
fixed_by xs (Iterated d) = ap (option_and_then plain_data) (last_end None xs (Iterated d))
fixed_by xs _ = ap (λ (ys : List Contents). option_and_then plain_data (last ys)) (append-nil xs)

pub fixed_more : (before : List Rec) (r : Rec) → fixed_data (before ++ r ∷ []) ≡ data_after (fixed_data before) r.contents
fixed_more before r =
    ap (λ (ys : List Contents). option_and_then plain_data (last ys)) (flat_more (λ (x : Rec). data_in x.contents) before r)
    ∙ fixed_by (flat_map (λ (x : Rec). data_in x.contents) before) r.contents

-- ---- what is kept after some records

pub holds_none : (known : Known) → known.tables ≡ no_tables → known.threads ≡ no_threads → known.fixed ≡ None → Holds known []
holds_none known a b c = record { tables = a; threads = subst (λ (t : Threads). HasThreads t []) (sym b) threads_kept.none; fixed = c }

pub holds_more : (old new : Known) (before : List Rec) (r : Rec) → Holds old before → Keeps old r.contents new → Holds new (before ++ r ∷ [])
holds_more old new before r h k = record {
  tables = k.tables ∙ ap (λ (t : Tables). with_contents t r.contents) h.tables ∙ sym (tables_more before r);
  threads = subst (λ (t : Threads). HasThreads t (subrecords (before ++ r ∷ []))) (sym k.threads) (threads_next old.threads before r h.threads);
  fixed = k.fixed ∙ ap (λ (d : Option Data). data_after d r.contents) h.fixed ∙ sym (fixed_more before r);
}

-- what is shown of the next record
pub next_shown : (known : Known) (before : List Rec) (kind : ℕ) (c : Contents) → Holds known before → shown_by known kind c ≡ shown (tables before) (fixed_data before) (subrecords before) kind c
next_shown known before kind c h =
    shown_is known (subrecords before) kind c h.threads ∙ ap₂ (λ (t : Tables) (d : Option Data). shown t d (subrecords before) kind c) h.tables h.fixed
