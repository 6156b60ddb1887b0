-- A record that is not judged, and what later records are shown by after it.
use Rattle.std.proofs.Common.{◌≡◌, ℕ, ◌+◌, List, [], ◌∷◌, ◌++◌, drop, Bool, true, false, Result, Ok, Err, refl, sym, ap, ap₂, subst, ◌∙◌, append_assoc}
use Rattle.std.specs.Prelude.{◌&&◌, is_ok, None, OnOk}
use Rattle.omf_frame.specs.Framing.{stated_length}
use Rattle.omf_frame.specs.Types.{type_of}
use Rattle.omf_frame.specs.Fault.{Fault}
use Rattle.omf_frame.specs.declared.fault.Place.{Place}
use Rattle.omf_frame.specs.declared.fault.Reason.{Reason}
use Rattle.omf_records.specs.Inner.Reading.{contents_or, read_body}
use Rattle.omf_records.specs.Values.{Carried, Contents, Rec}
use Rattle.omf_check.specs.Tables.{subrecords}
use Rattle.omf_dump.specs.Contents.{shown}
use Rattle.omf_dump.specs.Known.{Tables, fixed_data, tables}
use Rattle.omf_dump.specs.Inner.Later.{unjudged_shown}
use Rattle.omf_dump.specs.Inner.Showing.{Keeps, shown_by}
use Rattle.omf_dump.specs.Inner.Walking.{Holds}
use Rattle.omf_dump.specs.Later.{body_of, front_kind, goes_on, has_data_if, is_plain, is_read, kept_contents, kept_record, later_from, later_text, lost_after, lost_by, stand_in, unjudged_contents, unknown_data, unread_contents, unread_lost}
use Rattle.omf_dump.specs.Raw.{raw_shown}
use Rattle.omf_dump.specs.Refused.{fault_record, fault_text, faulty_lost, faulty_record, has_fields, refused_record, unread_record}
use Rattle.omf_dump.specs.Render.{shown_text}
use Rattle.omf_dump.specs.declared.format.Style.{Style}
use Rattle.omf_dump.specs.declared.known.Known.{Known}
use Rattle.omf_dump.specs.declared.lost.Lost.{Lost}
use Rattle.omf_dump.proofs.KnownLaws.{holds_more, next_shown}
use Rattle.omf_dump.proofs.LaterLaws.{by_false, by_true, later_is}

pub on_ok : {A E P Q : Type 0} (r : Result A E) → (P → Q) → OnOk r P → OnOk r Q
on_ok (Ok x) f p = f p
on_ok (Err e) f p = p

pub on_any : {A E P : Type 0} (r : Result A E) → P → OnOk r P
on_any (Ok x) p = p
on_any (Err e) p = tt

-- the head of a record is four texts, one after another
pub head_written : {A E : Type 0} (r : Result A E) (old a b c new place kind sum flag : List ℕ) → a ≡ old ++ place → b ≡ a ++ kind → c ≡ b ++ sum → OnOk r (new ≡ c ++ flag) → OnOk r (new ≡ old ++ ((place ++ kind) ++ (sum ++ flag)))
head_written r old a b c new place kind sum flag x y z h =
    on_ok r (λ (q : new ≡ c ++ flag). q ∙ ap (λ (t : List ℕ). t ++ flag) (z ∙ ap (λ (t : List ℕ). t ++ sum) (y ∙ ap (λ (t : List ℕ). t ++ kind) x)) ∙ regroup old place kind sum flag) h
  where
    regroup : (o p k s f : List ℕ) → (((o ++ p) ++ k) ++ s) ++ f ≡ o ++ ((p ++ k) ++ (s ++ f))
    regroup o p k s f = simp append_assoc

-- three texts
pub three_written : {A E : Type 0} (r : Result A E) (old a b new head body end : List ℕ) → a ≡ old ++ head → b ≡ a ++ body → OnOk r (new ≡ b ++ end) → OnOk r (new ≡ old ++ (head ++ (body ++ end)))
three_written r old a b new head body end x y h =
    on_ok r (λ (q : new ≡ b ++ end). q ∙ ap (λ (t : List ℕ). t ++ end) (y ∙ ap (λ (t : List ℕ). t ++ body) x) ∙ regroup old head body end) h
  where
    regroup : (o p q s : List ℕ) → ((o ++ p) ++ q) ++ s ≡ o ++ (p ++ (q ++ s))
    regroup o p q s = simp append_assoc

-- four texts
pub four_written : {A E : Type 0} (r : Result A E) (old a b c new head sum body end : List ℕ) → a ≡ old ++ head → b ≡ a ++ sum → c ≡ b ++ body → OnOk r (new ≡ c ++ end) → OnOk r (new ≡ old ++ (head ++ (sum ++ (body ++ end))))
four_written r old a b c new head sum body end x y z h =
    on_ok r (λ (q : new ≡ c ++ end). q ∙ ap (λ (t : List ℕ). t ++ end) (z ∙ ap (λ (t : List ℕ). t ++ body) (y ∙ ap (λ (t : List ℕ). t ++ sum) x)) ∙ regroup old head sum body end) h
  where
    regroup : (o p q r s : List ℕ) → (((o ++ p) ++ q) ++ r) ++ s ≡ o ++ (p ++ (q ++ (r ++ s)))
    regroup o p q r s = simp append_assoc

-- two texts
pub two_written : {A E : Type 0} (r : Result A E) (old a new head end : List ℕ) → a ≡ old ++ head → OnOk r (new ≡ a ++ end) → OnOk r (new ≡ old ++ (head ++ end))
two_written r old a new head end x h = on_ok r (λ (q : new ≡ a ++ end). q ∙ ap (λ (t : List ℕ). t ++ end) x ∙ append_assoc old head end) h

-- ---- a record that is read

is_read_so : (lost : Lost) (kind : ℕ) (body : List ℕ) (c : Contents) → is_plain lost kind ≡ true → Ok c ≡ read_body kind body → is_read lost kind body ≡ true
is_read_so lost kind body c p e = ap₂ (λ (a b : Bool). a && b) p (ap is_ok (sym e))

pub read_shown : (known : Known) (lost : Lost) (kind : ℕ) (body : List ℕ) (c : Contents) → is_plain lost kind ≡ true → Ok c ≡ read_body kind body → shown_by known kind c ≡ unjudged_shown known lost kind body
read_shown known lost kind body c p e = ap (shown_by known kind) (ap (contents_or body) e ∙ sym (by_true (is_plain lost kind) (contents_or body (read_body kind body)) (Carried body) p))

pub read_kept : (t : Tables) (lost : Lost) (kind : ℕ) (body : List ℕ) (c : Contents) → is_plain lost kind ≡ true → Ok c ≡ read_body kind body → c ≡ kept_contents t lost kind body
read_kept t lost kind body c p e = ap (contents_or body) e ∙ sym (by_true (is_read lost kind body) (contents_or body (read_body kind body)) (unread_contents t lost kind body) (is_read_so lost kind body c p e))

pub read_lost : (t : Tables) (lost : Lost) (kind : ℕ) (body : List ℕ) (c : Contents) → is_plain lost kind ≡ true → Ok c ≡ read_body kind body → lost ≡ lost_after t lost kind body
read_lost t lost kind body c p e = sym (by_true (is_read lost kind body) lost (unread_lost t lost kind body) (is_read_so lost kind body c p e))

-- ---- one that is not

pub unread_kept : (t : Tables) (lost : Lost) (kind : ℕ) (body : List ℕ) → is_read lost kind body ≡ false → unread_contents t lost kind body ≡ kept_contents t lost kind body
unread_kept t lost kind body n = sym (by_false (is_read lost kind body) (contents_or body (read_body kind body)) (unread_contents t lost kind body) n)

pub unread_loses : (t : Tables) (lost : Lost) (kind : ℕ) (body : List ℕ) → is_read lost kind body ≡ false → unread_lost t lost kind body ≡ lost_after t lost kind body
unread_loses t lost kind body n = sym (by_false (is_read lost kind body) lost (unread_lost t lost kind body) n)

pub fault_unread : (lost : Lost) (kind : ℕ) (body : List ℕ) (f : Fault) → is_plain lost kind ≡ true → Err f ≡ read_body kind body → is_read lost kind body ≡ false
fault_unread lost kind body f p e = ap₂ (λ (a b : Bool). a && b) p (ap is_ok (sym e))

pub fault_shown : (known : Known) (lost : Lost) (kind : ℕ) (body : List ℕ) (f : Fault) → is_plain lost kind ≡ true → Err f ≡ read_body kind body → raw_shown known.tables kind body ≡ unjudged_shown known lost kind body
fault_shown known lost kind body f p e = ap (shown_by known kind) (ap (contents_or body) e ∙ sym (by_true (is_plain lost kind) (contents_or body (read_body kind body)) (Carried body) p))

pub fault_lost : {A E : Type 0} (r : Result A E) (t : Tables) (old new : Lost) (kind : ℕ) (body : List ℕ) (f : Fault) → is_plain old kind ≡ true → Err f ≡ read_body kind body → OnOk r (new ≡ unread_lost t old kind body) → OnOk r (new ≡ lost_after t old kind body)
fault_lost r t old new kind body f p e h = on_ok r (λ (q : new ≡ unread_lost t old kind body). q ∙ unread_loses t old kind body (fault_unread old kind body f p e)) h

pub opaque_unread : (lost : Lost) (kind : ℕ) (body : List ℕ) → is_plain lost kind ≡ false → is_read lost kind body ≡ false
opaque_unread lost kind body p = ap (λ (a : Bool). a && is_ok (read_body kind body)) p

pub opaque_shown : (known : Known) (lost : Lost) (kind : ℕ) (body : List ℕ) → is_plain lost kind ≡ false → raw_shown known.tables kind body ≡ unjudged_shown known lost kind body
opaque_shown known lost kind body p = ap (shown_by known kind) (sym (by_false (is_plain lost kind) (contents_or body (read_body kind body)) (Carried body) p))

-- ---- what it would have given is forgotten

pub data_forgotten : (old new : Known) (kind : ℕ) (body : List ℕ) → has_data_if (type_of kind) ≡ true → new.tables ≡ old.tables → new.threads ≡ old.threads → new.fixed ≡ None → Keeps old (stand_in kind body) new
data_forgotten old new kind body b t h f =
    subst (λ (c : Contents). Keeps old c new) (sym (by_true (has_data_if (type_of kind)) unknown_data (Carried body) b)) (record { tables = t; threads = h; fixed = f })

pub none_forgotten : (old new : Known) (kind : ℕ) (body : List ℕ) → has_data_if (type_of kind) ≡ false → new.tables ≡ old.tables → new.threads ≡ old.threads → new.fixed ≡ old.fixed → Keeps old (stand_in kind body) new
none_forgotten old new kind body b t h f =
    subst (λ (c : Contents). Keeps old c new) (sym (by_false (has_data_if (type_of kind)) unknown_data (Carried body) b)) (record { tables = t; threads = h; fixed = f })

-- ---- after these records

pub shown_after_these : (style : Style) (known : Known) (before : List Rec) (lost : Lost) (kind : ℕ) (body bytes : List ℕ) → kind ≡ front_kind bytes → body ≡ body_of bytes → Holds known before
    → shown_text style (unjudged_shown known lost kind body) ≡ shown_text style (shown (tables before) (fixed_data before) (subrecords before) (front_kind bytes) (unjudged_contents lost (front_kind bytes) (body_of bytes)))
shown_after_these style known before lost kind body bytes a b h =
    ap₂ (λ (k : ℕ) (bs : List ℕ). shown_text style (unjudged_shown known lost k bs)) a b
    ∙ ap (shown_text style) (next_shown known before (front_kind bytes) (unjudged_contents lost (front_kind bytes) (body_of bytes)) h)

pub held_after : (old new : Known) (before : List Rec) (lost : Lost) (kind : ℕ) (body bytes : List ℕ) → kind ≡ front_kind bytes → body ≡ body_of bytes → Holds old before → Keeps old (kept_contents old.tables lost kind body) new
    → Holds new (before ++ kept_record (tables before) lost bytes ∷ [])
held_after old new before lost kind body bytes a b h k =
    holds_more old new before (kept_record (tables before) lost bytes) h
    (subst (λ (c : Contents). Keeps old c new) (ap₂ (kept_contents old.tables lost) a b ∙ ap (λ (t : Tables). kept_contents t lost (front_kind bytes) (body_of bytes)) h.tables) k)

pub held_unread : (old : Known) (before : List Rec) (bytes : List ℕ) → Holds old before → Holds old (before ++ unread_record bytes ∷ [])
held_unread old before bytes h = holds_more old old before (unread_record bytes) h (record { tables = refl; threads = refl; fixed = refl })

-- the records that follow the one at fault were written
pub followed : (f : Style) (before : List Rec) (lost : Lost) (number start next at : ℕ) (bytes rest : List ℕ) → goes_on number bytes ≡ true → next ≡ number + 1 → at ≡ start + (3 + stated_length bytes)
    → rest ≡ drop (3 + stated_length bytes) bytes → later_from f before lost next at 0 rest ≡ later_text f before lost number start bytes
followed f before lost number start next at bytes rest g n s r = rw (n, s, r) (sym (later_is f before lost number start bytes g))

-- ---- the record at fault, by whether its type is known

pub fault_known : (style : Style) (before : List Rec) (lost : Lost) (at : Place) (why : Reason) (rest : List ℕ) → has_fields rest ≡ true → fault_text style.format style before lost at why rest ≡ fault_record style before lost at why rest
fault_known style before lost at why rest e = sym (by_true (has_fields rest) (fault_text style.format style before lost at why rest) (refused_record style.format at why rest) e)

pub fault_unknown : (style : Style) (before : List Rec) (lost : Lost) (at : Place) (why : Reason) (rest : List ℕ) → has_fields rest ≡ false → refused_record style.format at why rest ≡ fault_record style before lost at why rest
fault_unknown style before lost at why rest e = sym (by_false (has_fields rest) (fault_text style.format style before lost at why rest) (refused_record style.format at why rest) e)

pub kept_known : (t : Tables) (lost : Lost) (rest : List ℕ) → has_fields rest ≡ true → kept_record t lost rest ≡ faulty_record t lost rest
kept_known t lost rest e = sym (by_true (has_fields rest) (kept_record t lost rest) (unread_record rest) e)

pub kept_unknown : (t : Tables) (lost : Lost) (rest : List ℕ) → has_fields rest ≡ false → unread_record rest ≡ faulty_record t lost rest
kept_unknown t lost rest e = sym (by_false (has_fields rest) (kept_record t lost rest) (unread_record rest) e)

pub lost_known : (t : Tables) (lost : Lost) (rest : List ℕ) → has_fields rest ≡ true → lost_by t lost rest ≡ faulty_lost t lost rest
lost_known t lost rest e = sym (by_true (has_fields rest) (lost_by t lost rest) lost e)

pub lost_unknown : (t : Tables) (lost : Lost) (rest : List ℕ) → has_fields rest ≡ false → lost ≡ faulty_lost t lost rest
lost_unknown t lost rest e = sym (by_false (has_fields rest) (lost_by t lost rest) lost e)

-- what is lost after it, by the records before it
pub lost_then : (known : Known) (before : List Rec) (a b new : Lost) (rest : List ℕ) → Holds known before → a ≡ b → new ≡ faulty_lost known.tables a rest → new ≡ faulty_lost (tables before) b rest
lost_then known before a b new rest h l e = e ∙ ap₂ (λ (t : Tables) (x : Lost). faulty_lost t x rest) h.tables l
