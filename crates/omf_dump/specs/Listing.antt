-- The list of an input: the lines of each module, which are its verdict or its names (this profile's rule).
use Rattle.std.specs.Prelude.{◌≡◌, ℕ, ◌+◌, List, [], ◌∷◌, ◌++◌, flat_map, Bool, true, false, ◌||◌, Option, option_map, Result, Ok, Err, codes, decimal, if◌then◌else◌}
use Rattle.std.specs.List.{list_any}
use Rattle.omf_frame.specs.Framing.{front_record, is_header}
use Rattle.omf_library.specs.Library.{HasHeader, page_size}
use Rattle.omf_library.specs.Spans.{AreSpansIn}
use Rattle.omf_library.specs.declared.spans.Span.{Span}
use Rattle.omf_library.specs.declared.spans.SpanFault.{SpanFault}
use Rattle.omf_library.specs.declared.spans.SpanFault.TheVariants as fault
use Rattle.omf_dump.specs.Comments.{counted}
use Rattle.omf_dump.specs.Csv.{csv_name, csv_quoted}
use Rattle.omf_dump.specs.Later.{front_kind}
use Rattle.omf_dump.specs.Library.{Member, Shows, after_module}
use Rattle.omf_dump.specs.Names.{IsNamed}
use Rattle.omf_dump.specs.Render.{escaped, name_beside, quoted}
use Rattle.omf_dump.specs.Verdict.{IsVerdict, gap}
use Rattle.omf_dump.specs.declared.format.Format.TheVariants as format
use Rattle.omf_dump.specs.declared.format.Listing.{Listing}
use Rattle.omf_dump.specs.declared.format.Shape.{Shape}
use Rattle.omf_dump.specs.declared.format.Shape.TheVariants as shape
use Rattle.omf_dump.specs.declared.format.Subject.{Subject}
use Rattle.omf_dump.specs.declared.format.Subject.TheVariants as subject
use Rattle.omf_dump.specs.declared.position.Position.{Position}
use Rattle.omf_dump.specs.declared.position.Position.TheVariants as position

-- The names of the columns of comma-separated values, which are the first line of all. They are the keys of the objects.
abbrev pub columns : Subject → List ℕ
columns subject.Verdicts = codes "file,member,name,records,bytes,refused,reason,record,at,within,fault\n"
columns (subject.Names which) = codes "file,member,name,kind,local,segment,frame,offset,symbol,refused,reason,record,at,within,fault\n"

abbrev pub header_line : Shape → Subject → List ℕ
header_line shape.Text s = []
header_line shape.Json s = []
header_line shape.Csv s = columns s

-- The file's name, with which each line begins.
abbrev pub file_head : Shape → List ℕ → List ℕ
file_head shape.Text file = flat_map (escaped format.Text) file ++ codes ": "
file_head shape.Json file = codes "{\"file\":" ++ quoted format.Json file
file_head shape.Csv file = csv_quoted file

-- The number of a module in its file, from 0, after the word for it; and its name: that of its THEADR or LHEADR, if it is all there.
abbrev pub member_name : List ℕ → Option (List ℕ)
member_name bytes = option_map (λ p. p.0) (counted (front_record bytes).body)

abbrev pub numbered_head : Shape → List ℕ → ℕ → List ℕ → List ℕ
numbered_head shape.Text word number bytes = word ++ (codes " " ++ (decimal number ++ (name_beside format.Text (member_name bytes) ++ codes ": ")))
numbered_head shape.Json word number bytes = codes ",\"" ++ (word ++ (codes "\":" ++ (decimal number ++ name_beside format.Json (member_name bytes))))
numbered_head shape.Csv word number bytes = codes "," ++ (decimal number ++ (44 ∷ csv_name (member_name bytes)))

-- The same of the only module of a file: these cells are empty.
abbrev pub lone_head : Shape → List ℕ
lone_head shape.Text = []
lone_head shape.Json = []
lone_head shape.Csv = codes ",,"

-- Where a module is in its file, after the file's name: a member of a library, one of several modules, or the only one.
abbrev pub position_head : Shape → Position → List ℕ → List ℕ
position_head s position.Alone bytes = lone_head s
position_head s (position.Member number) bytes = numbered_head s (codes "member") number bytes
position_head s (position.Module number) bytes = numbered_head s (codes "module") number bytes

-- The lines of bytes as a module, after `head`, by whether they are refused.
abbrev pub IsListedAs : Subject → Listing → List ℕ → List ℕ → Bool → List ℕ → Type 0
IsListedAs subject.Verdicts l head input is_refused text = IsVerdict l head input is_refused text
IsListedAs (subject.Names which) l head input is_refused text = IsNamed l which head input is_refused text

abbrev pub IsListed : Listing → List ℕ → List ℕ → Bool → List ℕ → Type 0
IsListed l head input is_refused text = IsListedAs l.subject l head input is_refused text

-- The lines of members one after another, with their numbers from `number` on, by whether one of them is refused.
abbrev pub AreListed : Listing → List ℕ → ℕ → List Span → Bool → List ℕ → Type 0
AreListed l head number [] is_refused text = (is_refused ≡ false) × (text ≡ [])
AreListed l head number (m ∷ ms) is_refused text = (one others : Bool) × (line lines : List ℕ)
    × IsListed l (head ++ position_head l.shape (position.Member number) m.bytes.now) m.bytes.now one line × AreListed l head (number + 1) ms others lines
    × (is_refused ≡ (one || others)) × (text ≡ line ++ lines)

-- What is there in place of a member, after the last one, if it is no F1H.
abbrev pub fault_name : SpanFault → List ℕ
fault_name (fault.NoMember offset member) = codes "NoMember"
fault_name (fault.MemberCut offset member) = codes "MemberCut"
fault_name (fault.NoEnd offset member) = codes "NoEnd"

abbrev pub fault_spot : SpanFault → ℕ × ℕ
fault_spot (fault.NoMember offset member) = (member, offset)
fault_spot (fault.MemberCut offset member) = (member, offset)
fault_spot (fault.NoEnd offset member) = (member, offset)

abbrev pub fault_words : SpanFault → List ℕ
fault_words e = codes "fault " ++ (fault_name e ++ (codes " member " ++ (decimal (fault_spot e).0 ++ (codes " at " ++ (decimal (fault_spot e).1 ++ codes "\n")))))

abbrev pub fault_object : SpanFault → List ℕ
fault_object e = codes ",\"fault\":\"" ++ (fault_name e ++ (codes "\",\"member\":" ++ (decimal (fault_spot e).0 ++ (codes ",\"at\":" ++ (decimal (fault_spot e).1 ++ codes "}\n")))))

-- The member's number, no name, the empty cells of what is listed and of a reason and a record, the offset, and after another empty cell the fault.
abbrev pub fault_cells : Subject → SpanFault → List ℕ
fault_cells s e = codes "," ++ (decimal (fault_spot e).0 ++ (44 ∷ (gap s shape.Csv ++ (codes ",,,," ++ (decimal (fault_spot e).1 ++ (codes ",," ++ (fault_name e ++ codes "\n")))))))

abbrev pub fault_text : Subject → Shape → SpanFault → List ℕ
fault_text s shape.Text e = fault_words e
fault_text s shape.Json e = fault_object e
fault_text s shape.Csv e = fault_cells s e

abbrev pub IsEndListed : Listing → List ℕ → Result ℕ SpanFault → Bool → List ℕ → Type 0
IsEndListed l head (Ok end) is_refused text = (is_refused ≡ false) × (text ≡ [])
IsEndListed l head (Err e) is_refused text = (is_refused ≡ true) × (text ≡ head ++ fault_text l.subject l.shape e)

-- The lines of a library: those of each member, by the lengths of its records alone, and one for what is there in place of a member.
pub record IsLibraryListed (l : Listing) (head bytes : List ℕ) (is_refused : Bool) (text : List ℕ) : Type 0 where
  pub members : List Span
  pub end : Result ℕ SpanFault
  pub spans : AreSpansIn bytes (page_size bytes) members end
  pub has_refused : Bool
  pub lines : List ℕ
  pub listed : AreListed l head 0 members has_refused lines
  pub is_faulty : Bool
  pub last : List ℕ
  pub ended : IsEndListed l head end is_faulty last
  pub refused : is_refused ≡ (has_refused || is_faulty)
  pub whole : text ≡ lines ++ last

-- The only module of a file has no number, the first of several has 0. `rest` is what follows the first one and its padding.
abbrev pub first_position : List ℕ → Position
first_position rest = if is_header (front_kind rest) then position.Module 0 else position.Alone

-- The lines of the modules that bytes begin with, one after another, with their numbers from `number` on, while a THEADR or an LHEADR is there.
abbrev pub AreFurther : Listing → List ℕ → ℕ → List ℕ → List Member → Type 0
AreFurther l head number bytes [] = is_header (front_kind bytes) ≡ false
AreFurther l head number bytes (m ∷ ms) = (is_header (front_kind bytes) ≡ true)
    × IsListed l (head ++ position_head l.shape (position.Module number) bytes) bytes m.is_refused m.text
    × AreFurther l head (number + 1) (after_module bytes) ms

-- The lines of a file that is no library: those of the module that it begins with, and of the modules that follow. It is refused if one of them is.
pub record AreModulesListed (l : Listing) (head bytes : List ℕ) (is_refused : Bool) (text : List ℕ) : Type 0 where
  pub first : Member
  pub first_is : IsListed l (head ++ position_head l.shape (first_position (after_module bytes)) bytes) bytes first.is_refused first.text
  pub others : List Member
  pub others_are : AreFurther l head 1 (after_module bytes) others
  pub refused : is_refused ≡ list_any (λ m. m.is_refused) (first ∷ others)
  pub whole : text ≡ flat_map (λ m. m.text) (first ∷ others)

-- What is written for an input, by whether it is refused: a library if it has the header of one, else modules.
pub record IsInputListed (l : Listing) (file input : List ℕ) (is_refused : Bool) (old new : Option (List ℕ)) : Type 0 where
  pub library : HasHeader input → Shows old new (IsLibraryListed l (file_head l.shape file) input is_refused)
  pub others : (HasHeader input → ⊥) → Shows old new (AreModulesListed l (file_head l.shape file) input is_refused)
