-- What is read of a journal.
use Rattle.std.proofs.Common.{◌≡◌, ◌≢◌, ℕ, zero, suc, ◌≤◌, ◌==◌, List, [], ◌∷◌, ◌++◌, length, take, Bool, true, false, ◌&&◌, Option, Some, None, option_map, refl, ap, ◌∙◌, arith, inl, inr, ◌⊎◌}
use Rattle.std.proofs.Common.{append_assoc}
use Rattle.std.specs.List.{All}
use Rattle.std.specs.Prelude.{codes, if◌then◌else◌}
use Rattle.std.specs.Option.{option_map_or}
use Rattle.std.specs.Str.{bytes_eq}
use Rattle.std.proofs.lemmas.List.Elements.{All-head, All-tail}
use Rattle.serde_json.specs.Data.{Data, Members}
use Rattle.serde_json.specs.Find.{as_object}
use Rattle.serde_json.specs.Written.{compact_text}
use Rattle.job_language.specs.declared.answers.Moved.{Moved}
use Rattle.job_language.specs.declared.answers.Moved.TheVariants.{Ran, Freed}
use Rattle.job_language.specs.declared.steps.Entry.{Entry}
use Rattle.job_language.specs.declared.tenants.Tenant.{Tenant}
use Rattle.job_json.specs.Json.{has_members}
use Rattle.serde_json.specs.Events.{members_len}
use Rattle.request_reader.specs.LineAsks.{value_in}
use Rattle.job_json.specs.Instruction.{below}
use Rattle.dump_lines.specs.Lines.{advance, entry_in, ask_in, arrival_in, advance_in, moved_in, nested_in, said_by, said_in_value}
use Rattle.dump_lines.specs.Replies.{is_word, number, only, two}
use Rattle.dump_lines.specs.Requests.{tenant_in, tenant_in_value}
use Rattle.dump_lines.specs.Written.{entry_data, first_data}
use Rattle.part_lines.specs.Parts.{IsTornOf, whole_lines}
use Rattle.part_lines.specs.Journals.{Mark, names, says, mark_text, marks_text, IsMark, mark_of, mark_in, mark_before, marks_said, journal_in, entries_for, KeepsMarks, InventsNoMarks}
use Rattle.part_lines.specs.Journals.{FirstLinesHaveFirstEntries}
use Rattle.part_lines.proofs.Printed.{value_printed}
use Rattle.part_lines.proofs.Torn.{line_off, line_of, entry_off, entry_said, torn_line, torn_entry, only_holes}

either_none : {A : Type 0} (b : Bool) (x y : Option A) → x ≡ None → y ≡ None → (if b then x else y) ≡ None
either_none true x y no_x no_y = no_x
either_none false x y no_x no_y = no_y

two_none : {A B C : Type 0} (make : A → B → C) (a : Option A) (b : Option B) → b ≡ None → two make a b ≡ None
two_none make None b none = refl
two_none make (Some x) b none = ap (option_map (make x)) none

-- A value with one member has no other number of them.
one_only : (o : Option Members) (n : ℕ) → option_map_or (λ ms. members_len ms == 1) o false ≡ true → 1 ≢ n → option_map_or (λ ms. members_len ms == n) o false ≡ false
one_only None n one other = refl
one_only (Some ms) n one other = let is : members_len ms ≡ 1 = grind (arith, one) in rw is (grind (arith, other))

only_some : {A : Type 0} (b : Bool) (it : Option A) (x : A) → (if b then it else None) ≡ Some x → b ≡ true
only_some true it x is = refl
only_some false it x is = cc

-- so it is no entry
ask_none : (d : Data) → has_members 3 d ≡ false → ask_in d ≡ None
ask_none d other = rw other refl

arrival_none : (d : Data) → has_members 4 d ≡ false → arrival_in d ≡ None
arrival_none d other = rw other refl

moved_none : (d : Data) → has_members 3 d ≡ false → has_members 4 d ≡ false → moved_in d ≡ None
moved_none d no3 no4 =
    let plain : (m : Option (Option Moved)) → only 3 d m ≡ None = λ m. rw no3 refl in
    let nested : nested_in d ≡ None = rw no4 refl in
    let ran = is_word (codes "moved") (codes "ran") d in
    let freed = is_word (codes "moved") (codes "freed") d in
    let nest = is_word (codes "moved") (codes "nested") d in
    let last : (if nest then nested_in d else None) ≡ None = either_none nest (nested_in d) None nested refl in
    let later : (if freed then only 3 d (Some (Some Freed)) else if nest then nested_in d else None) ≡ None =
    either_none freed (only 3 d (Some (Some Freed))) (if nest then nested_in d else None) (plain (Some (Some Freed))) last in
    either_none ran (only 3 d (Some (Some Ran))) (if freed then only 3 d (Some (Some Freed)) else if nest then nested_in d else None) (plain (Some (Some Ran))) later

advance_none : (d : Data) → moved_in d ≡ None → advance_in d ≡ None
advance_none d none = two_none (two advance) (number (below 256) (codes "slot") d) (moved_in d) none

not_entry : (d : Data) → has_members 1 d ≡ true → entry_in d ≡ None
not_entry d one =
    let no3 : has_members 3 d ≡ false = one_only (as_object d) 3 one (λ e. omega (arith, e)) in
    let no4 : has_members 4 d ≡ false = one_only (as_object d) 4 one (λ e. omega (arith, e)) in
    let asks = is_word (codes "step") (codes "ask") d in
    let arrives = is_word (codes "step") (codes "arrive") d && is_word (codes "moved") (codes "arrived") d in
    let advances = is_word (codes "step") (codes "advance") d in
    let last : (if advances then advance_in d else None) ≡ None = either_none advances (advance_in d) None (advance_none d (moved_none d no3 no4)) refl in
    let later : (if arrives then arrival_in d else if advances then advance_in d else None) ≡ None =
    either_none arrives (arrival_in d) (if advances then advance_in d else None) (arrival_none d no4) last in
    either_none asks (ask_in d) (if arrives then arrival_in d else if advances then advance_in d else None) (ask_none d no3) later

said_nothing : (d : Data) → entry_in d ≡ None → said_in_value d ≡ None
said_nothing d none = rw none refl

named : (line : List ℕ) (c : Tenant) (o : Option Data) → value_in line ≡ o → tenant_in line ≡ Some c → mark_in line ≡ Some (names c)
named line c None is tenant = let none : tenant_in line ≡ None = rw is refl in cc
named line c (Some d) is tenant =
    let it : tenant_in_value d ≡ Some c = rw is at tenant in
    let one : has_members 1 d ≡ true = only_some (has_members 1 d) _ c it in
    let said_none : said_by line ≡ None = rw is (said_nothing d (not_entry d one)) in
    ap (λ s. mark_of s (tenant_in line)) said_none ∙ ap (mark_of None) tenant

abbrev mark_line : Mark → List ℕ
mark_line (names c) = compact_text (first_data c)
mark_line (says e) = line_of (entry_data e)

mark_read : (m : Mark) → IsMark m → mark_in (mark_line m) ≡ Some m
mark_read (names c) is = named (compact_text (first_data c)) c (value_in (compact_text (first_data c))) refl is
mark_read (says e) is = ap (λ s. mark_of s (tenant_in (line_of (entry_data e)))) (entry_said e (entry_data e) refl is.0 is.1)

mark_off : (m : Mark) (rest : List ℕ) → IsMark m → whole_lines (mark_text m ++ rest) ≡ mark_line m ∷ whole_lines rest
mark_off (names c) rest is = line_off (compact_text (first_data c)) rest (value_printed (first_data c))
mark_off (says e) rest is = entry_off (entry_data e) rest is.0

mark_torn : (m : Mark) (rest left : List ℕ) → IsMark m → IsTornOf (mark_text m ++ rest) left → (whole_lines left ≡ []) ⊎ ((more : List ℕ) × (left ≡ mark_text m ++ more) × IsTornOf rest more)
mark_torn (names c) rest left is torn = torn_line (compact_text (first_data c)) rest left (value_printed (first_data c)) torn
mark_torn (says e) rest left is torn = torn_entry (entry_data e) rest left is.0 torn

-- a line that is whole is read
one_read : (m : Mark) (rest : List ℕ) → IsMark m → journal_in (mark_text m ++ rest) ≡ m ∷ journal_in rest
one_read m rest is = ap marks_said (mark_off m rest is) ∙ ap (λ o. mark_before o (journal_in rest)) (mark_read m is)

pub read_with : (ms : List Mark) (rest : List ℕ) → All IsMark ms → journal_in (marks_text ms ++ rest) ≡ ms ++ journal_in rest
read_with [] rest is = refl
read_with (m ∷ ms) rest is =
    ap journal_in (append_assoc (mark_text m) (marks_text ms) rest)
    ∙ one_read m (marks_text ms ++ rest) (All-head IsMark m ms is)
    ∙ ap (λ (x : List Mark). m ∷ x) (read_with ms rest (All-tail IsMark m ms is))

pub marks_kept : (ms : List Mark) → All IsMark ms → KeepsMarks ms
marks_kept ms is tail = (journal_in tail, read_with ms tail is)

torn_marks : (ns : List Mark) (left : List ℕ) → All IsMark ns → IsTornOf (marks_text ns) left → (k : ℕ) × (k ≤ length ns) × (journal_in left ≡ take k ns)
torn_marks [] left is torn = (0, omega arith, ap marks_said (only_holes left torn))
torn_marks (n ∷ ns) left is torn = elim (mark_torn n (marks_text ns) left (All-head IsMark n ns is) torn) [
  | inl none ↦ (0, omega arith, ap marks_said none)
  | inr whole ↦
      let next = torn_marks ns whole.0 (All-tail IsMark n ns is) whole.2 in
      let few = next.1 in
      (suc next.0, omega (arith, few), ap journal_in whole.1 ∙ one_read n whole.0 (All-head IsMark n ns is) ∙ ap (λ (x : List Mark). n ∷ x) next.2)
]

pub marks_torn : (ms : List Mark) → All IsMark ms → InventsNoMarks ms
marks_torn ms is ns left all torn =
    let some = torn_marks ns left all torn in
    (some.0, some.1, read_with ms left is ∙ ap (λ (x : List Mark). ms ++ x) some.2)

-- the first lines have the first entries
first_entries : (ms : List Mark) (name : List ℕ) (mine : Bool) (k : ℕ) → (j : ℕ) × (entries_for name mine (take k ms) ≡ take j (entries_for name mine ms))
first_entries ms name mine zero = (0, refl)
first_entries [] name mine (suc k) = (0, refl)
first_entries (names c ∷ ms) name mine (suc k) = first_entries ms name (bytes_eq c.name name) k
first_entries (says e ∷ ms) name true (suc k) = let next = first_entries ms name true k in (suc next.0, ap (λ (x : List Entry). e ∷ x) next.1)
first_entries (says e ∷ ms) name false (suc k) = first_entries ms name false k

pub entries_first : (ms : List Mark) → FirstLinesHaveFirstEntries ms
entries_first ms name mine k = first_entries ms name mine k
