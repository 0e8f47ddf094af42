-- What a journal says: a file to which the dumps of several tenants are written at once. A line that names a tenant comes
-- before each slice of its entries.
use Rattle.std.specs.Prelude.{◌≡◌, ◌≤◌, ℕ, Bool, List, [], ◌∷◌, ◌++◌, Option, Some, None, length, take, if◌then◌else◌, All}
use Rattle.std.specs.Str.{bytes_eq}
use Rattle.job_language.specs.declared.steps.Entry.{Entry}
use Rattle.job_language.specs.declared.tenants.Tenant.{Tenant}
use Rattle.dump_lines.specs.Dumps.{HasLine, NamesItself, SaysItself, entry_text, first_text}
use Rattle.dump_lines.specs.Lines.{said_by}
use Rattle.dump_lines.specs.Requests.{tenant_in}
use Rattle.dump_lines.specs.declared.lines.Said.{Said}
use Rattle.dump_lines.specs.declared.lines.Said.TheVariants as said
use Rattle.part_lines.specs.Parts.{IsTornOf, whole_lines}

-- a line: a tenant whose entries follow, or an entry
pub data Mark : Type 0 where
  names : Tenant → Mark
  says : Entry → Mark

abbrev pub mark_text : Mark → List ℕ
mark_text (names c) = first_text c
mark_text (says e) = entry_text e

abbrev pub marks_text : List Mark → List ℕ
marks_text [] = []
marks_text (m ∷ ms) = mark_text m ++ marks_text ms

-- its line reads back
abbrev pub IsMark : Mark → Type 0
IsMark (names c) = NamesItself c
IsMark (says e) = HasLine e × SaysItself e

abbrev pub mark_of : Option Said → Option Tenant → Option Mark
mark_of (Some (said.Entry e)) tenant = Some (says e)
mark_of other (Some c) = Some (names c)
mark_of other None = None

abbrev pub mark_in : List ℕ → Option Mark
mark_in line = mark_of (said_by line) (tenant_in line)

abbrev pub mark_before : Option Mark → List Mark → List Mark
mark_before (Some m) ms = m ∷ ms
mark_before None ms = []

-- what lines mark, up to the first that marks nothing
abbrev pub marks_said : List (List ℕ) → List Mark
marks_said [] = []
marks_said (line ∷ lines) = mark_before (mark_in line) (marks_said lines)

abbrev pub journal_in : List ℕ → List Mark
journal_in bytes = marks_said (whole_lines bytes)

-- the entries of the tenant of that name, if those that come first are its own or are not
abbrev pub entries_for : List ℕ → Bool → List Mark → List Entry
entries_for name mine [] = []
entries_for name mine (names c ∷ ms) = entries_for name (bytes_eq c.name name) ms
entries_for name mine (says e ∷ ms) = if mine then e ∷ entries_for name mine ms else entries_for name mine ms

-- Whatever follows the text of a journal, all its lines are read, and maybe more.
abbrev pub KeepsMarks : List Mark → Type 0
KeepsMarks ms = (tail : List ℕ) → (more : List Mark) × (journal_in (marks_text ms ++ tail) ≡ ms ++ more)

-- If what follows is torn of the text of further lines, only such are read, from the first on.
abbrev pub InventsNoMarks : List Mark → Type 0
InventsNoMarks ms = (ns : List Mark) (left : List ℕ) → All IsMark ns → IsTornOf (marks_text ns) left → (k : ℕ) × (k ≤ length ns) × (journal_in (marks_text ms ++ left) ≡ ms ++ take k ns)

-- The entries of a tenant in the first lines of a journal are the first of its entries.
abbrev pub FirstLinesHaveFirstEntries : List Mark → Type 0
FirstLinesHaveFirstEntries ms = (name : List ℕ) (mine : Bool) (k : ℕ) → (j : ℕ) × (entries_for name mine (take k ms) ≡ take j (entries_for name mine ms))
