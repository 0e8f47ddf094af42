-- What a part says: a file to which a tenant's dump was being written, of which a crash may have torn the end.
use Rattle.std.specs.Prelude.{◌≡◌, ◌⊎◌, ◌≤◌, ◌==◌, ℕ, List, [], ◌∷◌, ◌++◌, Option, Some, None, length, option_map, take, if◌then◌else◌, All}
use Rattle.job_language.specs.declared.steps.Entry.{Entry}
use Rattle.job_language.specs.declared.tenants.Tenant.{Tenant}
use Rattle.request_reader.specs.Lines.{newline}
use Rattle.dump_lines.specs.Dumps.{HasLine, SaysItself, dump_text, entries_text}
use Rattle.dump_lines.specs.Lines.{said_by}
use Rattle.dump_lines.specs.Requests.{tenant_in}
use Rattle.dump_lines.specs.declared.lines.Said.{Said}
use Rattle.dump_lines.specs.declared.lines.Said.TheVariants as said

-- the byte that a file gives where nothing was written
abbrev pub hole : ℕ
hole = 0

-- a byte before the first of some lines; without a line that is whole, nothing
abbrev pub before_first : ℕ → List (List ℕ) → List (List ℕ)
before_first b [] = []
before_first b (text ∷ texts) = (b ∷ text) ∷ texts

-- the lines that newlines end, up to the first that has a hole
abbrev pub whole_lines : List ℕ → List (List ℕ)
whole_lines [] = []
whole_lines (b ∷ bytes) = if b == hole then [] else if b == newline then [] ∷ whole_lines bytes else before_first b (whole_lines bytes)

-- an entry before others, if a line says one; else nothing
abbrev pub entry_before : Option Said → List Entry → List Entry
entry_before (Some (said.Entry e)) es = e ∷ es
entry_before other es = []

-- the entries that lines say, up to the first that says none
abbrev pub entries_said : List (List ℕ) → List Entry
entries_said [] = []
entries_said (line ∷ lines) = entry_before (said_by line) (entries_said lines)

abbrev pub part_of_lines : List (List ℕ) → Option (Tenant × List Entry)
part_of_lines [] = None
part_of_lines (line ∷ lines) = option_map (λ c. (c, entries_said lines)) (tenant_in line)

-- what a part says: its tenant, and the entries of its whole lines
abbrev pub part_in : List ℕ → Option (Tenant × List Entry)
part_in bytes = part_of_lines (whole_lines bytes)

-- What a crash left of a text that was not on the disk yet: each byte is there, or there is a hole in its place, also past
-- its end; and it may end anywhere.
abbrev pub IsTornOf : (text left : List ℕ) → Type 0
IsTornOf text [] = Unit {0}
IsTornOf [] (b ∷ left) = (b ≡ hole) × IsTornOf [] left
IsTornOf (a ∷ text) (b ∷ left) = ((b ≡ a) ⊎ (b ≡ hole)) × IsTornOf text left

-- Whatever follows the text of a dump, its tenant and its entries are read, and maybe more.
abbrev pub KeepsWhatIsThere : Tenant → List Entry → Type 0
KeepsWhatIsThere c es = (tail : List ℕ) → (more : List Entry) × (part_in (dump_text c es ++ tail) ≡ Some (c, es ++ more))

-- If what follows is torn of the text of further entries, only such are read, from the first on.
abbrev pub InventsNothing : Tenant → List Entry → Type 0
InventsNothing c es = (ds : List Entry) (left : List ℕ) → All HasLine ds → All SaysItself ds → IsTornOf (entries_text ds) left →
    (k : ℕ) × (k ≤ length ds) × (part_in (dump_text c es ++ left) ≡ Some (c, es ++ take k ds))
