-- The text of a dump.
use Rattle.std.specs.Prelude.{◌≡◌, ℕ, List, [], ◌∷◌, ◌++◌, Some, map, IfSome, IsSome}
use Rattle.std.specs.Option.{option_map_or}
use Rattle.serde_json.specs.Written.{compact_text}
use Rattle.job_language.specs.declared.steps.Entry.{Entry}
use Rattle.job_language.specs.declared.tenants.Tenant.{Tenant}
use Rattle.request_reader.specs.Lines.{split_lines}
use Rattle.dump_lines.specs.Lines.{said_by}
use Rattle.dump_lines.specs.Requests.{tenant_in}
use Rattle.dump_lines.specs.Written.{entry_data, first_data}
use Rattle.dump_lines.specs.declared.lines.Said.TheVariants as said

-- a line with its newline
abbrev pub line_text : List ℕ → List ℕ
line_text text = text ++ 10 ∷ []

abbrev pub first_text : Tenant → List ℕ
first_text c = line_text (compact_text (first_data c))

abbrev pub entry_text : Entry → List ℕ
entry_text e = option_map_or (λ d. line_text (compact_text d)) (entry_data e) []

-- a history may hold it
abbrev pub HasLine : Entry → Type 0
HasLine e = IsSome (entry_data e)

abbrev pub entries_text : List Entry → List ℕ
entries_text [] = []
entries_text (e ∷ es) = entry_text e ++ entries_text es

-- the tenant's line, and then one for each entry
abbrev pub dump_text : Tenant → List Entry → List ℕ
dump_text c es = first_text c ++ entries_text es

-- the same lines one by one, without newlines
abbrev pub line_texts : Tenant → List Entry → List (List ℕ)
line_texts c es = compact_text (first_data c) ∷ map (λ e. option_map_or compact_text (entry_data e) []) es

-- the tenant's line names it
abbrev pub NamesItself : Tenant → Type 0
NamesItself c = tenant_in (compact_text (first_data c)) ≡ Some c

-- its line says it
abbrev pub SaysItself : Entry → Type 0
SaysItself e = IfSome (entry_data e) (λ d. said_by (compact_text d) ≡ Some (said.Entry e))

-- The lines of the text are one that names the tenant, and then one that says each entry, in order.
pub record ReadsBack (text : List ℕ) (c : Tenant) (es : List Entry) : Type 0 where
  pub first : List ℕ
  pub rest : List (List ℕ)
  pub lines : split_lines text ≡ first ∷ rest
  pub tenant : tenant_in first ≡ Some c
  pub entries : map said_by rest ≡ map (λ e. Some (said.Entry e)) es
