-- What is read of a part.
use Rattle.std.proofs.Common.{◌≡◌, ℕ, suc, ◌≤◌, List, [], ◌∷◌, ◌++◌, length, take, map, Option, Some, None, refl, sym, ap, ap₂, ◌∙◌, arith, inl, inr, ◌⊎◌, ne_eqb, append_assoc, append-nil}
use Rattle.std.specs.List.{All}
use Rattle.std.specs.Prelude.{IsSome}
use Rattle.std.specs.Option.{option_map_or}
use Rattle.std.proofs.lemmas.List.Elements.{All-head, All-tail}
use Rattle.serde_json.specs.Data.{Data}
use Rattle.serde_json.specs.Written.{compact_text}
use Rattle.job_language.specs.declared.steps.Entry.{Entry}
use Rattle.job_language.specs.declared.tenants.Tenant.{Tenant}
use Rattle.request_reader.specs.Lines.{newline}
use Rattle.dump_lines.specs.Dumps.{line_text, first_text, entry_text, entries_text, dump_text, HasLine, NamesItself, SaysItself}
use Rattle.dump_lines.specs.Lines.{said_by}
use Rattle.dump_lines.specs.Written.{entry_data, first_data}
use Rattle.dump_lines.specs.declared.lines.Said.TheVariants as said
use Rattle.part_lines.specs.Parts.{hole, before_first, whole_lines, entry_before, entries_said, part_of_lines, part_in, IsTornOf, KeepsWhatIsThere, InventsNothing}
use Rattle.part_lines.proofs.Printed.{IsPrinted, value_printed}

-- a byte of a printed line
printed_byte : (b : ℕ) (bytes : List ℕ) → 32 ≤ b → whole_lines (b ∷ bytes) ≡ before_first b (whole_lines bytes)
printed_byte b bytes big = rw (ne_eqb b hole (λ e. omega arith), ne_eqb b newline (λ e. omega arith)) refl

-- A printed line with its newline comes off.
pub line_off : (text rest : List ℕ) → IsPrinted text → whole_lines (line_text text ++ rest) ≡ text ∷ whole_lines rest
line_off [] rest h = refl
line_off (b ∷ text) rest h =
    printed_byte b (line_text text ++ rest) (All-head (λ b. 32 ≤ b) b text h)
    ∙ ap (before_first b) (line_off text rest (All-tail (λ b. 32 ≤ b) b text h))

abbrev pub text_of : Option Data → List ℕ
text_of d = option_map_or (λ d. line_text (compact_text d)) d []

abbrev pub line_of : Option Data → List ℕ
line_of d = option_map_or compact_text d []

abbrev entry_lines : List Entry → List (List ℕ)
entry_lines es = map (λ e. option_map_or compact_text (entry_data e) []) es

pub entry_off : (d : Option Data) (rest : List ℕ) → IsSome d → whole_lines (text_of d ++ rest) ≡ line_of d ∷ whole_lines rest
entry_off None rest h = cc
entry_off (Some d) rest h = line_off (compact_text d) rest (value_printed d)

entries_off : (es : List Entry) (rest : List ℕ) → All HasLine es → whole_lines (entries_text es ++ rest) ≡ entry_lines es ++ whole_lines rest
entries_off [] rest h = refl
entries_off (e ∷ es) rest h =
    ap whole_lines (append_assoc (entry_text e) (entries_text es) rest)
    ∙ entry_off (entry_data e) (entries_text es ++ rest) (All-head HasLine e es h)
    ∙ ap (λ (lines : List (List ℕ)). line_of (entry_data e) ∷ lines) (entries_off es rest (All-tail HasLine e es h))

dump_off : (c : Tenant) (es : List Entry) (rest : List ℕ) → All HasLine es → whole_lines (dump_text c es ++ rest) ≡ compact_text (first_data c) ∷ (entry_lines es ++ whole_lines rest)
dump_off c es rest h =
    ap whole_lines (append_assoc (first_text c) (entries_text es) rest)
    ∙ line_off (compact_text (first_data c)) (entries_text es ++ rest) (value_printed (first_data c))
    ∙ ap (λ (lines : List (List ℕ)). compact_text (first_data c) ∷ lines) (entries_off es rest h)

-- A line that says its entry gives it.
pub entry_said : (e : Entry) (d : Option Data) → entry_data e ≡ d → HasLine e → SaysItself e → said_by (line_of d) ≡ Some (said.Entry e)
entry_said e None is line says = cc
entry_said e (Some d) is line says = rw is at says

said_off : (es : List Entry) (rest : List (List ℕ)) → All HasLine es → All SaysItself es → entries_said (entry_lines es ++ rest) ≡ es ++ entries_said rest
said_off [] rest h k = refl
said_off (e ∷ es) rest h k =
    ap (λ o. entry_before o (entries_said (entry_lines es ++ rest))) (entry_said e (entry_data e) refl (All-head HasLine e es h) (All-head SaysItself e es k))
    ∙ ap (λ (x : List Entry). e ∷ x) (said_off es rest (All-tail HasLine e es h) (All-tail SaysItself e es k))

read_with : (c : Tenant) (es : List Entry) (rest : List ℕ) → NamesItself c → All HasLine es → All SaysItself es → part_in (dump_text c es ++ rest) ≡ Some (c, es ++ entries_said (whole_lines rest))
read_with c es rest names h k =
    ap part_of_lines (dump_off c es rest h)
    ∙ rw names (ap (λ (x : List Entry). Some (c, x)) (said_off es (whole_lines rest) h k))

pub reads_whole : (c : Tenant) (es : List Entry) → NamesItself c → All HasLine es → All SaysItself es → part_in (dump_text c es) ≡ Some (c, es)
reads_whole c es names h k =
    ap part_in (sym (append-nil (dump_text c es))) ∙ read_with c es [] names h k ∙ ap (λ (x : List Entry). Some (c, x)) (append-nil es)

pub reads_kept : (c : Tenant) (es : List Entry) → NamesItself c → All HasLine es → All SaysItself es → KeepsWhatIsThere c es
reads_kept c es names h k tail = (entries_said (whole_lines tail), read_with c es tail names h k)

-- A line that is torn is no whole line, and neither is one after it; one that is not torn comes off.
pub torn_line : (text rest left : List ℕ) → IsPrinted text → IsTornOf (line_text text ++ rest) left → (whole_lines left ≡ []) ⊎ ((more : List ℕ) × (left ≡ line_text text ++ more) × IsTornOf rest more)
torn_line [] rest [] h torn = inl refl
torn_line [] rest (b ∷ left) h torn = elim torn.0 [
  | inl same ↦ inr (left, ap (λ (x : ℕ). x ∷ left) same, torn.1)
  | inr gone ↦ inl (rw gone refl)
]
torn_line (a ∷ text) rest [] h torn = inl refl
torn_line (a ∷ text) rest (b ∷ left) h torn = elim torn.0 [
  | inl same ↦ elim (torn_line text rest left (All-tail (λ b. 32 ≤ b) a text h) torn.1) [
    | inl none ↦
        let big : 32 ≤ b = rw same (All-head (λ b. 32 ≤ b) a text h) in
        inl (printed_byte b left big ∙ ap (before_first b) none)
    | inr whole ↦ inr (whole.0, ap₂ (λ (x : ℕ) (xs : List ℕ). x ∷ xs) same whole.1, whole.2)
  ]
  | inr gone ↦ inl (rw gone refl)
]

pub torn_entry : (d : Option Data) (rest left : List ℕ) → IsSome d → IsTornOf (text_of d ++ rest) left → (whole_lines left ≡ []) ⊎ ((more : List ℕ) × (left ≡ text_of d ++ more) × IsTornOf rest more)
torn_entry None rest left h torn = absurd (cc)
torn_entry (Some d) rest left h torn = torn_line (compact_text d) rest left (value_printed d) torn

pub only_holes : (left : List ℕ) → IsTornOf [] left → whole_lines left ≡ []
only_holes [] torn = refl
only_holes (b ∷ left) torn = rw torn.0 refl

torn_entries : (ds : List Entry) (left : List ℕ) → All HasLine ds → All SaysItself ds → IsTornOf (entries_text ds) left → (k : ℕ) × (k ≤ length ds) × (entries_said (whole_lines left) ≡ take k ds)
torn_entries [] left h says torn = (0, omega arith, ap entries_said (only_holes left torn))
torn_entries (d ∷ ds) left h says torn = elim (torn_entry (entry_data d) (entries_text ds) left (All-head HasLine d ds h) torn) [
  | inl none ↦ (0, omega arith, ap entries_said none)
  | inr whole ↦
      let next = torn_entries ds whole.0 (All-tail HasLine d ds h) (All-tail SaysItself d ds says) whole.2 in
      let few = next.1 in (
        suc next.0,
        omega (arith, few),
        ap (λ (x : List ℕ). entries_said (whole_lines x)) whole.1
            ∙ ap entries_said (entry_off (entry_data d) whole.0 (All-head HasLine d ds h))
            ∙ ap (λ o. entry_before o (entries_said (whole_lines whole.0))) (entry_said d (entry_data d) refl (All-head HasLine d ds h) (All-head SaysItself d ds says))
            ∙ ap (λ (x : List Entry). d ∷ x) next.2,
      )
]

pub invents_nothing : (c : Tenant) (es : List Entry) → NamesItself c → All HasLine es → All SaysItself es → InventsNothing c es
invents_nothing c es names h k ds left lines says torn =
    let some = torn_entries ds left lines says torn in
    (some.0, some.1, read_with c es left names h k ∙ ap (λ (x : List Entry). Some (c, es ++ x)) some.2)
