-- Entries one after another, as text.
use Rattle.std.proofs.Common.{◌≡◌, ℕ, ◌+◌, ◌<◌, List, [], ◌∷◌, ◌++◌, length, drop, get_or, refl, sym, ap, ◌∙◌, subst, append_assoc, inl, inr, arith, Option, Some, None, option_map, string_bytes}
use Rattle.std.specs.Prelude.{IfSome, String}
use Rattle.std.specs.declared.alloc.Global.{Global}
use Rattle.std.specs.Option.{option_map_or}
use Rattle.std.proofs.lemmas.Bool.Decides.{eqb_tells}
use Rattle.std.proofs.lemmas.List.{drop_more, get_or_default}
use Rattle.serde_json.specs.Data.{Data}
use Rattle.serde_json.specs.Written.{compact_text}
use Rattle.job_language.specs.declared.steps.Entry.{Entry}
use Rattle.dump_lines.specs.Dumps.{entries_text, entry_text, line_text}
use Rattle.dump_lines.specs.Lines.{said_by}
use Rattle.dump_lines.specs.declared.lines.Said.TheVariants as said

pub texts_append : (es ds : List Entry) → entries_text (es ++ ds) ≡ entries_text es ++ entries_text ds
texts_append [] ds = refl
texts_append (e ∷ es) ds = ap (λ (t : List ℕ). entry_text e ++ t) (texts_append es ds) ∙ sym (append_assoc (entry_text e) (entries_text es) (entries_text ds))

pub text_more : (es : List Entry) (i : ℕ) (e : Entry) (s t : List ℕ) → i < length es → e ≡ get_or es i e → entries_text es ≡ s ++ entries_text (drop i es) → t ≡ s ++ entry_text e →
    entries_text es ≡ t ++ entries_text (drop (i + 1) es)
text_more es i e s t within is so_far more =
    let rest : entries_text (drop i es) ≡ entry_text e ++ entries_text (drop (i + 1) es) =
    ap entries_text (drop_more es i e within) ∙ ap (λ (d : Entry). entry_text d ++ entries_text (drop (i + 1) es)) (sym is) in
    so_far ∙ ap (λ (x : List ℕ). s ++ x) rest ∙ sym (append_assoc s (entry_text e) (entries_text (drop (i + 1) es))) ∙ ap (λ (x : List ℕ). x ++ entries_text (drop (i + 1) es)) (sym more)

pub one_more : (P : Entry → Type 0) (es : List Entry) (i : ℕ) (e : Entry) → i < length es → e ≡ get_or es i e → P e →
    ((k : ℕ) (d : Entry) → k < i → P (get_or es k d)) → (k : ℕ) (d : Entry) → k < i + 1 → P (get_or es k d)
one_more P es i e within is here before k d l =
    elim (eqb_tells k i) [
      | inl h ↦ subst (λ j. P (get_or es j d)) (sym h.1) (subst P (is ∙ get_or_default es i e d within) here)
      | inr h ↦ let ne = h.1 in before k d (omega (arith, l, ne))
    ]

-- what the line of an entry is
pub line_is : (e : Entry) (line : String Global) (d : Option Data) → Some (string_bytes line) ≡ option_map compact_text d →
    option_map_or (λ (d : Data). line_text (compact_text d)) d [] ≡ line_text (string_bytes line)
line_is e line None is = cc
line_is e line (Some d) is = let same : string_bytes line ≡ compact_text d = cc in rw same refl

pub line_says : (e : Entry) (line : String Global) (d : Option Data) → Some (string_bytes line) ≡ option_map compact_text d → said_by (string_bytes line) ≡ Some (said.Entry e) →
    IfSome d (λ d. said_by (compact_text d) ≡ Some (said.Entry e))
line_says e line None is reads = cc
line_says e line (Some d) is reads = let same : string_bytes line ≡ compact_text d = cc in rw same at reads
