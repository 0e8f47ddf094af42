-- Texts of which a first part is written.
use Rattle.std.proofs.Common.{◌≡◌, ℕ, ◌+◌, List, [], ◌++◌, length, take, Option, Some, None, sym, ◌∙◌, append-nil, inl, inr, subst, arith}
use Rattle.std.proofs.Math.Seq.{take-append-add}
use Rattle.std.proofs.KnownBytes.{Appends-trans}
use Rattle.std.proofs.lemmas.Bool.Decides.{leb_tells}
use Rattle.std.proofs.lemmas.List.{take-append-le, take_all}
use Rattle.std.specs.Io.KnownBytes.{Appends}
use Rattle.dump_lines.specs.Parts.{AppendsFewer, AppendsPart}

-- Nothing is appended.
pub appends_nothing : (known : Option (List ℕ)) → Appends known known []
appends_nothing None = tt
appends_nothing (Some x) = sym (append-nil x)

-- Nothing is written yet.
pub part_none : (known : Option (List ℕ)) (text : List ℕ) → AppendsPart known known text
part_none known text = record { count = 0; appended = appends_nothing known }

-- All is written.
pub part_all : (before after : Option (List ℕ)) (text : List ℕ) → Appends before after text → AppendsPart before after text
part_all before after text h = record { count = length text; appended = subst (λ (t : List ℕ). Appends before after t) (sym (take_all (length text) text (omega arith))) h }

-- Fewer bytes than all are written.
pub part_fewer : (before after : Option (List ℕ)) (text : List ℕ) → AppendsFewer before after text → AppendsPart before after text
part_fewer before after text h = record { count = h.count; appended = h.appended }

-- A text is written, and a part of the next.
pub part_then : (before middle after : Option (List ℕ)) (text rest : List ℕ) → Appends before middle text → AppendsPart middle after rest → AppendsPart before after (text ++ rest)
part_then before middle after text rest first next = record {
  count = length text + next.count;
  appended = subst (λ (t : List ℕ). Appends before after t) (sym (take-append-add text rest next.count)) (Appends-trans before middle after text (take next.count rest) first next.appended);
}

-- A part of a text is written, and nothing of the next.
pub part_more : (before after : Option (List ℕ)) (text rest : List ℕ) → AppendsPart before after text → AppendsPart before after (text ++ rest)
part_more before after text rest h =
    elim (leb_tells h.count (length text)) [
      | inl low ↦ record { count = h.count; appended = subst (λ (t : List ℕ). Appends before after t) (sym (take-append-le h.count text rest low.1)) h.appended }
      | inr high ↦
          let whole : take h.count text ≡ take (length text) (text ++ rest) =
          take_all h.count text (omega (arith, high.1)) ∙ sym (take-append-le (length text) text rest (omega arith) ∙ take_all (length text) text (omega arith)) in
          record { count = length text; appended = subst (λ (t : List ℕ). Appends before after t) whole h.appended }
    ]
