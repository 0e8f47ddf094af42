-- The outcomes of some lines.
use Rattle.std.proofs.Common.{◌≡◌, ℕ, ◌<◌, List, [], ◌∷◌, ◌++◌, Option, Some, None, length, map, refl, sym, ap, subst, ◌∙◌, append_assoc, arith}
use Rattle.std.specs.List.{All, AllZip, filter_map}
use Rattle.std.specs.Option.{option_to_list}
use Rattle.std.proofs.lemmas.List.Elements.{All-head, All-tail, filter_map-append}
use Rattle.std.proofs.lemmas.List.{map-append}
use Rattle.std.proofs.lemmas.List.Splits.{slice_split_at}
use Rattle.job_language.specs.declared.answers.Status.{Status}
use Rattle.job_language.specs.declared.answers.Status.TheVariants.{Cancelled, Complete, Fault, Running}
use Rattle.reply_writer.specs.ReplyText.{job_text}
use Rattle.request_reader.specs.Lines.{newline}
use Rattle.term_life.specs.declared.outcomes.Outcome.{Outcome}
use Rattle.host_folder.proofs.Ascii.{outcome_line_plain}
use Rattle.host_folder.specs.Reading.{is_newline, lines_in}
use Rattle.host_folder.specs.Results.{outcome_line, outcome_lines, AreOutcomesOf, AreReadAgain, IsInRange, IsOutcomeOf}
use denote.Ref.{Bor}

line_off : (o : Outcome) → IsInRange o → (rest : List ℕ) → lines_in ((outcome_line o ++ newline ∷ []) ++ rest) ≡ outcome_line o ∷ lines_in rest
line_off o range rest =
    ap lines_in (append_assoc (outcome_line o) (newline ∷ []) rest) ∙ slice_split_at is_newline (outcome_line o) newline rest (outcome_line_plain o range) refl

some_bytes : (n : ℕ) (s : Status) → 0 < length (job_text n s)
some_bytes n Running = omega arith
some_bytes n Cancelled = omega arith
some_bytes n (Complete v) = omega arith
some_bytes n (Fault f) = omega arith

abbrev these : List (Option Outcome) → List Outcome
these each = filter_map (λ r. r) each

-- What is read of an outcome's line is this outcome, before what is read of the others.
one_more : (o : Outcome) → IsInRange o → (os : List Outcome) (lines : List (List ℕ)) → ((each : List (Option Outcome)) → AllZip IsOutcomeOf lines each → these each ≡ os)
    → (each : List (Option Outcome)) → AllZip IsOutcomeOf (outcome_line o ∷ lines) each → these each ≡ o ∷ os
one_more o range os lines rest [] h = absurd h
one_more o range os lines rest (r ∷ each) h = ap (λ x. these (x ∷ each)) (h.0.found o range refl) ∙ ap (λ xs. o ∷ xs) (rest each h.1)

none_behind : (each : List (Option Outcome)) → AllZip IsOutcomeOf ([] ∷ []) each → these each ≡ []
none_behind [] h = refl
none_behind (None ∷ []) h = refl
none_behind (Some o ∷ []) h = absurd (omega (arith, some_bytes o.job o.status, ap length h.0.said))
none_behind (r ∷ q ∷ each) h = absurd h.1

read_again : (os : List Outcome) → All IsInRange os → (each : List (Option Outcome)) → AllZip IsOutcomeOf (lines_in (outcome_lines os)) each → these each ≡ os
read_again [] range each h = none_behind each h
read_again (o ∷ os) range each h =
    one_more o (All-head IsInRange o os range) os (lines_in (outcome_lines os)) (read_again os (All-tail IsInRange o os range)) each
    (subst (λ (lines : List (List ℕ)). AllZip IsOutcomeOf lines each) (line_off o (All-head IsInRange o os range) (outcome_lines os)) h)

pub are_read_again : (text : List ℕ) (read : List Outcome) → AreOutcomesOf (lines_in text) read → AreReadAgain text read
are_read_again text read h os range is = h.these ∙ read_again os range h.each (subst (λ (t : List ℕ). AllZip IsOutcomeOf (lines_in t) h.each) is h.one)

zip_more : (lines : List (List ℕ)) (each : List (Option Outcome)) (line : List ℕ) (r : Option Outcome) → AllZip IsOutcomeOf lines each → IsOutcomeOf line r
    → AllZip IsOutcomeOf (lines ++ line ∷ []) (each ++ r ∷ [])
zip_more [] [] line r h k = (k, tt)
zip_more [] (q ∷ each) line r h k = absurd h
zip_more (x ∷ lines) [] line r h k = absurd h
zip_more (x ∷ lines) (q ∷ each) line r h k = (h.0, zip_more lines each line r h.1 k)

pub none_yet : AreOutcomesOf [] []
none_yet = record { each = []; one = tt; these = refl }

pub line_more : (lines : List (List ℕ)) (os : List Outcome) (line : List ℕ) (r : Option Outcome) → AreOutcomesOf lines os → IsOutcomeOf line r
    → AreOutcomesOf (lines ++ line ∷ []) (os ++ option_to_list r)
line_more lines os line None h k = record {
  each = h.each ++ None ∷ [];
  one = zip_more lines h.each line None h.one k;
  these = ap (λ xs. xs ++ []) h.these ∙ sym (filter_map-append (λ r. r) h.each (None ∷ []));
}
line_more lines os line (Some o) h k = record {
  each = h.each ++ Some o ∷ [];
  one = zip_more lines h.each line (Some o) h.one k;
  these = ap (λ xs. xs ++ o ∷ []) h.these ∙ sym (filter_map-append (λ r. r) h.each (Some o ∷ []));
}

-- the same of the lines that an iterator gave
pub line_taken : (ys : List (Bor (List ℕ))) (y : Bor (List ℕ)) (os new : List Outcome) (r : Option Outcome) → AreOutcomesOf (map (λ x. x.now) ys) os → IsOutcomeOf y.now r
    → new ≡ os ++ option_to_list r → AreOutcomesOf (map (λ x. x.now) (ys ++ y ∷ [])) new
line_taken ys y os new r h k e =
    let more = line_more (map (λ x. x.now) ys) os y.now r h k in
    subst (λ (lines : List (List ℕ)). AreOutcomesOf lines new) (sym (map-append (λ x. x.now) ys (y ∷ [])))
    (subst (λ (xs : List Outcome). AreOutcomesOf (map (λ x. x.now) ys ++ y.now ∷ []) xs) (sym e) more)
