-- The first line of some bytes, and the lines after it.
use Rattle.std.proofs.Common.{◌≡◌, ◌≢◌, ℕ, ◌+◌, ◌≤◌, ◌<◌, List, [], ◌∷◌, ◌++◌, length, take, drop, slice_index, Bool, true, false, cond, sym, ap, refl, ◌∙◌, arith, length-append}
use Rattle.std.specs.Prelude.{if◌then◌else◌, map, ◌==◌, ◌||◌, nat_lt, nat_eq}
use Rattle.std.specs.Io.BufRead.{drop_through}
use Rattle.std.proofs.lemmas.Bool.{ne_eqb, lt-leb, le-leb, ltb-true, ltb-false}
use Rattle.std.proofs.lemmas.List.{append-nil, take-append-drop, drop_more}
use Rattle.std.proofs.lemmas.List.Elements.{All-head, All-tail}
use Rattle.request_reader.specs.Lines.{newline, HasNoNewline, whole, too_long, with_first, split_lines, line_of, lines_of}
use Rattle.request_reader.specs.Reading.{lines_from}

-- the bytes before the first newline, or all of them
abbrev first_text : List ℕ → List ℕ
first_text [] = []
first_text (b ∷ bytes) = if b == newline then [] else b ∷ first_text bytes

split_lines-cons : (b : ℕ) (bytes : List ℕ) → split_lines (b ∷ bytes) ≡ first_text (b ∷ bytes) ∷ split_lines (drop_through newline (b ∷ bytes))
split_lines-cons b [] =
    elim (nat_eq b newline) as (λ t. cond t ([] ∷ []) ((b ∷ []) ∷ []) ≡ cond t [] (b ∷ []) ∷ split_lines (cond t [] [])) [ true ↦ refl | false ↦ refl ]
split_lines-cons b (c ∷ bytes) =
    elim (nat_eq b newline) as (λ t. cond t ([] ∷ split_lines (c ∷ bytes)) (with_first b (split_lines (c ∷ bytes))) ≡
    cond t [] (b ∷ first_text (c ∷ bytes)) ∷ split_lines (cond t (c ∷ bytes) (drop_through newline (c ∷ bytes)))) [ true ↦ refl | false ↦ ap (with_first b) (split_lines-cons c bytes) ]

lines_of-first : (limit : ℕ) (bytes : List ℕ) → 0 < length bytes → lines_of limit bytes ≡ line_of limit (first_text bytes) ∷ lines_of limit (drop_through newline bytes)
lines_of-first limit [] h = absurd (omega arith)
lines_of-first limit (b ∷ bytes) h = ap (map (line_of limit)) (split_lines-cons b bytes)

abbrev Not : ℕ → Type 0
Not b = b ≢ newline

first_text-append : (text more : List ℕ) → HasNoNewline text → first_text (text ++ more) ≡ text ++ first_text more
first_text-append [] more h = refl
first_text-append (b ∷ text) more h = rw (ne_eqb b newline (All-head Not b text h)) (ap (λ bytes. b ∷ bytes) (first_text-append text more (All-tail Not b text h)))

drop_through-append : (text more : List ℕ) → HasNoNewline text → drop_through newline (text ++ more) ≡ drop_through newline more
drop_through-append [] more h = refl
drop_through-append (b ∷ text) more h = rw (ne_eqb b newline (All-head Not b text h)) (drop_through-append text more (All-tail Not b text h))

pub drop_through-none : (text : List ℕ) → HasNoNewline text → drop_through newline text ≡ []
drop_through-none text h = ap (drop_through newline) (sym (append-nil text)) ∙ drop_through-append text [] h

-- a line that is too long already
pub lines_from-long : (limit : ℕ) (is_within_long : Bool) (text more : List ℕ) → HasNoNewline text → (is_within_long || nat_lt limit (length text)) ≡ true →
    lines_from limit is_within_long (text ++ more) ≡ too_long ∷ lines_of limit (drop_through newline more)
lines_from-long limit true text more h long = ap (λ bytes. too_long ∷ lines_of limit bytes) (drop_through-append text more h)
lines_from-long limit false text more h long =
    let longer : limit < length text = ltb-true _ _ long in
    let longest : limit < length (text ++ first_text more) = simp length-append (omega arith) in
    lines_of-first limit (text ++ more) (simp length-append (omega arith))
    ∙ rw (first_text-append text more h, drop_through-append text more h) (rw (lt-leb _ _ longest) refl)

pub lines_from-whole : (limit : ℕ) (is_within_long : Bool) (text more : List ℕ) → HasNoNewline text → (is_within_long || nat_lt limit (length text)) ≡ false →
    lines_from limit is_within_long (text ++ newline ∷ more) ≡ whole text ∷ lines_of limit more
lines_from-whole limit true text more h short = cc
lines_from-whole limit false text more h short =
    let within : length text ≤ limit = ltb-false _ _ short in
    lines_of-first limit (text ++ newline ∷ more) (simp length-append (omega arith))
    ∙ rw (first_text-append text (newline ∷ more) h, drop_through-append text (newline ∷ more) h, append-nil text) (rw (le-leb _ _ within) refl)

-- a last line, which no newline ends
pub lines_from-last : (limit : ℕ) (text : List ℕ) → HasNoNewline text → 0 < length text → length text ≤ limit → lines_of limit text ≡ whole text ∷ []
lines_from-last limit text h some within =
    let none : text ++ [] ≡ text = append-nil text in
    lines_of-first limit text some
    ∙ rw (← none) (rw (first_text-append text [] h, drop_through-append text [] h) (rw (none, le-leb _ _ within) refl))

-- the bytes round a place
pub split_at : (bytes : List ℕ) (place b : ℕ) → place < length bytes → slice_index bytes place ≡ b → take place bytes ++ b ∷ drop (place + 1) bytes ≡ bytes
split_at bytes place b within here =
    ap (λ c. take place bytes ++ c ∷ drop (place + 1) bytes) (sym here)
    ∙ ap (λ rest. take place bytes ++ rest) (sym (drop_more bytes place 0 within))
    ∙ take-append-drop place bytes
