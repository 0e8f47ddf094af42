-- Where a search of the bytes from a place on finds a newline.
use Rattle.std.proofs.Common.{◌≡◌, ◌≢◌, ℕ, ◌+◌, ◌≤◌, ◌<◌, List, length, take, drop, slice_index, slice_range, sym, ap, ◌∙◌, arith}
use Rattle.std.proofs.lemmas.Bool.{eq-eqb, eqb-true}
use Rattle.std.proofs.lemmas.List.{get_or-take, get_or-drop, length-take, length-drop, take_all, take_rest}
use Rattle.std.proofs.lemmas.List.Elements.{All-append, All-same, All-from_get_or}
use Rattle.memchr.specs.Find.{Passes, Nowhere, NoneBefore, is_byte}
use Rattle.request_reader.specs.Lines.{newline, HasNoNewline}
use Rattle.request_reader.specs.Newlines.{IsFirstNewline}
use lib.Seq.{take-add}

abbrev IsOther : ℕ → Type 0
IsOther b = b ≢ newline

abbrev IsNewlineAt : List ℕ → ℕ → Type 0
IsNewlineAt bytes = Passes (is_byte newline) bytes

HasNoNewline-front : (bytes : List ℕ) (n : ℕ) → n ≤ length bytes → Nowhere (IsNewlineAt bytes) 0 n → HasNoNewline (take n bytes)
HasNoNewline-front bytes n within none =
    All-from_get_or IsOther (take n bytes) 0 (λ i h e.
    let below : i < n = omega (arith, length-take n bytes) in
    none i (omega arith) below (eq-eqb _ _ (sym (get_or-take n bytes i 0 below) ∙ e)))

module _ (bytes : List ℕ) (start : ℕ) (before : HasNoNewline (take start bytes)) where
  -- what is searched, which is the rest of the bytes
  abbrev searched : List ℕ
  searched = slice_range bytes start (length bytes)

  rest : searched ≡ drop start bytes
  rest = take_rest bytes start

  HasNoNewline-from_front : (n : ℕ) → HasNoNewline (take n searched) → HasNoNewline (take (start + n) bytes)
  HasNoNewline-from_front n none =
      All-same IsOther _ _ (take-add start n bytes) (All-append IsOther (take start bytes) (take n (drop start bytes)) before (All-same IsOther _ _ (sym (ap (take n) rest)) none))

  pub HasNoNewline-from_search : start ≤ length bytes → Nowhere (IsNewlineAt searched) 0 (length searched) → HasNoNewline bytes
  HasNoNewline-from_search within none =
      let len : start + length searched ≡ length bytes = rw (rest, length-drop) (omega arith) in
      let all : take (start + length searched) bytes ≡ bytes = take_all _ bytes (omega (arith, len)) in
      All-same IsOther _ _ (sym all) (HasNoNewline-from_front (length searched) (HasNoNewline-front searched (length searched) (omega arith) none))

  pub IsFirstNewline-from_search : (place : ℕ) → NoneBefore (IsNewlineAt searched) 0 (length searched) place → IsNewlineAt searched place → IsFirstNewline bytes (start + place)
  IsFirstNewline-from_search place first here = record {
    within = omega (arith, first.high, ap length rest, length-drop start bytes);
    before = HasNoNewline-from_front place (HasNoNewline-front searched place (omega (arith, first.high)) first.before);
    here = sym (ap (λ xs. slice_index xs place) rest ∙ get_or-drop start bytes place 0) ∙ eqb-true _ _ here;
  }
