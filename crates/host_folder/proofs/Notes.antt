-- Where the last note of a line is.
use Rattle.std.proofs.Common.{◌≡◌, ◌≢◌, ℕ, zero, suc, ◌+◌, ◌-◌, ◌<◌, ◌≤◌, ◌^◌, ◌==◌, Bool, true, false, List, [], ◌∷◌, ◌++◌, Option, Some, None, codes, decimal}
use Rattle.std.proofs.Common.{⊎_elim, length, get_or, take, drop, refl, sym, ap, ◌∙◌, arith, tests}
use Rattle.std.proofs.Common.{get_or-drop, get_or-append-add, take_at, true≢false, IfSome, length-append, length-drop}
use Rattle.std.specs.List.{list_any}
use Rattle.std.specs.Option.{MatchOption}
use Rattle.std.specs.Str.Pattern.{RFindsChar}
use Rattle.std.proofs.Math.ListN.{get_or-append}
use Rattle.std.proofs.Math.Seq.{drop-append-add, get_or-append_seam}
use Rattle.std.proofs.lemmas.Bool.{cases_lt, or_parts}
use Rattle.std.proofs.lemmas.Fmt.{decimal_is_IsNumeral}
use Rattle.std.proofs.lemmas.List.{take-append-drop}
use Rattle.std.proofs.lemmas.Str.{len_utf8_ascii}
use Rattle.std.proofs.lemmas.Str.Parse.{digit_at}
use Rattle.std.proofs.lemmas.Str.Pattern.{NoCharPasses-char, drop_at_char}
use Rattle.host_folder.specs.Notes.{is_brace, note, IsNotedIn}
use Rattle.host_folder.specs.Reading.{IsNumberOf}
use denote.Ref.{Bor}

-- the byte c stands nowhere in it
abbrev pub Lacks : ℕ → List ℕ → Type 0
Lacks c bs = (i : ℕ) → i < length bs → get_or bs i 0 ≢ c

-- the clause of `rsplit_once` at a character
abbrev pub IsLastSplit : ℕ → List ℕ → Option (Bor (List ℕ) × Bor (List ℕ)) → Type 0
IsLastSplit c bs r = MatchOption r (RFindsChar c bs None)
    (λ x. (i : ℕ) × (j : ℕ) × RFindsChar c bs (Some (i, j)) × (x.0.now ≡ take i bs) × (x.1.now ≡ drop j bs) × (i ≤ j) × (length x.0.now ≡ i) × (length x.1.now + j ≡ length bs))

-- if bs is xs, c and ys, and ys holds no c, the last c is that one
pub last_split_after : (c : ℕ) (bs xs ys : List ℕ) (r : Option (Bor (List ℕ) × Bor (List ℕ))) → IsLastSplit c bs r → c < 128 → bs ≡ xs ++ (c ∷ ys) → Lacks c ys
    → MatchOption r ⊥ (λ x. (x.0.now ≡ xs) × (x.1.now ≡ ys))
last_split_after c bs xs ys None h low e free =
    NoCharPasses-char c bs (length xs) h low (omega (arith, ap length e, length-append xs (c ∷ ys))) (ap (λ l. get_or l (length xs) 0) e ∙ get_or-append_seam xs c ys 0)
last_split_after c bs xs ys (Some x) h low e free =
    let i = h.0 in
    let j = h.1 in
    let n : length bs ≡ length xs + suc (length ys) = ap length e ∙ length-append xs (c ∷ ys) in
    let next : j ≡ i + 1 = omega (arith, h.2.1.ends, len_utf8_ascii c low) in
    let inside : i < length bs = omega (arith, h.7) in
    let not_before : i < length xs → ⊥ = λ l.
    let back : j + (length xs - j) ≡ length xs = omega arith in
    NoCharPasses-char c (drop j bs) (length xs - j) h.2.0 low (omega (arith, length-drop j bs))
    (get_or-drop j bs (length xs - j) 0 ∙ ap (λ k. get_or bs k 0) back ∙ ap (λ l. get_or l (length xs) 0) e ∙ get_or-append_seam xs c ys 0) in
    let not_after : length xs < i → ⊥ = λ l.
    let at : length xs + suc (i - length xs - 1) ≡ i = omega arith in
    free (i - length xs - 1) (omega arith) (sym (get_or-append-add xs (c ∷ ys) (suc (i - length xs - 1)) 0) ∙ ap (λ k. get_or (xs ++ (c ∷ ys)) k 0) at
    ∙ ap (λ l. get_or l i 0) (sym e) ∙ h.2.1.byte low) in
    let here : length xs ≡ i = ⊎_elim (λ l. absurd (not_after l))
    (λ l. ⊎_elim (λ m. absurd (not_before m)) (λ m. omega arith) (cases_lt i (length xs))) (cases_lt (length xs) i) in
    let past : length xs + 1 ≡ j = omega arith in
    (h.3 ∙ ap (take i) e ∙ take_at xs (c ∷ ys) i here, h.4 ∙ ap (λ k. drop k bs) (sym past) ∙ ap (drop (length xs + 1)) e ∙ drop-append-add xs (c ∷ ys) 1)

same : (c : ℕ) → (c == c) ≡ true
same c = grind (arith, tests)

-- What has it neither at first nor behind has it nowhere.
pub lacks_both : (c : ℕ) (word : List ℕ) → list_any (λ b. b == c) word ≡ false → (rest : List ℕ) → Lacks c rest → Lacks c (word ++ rest)
lacks_both c [] h rest free i within e = free i within e
lacks_both c (b ∷ word) h rest free zero within e =
    let is : b ≡ c = e in
    let here : (b == c) ≡ (c == c) = ap (λ x. x == c) is in
    absurd (true≢false (sym (here ∙ same c) ∙ (or_parts (b == c) (list_any (λ x. x == c) word) h).0))
lacks_both c (b ∷ word) h rest free (suc i) within e = lacks_both c word (or_parts (b == c) (list_any (λ x. x == c) word) h).1 rest free i (omega (arith, within)) e

no_brace_behind : (n : ℕ) → n < 2 ^ 64 → Lacks 123 (decimal n ++ codes "}")
no_brace_behind n small i within e = ⊎_elim
    (λ l. omega (arith, digit_at (decimal n) i (decimal_is_IsNumeral n small).0.1 l, sym (get_or-append (decimal n) (codes "}") 0 i l) ∙ e))
    (λ l.
    let last : length (decimal n) + 0 ≡ i = omega (arith, within, length-append (decimal n) (codes "}")) in
    let is : 125 ≡ 123 = sym (get_or-append-add (decimal n) (codes "}") 0 0) ∙ ap (λ k. get_or (decimal n ++ codes "}") k 0) last ∙ e in
    omega (arith, is))
    (cases_lt i (length (decimal n)))

module _ (word text front : List ℕ) (n : ℕ) (free : list_any is_brace word ≡ false) (small : n < 2 ^ 64) (is : text ≡ front ++ note word n) where
  pub note_cut : (r : Option (Bor (List ℕ) × Bor (List ℕ))) → IsLastSplit 123 text r → MatchOption r ⊥ (λ x. (x.0.now ≡ front) × (x.1.now ≡ word ++ (decimal n ++ codes "}")))
  note_cut r h = last_split_after 123 text front (word ++ (decimal n ++ codes "}")) r h (omega arith) is (lacks_both 123 word free (decimal n ++ codes "}") (no_brace_behind n small))

-- what a cut at the last `c` gives is the text
pub last_split_parts : (c : ℕ) (bs : List ℕ) (x : Bor (List ℕ) × Bor (List ℕ)) → IsLastSplit c bs (Some x) → c < 128 → bs ≡ x.0.now ++ (c ∷ x.1.now)
last_split_parts c bs x h low = sym (take-append-drop h.0 bs) ∙ (λ k. sym h.3 k ++ (drop_at_char c bs h.0 h.1 h.2.1 low ∙ ap (λ l. c ∷ l) (sym h.4)) k)

-- What is read between the word and the end is what is noted.
module _ (word line front number : List ℕ) (is : line ≡ front ++ (123 ∷ (word ++ (number ++ codes "}")))) where
  said_of : (r : Option ℕ) → IfSome r (λ n. (n < 2 ^ 64) × (number ≡ decimal n))
      → IfSome r (λ n. (n < 2 ^ 64) × (before : List ℕ) × (line ≡ before ++ note word n))
  said_of None h = tt
  said_of (Some n) h = (h.0, front, is ∙ ap (λ l. front ++ (123 ∷ (word ++ (l ++ codes "}")))) h.1)

  pub noted : (r : Option ℕ) → IsNumberOf number r
      → ((before : List ℕ) (n : ℕ) → list_any is_brace word ≡ false → n < 2 ^ 64 → line ≡ before ++ note word n → number ≡ decimal n) → IsNotedIn word line r
  noted r h there = record {
    said = said_of r h.said;
    found = λ before n free utf small e. h.found n small (there before n free small e);
  }
