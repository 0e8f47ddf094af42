-- The numbers of a term, read one after another.
use Rattle.std.proofs.Common.{◌≡◌, ℕ, zero, suc, ◌+◌, ◌<◌, ◌≤◌, ◌^◌, List, [], ◌∷◌, ◌++◌, Option, Some, None, length, decimal, refl, sym, ap, ◌∙◌, arith}
use Rattle.std.specs.Str.{IsAscii, IsUtf8}
use Rattle.std.proofs.lemmas.Fmt.{IsAscii-decimal}
use Rattle.std.proofs.lemmas.Str.{IsAscii-append, IsUtf8-from_ascii}
use Rattle.term_life.specs.declared.spans.Span.{Span}
use Rattle.term_life.specs.declared.terms.TheConstants.{MOST_JOBS}
use Rattle.host_folder.specs.Numbers.{space, span_line, IsSpanInRange, IsSpanOf}
use Rattle.host_folder.specs.Reading.{ReadsNumber}

abbrev of : Option (ℕ × List ℕ) → ℕ × List ℕ
of None = (0, [])
of (Some p) = p

no_more : (xs : List ℕ) → length xs ≡ 0 → xs ≡ []
no_more [] e = refl
no_more (x ∷ xs) e = absurd (omega arith)

module _ (line text r₁ r₂ r₃ : List ℕ) (n b m : ℕ) (is : text ≡ line) (h₁ : ReadsNumber space text (Some (n, r₁))) (h₂ : ReadsNumber space r₁ (Some (b, r₂))) (h₃ : ReadsNumber 10 r₂ (Some (m, r₃)))
    (end : length r₃ ≡ 0) (most : b + m ≤ MOST_JOBS) where
  whole : decimal n ++ (space ∷ (decimal b ++ (space ∷ (decimal m ++ (10 ∷ []))))) ≡ line
  whole =
      let third : r₂ ≡ decimal m ++ (10 ∷ []) = h₃.said.1 ∙ ap (λ l. decimal m ++ (10 ∷ l)) (no_more r₃ end) in
      let second : r₁ ≡ decimal b ++ (space ∷ (decimal m ++ (10 ∷ []))) = h₂.said.1 ∙ ap (λ l. decimal b ++ (space ∷ l)) third in
      sym (h₁.said.1 ∙ ap (λ l. decimal n ++ (space ∷ l)) second) ∙ is

  pub is_span : IsSpanOf line (Some (record { number = n; base = b; room = m }))
  is_span = record {
    said = ((h₁.said.0, most), whole);
    found = λ s range e.
        let k₁ = h₁.found s.number (decimal s.base ++ (space ∷ (decimal s.room ++ (10 ∷ [])))) range.0 (is ∙ sym e) in
        let k₂ = h₂.found s.base (decimal s.room ++ (10 ∷ [])) (omega (arith, range.1)) (ap (λ o. (of o).1) k₁) in
        let k₃ = h₃.found s.room [] (omega (arith, range.1)) (ap (λ o. (of o).1) k₂) in
        let number : n ≡ s.number = ap (λ o. (of o).0) k₁ in
        let base : b ≡ s.base = ap (λ o. (of o).0) k₂ in
        let room : m ≡ s.room = ap (λ o. (of o).0) k₃ in
        (λ i. Some (record { number = number i; base = base i; room = room i }));
  }

behind : (end : ℕ) (rest : List ℕ) → end < 128 → IsAscii rest → IsAscii (end ∷ rest)
behind end rest low h zero = low
behind end rest low h (suc i) = h i

number_then : (n end : ℕ) (rest : List ℕ) → n < 2 ^ 64 → end < 128 → IsAscii rest → IsAscii (decimal n ++ (end ∷ rest))
number_then n end rest small low h = IsAscii-append (decimal n) (end ∷ rest) (IsAscii-decimal n small) (behind end rest low h)

pub span_text : (s : Span) → IsSpanInRange s → IsUtf8 (span_line s)
span_text s h =
    let last = number_then s.room 10 [] (omega (arith, h.1)) (omega arith) (λ i. omega arith) in
    let middle = number_then s.base space (decimal s.room ++ (10 ∷ [])) (omega (arith, h.1)) (omega arith) last in
    IsUtf8-from_ascii (span_line s) (number_then s.number space (decimal s.base ++ (space ∷ (decimal s.room ++ (10 ∷ [])))) h.0 (omega arith) middle)
