-- Lexemes, byte by byte.
use Rattle.std.proofs.Common.{◌≡◌, ℕ, zero, suc, ◌+◌, ◌-◌, ◌<◌, ◌≤◌, List, [], ◌∷◌, ◌++◌, length, get_or, take, drop, refl, sym, ap, ◌∙◌, append_assoc, add-one, drop-cons, arith}
use Rattle.std.proofs.lemmas.List.{append-nil, nil_from_length, length-drop}
use Rattle.source_tokens.specs.Lexemes.{lexeme_len, lexemes_at}

inside : (k at b : ℕ) (bs : List ℕ) → 0 < k → lexemes_at (k - 1) (at + 1) bs ≡ lexemes_at k at (b ∷ bs)
unfolding lexemes_at
inside zero at b bs h = absurd (omega arith)
inside (suc k) at b bs h =
    let e : suc k - 1 ≡ k = omega arith in
    ap (λ (j : ℕ). lexemes_at j (at + 1) bs) e

begins : (at b : ℕ) (bs : List ℕ) → (at, take (lexeme_len (b ∷ bs)) (b ∷ bs)) ∷ lexemes_at (lexeme_len (b ∷ bs) - 1) (at + 1) bs ≡ lexemes_at 0 at (b ∷ bs)
unfolding lexemes_at
begins at b bs = refl

here : (at : ℕ) (text : List ℕ) → at < length text → drop at text ≡ get_or text at 0 ∷ drop (at + 1) text
here at text h = rw (add-one, drop-cons text at 0) refl

pub goes_on : (front : List (ℕ × List ℕ)) (skip at : ℕ) (text : List ℕ) → 0 < skip → at < length text →
    front ++ lexemes_at (skip - 1) (at + 1) (drop (at + 1) text) ≡ front ++ lexemes_at skip at (drop at text)
goes_on front skip at text more h =
    ap (λ (x : List (ℕ × List ℕ)). front ++ x) (inside skip at (get_or text at 0) (drop (at + 1) text) more ∙ ap (λ (t : List ℕ). lexemes_at skip at t) (sym (here at text h)))

pub starts : (front : List (ℕ × List ℕ)) (skip at len : ℕ) (text : List ℕ) → skip ≤ 0 → at < length text → len ≡ lexeme_len (drop at text)
    → (front ++ (at, take len (drop at text)) ∷ []) ++ lexemes_at (len - 1) (at + 1) (drop (at + 1) text) ≡ front ++ lexemes_at skip at (drop at text)
starts front skip at len text none h is =
    let rest = drop (at + 1) text in
    let b = get_or text at 0 in
    let zero_skip : skip ≡ 0 = omega arith in
    let e : drop at text ≡ b ∷ rest = here at text h in
    let n : len ≡ lexeme_len (b ∷ rest) = is ∙ ap lexeme_len e in
    append_assoc front ((at, take len (drop at text)) ∷ []) (lexemes_at (len - 1) (at + 1) rest)
    ∙ ap (λ (x : List (ℕ × List ℕ)). front ++ x) (rw (zero_skip, e, n) (begins at b rest))

nothing : (skip at : ℕ) → lexemes_at skip at [] ≡ []
unfolding lexemes_at
nothing skip at = refl

pub ends : (front : List (ℕ × List ℕ)) (skip at : ℕ) (text : List ℕ) (all : List (ℕ × List ℕ)) → length text ≤ at → front ++ lexemes_at skip at (drop at text) ≡ all → front ≡ all
ends front skip at text all le e =
    let none : drop at text ≡ [] = nil_from_length (drop at text) (omega (arith, length-drop at text)) in
    let same : front ++ lexemes_at skip at (drop at text) ≡ front = rw (none, nothing skip at) (append-nil front) in
    sym same ∙ e
