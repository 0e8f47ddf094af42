-- One token, at which a line is broken or not.
use Rattle.std.proofs.Common.{◌≡◌, ℕ, ◌+◌, ◌<◌, ◌≤◌, true, false, List, [], ◌∷◌, ◌++◌, length, get_or, drop, refl, sym, ◌∙◌, append_assoc, add-one, drop-cons, arith}
use Rattle.std.proofs.lemmas.List.{append-nil, nil_from_length, length-drop}
use Rattle.source_tokens.specs.declared.breaks.Before.{Before}
use Rattle.source_tokens.specs.declared.breaks.Bracket.{Bracket}
use Rattle.source_tokens.specs.declared.tokens.Token.{Token}
use Rattle.source_tokens.specs.Breaks.{behind, opened_behind, is_break, unbroken_from}

pub broken : (out : List Token) (bs : List Bracket) (b : Before) (t : Token) (rest : List Token) → is_break bs b t.kind ≡ true → out ++ unbroken_from bs b rest ≡ out ++ unbroken_from bs b (t ∷ rest)
unfolding unbroken_from
broken out bs b t rest e = rw e refl

pub kept : (out : List Token) (bs : List Bracket) (b : Before) (t : Token) (rest : List Token) → is_break bs b t.kind ≡ false
    → (out ++ t ∷ []) ++ unbroken_from (opened_behind t.kind bs) (behind b t.kind) rest ≡ out ++ unbroken_from bs b (t ∷ rest)
unfolding unbroken_from
kept out bs b t rest e = rw e (append_assoc out (t ∷ []) (unbroken_from (opened_behind t.kind bs) (behind b t.kind) rest))

pub here : (i : ℕ) (ts : List Token) (d : Token) → i < length ts → drop i ts ≡ get_or ts i d ∷ drop (i + 1) ts
here i ts d h = rw (add-one, drop-cons ts i d) refl

nothing : (bs : List Bracket) (b : Before) → unbroken_from bs b [] ≡ []
unfolding unbroken_from
nothing bs b = refl

pub all_looked_at : (out : List Token) (bs : List Bracket) (b : Before) (i : ℕ) (ts all : List Token) → length ts ≤ i → out ++ unbroken_from bs b (drop i ts) ≡ all → out ≡ all
all_looked_at out bs b i ts all le e =
    let none : drop i ts ≡ [] = nil_from_length (drop i ts) (omega (arith, length-drop i ts)) in
    let same : out ++ unbroken_from bs b (drop i ts) ≡ out = rw (none, nothing bs b) (append-nil out) in
    sym same ∙ e
