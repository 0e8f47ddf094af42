-- All lexemes were looked at.
use Rattle.std.proofs.Common.{◌≡◌, ℕ, ◌+◌, ◌≤◌, ◌<◌, List, [], ◌∷◌, ◌++◌, length, get_or, map, take, sym, ap, ◌∙◌, refl}
use Rattle.std.specs.List.{flat_map}
use Rattle.std.proofs.lemmas.Grind.{flat_map-append}
use Rattle.std.proofs.lemmas.List.{append-nil, map_push, take_all, take_more}
use Rattle.source_tokens.specs.declared.lexemes.Lexeme.{Lexeme}
use Rattle.source_tokens.specs.declared.tokens.Token.{Token}
use Rattle.source_tokens.specs.Lexemes.{view_lexeme, lexemes_of}
use Rattle.source_tokens.specs.Tokens.{token_of, each_token}

pub all_scanned : (text : List ℕ) (ls : List Lexeme) (i : ℕ) (out : List Token) → length ls ≤ i → map view_lexeme ls ≡ lexemes_of text →
    out ≡ flat_map (token_of (map view_lexeme ls)) (map view_lexeme (take i ls)) → out ≡ each_token text
all_scanned text ls i out le e h =
    let k : take i ls ≡ ls = take_all i ls le in
    h ∙ rw (k, e) refl

pub one_scanned : (ls all : List Lexeme) (i : ℕ) (d : Lexeme) (out more : List Token) → i < length ls → all ≡ ls → more ≡ out ++ token_of (map view_lexeme all) (view_lexeme (get_or ls i d))
    → out ≡ flat_map (token_of (map view_lexeme ls)) (map view_lexeme (take i ls)) → more ≡ flat_map (token_of (map view_lexeme ls)) (map view_lexeme (take (i + 1) ls))
one_scanned ls all i d out more lt same m h =
    let f = token_of (map view_lexeme ls) in
    let l = get_or ls i d in
    let front = map view_lexeme (take i ls) in
    let cut : map view_lexeme (take (i + 1) ls) ≡ front ++ view_lexeme l ∷ [] =
    ap (λ (x : List Lexeme). map view_lexeme x) (take_more ls i d lt) ∙ map_push view_lexeme (take i ls) l in
    let whole : flat_map f (map view_lexeme (take (i + 1) ls)) ≡ flat_map f front ++ f (view_lexeme l) =
    ap (λ (x : List (ℕ × List ℕ)). flat_map f x) cut ∙ flat_map-append f front (view_lexeme l ∷ []) ∙ ap (λ (x : List Token). flat_map f front ++ x) (append-nil (f (view_lexeme l))) in
    m ∙ ap (λ (a : List Lexeme). out ++ token_of (map view_lexeme a) (view_lexeme l)) same ∙ ap (λ (x : List Token). x ++ f (view_lexeme l)) h ∙ sym whole
