-- Where the path of a part is cut.
use Rattle.std.proofs.Common.{◌≡◌, ◌↔◌, ℕ, zero, suc, ◌<◌, ◌≤◌, ◌==◌, ◌&&◌, Bool, true, false, List, [], ◌∷◌, ◌++◌, Option, Some, None, codes, decimal}
use Rattle.std.proofs.Common.{⊎_elim, if◌then◌else◌, length, get_or, refl, sym, ap, subst, ◌∙◌, true≢false, option_map, is_some, append_assoc, arith, tests}
use Rattle.std.specs.List.{list_all}
use Rattle.std.specs.Option.{MatchOption}
use Rattle.std.specs.Str.Parse.{AllDigits}
use Rattle.std.proofs.lemmas.Bool.{and_parts, cases_Bool}
use Rattle.std.proofs.lemmas.Fmt.{decimal_is_IsNumeral}
use Rattle.std.proofs.lemmas.Str.Parse.{digit_at}
use Rattle.dump_files.specs.Paths.{part_path, IsPathOfPart}
use Rattle.host_folder.proofs.Notes.{lacks_both, last_split_after, IsLastSplit, Lacks}
use Rattle.host_folder.specs.Paths.{is_digit, IsBeforePart, IsPartOf}
use denote.Ref.{Bor}

no_dot : (digits : List ℕ) → list_all is_digit digits ≡ true → Lacks 46 digits
no_dot [] h i within e = omega (arith, within)
no_dot (b ∷ bs) h zero within e =
    let is : b ≡ 46 = e in
    let dot : is_digit 46 ≡ true = subst (λ x. is_digit x ≡ true) is (and_parts (is_digit b) (list_all is_digit bs) h).0 in
    absurd (true≢false (sym dot))
no_dot (b ∷ bs) h (suc i) within e = no_dot bs (and_parts (is_digit b) (list_all is_digit bs) h).1 i (omega (arith, within)) e

-- the two pieces before the last dot and behind it
pub part_cut : (path front : List ℕ) (p : IsPartOf front path) (r : Option (Bor (List ℕ) × Bor (List ℕ))) → IsLastSplit 46 path r
    → MatchOption r ⊥ (λ x. (x.0.now ≡ front ++ codes ".jsonl") × (x.1.now ≡ codes "part" ++ p.0))
part_cut path front p r h =
    let whole : path ≡ (front ++ codes ".jsonl") ++ (46 ∷ (codes "part" ++ p.0)) = p.2 ∙ sym (append_assoc front (codes ".jsonl") (46 ∷ (codes "part" ++ p.0))) in
    last_split_after 46 path (front ++ codes ".jsonl") (codes "part" ++ p.0) r h (omega arith) whole (lacks_both 46 (codes "part") refl p.0 (no_dot p.0 p.1))

pub part_whole : (path front dump end number : List ℕ) → path ≡ dump ++ (46 ∷ end) → dump ≡ front ++ codes ".jsonl" → end ≡ codes "part" ++ number → path ≡ front ++ (codes ".jsonl.part" ++ number)
part_whole path front dump end number is e k = is ∙ (λ i. e i ++ (46 ∷ k i)) ∙ append_assoc front (codes ".jsonl") (46 ∷ (codes "part" ++ number))

pub told : (path : List ℕ) (r : Option (Bor (List ℕ))) → IsBeforePart path (option_map (λ f. f.now) r) → (is_some r ≡ true) ↔ ((front : List ℕ) × IsPartOf front path)
told path None h = ((λ e. absurd (true≢false (sym e))), (λ k. ap is_some (h.found k.0 k.1)))
told path (Some x) h = ((λ e. (x.now, h.said)), (λ k. refl))

-- A number has digits.
digit_is : (c : ℕ) → 48 ≤ c → c ≤ 57 → is_digit c ≡ true
digit_is c low high = grind (arith, tests)

digits_are : (ds : List ℕ) → AllDigits 10 ds → list_all is_digit ds ≡ true
digits_are [] h = refl
digits_are (c ∷ cs) h =
    let k = digit_at (c ∷ cs) 0 h (omega arith) in
    ap (λ b. b && list_all is_digit cs) (digit_is c (omega (arith, k)) (omega (arith, k))) ∙ digits_are cs h.1

abbrev named_so : (front : List ℕ) (number : ℕ) → Bool → List ℕ
named_so front number b = if b then (front ++ codes ".jsonl") ++ codes ".part" else (front ++ codes ".jsonl") ++ (codes ".part" ++ decimal number)

-- Each part that a writer of dumps names is one.
pub named : (front path : List ℕ) → IsPathOfPart (front ++ codes ".jsonl") path → IsPartOf front path
named front path p = ⊎_elim first other (cases_Bool (p.0 == 1))
  where
    first : (p.0 == 1) ≡ true → IsPartOf front path
    first e = ([], refl, p.3 ∙ ap (named_so front p.0) e ∙ append_assoc front (codes ".jsonl") (codes ".part"))

    other : (p.0 == 1) ≡ false → IsPartOf front path
    other e = (
      decimal p.0,
      digits_are (decimal p.0) (decimal_is_IsNumeral p.0 (omega (arith, p.2))).0.1,
      p.3 ∙ ap (named_so front p.0) e ∙ append_assoc front (codes ".jsonl") (codes ".part" ++ decimal p.0),
    )
