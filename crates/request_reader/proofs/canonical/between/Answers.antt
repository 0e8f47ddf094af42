use Rattle.std.proofs.Common.{◌≡◌, ◌≢◌, ◌++◌, ℕ, List, Option, Some, None, Bor, ap, ◌∙◌, subst}
use Rattle.std.specs.Prelude.{IfSome}
use Rattle.std.specs.Option.{MatchOption}
use Rattle.std.specs.Cmp.{unsigned_Decides}
use Rattle.std.proofs.lemmas.Slice.Eq.{strip_prefix_is, strip_suffix_is}
use Rattle.request_reader.proofs.canonical.between.Goals as goal

-- what stands before the end of what stands behind the front
inside : (line front rest back : List ℕ) (r : Option (Bor (List ℕ))) → line ≡ front ++ rest → MatchOption r ((text : List ℕ) → rest ≢ text ++ back) (λ x. rest ≡ x.now ++ back) →
    IfSome r (λ text. line ≡ front ++ (text.now ++ back))
inside line front rest back None begins h = tt
inside line front rest back (Some x) begins h = begins ∙ ap (λ (s : List ℕ). front ++ s) h

pub returns : goal.returns
returns c =
    let rest = c.in_ok-rest.rest in
    let begins = strip_prefix_is unsigned_Decides c.args.line.now c.as_bytes.result.now (Some rest) c.in_ok-rest.ensures.cases in
    let ends = strip_suffix_is unsigned_Decides rest.now c.as_bytes-2.result.now c.strip_suffix.result c.strip_suffix.ensures.cases in
    let found = inside c.args.line.now c.as_bytes.result.now rest.now c.as_bytes-2.result.now c.strip_suffix.result begins ends in
    subst (λ (front : List ℕ). IfSome c.strip_suffix.result (λ text. c.args.line.now ≡ front ++ (text.now ++ c.args.back.now))) c.as_bytes.ensures.value
    (subst (λ (back : List ℕ). IfSome c.strip_suffix.result (λ text. c.args.line.now ≡ c.as_bytes.result.now ++ (text.now ++ back))) c.as_bytes-2.ensures.value found)
