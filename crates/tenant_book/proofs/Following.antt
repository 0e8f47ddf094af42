-- What the holder of a front has seen after a call.
use Rattle.std.proofs.Common.{◌≡◌, ℕ, ◌<◌, ◌+◌, List, [], ◌∷◌, ◌++◌, length, refl, ap, sym, subst, ◌∙◌, arith, append_assoc, length-append}
use Rattle.std.specs.Prelude.{slice_index_or}
use Rattle.std.proofs.lemmas.List.{get_or_push}
use mathlib.Core.List.{IsPrefix}
use Rattle.logbook.specs.Pages.{Book}
use Rattle.job_language.specs.declared.tenants.Tenant.{Tenant}
use Rattle.tenant_record.specs.Cell.{CellData}
use Rattle.tenant_book.specs.Fronts.{AreMoments, Finds, Follows, FrontData, GoesFrom, GoesOn, IsLast, IsMoment}

tail_same : (x y : CellData) (xs ys : List CellData) → x ∷ xs ≡ y ∷ ys → xs ≡ ys
tail_same x y xs ys e = cc e

-- a list has one last element
last_once : (xs ys : List CellData) (c d : CellData) → xs ++ c ∷ [] ≡ ys ++ d ∷ [] → c ≡ d
last_once [] [] c d e = cc e
last_once [] (y ∷ []) c d e = absurd (cc e)
last_once [] (y ∷ z ∷ ys) c d e = absurd (cc e)
last_once (x ∷ []) [] c d e = absurd (cc e)
last_once (x ∷ z ∷ xs) [] c d e = absurd (cc e)
last_once (x ∷ xs) (y ∷ ys) c d e = last_once xs ys c d (tail_same x y (xs ++ c ∷ []) (ys ++ d ∷ []) e)

-- What goes on from the last moment goes on from each that is the last.
pub goes_from : (log : List CellData) (c d : CellData) → IsLast log c → GoesOn c d → GoesFrom log d
goes_from log c d last goes e other = subst (λ (x : CellData). GoesOn x d) (last_once last.0 other.0 c e (sym last.1 ∙ other.1)) goes

-- From nothing anything goes on.
pub goes_from_none : (d : CellData) → GoesFrom [] d
goes_from_none d c last = absurd (none_last last.0 c last.1) where
  none_last : (xs : List CellData) (c : CellData) → [] ≡ xs ++ c ∷ [] → ⊥
  none_last [] c e = cc e
  none_last (x ∷ xs) c e = cc e

-- the same life, with its book and what its tenant is given
pub record IsOneLife (seen whole : FrontData) : Type 0 where
  pub life : seen.life ≡ whole.life
  pub book : seen.book ≡ whole.book
  pub config : seen.config ≡ whole.config

-- a front of the same life that has seen that
of_one_life : (seen whole now : FrontData) (log : List CellData) → IsOneLife seen whole → now ≡ record whole { log = log } → now ≡ record seen { log = log }
of_one_life seen whole now log one is =
    subst (λ (c : Tenant). now ≡ record { life = seen.life; book = seen.book; config = c; log = log }) (sym one.config)
    (subst (λ (b : Book). now ≡ record { life = seen.life; book = b; config = whole.config; log = log }) (sym one.book)
    (subst (λ (l : ℕ). now ≡ record { life = l; book = whole.book; config = whole.config; log = log }) (sym one.life) is))

pub follows_last : (seen now whole : FrontData) (c d : CellData) → IsOneLife seen whole → IsPrefix seen.log whole.log → now ≡ record whole { log = whole.log ++ d ∷ [] } → GoesFrom whole.log d →
    d.config ≡ whole.config → IsLast whole.log c → Follows seen now c d
follows_last seen now whole c d one pre is goes given last = record {
  logged = last.0;
  goes_on = subst (λ (log : List CellData). IsPrefix seen.log log) last.1 pre;
  ends = of_one_life seen whole now (last.0 ++ c ∷ d ∷ []) one
      (is
      ∙ ap (λ (log : List CellData). record whole { log = log ++ d ∷ [] }) last.1
      ∙ ap (λ (log : List CellData). record whole { log = log }) (append_assoc last.0 (c ∷ []) (d ∷ [])));
  goes = goes c last;
  given = given ∙ sym one.config;
}

-- The last moment is one of those that are right.
pub last_moment : (config : Tenant) (log : List CellData) (c : CellData) → AreMoments config log → IsLast log c → IsMoment config c
last_moment config log c are last =
    let long : length log ≡ length last.0 + 1 = ap length last.1 ∙ length-append last.0 (c ∷ []) in
    let here : slice_index_or log (length last.0) c ≡ c = rw last.1 (get_or_push last.0 c c (length last.0) refl) in
    subst (λ (x : CellData). IsMoment config x) here (are.each (length last.0) c (omega (arith, long)))

pub finds_last : (seen now whole : FrontData) (c : CellData) → IsOneLife seen whole → IsPrefix seen.log whole.log → now ≡ whole → AreMoments whole.config whole.log → IsLast whole.log c →
    Finds seen now c
finds_last seen now whole c one pre is are last = record {
  logged = last.0;
  goes_on = subst (λ (log : List CellData). IsPrefix seen.log log) last.1 pre;
  ends = of_one_life seen whole now (last.0 ++ c ∷ []) one (is ∙ ap (λ (log : List CellData). record whole { log = log }) last.1);
  given = (last_moment whole.config whole.log c are last).config_is ∙ sym one.config;
}
