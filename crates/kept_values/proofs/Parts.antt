-- A statement that keeps a value in one of its parts.
use Rattle.std.proofs.Common.{◌≡◌, ℕ, Some, sym, subst}
use Rattle.std.specs.Prelude.{Box}
use Rattle.std.specs.Global.{Global}
use Rattle.source_language.specs.declared.syntax.Stmt.{Stmt}
use Rattle.source_language.specs.declared.syntax.Stmt.TheVariants.{Then', Assign, If', Loop', Repeat'}
use Rattle.source_language.specs.declared.syntax.Test.{Test}
use Rattle.source_language.specs.declared.syntax.Expr.{Expr}
use Rattle.values_again.specs.Again.{IsAgain, IsFree, IsUntouched}
use Rattle.kept_values.specs.Given.{HasValue}
use Rattle.values_again.proofs.Same.{same, assigned, returned, stored, made}
use Rattle.kept_values.specs.Kept.{IsKept, Stays, Keeps, InThen, InIf, InLoop, InRepeat}

-- parts that are read through a borrow
module _ (v : ℕ) (s : Stmt) (p q : Box (Unit {0}) Global) (a b read written : Stmt) (was : read ≡ a) (one : IsKept v read written) (b' b'' : Stmt) (was' : b' ≡ b)
    (two : IsKept v b' b'') where
  pub in_then : s ≡ Then' p a q b → IsKept v s (Then' p written q b'')
  in_then is = subst (λ s. IsKept v s (Then' p written q b'')) (sym is) (InThen (subst (λ x. IsKept v x written) was one) (subst (λ x. IsKept v x b'') was' two))

  pub in_if : (c : Test) → s ≡ If' c p a q b → IsKept v s (If' c p written q b'')
  in_if c is = subst (λ s. IsKept v s (If' c p written q b'')) (sym is) (InIf (subst (λ x. IsKept v x written) was one) (subst (λ x. IsKept v x b'') was' two))

  pub in_loop : (c : Test) → s ≡ Loop' c p a q b → IsKept v s (Loop' c p written q b'')
  in_loop c is = subst (λ s. IsKept v s (Loop' c p written q b'')) (sym is) (InLoop (subst (λ x. IsKept v x written) was one) (subst (λ x. IsKept v x b'') was' two))

  pub in_repeat : (c : Test) → s ≡ Repeat' c p a q b → IsKept v s (Repeat' c p written q b'')
  in_repeat c is = subst (λ s. IsKept v s (Repeat' c p written q b'')) (sym is) (InRepeat (subst (λ x. IsKept v x written) was one) (subst (λ x. IsKept v x b'') was' two))

-- a value that is given before a statement
pub kept_part : (v : ℕ) (s first part t : Stmt) (p q : Box (Unit {0}) Global) (e : Expr) → first ≡ Assign v e → part ≡ t → HasValue e → IsFree v e → IsUntouched v e s
    → IsAgain v (Some e) s t → IsKept v s (Then' p first q part)
kept_part v s first part t p q e is same has free under again =
    subst (λ x. IsKept v s (Then' p x q part)) (sym is) (subst (λ x. IsKept v s (Then' p (Assign v e) q x)) (sym same) (Keeps has free under again))

pub ruleset kept_rules = (same, assigned, returned, stored, made, Stays)
