-- A statement that is not changed, and those whose parts are.
use Rattle.std.proofs.Common.{◌≡◌, ℕ, Option, None, Some, Bool, true, false, refl, sym, subst, ◌∙◌}
use Rattle.std.specs.Prelude.{Box}
use Rattle.std.specs.Global.{Global}
use Rattle.source_language.specs.declared.syntax.Expr.{Expr}
use Rattle.source_language.specs.declared.syntax.Stmt.{Stmt}
use Rattle.source_language.specs.declared.syntax.Stmt.TheVariants.{Skip, Then', Assign, If', Loop', Repeat', Break, Continue, Return, Make, Wait, Cancel, Read, Store}
use Rattle.source_language.specs.declared.syntax.Test.{Test}
use Rattle.source_language.specs.declared.syntax.Maker.{Maker}
use Rattle.values_again.specs.Again.{IsAgain, IsAlike, IsTestAlike, IsBehind, IsUntouched}
use Rattle.values_again.specs.Again.{Skips, Thens, Assigns, Ifs, Loops, Repeats, Breaks, Continues, Returns, Makes, Waits, Cancels, Asks, Stores, Sets}

pub same : (v : ℕ) (m : Option Expr) (s : Stmt) → IsAgain v m s s
same v m Skip = Skips
same v m (Then' p a q b) = Thens (same v m a) (same v m b)
same v m (Assign x e) = Assigns (λ slot width vars h. refl)
same v m (If' c p a q b) = Ifs (λ slot width vars h. refl) (same v m a) (same v m b)
same v m (Loop' c p b q s) = Loops (λ slot width vars h. refl) (same v m b) (same v m s)
same v m (Repeat' c p b q s) = Repeats (λ slot width vars h. refl) (same v m b) (same v m s)
same v m (Break k) = Breaks
same v m (Continue k) = Continues
same v m (Return e) = Returns (λ slot width vars h. refl)
same v m (Make k p a b) = Makes (λ slot width vars h. refl) (λ slot width vars h. refl)
same v m (Wait d e g) = Waits
same v m (Cancel g) = Cancels
same v m (Read d q) = Asks
same v m (Store k e) = Stores (λ slot width vars h. refl)

module _ (v : ℕ) (m : Option Expr) (s : Stmt) where
  pub assigned : (x : ℕ) (d d' : Expr) → s ≡ Assign x d → IsAlike v m d d' → IsAgain v m s (Assign x d')
  assigned x d d' is alike = subst (λ s. IsAgain v m s (Assign x d')) (sym is) (Assigns alike)

  pub returned : (d d' : Expr) → s ≡ Return d → IsAlike v m d d' → IsAgain v m s (Return d')
  returned d d' is alike = subst (λ s. IsAgain v m s (Return d')) (sym is) (Returns alike)

  pub stored : (k : ℕ) (d d' : Expr) → s ≡ Store k d → IsAlike v m d d' → IsAgain v m s (Store k d')
  stored k d d' is alike = subst (λ s. IsAgain v m s (Store k d')) (sym is) (Stores alike)

  pub made : (k : Maker) (n : ℕ) (a a' b b' : Expr) → s ≡ Make k n a b → IsAlike v m a a' → IsAlike v m b b' → IsAgain v m s (Make k n a' b')
  made k n a a' b b' is one two = subst (λ s. IsAgain v m s (Make k n a' b')) (sym is) (Makes one two)

  -- parts that are read through a borrow
  module _ (p q : Box (Unit {0}) Global) (a b read written : Stmt) (was : read ≡ a) (one : IsAgain v m read written) where
    pub thens : (b' b'' : Stmt) → s ≡ Then' p a q b → b' ≡ b → IsAgain v m b' b'' → IsAgain v m s (Then' p written q b'')
    thens b' b'' is was' two =
        subst (λ s. IsAgain v m s (Then' p written q b'')) (sym is) (Thens (subst (λ x. IsAgain v m x written) was one) (subst (λ x. IsAgain v m x b'') was' two))

    pub chosen : (c c' : Test) (b' b'' : Stmt) → s ≡ If' c p a q b → IsTestAlike v m c c' → b' ≡ b → IsAgain v m b' b'' → IsAgain v m s (If' c' p written q b'')
    chosen c c' b' b'' is alike was' two =
        subst (λ s. IsAgain v m s (If' c' p written q b'')) (sym is) (Ifs alike (subst (λ x. IsAgain v m x written) was one) (subst (λ x. IsAgain v m x b'') was' two))

    pub looped : (c c' : Test) (b' b'' : Stmt) → s ≡ Loop' c p a q b → IsTestAlike v m c c' → b' ≡ b → IsAgain v m b' b'' → IsAgain v m s (Loop' c' p written q b'')
    looped c c' b' b'' is alike was' two =
        subst (λ s. IsAgain v m s (Loop' c' p written q b'')) (sym is) (Loops alike (subst (λ x. IsAgain v m x written) was one) (subst (λ x. IsAgain v m x b'') was' two))

    pub repeated : (c c' : Test) (b' b'' : Stmt) → s ≡ Repeat' c p a q b → IsTestAlike v m c c' → b' ≡ b → IsAgain v m b' b'' → IsAgain v m s (Repeat' c' p written q b'')
    repeated c c' b' b'' is alike was' two =
        subst (λ s. IsAgain v m s (Repeat' c' p written q b'')) (sym is) (Repeats alike (subst (λ x. IsAgain v m x written) was one) (subst (λ x. IsAgain v m x b'') was' two))

-- a value that is computed again in what follows
pub behind : (v : ℕ) (s : Stmt) (p q : Box (Unit {0}) Global) (a b first b' b'' : Stmt) (again : Bool)
    → s ≡ Then' p a q b → first ≡ a → b' ≡ b → again ≡ true → IsBehind v again first b' b''
    → IsAgain v None s (Then' p a q b'')
behind v s p q a b first b' b'' again is one two found h =
    let so : IsBehind v true first b' b'' = subst (λ x. IsBehind v x first b' b'') found h in
    let sets : a ≡ Assign v so.0 = sym one ∙ so.1 in
    let under : IsUntouched v so.0 b = subst (λ x. IsUntouched v so.0 x) two so.3 in
    let then : IsAgain v (Some so.0) b b'' = subst (λ x. IsAgain v (Some so.0) x b'') two so.4 in
    subst (λ x. IsAgain v None x (Then' p a q b'')) (sym is) (subst (λ x. IsAgain v None (Then' p x q b) (Then' p x q b'')) (sym sets) (Sets so.2 under then))

pub not_behind : (v : ℕ) (first b' b'' : Stmt) (again : Bool) → again ≡ false → IsBehind v again first b' b'' → b'' ≡ b'
not_behind v first b' b'' again missing h = subst (λ x. IsBehind v x first b' b'') missing h

pub ruleset kept_rules = (same, assigned, returned, stored, made)
