-- One step of reading a value.
use Rattle.std.proofs.Common.{◌≡◌, ℕ, zero, suc, ◌+◌, ◌-◌, ◌<◌, ◌≤◌, List, [], ◌∷◌, ◌++◌, drop, Some, Result, Ok, Err, refl, ap, ◌∙◌, arith}
use Rattle.std.proofs.lemmas.Bool.{lt-ltb, le-ltb}
use Rattle.source_tokens.specs.declared.tokens.BuiltIn.{BuiltIn}
use Rattle.source_tokens.specs.declared.tokens.Sign.{Sign}
use Rattle.source_tokens.specs.declared.tokens.Token.{Token}
use Rattle.source_reader.specs.declared.faults.Fault.{Fault}
use Rattle.source_reader.specs.declared.faults.ReadError.{ReadError}
use Rattle.source_reader.specs.declared.faults.ReadError.TheVariants as errors
use Rattle.source_reader.specs.declared.faults.Wrong.TheVariants as wrong
use Rattle.source_reader.specs.Names.{Scope}
use Rattle.source_reader.specs.Faults.{fault_at, ◌>>=◌, Fails}
use Rattle.source_reader.specs.Trees.{ExprTree, ValueTree, InlineTree}
use Rattle.source_reader.specs.Inlines.{given_in}
use Rattle.source_reader.specs.Joining.{joined}
use Rattle.source_reader.specs.Values.{Wanted, Level, More, Single, Argument, Operand, sign_at, more, behind_argument, behind_operand, step, value_at}

pub value_none : (n : ℕ) (names : Scope) (w : Wanted) (ts : List Token) → n ≡ 0 → value_at n names w ts ≡ Err (fault_at ts wrong.TooLong)
unfolding value_at
value_none zero names w ts e = refl
value_none (suc n) names w ts e = absurd (omega arith)

pub value_some : (n : ℕ) (names : Scope) (w : Wanted) (ts : List Token) → 0 < n → value_at n names w ts ≡ step (value_at (n - 1) names) names w ts
unfolding value_at
value_some zero names w ts h = absurd (omega arith)
value_some (suc n) names w ts h =
    let e : n ≡ suc n - 1 = omega arith in
    ap (λ (k : ℕ). step (value_at k names) names w ts) e

pub ruleset value_steps = (value_none, value_some)

pub level_single : (n : ℕ) (names : Scope) (l : ℕ) (ts : List Token) → 0 < n → 9 ≤ l → value_at n names (Level l) ts ≡ value_at (n - 1) names Single ts
level_single n names l ts h le = value_some n names (Level l) ts h ∙ rw (le-ltb l 9 le) refl

pub level_more : (n : ℕ) (names : Scope) (l : ℕ) (ts : List Token) (a : ValueTree) (rest : List Token) → 0 < n → l < 9 → value_at (n - 1) names (Level (l + 1)) ts ≡ Ok (a, rest)
    → value_at n names (Level l) ts ≡ value_at (n - 1) names (More l a) rest
level_more n names l ts a rest h lt e = value_some n names (Level l) ts h ∙ rw (lt-ltb l 9 lt, e) refl

pub more_on : (n : ℕ) (names : Scope) (l : ℕ) (left : ValueTree) (ts : List Token) (s : Sign) (right : ValueTree) (rest : List Token) (both : ValueTree) → 0 < n → sign_at l ts ≡ Some s
    → value_at (n - 1) names (Level (l + 1)) (drop 1 ts) ≡ Ok (right, rest) → joined s left right ts ≡ Ok both → value_at n names (More l left) ts ≡ value_at (n - 1) names (More l both) rest
more_on n names l left ts s right rest both h es er eb = value_some n names (More l left) ts h ∙ rw (es, er, eb) refl

pub argument_on : (n : ℕ) (names : Scope) (f : InlineTree) (before : List ExprTree) (called ts : List Token) (v : ValueTree) (rest : List Token) (e : ExprTree) → 0 < n
    → value_at (n - 1) names (Level 0) ts ≡ Ok (v, rest) → given_in v ts ≡ Ok e
    → value_at n names (Argument f before called) ts ≡ behind_argument (value_at (n - 1) names) f (before ++ e ∷ []) called rest
argument_on n names f before called ts v rest e h ev ee = value_some n names (Argument f before called) ts h ∙ rw (ev, ee) refl

pub operand_on : (n : ℕ) (names : Scope) (f : BuiltIn) (before : List ExprTree) (called ts : List Token) (v : ValueTree) (rest : List Token) (e : ExprTree) → 0 < n
    → value_at (n - 1) names (Level 0) ts ≡ Ok (v, rest) → given_in v ts ≡ Ok e
    → value_at n names (Operand f before called) ts ≡ behind_operand (value_at (n - 1) names) f (before ++ e ∷ []) called rest
operand_on n names f before called ts v rest e h ev ee = value_some n names (Operand f before called) ts h ∙ rw (ev, ee) refl

-- What follows a fault does not matter.
pub fails_then : {A B : Type 0} (e : ReadError) (r : Result A Fault) (f : A → Result B Fault) → Fails e r → Fails e (r >>= f)
fails_then errors.Memory r f h = tt
fails_then (errors.Fault d) (Ok x) f h = absurd cc
fails_then (errors.Fault d) (Err g) f h = cc

pub right_fails : (n : ℕ) (names : Scope) (l : ℕ) (left : ValueTree) (ts : List Token) (s : Sign) (e : ReadError) → 0 < n → sign_at l ts ≡ Some s
    → Fails e (value_at (n - 1) names (Level (l + 1)) (drop 1 ts)) → Fails e (value_at n names (More l left) ts)
right_fails n names l left ts s e h es er =
    let k : value_at n names (More l left) ts ≡ more (value_at (n - 1) names) l left (Some s) ts = value_some n names (More l left) ts h ∙ rw es refl in
    rw k (fails_then e (value_at (n - 1) names (Level (l + 1)) (drop 1 ts)) _ er)

pub both_fail : (n : ℕ) (names : Scope) (l : ℕ) (left : ValueTree) (ts : List Token) (s : Sign) (right : ValueTree) (rest : List Token) (e : ReadError) → 0 < n → sign_at l ts ≡ Some s
    → value_at (n - 1) names (Level (l + 1)) (drop 1 ts) ≡ Ok (right, rest) → Fails e (joined s left right ts) → Fails e (value_at n names (More l left) ts)
both_fail n names l left ts s right rest e h es er eb =
    let k : value_at n names (More l left) ts ≡ (joined s left right ts >>= λ both. value_at (n - 1) names (More l both) rest) = value_some n names (More l left) ts h ∙ rw (es, er) refl in
    rw k (fails_then e (joined s left right ts) _ eb)
