-- The lines of moves.
use Rattle.std.proofs.Common.{◌≡◌, ℕ, List, [], ◌∷◌, ◌++◌, ap, append_assoc, codes, decimal, refl, sym, ◌∙◌}
use Rattle.json.specs.Print.{escape_byte}
use Rattle.job_language.specs.declared.answers.Answer.{Answer}
use Rattle.job_language.specs.declared.answers.Answer.TheVariants as answer
use Rattle.job_language.specs.declared.answers.Came.TheVariants.{At}
use Rattle.job_language.specs.declared.answers.Moved.TheVariants.{Ran, Nested, Freed}
use Rattle.job_language.specs.declared.steps.Entry.{Entry}
use Rattle.job_language.specs.declared.steps.Step.{Step}
use Rattle.job_language.specs.declared.steps.Step.TheVariants as step
use Rattle.dump_lines.specs.Dumps.{entry_text}
use Rattle.part_writer.specs.Moves.{advance_text, arrived_text, nested_text}

pub three : (t old a x b : List ℕ) → t ≡ old ++ a ++ x ++ b → t ≡ old ++ (a ++ x ++ b)
three t old a x b is = is ∙ append_assoc (old ++ a) x b ∙ append_assoc old a (x ++ b) ∙ ap (λ (r : List ℕ). old ++ r) (sym (append_assoc a x b))

pub then_three : (t s old a x b y c : List ℕ) → s ≡ old ++ a ++ x → t ≡ s ++ (b ++ y ++ c) → t ≡ old ++ (a ++ x ++ (b ++ y ++ c))
then_three t s old a x b y c first more = three t old a x (b ++ y ++ c) (more ∙ ap (λ (r : List ℕ). r ++ (b ++ y ++ c)) first)

one : (a x b : List ℕ) → a ++ (x ++ b) ++ 10 ∷ [] ≡ a ++ x ++ (b ++ 10 ∷ [])
one a x b = ap (λ (t : List ℕ). t ++ 10 ∷ []) (sym (append_assoc a x b)) ∙ append_assoc (a ++ x) b (10 ∷ [])

two : (a x b y c : List ℕ) → a ++ (x ++ (b ++ (y ++ c))) ++ 10 ∷ [] ≡ a ++ x ++ (b ++ y ++ (c ++ 10 ∷ []))
two a x b y c = one a x (b ++ (y ++ c)) ∙ ap (λ (t : List ℕ). a ++ x ++ t) (one b y c)

both : (e : Entry) (s : Step) (a : Answer) → e.step ≡ s → e.answer ≡ a → e ≡ record { step = s; answer = a }
both e s a is was = ap (λ (x : Step). record { step = x; answer = e.answer }) is ∙ ap (λ (x : Answer). record { step = s; answer = x }) was

ran_text : (slot : ℕ) → entry_text (record { step = step.Advance slot; answer = answer.Moved Ran }) ≡ advance_text (codes "{\"moved\":\"ran\",\"slot\":") slot
unfolding escape_byte
ran_text slot = one (codes "{\"moved\":\"ran\",\"slot\":") (decimal slot) (codes ",\"step\":\"advance\"}")

freed_text : (slot : ℕ) → entry_text (record { step = step.Advance slot; answer = answer.Moved Freed }) ≡ advance_text (codes "{\"moved\":\"freed\",\"slot\":") slot
unfolding escape_byte
freed_text slot = one (codes "{\"moved\":\"freed\",\"slot\":") (decimal slot) (codes ",\"step\":\"advance\"}")

nested_is : (slot row : ℕ) → entry_text (record { step = step.Advance slot; answer = answer.Moved (Nested row) }) ≡ nested_text row slot
unfolding escape_byte
nested_is slot row = two (codes "{\"moved\":\"nested\",\"row\":") (decimal row) (codes ",\"slot\":") (decimal slot) (codes ",\"step\":\"advance\"}")

arrived_is : (slot row : ℕ) → entry_text (record { step = step.Arrive slot; answer = answer.Came (At row) }) ≡ arrived_text row slot
unfolding escape_byte
arrived_is slot row = two (codes "{\"moved\":\"arrived\",\"row\":") (decimal row) (codes ",\"slot\":") (decimal slot) (codes ",\"step\":\"arrive\"}")

-- what was added is the line of the entry
pub ran : (e : Entry) (slot : ℕ) (t old : List ℕ) → e.step ≡ step.Advance slot → e.answer ≡ answer.Moved Ran →
    t ≡ old ++ advance_text (codes "{\"moved\":\"ran\",\"slot\":") slot → t ≡ old ++ entry_text e
ran e slot t old is moved more = more ∙ ap (λ (x : List ℕ). old ++ x) (sym (ap entry_text (both e _ _ is moved) ∙ ran_text slot))

pub freed : (e : Entry) (slot : ℕ) (t old : List ℕ) → e.step ≡ step.Advance slot → e.answer ≡ answer.Moved Freed →
    t ≡ old ++ advance_text (codes "{\"moved\":\"freed\",\"slot\":") slot → t ≡ old ++ entry_text e
freed e slot t old is moved more = more ∙ ap (λ (x : List ℕ). old ++ x) (sym (ap entry_text (both e _ _ is moved) ∙ freed_text slot))

pub nested : (e : Entry) (slot row : ℕ) (t old : List ℕ) → e.step ≡ step.Advance slot → e.answer ≡ answer.Moved (Nested row) → t ≡ old ++ nested_text row slot → t ≡ old ++ entry_text e
nested e slot row t old is moved more = more ∙ ap (λ (x : List ℕ). old ++ x) (sym (ap entry_text (both e _ _ is moved) ∙ nested_is slot row))

pub arrived : (e : Entry) (slot row : ℕ) (t old : List ℕ) → e.step ≡ step.Arrive slot → e.answer ≡ answer.Came (At row) → t ≡ old ++ arrived_text row slot → t ≡ old ++ entry_text e
arrived e slot row t old is came more = more ∙ ap (λ (x : List ℕ). old ++ x) (sym (ap entry_text (both e _ _ is came) ∙ arrived_is slot row))
