-- The bytes that answer the lines of a script of any kind: the answer to each, on a line of its own.
use Rattle.std.specs.Prelude.{◌≡◌, ℕ, List, [], ◌∷◌, ◌++◌, Option, Some, None}
use Rattle.std.specs.Io.KnownBytes.{Appends}
use Rattle.dump_lines.specs.Parts.{AppendsPart}
use Rattle.request_reader.specs.Lines.{Line, whole, too_long, newline}

-- each line is taken in turn, and leads from one state to the next
abbrev pub Answered : {S : Type 0} → (takes : S → Line → List ℕ → S → Type 0) → List Line → S → List ℕ → S → Type 0
Answered {S = S} takes [] old text new = (text ≡ []) × (new ≡ old)
Answered {S = S} takes (line ∷ lines) old text new = (said : List ℕ) × (mid : S) × (rest : List ℕ) × takes old line said mid × (text ≡ said ++ newline ∷ rest) × Answered takes lines mid rest new

-- the answers are what a writer gets
abbrev pub AnswersAll : {S : Type 0} → (takes : S → Line → List ℕ → S → Type 0) → List Line → S → Option (List ℕ) → Option (List ℕ) → S → Type 0
AnswersAll {S = S} takes lines old before after new = (text : List ℕ) × Answered takes lines old text new × Appends before after text

-- a part of what answers all lines
pub record AnswersPart {S : Type 0} (takes : S → Line → List ℕ → S → Type 0) (lines : List Line) (old : S) (before after : Option (List ℕ)) : Type 0 where
  pub text : List ℕ
  pub new : S
  pub answered : Answered takes lines old text new
  pub part : AppendsPart before after text

-- The first line is a beginning, and the others are answered from there.
abbrev pub AnswersFrom : {B S : Type 0} → (first : List ℕ → Option B) → (takes : B → S → Line → List ℕ → S → Type 0) → (start : B → S) → List Line → Option (List ℕ) → Option (List ℕ) → Type 0
AnswersFrom {B = B} {S = S} first takes start [] before after = ⊥
AnswersFrom {B = B} {S = S} first takes start (too_long ∷ lines) before after = ⊥
AnswersFrom {B = B} {S = S} first takes start (whole line ∷ lines) before after = (b : B) × (final : S) × (first line ≡ Some b) × AnswersAll (takes b) lines (start b) before after final

-- no first line, or one that is no beginning
abbrev pub HasNoFirst : {B : Type 0} → (first : List ℕ → Option B) → List Line → Type 0
HasNoFirst {B = B} first [] = Unit {0}
HasNoFirst {B = B} first (too_long ∷ lines) = Unit {0}
HasNoFirst {B = B} first (whole line ∷ lines) = first line ≡ None

abbrev pub AnswersLater : {B S : Type 0} → (takes : B → S → Line → List ℕ → S → Type 0) → (start : B → S) → Option B → List Line → Option (List ℕ) → Option (List ℕ) → Type 0
AnswersLater {B = B} {S = S} takes start None lines before after = Appends before after []
AnswersLater {B = B} {S = S} takes start (Some b) lines before after = AnswersPart (takes b) lines (start b) before after

-- a part of what answers them; nothing if the first line is no beginning
abbrev pub StartsFrom : {B S : Type 0} → (first : List ℕ → Option B) → (takes : B → S → Line → List ℕ → S → Type 0) → (start : B → S) → List Line → Option (List ℕ) → Option (List ℕ) → Type 0
StartsFrom {B = B} {S = S} first takes start [] before after = Appends before after []
StartsFrom {B = B} {S = S} first takes start (too_long ∷ lines) before after = Appends before after []
StartsFrom {B = B} {S = S} first takes start (whole line ∷ lines) before after = AnswersLater takes start (first line) lines before after
