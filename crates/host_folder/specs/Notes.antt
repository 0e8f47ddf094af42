-- What a line of notes says.
use Rattle.std.specs.Prelude.{◌≡◌, ℕ, ◌<◌, ◌^◌, ◌==◌, Bool, false, List, ◌++◌, Option, Some, IfSome, codes, decimal}
use Rattle.std.specs.List.{list_any}
use Rattle.std.specs.Str.{IsUtf8}

-- the note of a number behind a word
abbrev pub note : (word : List ℕ) → ℕ → List ℕ
note word n = codes "{" ++ (word ++ (decimal n ++ codes "}"))

abbrev pub is_brace : ℕ → Bool
is_brace b = b == 123

-- the number of the note with which a line ends, behind a word, if it ends with one
pub record IsNotedIn (word line : List ℕ) (r : Option ℕ) : Type 0 where
  pub said : IfSome r (λ n. (n < 2 ^ 64) × (front : List ℕ) × (line ≡ front ++ note word n))
  pub found : (front : List ℕ) (n : ℕ) → list_any is_brace word ≡ false → IsUtf8 line → n < 2 ^ 64 → line ≡ front ++ note word n → r ≡ Some n
