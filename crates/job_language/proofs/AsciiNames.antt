-- Names of tenants are ASCII.
use Rattle.std.proofs.Common.{◌≡◌, ℕ, ◌<◌, List, true, arith}
use Rattle.std.specs.Prelude.{Result, Ok, Err, MatchResult}
use Rattle.std.specs.Result.{IsOk}
use Rattle.std.specs.Str.{IsUtf8}
use Rattle.std.proofs.Common.{refl}
use Rattle.std.proofs.lemmas.Bool.{and_parts}
use Rattle.std.proofs.lemmas.Bool.Decides.{nat_tests}
use Rattle.std.proofs.lemmas.List.Sums.{AllPass-from_list_all}
use Rattle.std.proofs.lemmas.Str.{IsUtf8-from_ascii}
use Rattle.std.proofs.lemmas.Str.Ascii.{IsAscii-from_all}
use Rattle.job_language.specs.Name.{is_name, is_name_byte}

byte_below : (b : ℕ) → is_name_byte b ≡ true → b < 128
byte_below b h = grind (arith, nat_tests)

pub IsUtf8-name : (name : List ℕ) → is_name name ≡ true → IsUtf8 name
IsUtf8-name name h =
    IsUtf8-from_ascii name (IsAscii-from_all name (λ k d within. byte_below _ (AllPass-from_list_all is_name_byte name (and_parts _ _ h).1 k d within)))

-- a text is read where it is UTF-8
pub IsOk-unless : {A E : Type 0} (r : Result A E) (P : A → Type 0) (Q : Type 0) (R : E → Type 0) → MatchResult r P (λ e. ¬ Q × R e) → Q → IsOk r
IsOk-unless (Ok x) P Q R h q = refl
IsOk-unless (Err e) P Q R h q = absurd (h.0 q)
