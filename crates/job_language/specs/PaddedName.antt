-- How a tenant's name lies in an array of 32 bytes: the name, and then zeros.
use Rattle.std.specs.Prelude.{◌≡◌, ℕ, ◌-◌, ◌≤◌, List, ◌++◌, length, take, replicate, true}
use Rattle.std.proofs.Common.{sym, ap, subst, ◌∙◌, length-take-le}
use Rattle.job_language.specs.Name.{is_name}
use Rattle.job_language.specs.declared.names.TheConstants.{MAX_NAME}
use Rattle.job_language.specs.declared.names.TenantName.TheInside.{Inside}

abbrev pub text_of : Inside → List ℕ
text_of n = take n.len n.bytes

pub record IsPadded (n : Inside) : Type 0 where
  pub fits : n.len ≤ MAX_NAME
  pub all : length n.bytes ≡ MAX_NAME
  pub zeros : text_of n ++ replicate (MAX_NAME - n.len) 0 ≡ n.bytes
  pub name : is_name (text_of n) ≡ true

abbrev pub padded : List ℕ → Inside
padded name = record { bytes = name ++ replicate (MAX_NAME - length name) 0; len = length name }

-- What is padded again is as it was.
pub padded-text_of : (n : Inside) → IsPadded n → padded (text_of n) ≡ n
padded-text_of n h =
    let whole : length (text_of n) ≡ n.len = length-take-le n.len n.bytes (subst (λ m. n.len ≤ m) (sym h.all) h.fits) in
    ap (λ m. record { bytes = text_of n ++ replicate (MAX_NAME - m) 0; len = m }) whole ∙ ap (λ bytes. record { bytes = bytes; len = n.len }) h.zeros
