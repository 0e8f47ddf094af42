-- Names in their arrays.
use Rattle.std.proofs.Common.{◌≡◌, ℕ, ◌-◌, ◌≤◌, List, ◌++◌, length, take, drop, replicate, true, refl, arith, length-append}
use Rattle.std.proofs.lemmas.List.{length-replicate, drop-replicate}
use Rattle.std.proofs.lemmas.Bool.{and_parts, leb-true}
use Rattle.std.proofs.Math.Seq.{take-append_seam}
use Rattle.job_language.specs.Name.{is_name}
use Rattle.job_language.specs.PaddedName.{IsPadded}

name-fits : (text : List ℕ) → is_name text ≡ true → length text ≤ 32
name-fits text h = leb-true _ _ (and_parts _ _ (and_parts _ _ h).0).1

pub IsPadded-from_copy : (text bytes : List ℕ) → is_name text ≡ true → bytes ≡ text → IsPadded (record { bytes = bytes ++ drop {A = ℕ} (length text) (replicate 32 0); len = length text })
IsPadded-from_copy text bytes h e =
    let fits : length text ≤ 32 = name-fits text h in
    let zeros : drop {A = ℕ} (length text) (replicate 32 0) ≡ replicate (32 - length text) 0 = drop-replicate (length text) 32 0 in
    let front : take (length text) (text ++ replicate (32 - length text) 0) ≡ text = take-append_seam text (replicate (32 - length text) 0) in
    rw (e, zeros) (record {
      fits = fits;
      all = simp (length-append, length-replicate) (omega arith);
      zeros = rw front refl;
      name = rw front h;
    })
