-- The names of a host's files.
use Rattle.std.specs.Prelude.{◌≡◌, ℕ, ◌-◌, ◌<◌, ◌^◌, ◌&&◌, Bool, true, nat_le, List, ◌++◌, Option, Some, IfSome, codes, decimal, length, replicate}
use Rattle.std.specs.List.{list_all}
use Rattle.job_language.specs.Name.{is_name}

-- the number of a term as it stands in a name: six digits at least
abbrev pub term_digits : ℕ → List ℕ
term_digits term = replicate (6 - length (decimal term)) 48 ++ decimal term

-- the file of a tenant's term in a folder
abbrev pub term_path : (folder name : List ℕ) (term : ℕ) → List ℕ
term_path folder name term = folder ++ (codes "/" ++ (name ++ (codes "." ++ (term_digits term ++ codes ".jsonl"))))

-- the file of a tenant's journal in a folder, of a term whose jobs are numbered after `base`
abbrev pub journal_path : (folder name : List ℕ) (term base : ℕ) → List ℕ
journal_path folder name term base = folder ++ (codes "/" ++ (name ++ (codes "." ++ (term_digits term ++ (codes "." ++ (decimal base ++ codes ".jsonl"))))))

-- If the path is that of a tenant's term in the folder, it is read as this one.
abbrev pub FindsTerm : (folder path : List ℕ) → Option (List ℕ × ℕ) → Type 0
FindsTerm folder path r = (name : List ℕ) (term : ℕ) → is_name name ≡ true → term < 2 ^ 64 → path ≡ term_path folder name term → r ≡ Some (name, term)

-- the tenant and the term whose file the path is, if it is the path of one
pub record IsTermOf (folder path : List ℕ) (r : Option (List ℕ × ℕ)) : Type 0 where
  pub said : IfSome r (λ f. (is_name f.0 ≡ true) × (path ≡ term_path folder f.0 f.1))
  pub found : FindsTerm folder path r

-- If the path is that of a tenant's journal in the folder, it is read as this one.
abbrev pub FindsJournal : (folder path : List ℕ) → Option (List ℕ × ℕ × ℕ) → Type 0
FindsJournal folder path r = (name : List ℕ) (term base : ℕ) → is_name name ≡ true → term < 2 ^ 64 → base < 2 ^ 64 → path ≡ journal_path folder name term base → r ≡ Some (name, term, base)

-- the tenant, the term and the number after which its jobs are numbered, whose journal the path is, if it is the path of one
pub record IsJournalOf (folder path : List ℕ) (r : Option (List ℕ × ℕ × ℕ)) : Type 0 where
  pub said : IfSome r (λ f. (is_name f.0 ≡ true) × (path ≡ journal_path folder f.0 f.1 f.2))
  pub found : FindsJournal folder path r

abbrev pub is_digit : ℕ → Bool
is_digit b = nat_le 48 b && nat_le b 57

-- It is the path of a part of the dump whose path is `front` and `.jsonl`: the number of the part, if there is one, has digits.
abbrev pub IsPartOf : (front path : List ℕ) → Type 0
IsPartOf front path = (digits : List ℕ) × (list_all is_digit digits ≡ true) × (path ≡ front ++ (codes ".jsonl.part" ++ digits))

-- the path of the dump of which the path is a part's, without its end, if it is a part's
pub record IsBeforePart (path : List ℕ) (r : Option (List ℕ)) : Type 0 where
  pub said : IfSome r (λ front. IsPartOf front path)
  pub found : (front : List ℕ) → IsPartOf front path → r ≡ Some front
