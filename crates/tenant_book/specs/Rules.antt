-- The rules of the two kinds of books, and what their steps tell.
use Rattle.std.specs.Prelude.{ℕ, ◌≡◌, ◌==◌, true, List, [], ◌∷◌, ◌++◌, length, MatchBool, slice_index_or}
use Rattle.logbook.specs.Pages.{Cell, Step, View, Book, Named}
use Rattle.job_language.specs.declared.tenants.Tenant.{Tenant}
use Rattle.tenant_book.specs.Fronts.{no_config}
use Rattle.tenant_book.specs.declared.lives.Life.{Life}

-- The first word of a book is the length of its log. A book has two words, of which this one leaves the second at 0.
abbrev pub IsKept : {E : Type 0} → List Cell → List E → Type 0
IsKept cells log = cells ≡ (length log, true) ∷ (0, true) ∷ []

abbrev pub head_of : Book → Named
head_of b = record { tracked = true; key = 0; book = b }

-- the log so far was seen, and its length found
abbrev pub Looks : {E : Type 0} → Step E → View E ℕ → ℕ → View E ℕ → Type 0
Looks s v found w = length w.0 ≡ found

-- what was asked for was added to all that had been seen; or the log was longer, and was seen
abbrev pub Adds : {E : Type 0} → Step E → View E ℕ → ℕ → View E ℕ → Type 0
Adds s v found w = MatchBool (found == s.old) (w.0 ≡ v.0 ++ s.ask ∷ []) (length w.0 ≡ found)

-- the life that a registry has under a number
abbrev pub life_at : List Life → ℕ → Life
life_at lives number = slice_index_or lives number (record { number = 0; log_name = 0; cells_name = 0; config = no_config })

-- the book of a life
abbrev pub book_of : Life → Book
book_of l = record { number = l.number; log_name = l.log_name; cells_name = l.cells_name }

-- the life with that book, whose tenant is given that
abbrev pub life_of : Book → Tenant → Life
life_of b config = record { number = b.number; log_name = b.log_name; cells_name = b.cells_name; config = config }
