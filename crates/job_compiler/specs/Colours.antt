-- When a procedure is another one with fewer registers: at each place each register has one of the few, which it keeps until it is written, and none that is still read is overwritten.
use Rattle.std.specs.Prelude.{◌≡◌, ◌≢◌, ℕ, ◌+◌, ◌<◌, ◌≤◌, ◌⊎◌, Bool, true, List, [], ◌∷◌, length, Some, None, slice_get, slice_index_or, ℤ, pos}
use Rattle.std.specs.List.{AllByRecursion}
use Rattle.job_language.specs.declared.instructions.Instr.{Instr}
use Rattle.job_language.specs.declared.instructions.Instr.TheVariants.{Set, Add, Sub, Mul, Div, Lt, Rem, And, Or, Xor, Shl, Shr, Eq, Le, Jz, Jmp, Slot, Width, Spawn, Post, Wait, Cancel, Ask, Isolate}
use Rattle.job_language.specs.declared.instructions.Instr.TheVariants.{Load, Store, Sum, Count, Ret}

-- What it reads is in the registers that c says, and what it writes goes to those that c' says.
abbrev pub renamed : (c c' : ℕ → ℕ) → Instr → Instr
renamed c c' (Set d n) = Set (c' d) n
renamed c c' (Add d a b) = Add (c' d) (c a) (c b)
renamed c c' (Sub d a b) = Sub (c' d) (c a) (c b)
renamed c c' (Mul d a b) = Mul (c' d) (c a) (c b)
renamed c c' (Div d a b) = Div (c' d) (c a) (c b)
renamed c c' (Lt d a b) = Lt (c' d) (c a) (c b)
renamed c c' (Rem d a b) = Rem (c' d) (c a) (c b)
renamed c c' (And d a b) = And (c' d) (c a) (c b)
renamed c c' (Or d a b) = Or (c' d) (c a) (c b)
renamed c c' (Xor d a b) = Xor (c' d) (c a) (c b)
renamed c c' (Shl d a b) = Shl (c' d) (c a) (c b)
renamed c c' (Shr d a b) = Shr (c' d) (c a) (c b)
renamed c c' (Eq d a b) = Eq (c' d) (c a) (c b)
renamed c c' (Le d a b) = Le (c' d) (c a) (c b)
renamed c c' (Jz a t) = Jz (c a) t
renamed c c' (Jmp t) = Jmp t
renamed c c' (Slot d) = Slot (c' d)
renamed c c' (Width d) = Width (c' d)
renamed c c' (Spawn g p a b) = Spawn g p (c a) (c b)
renamed c c' (Post p a b) = Post p (c a) (c b)
renamed c c' (Wait d e g) = Wait (c' d) (c' e) g
renamed c c' (Cancel g) = Cancel g
renamed c c' (Ask d) = Ask (c' d)
renamed c c' (Isolate d p a b) = Isolate (c' d) p (c a) (c b)
renamed c c' (Load d k) = Load (c' d) k
renamed c c' (Store k a) = Store k (c a)
renamed c c' (Sum d k) = Sum (c' d) k
renamed c c' (Count d k) = Count (c' d) k
renamed c c' (Ret a) = Ret (c a)

-- the registers that an instruction reads
abbrev pub reads : Instr → List ℕ
reads (Add d a b) = a ∷ b ∷ []
reads (Sub d a b) = a ∷ b ∷ []
reads (Mul d a b) = a ∷ b ∷ []
reads (Div d a b) = a ∷ b ∷ []
reads (Lt d a b) = a ∷ b ∷ []
reads (Rem d a b) = a ∷ b ∷ []
reads (And d a b) = a ∷ b ∷ []
reads (Or d a b) = a ∷ b ∷ []
reads (Xor d a b) = a ∷ b ∷ []
reads (Shl d a b) = a ∷ b ∷ []
reads (Shr d a b) = a ∷ b ∷ []
reads (Eq d a b) = a ∷ b ∷ []
reads (Le d a b) = a ∷ b ∷ []
reads (Jz a t) = a ∷ []
reads (Spawn g p a b) = a ∷ b ∷ []
reads (Post p a b) = a ∷ b ∷ []
reads (Isolate d p a b) = a ∷ b ∷ []
reads (Store k a) = a ∷ []
reads (Ret a) = a ∷ []
reads i = []

-- the registers that it writes, in this order
abbrev pub writes : Instr → List ℕ
writes (Set d n) = d ∷ []
writes (Add d a b) = d ∷ []
writes (Sub d a b) = d ∷ []
writes (Mul d a b) = d ∷ []
writes (Div d a b) = d ∷ []
writes (Lt d a b) = d ∷ []
writes (Rem d a b) = d ∷ []
writes (And d a b) = d ∷ []
writes (Or d a b) = d ∷ []
writes (Xor d a b) = d ∷ []
writes (Shl d a b) = d ∷ []
writes (Shr d a b) = d ∷ []
writes (Eq d a b) = d ∷ []
writes (Le d a b) = d ∷ []
writes (Slot d) = d ∷ []
writes (Width d) = d ∷ []
writes (Wait d e g) = d ∷ e ∷ []
writes (Ask d) = d ∷ []
writes (Isolate d p a b) = d ∷ []
writes (Load d k) = d ∷ []
writes (Sum d k) = d ∷ []
writes (Count d k) = d ∷ []
writes i = []

-- where it may go on
abbrev pub leads_to : Instr → (place : ℕ) → List ℕ
leads_to (Jz a t) k = t ∷ (k + 1) ∷ []
leads_to (Jmp t) k = t ∷ []
leads_to (Ret a) k = []
leads_to i k = (k + 1) ∷ []

abbrev pub IsAmong : ℕ → List ℕ → Type 0
IsAmong u [] = ⊥
IsAmong u (d ∷ ds) = (u ≡ d) ⊎ IsAmong u ds

-- What is read later was read later before and keeps its register, or is written here; and what is written here lies on nothing else that is read later.
abbrev pub Flows : (c : ℕ → ℕ → ℕ) (live : ℕ → ℕ → Bool) (written : List ℕ) (place next : ℕ) → Type 0
Flows c live ws k next =
    (u : ℕ) → live next u ≡ true → (IsAmong u ws ⊎ ((live k u ≡ true) × (c next u ≡ c k u))) × AllByRecursion (λ d. u ≢ d → c next u ≢ c next d) ws

-- an instruction writes registers below a number
abbrev pub WritesBelow : ℕ → Instr → Type 0
WritesBelow size i = AllByRecursion (λ d. d < size) (writes i)

-- At the beginning the two arguments are in the first two registers, if they are read later; the others are 0, and in none of these two.
abbrev pub BeginsWith : (c : ℕ → ℕ → ℕ) (live : ℕ → ℕ → Bool) → Type 0
BeginsWith c live = (u : ℕ) → live 0 u ≡ true → ((u < 2) × (c 0 u ≡ u)) ⊎ ((2 ≤ u) × (2 ≤ c 0 u))

-- vs has registers below `most`, and rs is vs with those that c says, for each place; `live` says which registers are read later
pub record IsColoured (most : ℕ) (vs rs : List Instr) (c : ℕ → ℕ → ℕ) (live : ℕ → ℕ → Bool) : Type 0 where
  pub renames : (k : ℕ) (i : Instr) → slice_get vs k ≡ Some i → slice_get rs k ≡ Some (renamed (c k) (c (k + 1)) i)
  pub nowhere : (k : ℕ) → slice_get vs k ≡ None → slice_get rs k ≡ None
  pub read : (k : ℕ) (i : Instr) → slice_get vs k ≡ Some i → AllByRecursion (λ u. live k u ≡ true) (reads i)
  pub low : (k : ℕ) (i : Instr) → slice_get vs k ≡ Some i → AllByRecursion (λ d. (d < most) × (c (k + 1) d < 8)) (writes i)
  pub flow : (k : ℕ) (i : Instr) → slice_get vs k ≡ Some i → AllByRecursion (Flows c live (writes i) k) (leads_to i k)

-- what is read later is the same in both
pub record Same (c : ℕ → ℕ → ℕ) (live : ℕ → ℕ → Bool) (most k : ℕ) (vregs regs : List ℤ) : Type 0 where
  pub all : length vregs ≡ most
  pub long : length regs ≡ 8
  pub same : (u : ℕ) → live k u ≡ true → slice_index_or vregs u (pos 0) ≡ slice_index_or regs (c k u) (pos 0)
