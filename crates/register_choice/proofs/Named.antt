-- Other registers name the same procedures.
use Rattle.std.proofs.Common.{ℕ, zero, suc, ◌+◌, List, [], ◌∷◌, All, arith}
use Rattle.job_language.specs.declared.instructions.Instr.{Instr}
use Rattle.job_language.specs.declared.instructions.Instr.TheVariants.{Set, Add, Sub, Mul, Div, Lt, Rem, And, Or, Xor, Shl, Shr, Eq, Le, Jz, Jmp, Slot, Width, Spawn, Post, Wait, Cancel, Ask, Isolate}
use Rattle.job_language.specs.declared.instructions.Instr.TheVariants.{Load, Store, Sum, Count, Ret}
use Rattle.job_language.specs.Program.{Calls}
use Rattle.job_compiler.specs.Colours.{renamed}
use Rattle.register_choice.specs.Choice.{colour_of, renamed_from}

one_named : (c c' : ℕ → ℕ) (n : ℕ) (i : Instr) → Calls n i → Calls n (renamed c c' i)
one_named c c' n (Set d z) h = h
one_named c c' n (Add d a b) h = h
one_named c c' n (Sub d a b) h = h
one_named c c' n (Mul d a b) h = h
one_named c c' n (Div d a b) h = h
one_named c c' n (Lt d a b) h = h
one_named c c' n (Rem d a b) h = h
one_named c c' n (And d a b) h = h
one_named c c' n (Or d a b) h = h
one_named c c' n (Xor d a b) h = h
one_named c c' n (Shl d a b) h = h
one_named c c' n (Shr d a b) h = h
one_named c c' n (Eq d a b) h = h
one_named c c' n (Le d a b) h = h
one_named c c' n (Jz a t) h = h
one_named c c' n (Jmp t) h = h
one_named c c' n (Slot d) h = h
one_named c c' n (Width d) h = h
one_named c c' n (Spawn g p a b) h = h
one_named c c' n (Post p a b) h = h
one_named c c' n (Wait d e g) h = h
one_named c c' n (Cancel g) h = h
one_named c c' n (Ask d) h = h
one_named c c' n (Isolate d p a b) h = h
one_named c c' n (Load d k) h = h
one_named c c' n (Store k a) h = h
one_named c c' n (Sum d k) h = h
one_named c c' n (Count d k) h = h
one_named c c' n (Ret a) h = h

pub all_named : (colours : List (List ℕ)) (place n : ℕ) (vs : List Instr) → All (Calls n) vs → All (Calls n) (renamed_from colours place vs)
all_named colours place n [] h k d low = absurd (omega (arith, low))
all_named colours place n (v ∷ vs) h zero d low = one_named (colour_of colours place) (colour_of colours (place + 1)) n v (h 0 v (omega arith))
all_named colours place n (v ∷ vs) h (suc k) d low = all_named colours (place + 1) n vs (λ j x l. h (suc j) x (omega (arith, l))) k d (omega (arith, low))
