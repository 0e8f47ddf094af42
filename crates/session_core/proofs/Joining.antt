-- What one call of a reader of lines told, and then what the next one did.
use Rattle.std.proofs.Common.{◌≡◌, ℕ, true, List, [], ◌++◌, Option, Some, None, refl, sym, ap, ◌∙◌, arith, append_assoc}
use Rattle.std.specs.Io.KnownBytes.{Consumes}
use Rattle.request_reader.specs.Lines.{Line}
use Rattle.request_reader.specs.Reading.{Reading, Reads, Tells, lines_left}

consumes_then : (x y z : Option (List ℕ)) (first next : List ℕ) → Consumes x y first → Consumes y z next → Consumes x z (first ++ next)
consumes_then None y z first next h k = tt
consumes_then (Some xs) None z first next h k = absurd h
consumes_then (Some xs) (Some ys) None first next h k = k
consumes_then (Some xs) (Some ys) (Some zs) first next h k = h ∙ ap (λ bytes. first ++ bytes) k ∙ sym (append_assoc first next zs)

tells_then : (a b c : Reading) (first next : List ℕ) (told more_told : List Line) → Tells a b first told → Tells b c next more_told → Tells a c (first ++ next) (told ++ more_told)
tells_then a b c first next told more_told s t = record {
  limit = t.limit ∙ s.limit;
  ended = λ e.
      let here = s.ended e in
      let later = t.ended here.1 in
      (rw (here.0, later.0) refl, later.1);
  lines = λ more last.
      let still : b.is_ended ≡ true → next ++ more ≡ [] = λ e. let later = t.ended e in rw (later.0, last later.1) refl in
      ap (lines_left a) (append_assoc first next more) ∙ s.lines (next ++ more) still ∙ ap (λ lines. told ++ lines) (t.lines more last) ∙ sym (append_assoc told more_told (lines_left c more));
}

pub reads_then : (a b c : Reading) (x y z : Option (List ℕ)) (told more_told : List Line) → Reads a b x y told → Reads b c y z more_told → Reads a c x z (told ++ more_told)
reads_then a b c x y z told more_told s t = record {
  came = s.came ++ t.came;
  consumed = consumes_then x y z s.came t.came s.consumed t.consumed;
  tells = tells_then a b c s.came t.came told more_told s.tells t.tells;
  turns = omega (arith, s.turns, t.turns);
  end = λ h. t.end (s.end h);
}
