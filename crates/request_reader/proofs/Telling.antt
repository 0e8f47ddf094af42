-- The lines that are reported from the bytes that are held.
use Rattle.std.proofs.Common.{IsSome, inl, inr, Option, Some, None, subst, ◌≡◌, ◌≢◌, ℕ, ◌+◌, ◌≤◌, ◌<◌, List, [], ◌∷◌, ◌++◌, length, take, drop, true, false, sym, ap, refl, ◌∙◌, arith, append_assoc}
use Rattle.std.specs.Prelude.{◌⊎◌, unwrap_or, ◌||◌, nat_lt}
use Rattle.std.proofs.lemmas.Bool.{both_ways, cases_Bool, ltb-false, or_parts}
use Rattle.std.proofs.lemmas.List.{append-nil, length-take, length-take-le}
use Rattle.std.proofs.lemmas.List.Elements.{All-nil, All-same}
use Rattle.std.specs.Io.KnownBytes.{Consumes, Keeps, IsAtEnd}
use Rattle.request_reader.specs.declared.lines.LineRead.{LineRead}
use Rattle.request_reader.specs.declared.lines.LineRead.TheVariants as read
use Rattle.request_reader.specs.LineReads.{told_by, ComesTo, Finds, TurnsTo}
use Rattle.request_reader.specs.Lines.{newline, HasNoNewline, Line, whole, too_long, lines_of}
use Rattle.request_reader.specs.Newlines.{IsFirstNewline}
use Rattle.request_reader.specs.Reading.{Reading, is_long, lines_from, lines_left, Tells, Reads, IsPending}
use Rattle.request_reader.proofs.LineLaws.{lines_from-long, lines_from-whole, lines_from-last, drop_through-none, split_at}

-- The reader of bytes is not called, and goes on.
pub record IsSameRun (old new : Reading) : Type 0 where
  pub limit : new.limit ≡ old.limit
  pub turns : new.turns ≡ old.turns
  pub not_ended : old.is_ended ≡ false
  pub goes_on : new.is_ended ≡ false

told_from : (old new : Reading) (told : List Line) → IsSameRun old new →
    ((more : List ℕ) → lines_from old.limit old.is_within_long (old.held ++ more) ≡ told ++ lines_from old.limit new.is_within_long (new.held ++ more)) → Tells old new [] told
told_from old new told run same = record {
  limit = run.limit;
  ended = λ e. absurd (both_ways _ run.not_ended e);
  lines = λ more _. rw (run.not_ended, run.goes_on, run.limit) (same more);
}

module _ (old new : Reading) (place : ℕ) (run : IsSameRun old new) (first : IsFirstNewline old.held place) (next : new.is_within_long ≡ false) (rest : new.held ≡ drop (place + 1) old.held) where
  front : List ℕ
  front = take place old.held

  length-front : length front ≡ place
  unfolding front
  length-front = length-take-le place old.held (omega (arith, first.within))

  whole_held : (more : List ℕ) → lines_from old.limit old.is_within_long (old.held ++ more) ≡ lines_from old.limit old.is_within_long (front ++ newline ∷ (new.held ++ more))
  unfolding front
  whole_held more =
      ap (λ held. lines_from old.limit old.is_within_long (held ++ more)) (sym (split_at old.held place newline first.within first.here))
      ∙ ap (λ bytes. lines_from old.limit old.is_within_long bytes) (append_assoc (take place old.held) (newline ∷ drop (place + 1) old.held) more)
      ∙ ap (λ held. lines_from old.limit old.is_within_long (take place old.held ++ newline ∷ (held ++ more))) (sym rest)

  has_none : HasNoNewline front
  unfolding front
  has_none = first.before

  pub Tells-too_long : is_long old place ≡ true → Tells old new [] (too_long ∷ [])
  Tells-too_long long =
      told_from old new (too_long ∷ []) run (λ more. whole_held more
      ∙ lines_from-long old.limit old.is_within_long front (newline ∷ (new.held ++ more)) has_none (ap (λ n. old.is_within_long || nat_lt old.limit n) length-front ∙ long)
      ∙ ap (λ within. too_long ∷ lines_from old.limit within (new.held ++ more)) (sym next))

  pub Tells-whole : is_long old place ≡ false → Tells old new [] (whole (take place old.held) ∷ [])
  unfolding front
  Tells-whole short =
      told_from old new (whole (take place old.held) ∷ []) run (λ more. whole_held more
      ∙ lines_from-whole old.limit old.is_within_long front (new.held ++ more) has_none (ap (λ n. old.is_within_long || nat_lt old.limit n) length-front ∙ short)
      ∙ ap (λ within. whole (take place old.held) ∷ lines_from old.limit within (new.held ++ more)) (sym next))

-- a line that is not too long
pub whole-short : (r : Reading) (place limit : ℕ) → limit ≡ r.limit → is_long r place ≡ false → length (take place r.held) ≤ limit
whole-short r place limit e short =
    let within : place ≤ r.limit = ltb-false _ _ (or_parts r.is_within_long _ short).1 in
    omega (arith, length-take place r.held)

-- what is held is dropped
pub Tells-dropped : (old new : Reading) → IsSameRun old new → HasNoNewline old.held → is_long old (length old.held) ≡ true → new.is_within_long ≡ true → new.held ≡ [] → new.line ≡ [] →
    Tells old new [] [] × IsPending new × (new.turns ≡ old.turns)
Tells-dropped old new run none long within empty line = (
  told_from old new [] run (λ more. lines_from-long old.limit old.is_within_long old.held more none long ∙ rw (within, empty) refl),
  record {
    not_ended = run.goes_on;
    held = All-same (λ b. b ≢ newline) _ _ empty (All-nil (λ b. b ≢ newline));
    short = rw empty (omega arith);
    line = line;
  },
  run.turns,
)

-- what is held is the last line
told_last : (old new : Reading) (told : List Line) → old.is_ended ≡ false → new.limit ≡ old.limit → new.is_ended ≡ true → new.held ≡ [] → new.is_within_long ≡ false →
    lines_from old.limit old.is_within_long old.held ≡ told → Tells old new [] told
told_last old new told open_before limit ended empty not_within same = record {
  limit = limit;
  ended = λ e. absurd (both_ways _ open_before e);
  lines = λ more last. rw (open_before, ended, empty, not_within, last ended, append-nil, append-nil) same;
}

pub Tells-last_long : (old new : Reading) → IsPending old → old.is_within_long ≡ true → new.limit ≡ old.limit → new.is_ended ≡ true → new.held ≡ [] → new.is_within_long ≡ false →
    Tells old new [] (too_long ∷ [])
Tells-last_long old new pending within limit ended empty not_within =
    told_last old new (too_long ∷ []) pending.not_ended limit ended empty not_within (rw within (ap (λ bytes. too_long ∷ lines_of old.limit bytes) (drop_through-none old.held pending.held)))

pub Tells-last_whole : (old new : Reading) → IsPending old → old.is_within_long ≡ false → 0 < length old.held → new.limit ≡ old.limit → new.is_ended ≡ true → new.held ≡ [] →
    new.is_within_long ≡ false → Tells old new [] (whole old.held ∷ [])
Tells-last_whole old new pending within some limit ended empty not_within =
    told_last old new (whole old.held ∷ []) pending.not_ended limit ended empty not_within (rw within (lines_from-last old.limit old.held pending.held some pending.short))

-- one moment after another
pub Tells-then : (a b c : Reading) (first next : List ℕ) (told more_told : List Line) → Tells a b first told → Tells b c next more_told → Tells a c (first ++ next) (told ++ more_told)
Tells-then a b c first next told more_told s t = record {
  limit = t.limit ∙ s.limit;
  ended = λ e.
      let here = s.ended e in
      let later = t.ended here.1 in
      (rw (here.0, later.0) refl, later.1);
  lines = λ more last.
      let still : b.is_ended ≡ true → next ++ more ≡ [] = λ e. let later = t.ended e in rw (later.0, last later.1) refl in
      ap (lines_left a) (append_assoc first next more) ∙ s.lines (next ++ more) still ∙ ap (λ lines. told ++ lines) (t.lines more last) ∙ sym (append_assoc told more_told (lines_left c more));
}

-- bytes come, and are held
pub Tells-came : (old new : Reading) (came : List ℕ) → old.is_ended ≡ false → new.limit ≡ old.limit → new.is_ended ≡ false → new.is_within_long ≡ old.is_within_long → new.held ≡ old.held ++ came →
    Tells old new came []
Tells-came old new came not_ended limit goes_on within held = record {
  limit = limit;
  ended = λ e. absurd (both_ways _ not_ended e);
  lines = λ more _. rw (not_ended, goes_on, limit, within, held) (ap (lines_from old.limit old.is_within_long) (sym (append_assoc old.held came more)));
}

ComesTo-earlier : (read : LineRead) (old mid new : Reading) → mid.turns ≤ old.turns → ComesTo read mid new → ComesTo read old new
ComesTo-earlier read.Line old mid new turns h = h
ComesTo-earlier read.TooLong old mid new turns h = h
ComesTo-earlier read.End old mid new turns h = h
ComesTo-earlier read.ReadFault old mid new turns h = (h.0, omega arith)
ComesTo-earlier read.TurnLimit old mid new turns h = h

-- what a call of the reader of bytes leads to
module _ (old mid new : Reading) (before after : Option (List ℕ)) (came : List ℕ) (consumed : Consumes before after came) (comes : Tells old mid came []) (turns : mid.turns ≤ old.turns) where
  Reads-found : (told : List Line) → Tells mid new [] told → new.turns ≡ mid.turns → (new.is_ended ≡ true → IsAtEnd after) → Reads old new before after told
  Reads-found told found same end = record {
    came = came;
    consumed = consumed;
    tells = subst (λ bytes. Tells old new bytes told) (append-nil came) (Tells-then old mid new came [] [] told comes found);
    turns = omega (arith, same);
    end = λ _. end;
  }

  pub TurnsTo-found : (found : Option LineRead) → Finds found mid new → (new.is_ended ≡ true → IsAtEnd after) → TurnsTo found old new before after
  TurnsTo-found None h end = (Reads-found [] h.0 h.2 end, h.1)
  TurnsTo-found (Some read) h end = (Reads-found (told_by read new) h.0 h.2 end, ComesTo-earlier read old mid new turns h.1)

Consumes-from_Keeps : (before after : Option (List ℕ)) → Keeps before after → Consumes before after []
Consumes-from_Keeps None after h = tt
Consumes-from_Keeps (Some xs) None h = h
Consumes-from_Keeps (Some xs) (Some ys) h = sym h

Consumes-append : (x y z : Option (List ℕ)) (first next : List ℕ) → Consumes x y first → Consumes y z next → Consumes x z (first ++ next)
Consumes-append None y z first next h k = tt
Consumes-append (Some xs) None z first next h k = absurd h
Consumes-append (Some xs) (Some ys) None first next h k = k
Consumes-append (Some xs) (Some ys) (Some zs) first next h k = h ∙ ap (λ bytes. first ++ bytes) k ∙ sym (append_assoc first next zs)

-- a call that gives nothing, and does not say that there is no more
pub TurnsTo-kept : (old new : Reading) (before after : Option (List ℕ)) → Keeps before after → IsPending old → new.limit ≡ old.limit → new.is_ended ≡ old.is_ended →
    new.is_within_long ≡ old.is_within_long → new.held ≡ old.held → new.line ≡ [] → new.turns ≤ old.turns → Reads old new before after [] × IsPending new
TurnsTo-kept old new before after keeps pending limit ended within held line turns =
    let goes_on = ended ∙ pending.not_ended in (
      record {
        came = [];
        consumed = Consumes-from_Keeps before after keeps;
        tells = Tells-came old new [] pending.not_ended limit goes_on within (held ∙ sym (append-nil old.held));
        turns = turns;
        end = λ _ e. absurd (both_ways _ goes_on e);
      },
      record {
        not_ended = goes_on;
        held = All-same (λ b. b ≢ newline) _ _ held pending.held;
        short = omega (arith, pending.short, ap length held);
        line = line;
      },
    )

-- one call after another
pub Reads-then : (a b c : Reading) (x y z : Option (List ℕ)) (told more_told : List Line) → Reads a b x y told → Reads b c y z more_told → Reads a c x z (told ++ more_told)
Reads-then a b c x y z told more_told s t = record {
  came = s.came ++ t.came;
  consumed = Consumes-append x y z s.came t.came s.consumed t.consumed;
  tells = Tells-then a b c s.came t.came told more_told s.tells t.tells;
  turns = omega (arith, s.turns, t.turns);
  end = λ h. t.end (s.end h);
}

-- where the bytes are known
pub Reads-known : (old new : Reading) (before after : Option (List ℕ)) (told : List Line) → Reads old new before after told → IsSome before → IsSome after
Reads-known old new None after told r h = cc
Reads-known old new (Some xs) None told r h = absurd r.consumed
Reads-known old new (Some xs) (Some ys) told r h = refl

-- at the end no bytes are left to come
left_at_end : (r : Reading) (bytes : List ℕ) → r.is_ended ≡ true → lines_left r bytes ≡ lines_left r []
left_at_end r bytes ended = rw (ended, append-nil) refl

Reads-lines_some : (old new : Reading) (xs ys : List ℕ) (told : List Line) → Reads old new (Some xs) (Some ys) told → (old.is_ended ≡ true) ⊎ (old.is_ended ≡ false) →
    lines_left old xs ≡ told ++ lines_left new ys
Reads-lines_some old new xs ys told r (inl ended) =
    let none = r.tells.ended ended in
    left_at_end old xs ended ∙ sym (left_at_end old (r.came ++ []) ended) ∙ r.tells.lines [] (λ _. refl) ∙ ap (λ lines. told ++ lines) (sym (left_at_end new ys none.1))
Reads-lines_some old new xs ys told r (inr not_ended) =
    let at_end : new.is_ended ≡ true → ys ≡ [] = r.end (λ e. absurd (both_ways _ not_ended e)) in
    ap (lines_left old) r.consumed ∙ r.tells.lines ys at_end

pub Reads-lines : (old new : Reading) (before after : Option (List ℕ)) (told : List Line) → Reads old new before after told → IsSome before →
    lines_left old (unwrap_or before []) ≡ told ++ lines_left new (unwrap_or after [])
Reads-lines old new None after told r h = cc
Reads-lines old new (Some xs) None told r h = absurd r.consumed
Reads-lines old new (Some xs) (Some ys) told r h = Reads-lines_some old new xs ys told r (cases_Bool old.is_ended)
