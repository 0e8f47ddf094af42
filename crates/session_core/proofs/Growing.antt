-- Sessions that go on.
use Rattle.std.proofs.Common.{◌≡◌, ℕ, ◌<◌, false, List, [], ◌∷◌, ◌++◌, length, take, Option, Result, Ok, Err, refl, sym, ap, ◌∙◌, arith, subst, append_assoc}
use Rattle.std.proofs.lemmas.List.{append-nil}
use Rattle.std.proofs.KnownBytes.{Consumes-nil, Appends-nil, Appends-trans}
use Rattle.std.specs.Io.KnownBytes.{Appends}
use Rattle.job_language.specs.declared.answers.Reply.{Reply}
use Rattle.request_reader.specs.Lines.{Line, whole, too_long}
use Rattle.request_reader.specs.Reading.{Reading, Reads, IsDone, IsPending}
use Rattle.std.proofs.lemmas.Bool.{both_ways}
use Rattle.session_core.proofs.Joining.{reads_then}
use Rattle.session_core.specs.Texts.{Says, SaysAll, Stops}
use Rattle.session_core.specs.Sessions.{unread, Served, Broke, Waited, ServesTo, Answers, RefusesLong, refusal}
use Rattle.session_core.specs.declared.serving.SessionEnd.{SessionEnd}
use Rattle.session_core.specs.declared.serving.SessionEnd.TheVariants.{Ended, ReadFault, WriteFault, TurnLimit, Stopped}

abbrev end_in : Result (Unit {0}) SessionEnd → SessionEnd
end_in (Ok u) = Ended
end_in (Err end) = end

-- the end that an error is
pub same_end : (answered : Result (Unit {0}) SessionEnd) (a b : SessionEnd) → answered ≡ Err a → answered ≡ Err b → a ≡ b
same_end answered a b first then_on = ap end_in (sym first ∙ then_on)

module _ {S : Type 0} (replies : List ℕ → S → Option Reply → S → Type 0) where
  says_snoc : (lines : List Line) (line : Line) (d e f : S) (first rest : List ℕ) → SaysAll replies lines d first e → Says replies line e rest f →
      SaysAll replies (lines ++ line ∷ []) d (first ++ rest) f
  says_snoc [] line d e f first rest none says =
      (f, rest, [], (let P : S → Type 0 = λ x. Says replies line x rest f in subst P none.1 says, (refl, refl), ap (λ t. t ++ rest) none.0 ∙ sym (append-nil rest)))
  says_snoc (x ∷ lines) line d e f first rest some says =
      (some.0, some.1, some.2 ++ rest, (some.3.0, says_snoc lines line some.0 e f some.2 rest some.3.1 says, ap (λ t. t ++ rest) some.3.2 ∙ append_assoc some.1 some.2 rest))

  pub starts : (bytes written : Option (List ℕ)) (s : S) → Served replies unread bytes bytes written written s s
  starts bytes written s = record {
    lines = [];
    said = [];
    reads = record { came = []; consumed = Consumes-nil bytes; tells = record { limit = refl; ended = λ e. cc; lines = λ more free. refl }; turns = omega arith; end = λ at ended. cc };
    says = (refl, refl);
    wrote = Appends-nil written;
  }

  module _ (now next : Reading) (bytes left left2 written out : Option (List ℕ)) (old new : S) (so_far : Served replies now bytes left written out old new) where
    -- no further line was reported
    pub stays : Reads now next left left2 [] → Served replies next bytes left2 written out old new
    stays reads = record {
      lines = so_far.lines;
      said = so_far.said;
      reads = rw (sym (append-nil so_far.lines)) (reads_then unread now next bytes left left2 so_far.lines [] so_far.reads reads);
      says = so_far.says;
      wrote = so_far.wrote;
    }

    pub goes_on : (line : Line) (said : List ℕ) (new2 : S) (out2 : Option (List ℕ)) → Reads now next left left2 (line ∷ []) → Says replies line new said new2 → Appends out out2 said →
        Served replies next bytes left2 written out2 old new2
    goes_on line said new2 out2 reads says wrote = record {
      lines = so_far.lines ++ line ∷ [];
      said = so_far.said ++ said;
      reads = reads_then unread now next bytes left left2 so_far.lines (line ∷ []) so_far.reads reads;
      says = says_snoc so_far.lines line old new new2 so_far.said said so_far.says says;
      wrote = Appends-trans written out out2 so_far.said said so_far.wrote wrote;
    }

    pub breaks : (line : Line) (said : List ℕ) (sent : ℕ) (new2 : S) (out2 : Option (List ℕ)) → Reads now next left left2 (line ∷ []) → Says replies line new said new2 → sent < length said →
        Appends out out2 (take sent said) → Broke replies next bytes left2 written out2 old new2 sent
    breaks line said sent new2 out2 reads says short wrote = record {
      lines = so_far.lines;
      last = line;
      said = so_far.said;
      cut = said;
      mid = new;
      reads = reads_then unread now next bytes left left2 so_far.lines (line ∷ []) so_far.reads reads;
      says = so_far.says;
      says_last = says;
      short = short;
      wrote = Appends-trans written out out2 so_far.said (take sent said) so_far.wrote wrote;
    }

    pub stops_at : (text : List ℕ) (new2 : S) (out2 : Option (List ℕ)) → Reads now next left left2 (whole text ∷ []) → Stops replies text new new2 → Appends out out2 [] →
        Waited replies next bytes left2 written out2 old new2
    stops_at text new2 out2 reads stops wrote = record {
      lines = so_far.lines;
      last = text;
      said = so_far.said;
      mid = new;
      reads = reads_then unread now next bytes left left2 so_far.lines (whole text ∷ []) so_far.reads reads;
      says = so_far.says;
      stops = stops;
      wrote = rw (sym (append-nil so_far.said)) (Appends-trans written out out2 so_far.said [] so_far.wrote wrote);
    }

    -- what is answered is whole, and the session goes on
    pub line_goes_on : (text : List ℕ) (new2 : S) (out2 : Option (List ℕ)) (answered : Result (Unit {0}) SessionEnd) → ((end : SessionEnd) → answered ≡ Err end → ⊥) →
        Reads now next left left2 (whole text ∷ []) → Answers replies text new new2 out out2 answered → Served replies next bytes left2 written out2 old new2
    line_goes_on text new2 out2 (Ok u) not_err reads h = goes_on (whole text) h.0 new2 out2 reads h.1.0 h.1.1
    line_goes_on text new2 out2 (Err end) not_err reads h = absurd (not_err end refl)

    pub long_goes_on : (out2 : Option (List ℕ)) (answered : Result (Unit {0}) SessionEnd) → ((end : SessionEnd) → answered ≡ Err end → ⊥) → Reads now next left left2 (too_long ∷ []) →
        RefusesLong out out2 answered → Served replies next bytes left2 written out2 old new
    long_goes_on out2 (Ok u) not_err reads h = goes_on too_long refusal new out2 reads (refl, refl) h
    long_goes_on out2 (Err end) not_err reads h = absurd (not_err end refl)

    line_ends_in : (text : List ℕ) (new2 : S) (out2 : Option (List ℕ)) (end : SessionEnd) → Reads now next left left2 (whole text ∷ []) → Answers replies text new new2 out out2 (Err end) →
        ServesTo replies next bytes left2 written out2 old new2 end
    line_ends_in text new2 out2 (WriteFault sent) reads h = breaks (whole text) h.0 sent new2 out2 reads h.1.0 h.1.1 h.1.2
    line_ends_in text new2 out2 Stopped reads h = stops_at text new2 out2 reads h.0 h.1
    line_ends_in text new2 out2 Ended reads h = absurd h
    line_ends_in text new2 out2 ReadFault reads h = absurd h
    line_ends_in text new2 out2 TurnLimit reads h = absurd h

    -- the answer is cut short, or there is none
    pub line_ends : (text : List ℕ) (new2 : S) (out2 : Option (List ℕ)) (answered : Result (Unit {0}) SessionEnd) (end : SessionEnd) → answered ≡ Err end →
        Reads now next left left2 (whole text ∷ []) → Answers replies text new new2 out out2 answered → ServesTo replies next bytes left2 written out2 old new2 end
    line_ends text new2 out2 answered end is reads h =
        let P : Result (Unit {0}) SessionEnd → Type 0 = λ x. Answers replies text new new2 out out2 x in
        line_ends_in text new2 out2 end reads (subst P is h)

    long_ends_in : (out2 : Option (List ℕ)) (end : SessionEnd) → Reads now next left left2 (too_long ∷ []) → RefusesLong out out2 (Err end) → ServesTo replies next bytes left2 written out2 old new end
    long_ends_in out2 (WriteFault sent) reads h = breaks too_long refusal sent new out2 reads (refl, refl) h.0 h.1
    long_ends_in out2 Stopped reads h = absurd h
    long_ends_in out2 Ended reads h = absurd h
    long_ends_in out2 ReadFault reads h = absurd h
    long_ends_in out2 TurnLimit reads h = absurd h

    pub long_ends : (out2 : Option (List ℕ)) (answered : Result (Unit {0}) SessionEnd) (end : SessionEnd) → answered ≡ Err end → Reads now next left left2 (too_long ∷ []) →
        RefusesLong out out2 answered → ServesTo replies next bytes left2 written out2 old new end
    long_ends out2 answered end is reads h =
        let P : Result (Unit {0}) SessionEnd → Type 0 = λ x. RefusesLong out out2 x in
        long_ends_in out2 end reads (subst P is h)

    -- no line is there
    pub ends_read : (end : SessionEnd) → Ended ≡ end → Reads now next left left2 [] → IsDone next → ServesTo replies next bytes left2 written out old new end
    ends_read end is reads done =
        let served = stays reads in
        subst (λ e. ServesTo replies next bytes left2 written out old new e) is (served, done, served.reads.end (λ e. absurd (both_ways false refl e)) done.ended)

    pub ends_fault : (end : SessionEnd) → ReadFault ≡ end → Reads now next left left2 [] → IsPending next → next.turns < now.turns → ServesTo replies next bytes left2 written out old new end
    ends_fault end is reads pending fewer = subst (λ e. ServesTo replies next bytes left2 written out old new e) is (stays reads, pending, omega (arith, so_far.reads.turns, fewer))

    pub ends_limit : (end : SessionEnd) → TurnLimit ≡ end → Reads now next left left2 [] → IsPending next → next.turns ≡ 0 → ServesTo replies next bytes left2 written out old new end
    ends_limit end is reads pending none = subst (λ e. ServesTo replies next bytes left2 written out old new e) is (stays reads, pending, none)
