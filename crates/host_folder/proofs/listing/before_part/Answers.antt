use Rattle.std.proofs.Common.{◌≡◌, ◌++◌, true, false, Some, None, codes, sym, ap, ◌∙◌, true≢false, arith, rules}
use Rattle.std.proofs.lemmas.List.{append_cancel_left, append_cancel_right}
use Rattle.std.specs.List.{list_all}
use Rattle.host_folder.proofs.Notes.{last_split_parts}
use Rattle.host_folder.proofs.Parts.{part_cut, part_whole}
use Rattle.host_folder.specs.Paths.{is_digit}
use Rattle.host_folder.proofs.listing.before_part.Goals as goal

pub returns-in_err-dump : goal.returns-in_err-dump
returns-in_err-dump c = record {
  said = search rules;
  found = λ front p. absurd (part_cut c.args.path.now front p None c.in_err-dump.ensures.cases);
}

pub returns-in_err-front : goal.returns-in_err-front
returns-in_err-front c = record {
  said = search rules;
  found = λ front p. absurd (c.in_err-front.ensures.cases front (part_cut c.args.path.now front p (Some (c.in_ok-dump.dump, c.in_ok-dump.end)) c.in_ok-dump.ensures.cases).0);
}

pub returns-in_err-number : goal.returns-in_err-number
returns-in_err-number c = record {
  said = search rules;
  found = λ front p. absurd (c.in_err-number.ensures p.0 (part_cut c.args.path.now front p (Some (c.in_ok-dump.dump, c.in_ok-dump.end)) c.in_ok-dump.ensures.cases).1);
}

pub returns-then-are_digits : goal.returns-then-are_digits
returns-then-are_digits c =
    let z = c.in_ok-front.ensures.cases in
    let dump : c.in_ok-dump.dump.now ≡ c.in_ok-front.front.now ++ codes ".jsonl" = z.1.1 ∙ ap (λ l. l ++ codes ".jsonl") (sym z.2) in
    let path = last_split_parts 46 c.args.path.now (c.in_ok-dump.dump, c.in_ok-dump.end) c.in_ok-dump.ensures.cases (omega arith) in
    let digits : list_all is_digit c.in_ok-number.number.now ≡ true = search rules in
    let is = part_whole c.args.path.now c.in_ok-front.front.now c.in_ok-dump.dump.now c.in_ok-dump.end.now c.in_ok-number.number.now path dump c.in_ok-number.ensures in
    record {
      said = (c.in_ok-number.number.now, digits, is);
      found = λ front p.
          let cut = part_cut c.args.path.now front p (Some (c.in_ok-dump.dump, c.in_ok-dump.end)) c.in_ok-dump.ensures.cases in
          ap (λ l. Some l) (append_cancel_right c.in_ok-front.front.now front (codes ".jsonl") (sym dump ∙ cut.0));
    }

pub returns-else-are_digits : goal.returns-else-are_digits
returns-else-are_digits c =
    let digits : list_all is_digit c.in_ok-number.number.now ≡ false = search rules in
    record {
      said = tt;
      found = λ front p.
          let cut = part_cut c.args.path.now front p (Some (c.in_ok-dump.dump, c.in_ok-dump.end)) c.in_ok-dump.ensures.cases in
          let same = append_cancel_left (codes "part") c.in_ok-number.number.now p.0 (sym c.in_ok-number.ensures ∙ cut.1) in
          absurd (true≢false (sym p.1 ∙ ap (λ l. list_all is_digit l) (sym same) ∙ digits));
    }
