use Rattle.std.proofs.Common.{◌≡◌, ◌++◌, Ok, Some, None, codes, decimal, sym, ap, ◌∙◌, rules}
use Rattle.std.proofs.lemmas.Fmt.{parse-decimal}
use Rattle.std.proofs.lemmas.List.{append_cancel_right}
use Rattle.host_folder.proofs.Paths.{file_is, name_cut, rest_is, term_cut, term_read}
use Rattle.host_folder.specs.Paths.{term_digits}
use Rattle.host_folder.proofs.listing.journal_in.Goals as goal

pub returns-in_err-rest : goal.returns-in_err-rest
returns-in_err-rest c name term base valid small low e =
    absurd (c.in_err-rest.ensures (codes "/" ++ (name ++ (codes "." ++ (term_digits term ++ (codes "." ++ (decimal base ++ codes ".jsonl")))))) e)

pub returns-in_err-file : goal.returns-in_err-file
returns-in_err-file c name term base valid small low e =
    let behind = term_digits term ++ (codes "." ++ (decimal base ++ codes ".jsonl")) in
    let rest = rest_is c.args.folder.now c.args.path.now name behind valid e c.in_ok-rest.rest.now c.in_ok-rest.ensures in
    absurd (c.in_err-file.ensures (name ++ (codes "." ++ behind)) rest)

pub returns-in_err-name : goal.returns-in_err-name
returns-in_err-name c name term base valid small low e =
    let behind = term_digits term ++ (codes "." ++ (decimal base ++ codes ".jsonl")) in
    let file = file_is c.args.folder.now c.args.path.now name behind valid e c.in_ok-rest.rest.now c.in_ok-file.file.now c.in_ok-rest.ensures c.in_ok-file.ensures in
    absurd (name_cut c.args.folder.now c.args.path.now name behind valid e c.in_ok-file.file.now None file c.in_err-name.ensures.cases)

pub returns-in_err-digits : goal.returns-in_err-digits
returns-in_err-digits c name term base valid small low e =
    let last = decimal base ++ codes ".jsonl" in
    let behind = term_digits term ++ (codes "." ++ last) in
    let file = file_is c.args.folder.now c.args.path.now name behind valid e c.in_ok-rest.rest.now c.in_ok-file.file.now c.in_ok-rest.ensures c.in_ok-file.ensures in
    let cut = name_cut c.args.folder.now c.args.path.now name behind valid e c.in_ok-file.file.now (Some (c.in_ok-name.name, c.in_ok-name.end)) file c.in_ok-name.ensures.cases in
    absurd (term_cut term small c.in_ok-name.end.now last None cut.1 c.in_err-digits.ensures.cases)

pub returns-in_err-base : goal.returns-in_err-base
returns-in_err-base c name term base valid small low e =
    let last = decimal base ++ codes ".jsonl" in
    let behind = term_digits term ++ (codes "." ++ last) in
    let file = file_is c.args.folder.now c.args.path.now name behind valid e c.in_ok-rest.rest.now c.in_ok-file.file.now c.in_ok-rest.ensures c.in_ok-file.ensures in
    let cut = name_cut c.args.folder.now c.args.path.now name behind valid e c.in_ok-file.file.now (Some (c.in_ok-name.name, c.in_ok-name.end)) file c.in_ok-name.ensures.cases in
    let then = term_cut term small c.in_ok-name.end.now last (Some (c.in_ok-digits.digits, c.in_ok-digits.last)) cut.1 c.in_ok-digits.ensures.cases in
    absurd (c.in_err-base.ensures.cases (decimal base) then.1)

pub returns-in_err-ok : goal.returns-in_err-ok
returns-in_err-ok c name term base valid small low e =
    let last = decimal base ++ codes ".jsonl" in
    let behind = term_digits term ++ (codes "." ++ last) in
    let file = file_is c.args.folder.now c.args.path.now name behind valid e c.in_ok-rest.rest.now c.in_ok-file.file.now c.in_ok-rest.ensures c.in_ok-file.ensures in
    let cut = name_cut c.args.folder.now c.args.path.now name behind valid e c.in_ok-file.file.now (Some (c.in_ok-name.name, c.in_ok-name.end)) file c.in_ok-name.ensures.cases in
    let then = term_cut term small c.in_ok-name.end.now last (Some (c.in_ok-digits.digits, c.in_ok-digits.last)) cut.1 c.in_ok-digits.ensures.cases in
    let read : c.parse.result ≡ Ok term = term_read term small c.parse.result c.in_ok-digits.digits.now then.0 c.parse.ensures.value.0 in
    search rules

pub returns-in_err-ok-2 : goal.returns-in_err-ok-2
returns-in_err-ok-2 c name term base valid small low e =
    let last = decimal base ++ codes ".jsonl" in
    let behind = term_digits term ++ (codes "." ++ last) in
    let file = file_is c.args.folder.now c.args.path.now name behind valid e c.in_ok-rest.rest.now c.in_ok-file.file.now c.in_ok-rest.ensures c.in_ok-file.ensures in
    let cut = name_cut c.args.folder.now c.args.path.now name behind valid e c.in_ok-file.file.now (Some (c.in_ok-name.name, c.in_ok-name.end)) file c.in_ok-name.ensures.cases in
    let then = term_cut term small c.in_ok-name.end.now last (Some (c.in_ok-digits.digits, c.in_ok-digits.last)) cut.1 c.in_ok-digits.ensures.cases in
    let z = c.in_ok-base.ensures.cases in
    let whole : c.in_ok-digits.last.now ≡ c.in_ok-base.base.now ++ codes ".jsonl" = z.1.1 ∙ ap (λ l. l ++ codes ".jsonl") (sym z.2) in
    let digits : c.in_ok-base.base.now ≡ decimal base = append_cancel_right c.in_ok-base.base.now (decimal base) (codes ".jsonl") (sym whole ∙ then.1) in
    let second : c.parse-2.result ≡ Ok base = parse-decimal 64 base c.in_ok-base.base.now _ low low digits c.parse-2.ensures.value.0 in
    search rules

pub returns : goal.returns
returns c name term base valid small low e =
    let last = decimal base ++ codes ".jsonl" in
    let behind = term_digits term ++ (codes "." ++ last) in
    let file = file_is c.args.folder.now c.args.path.now name behind valid e c.in_ok-rest.rest.now c.in_ok-file.file.now c.in_ok-rest.ensures c.in_ok-file.ensures in
    let cut = name_cut c.args.folder.now c.args.path.now name behind valid e c.in_ok-file.file.now (Some (c.in_ok-name.name, c.in_ok-name.end)) file c.in_ok-name.ensures.cases in
    let then = term_cut term small c.in_ok-name.end.now last (Some (c.in_ok-digits.digits, c.in_ok-digits.last)) cut.1 c.in_ok-digits.ensures.cases in
    let z = c.in_ok-base.ensures.cases in
    let whole : c.in_ok-digits.last.now ≡ c.in_ok-base.base.now ++ codes ".jsonl" = z.1.1 ∙ ap (λ l. l ++ codes ".jsonl") (sym z.2) in
    let digits : c.in_ok-base.base.now ≡ decimal base = append_cancel_right c.in_ok-base.base.now (decimal base) (codes ".jsonl") (sym whole ∙ then.1) in
    let second : c.parse-2.result ≡ Ok base = parse-decimal 64 base c.in_ok-base.base.now _ low low digits c.parse-2.ensures.value.0 in
    let first : c.parse.result ≡ Ok term = term_read term small c.parse.result c.in_ok-digits.digits.now then.0 c.parse.ensures.value.0 in
    let same : c.in_ok-name.name.now ≡ name = cut.0 in
    search rules
