use Rattle.std.proofs.Common.{◌≡◌, ◌++◌, Ok, Some, None, codes, sym, ap, ◌∙◌, rules}
use Rattle.host_folder.proofs.Paths.{digits_are, file_is, name_cut, rest_is, term_read}
use Rattle.host_folder.specs.Paths.{term_digits}
use Rattle.host_folder.proofs.listing.parts_of.Goals as goal

pub returns-in_err-rest : goal.returns-in_err-rest
returns-in_err-rest c name term valid small e = absurd (c.in_err-rest.ensures (codes "/" ++ (name ++ (codes "." ++ (term_digits term ++ codes ".jsonl")))) e)

pub returns-in_err-file : goal.returns-in_err-file
returns-in_err-file c name term valid small e =
    let behind = term_digits term ++ codes ".jsonl" in
    let rest = rest_is c.args.folder.now c.args.path.now name behind valid e c.in_ok-rest.rest.now c.in_ok-rest.ensures in
    absurd (c.in_err-file.ensures (name ++ (codes "." ++ (term_digits term ++ codes ".jsonl"))) rest)

pub returns-in_err-name : goal.returns-in_err-name
returns-in_err-name c name term valid small e =
    let behind = term_digits term ++ codes ".jsonl" in
    let file = file_is c.args.folder.now c.args.path.now name behind valid e c.in_ok-rest.rest.now c.in_ok-file.file.now c.in_ok-rest.ensures c.in_ok-file.ensures in
    absurd (name_cut c.args.folder.now c.args.path.now name behind valid e c.in_ok-file.file.now None file c.in_err-name.ensures.cases)

pub returns-in_err-digits : goal.returns-in_err-digits
returns-in_err-digits c name term valid small e =
    let behind = term_digits term ++ codes ".jsonl" in
    let file = file_is c.args.folder.now c.args.path.now name behind valid e c.in_ok-rest.rest.now c.in_ok-file.file.now c.in_ok-rest.ensures c.in_ok-file.ensures in
    let cut = name_cut c.args.folder.now c.args.path.now name behind valid e c.in_ok-file.file.now (Some (c.in_ok-name.name, c.in_ok-name.end)) file c.in_ok-name.ensures.cases in
    absurd (c.in_err-digits.ensures.cases (term_digits term) cut.1)

pub returns-in_err-ok : goal.returns-in_err-ok
returns-in_err-ok c name term valid small e =
    let behind = term_digits term ++ codes ".jsonl" in
    let file = file_is c.args.folder.now c.args.path.now name behind valid e c.in_ok-rest.rest.now c.in_ok-file.file.now c.in_ok-rest.ensures c.in_ok-file.ensures in
    let cut = name_cut c.args.folder.now c.args.path.now name behind valid e c.in_ok-file.file.now (Some (c.in_ok-name.name, c.in_ok-name.end)) file c.in_ok-name.ensures.cases in
    let z = c.in_ok-digits.ensures.cases in
    let whole : c.in_ok-name.end.now ≡ c.in_ok-digits.digits.now ++ codes ".jsonl" = z.1.1 ∙ ap (λ l. l ++ codes ".jsonl") (sym z.2) in
    let digits = digits_are term c.in_ok-name.end.now c.in_ok-digits.digits.now cut.1 whole in
    let read : c.parse.result ≡ Ok term = term_read term small c.parse.result c.in_ok-digits.digits.now digits c.parse.ensures.value.0 in
    search rules

pub returns : goal.returns
returns c name term valid small e =
    let behind = term_digits term ++ codes ".jsonl" in
    let file = file_is c.args.folder.now c.args.path.now name behind valid e c.in_ok-rest.rest.now c.in_ok-file.file.now c.in_ok-rest.ensures c.in_ok-file.ensures in
    let cut = name_cut c.args.folder.now c.args.path.now name behind valid e c.in_ok-file.file.now (Some (c.in_ok-name.name, c.in_ok-name.end)) file c.in_ok-name.ensures.cases in
    let z = c.in_ok-digits.ensures.cases in
    let whole : c.in_ok-name.end.now ≡ c.in_ok-digits.digits.now ++ codes ".jsonl" = z.1.1 ∙ ap (λ l. l ++ codes ".jsonl") (sym z.2) in
    let digits = digits_are term c.in_ok-name.end.now c.in_ok-digits.digits.now cut.1 whole in
    let read : c.parse.result ≡ Ok term = term_read term small c.parse.result c.in_ok-digits.digits.now digits c.parse.ensures.value.0 in
    let same : c.in_ok-name.name.now ≡ name = cut.0 in
    search rules
