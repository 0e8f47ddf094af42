use Rattle.std.proofs.Common.{rules, refl, ap, sym, inl, true, map, ◌≡◌, ◌∙◌}
use Rattle.clap.specs.Words.{App, found_of, is_simple, matches_of, rows_of, takes}
use Rattle.program_words.specs.HostOptions.{host_app, options_in}
use Rattle.program_words.proofs.host.read_host_words.Goals as goal

is_simple_app : is_simple host_app ≡ true
is_simple_app = refl

pub matches_in-requires : goal.matches_in-requires
matches_in-requires c = ap is_simple c.in_ok-command.ensures ∙ is_simple_app

pub returns-in_err-matches-clause-refused : goal.returns-in_err-matches-clause-refused
returns-in_err-matches-clause-refused c refused =
    inl (ap (λ (a : App). takes a (map (λ word. word.now) c.args.words.now)) (sym c.in_ok-command.ensures) ∙ c.in_err-matches.ensures.refused (search rules))

pub returns-clause-read : goal.returns-clause-read
returns-clause-read c =
    let given : rows_of (found_of c.in_ok-matches.matches) ≡ options_in (map (λ word. word.now) c.args.words.now) =
    c.in_ok-matches.ensures.options ∙ ap (λ (a : App). matches_of a (map (λ word. word.now) c.args.words.now)) c.in_ok-command.ensures in
    search rules

pub returns-clause-refused : goal.returns-clause-refused
returns-clause-refused c =
    let given : rows_of (found_of c.in_ok-matches.matches) ≡ options_in (map (λ word. word.now) c.args.words.now) =
    c.in_ok-matches.ensures.options ∙ ap (λ (a : App). matches_of a (map (λ word. word.now) c.args.words.now)) c.in_ok-command.ensures in
    search rules
