use Rattle.std.proofs.Common.{nat_eq, false, sym, ap, ◌∙◌}
use Rattle.std.proofs.lemmas.List.{length-map}
use Rattle.std.specs.Option.{option_map_or}
use Rattle.serde_json.specs.Events.{members_len}
use Rattle.job_json.proofs.Items.{members_len-members_of}
use Rattle.job_json.proofs.values.has_members.Goals as goal

pub returns-in-Some : goal.returns-in-Some
returns-in-Some c =
    ap (λ n. nat_eq n c.args.count) (c.len.ensures.len ∙ sym (members_len-members_of _ ∙ length-map _ _)) ∙
    ap (λ ms. option_map_or (λ m. nat_eq (members_len m) c.args.count) ms false) c.in-Some.ensures
