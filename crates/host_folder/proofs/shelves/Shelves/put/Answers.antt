use Rattle.std.proofs.Common.{◌≡◌, [], ◌∷◌, ◌++◌, Ok, Some, None, string_bytes, sym, ◌∙◌, rules}
use Rattle.std.specs.List.{position}
use Rattle.host_folder.specs.Shelves.{has_name}
use Rattle.host_folder.specs.declared.shelves.Named.{Named}
use Rattle.host_folder.proofs.Shelving.{is_put, others_new, others_there, put_new, put_there}
use Rattle.host_folder.proofs.shelves.Shelves.put.Goals as goal

pub returns-in-Some-clause-put : goal.returns-in-Some-clause-put
returns-in-Some-clause-put c =
    let name = c.args.name.now in
    let ts = c.args.self.now.tenants.items in
    let d = c.index_mut.result.now in
    let k = c.from-keep.result in
    let same : k ≡ c.args.keep = search rules in
    let at : position (has_name name) ts ≡ Some c.in-Some.place = sym c.place.ensures ∙ c.in-Some.is in
    let put = is_put k c.args.term d.shelf c.put.new.self c.put.result c.put.ensures.all c.put.ensures.was_there c.put.ensures.gone c.put.ensures.oldest c.put.ensures.stay in
    put_there name ts c.in-Some.place at d c.index_mut.ensures.value c.args.keep k c.args.term same c.put.new.self c.put.result put

pub returns-in-Some-clause-others : goal.returns-in-Some-clause-others
returns-in-Some-clause-others c other differs =
    let name = c.args.name.now in
    let ts = c.args.self.now.tenants.items in
    let at : position (has_name name) ts ≡ Some c.in-Some.place = sym c.place.ensures ∙ c.in-Some.is in
    others_there name ts c.in-Some.place at c.index_mut.result.now c.index_mut.ensures.value c.put.new.self other differs

pub returns-in_ok-push-in-None-clause-put : goal.returns-in_ok-push-in-None-clause-put
returns-in_ok-push-in-None-clause-put c =
    let name = c.args.name.now in
    let ts = c.args.self.now.tenants.items in
    let u : Named = record { name = c.in_ok-name-in-None.name; shelf = c.put-in-None.new.self } in
    let is : string_bytes c.in_ok-name-in-None.name ≡ name = search rules in
    let items : c.push.new.self.items ≡ ts ++ u ∷ [] = search rules in
    let at : position (has_name name) ts ≡ None = sym c.place.ensures ∙ c.in-None.is in
    let k = c.from-keep.result in
    let same : k ≡ c.args.keep = search rules in
    let ok : c.put-in-None.result ≡ Ok c.in_ok-gone-in-None.gone = search rules in
    let p = c.put-in-None.ensures in
    let put = is_put k c.args.term c.new-shelf.result c.put-in-None.new.self c.put-in-None.result p.all p.was_there p.gone p.oldest p.stay in
    put_new name ts u is c.push.new.self.items items at c.args.keep k c.args.term same c.new-shelf.result c.new-shelf.ensures c.put-in-None.result put c.in_ok-gone-in-None.gone ok

pub returns-in_ok-push-in-None-clause-others : goal.returns-in_ok-push-in-None-clause-others
returns-in_ok-push-in-None-clause-others c other differs =
    let name = c.args.name.now in
    let ts = c.args.self.now.tenants.items in
    let u : Named = record { name = c.in_ok-name-in-None.name; shelf = c.put-in-None.new.self } in
    let is : string_bytes c.in_ok-name-in-None.name ≡ name = search rules in
    let items : c.push.new.self.items ≡ ts ++ u ∷ [] = search rules in
    others_new name ts u is c.push.new.self.items items other differs
