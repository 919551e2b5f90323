use Rattle.std.proofs.Common.{◌≡◌, ◌==◌, List, Some, None, ap, sym, ◌∙◌}
use Rattle.std.specs.List.{find}
use Rattle.std.specs.Option.{option_map}
use Rattle.exec_client.specs.declared.kept_calls.KeptCall.{KeptCall}
use Rattle.exec_client.proofs.TagLemmas.{tag_found}
use Rattle.exec_client.proofs.tags.Tags.of_call.Goals as goal

pub returns-in-Some : goal.returns-in-Some
returns-in-Some c =
    let was = c.self.inside.calls.items in
    let found : Some c.in-Some.kept.now ≡ find (λ k. k.call == c.args.call) was =
    ap (option_map (λ k. k.now)) (sym c.in-Some.is) ∙ c.find_call.ensures
    ∙ ap (λ (ks : List KeptCall). find (λ k. k.call == c.args.call) ks) c.as_slice.ensures.value
    in
    rw (← c.self.view_is) (ap Some c.as_str.ensures ∙ ap (option_map (λ k. k.tag)) found ∙ tag_found c.args.call was)

pub returns-in-None : goal.returns-in-None
returns-in-None c =
    let was = c.self.inside.calls.items in
    let found : None ≡ find (λ k. k.call == c.args.call) was =
    ap (option_map (λ k. k.now)) (sym c.in-None.is) ∙ c.find_call.ensures
    ∙ ap (λ (ks : List KeptCall). find (λ k. k.call == c.args.call) ks) c.as_slice.ensures.value
    in
    rw (← c.self.view_is) (ap (option_map (λ k. k.tag)) found ∙ tag_found c.args.call was)
