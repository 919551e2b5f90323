use Rattle.std.proofs.Common.{◌==◌, map, rules, not, List, ap, sym, ◌∙◌}
use Rattle.std.proofs.lemmas.Fn.{filter_same}
use Rattle.exec_client.specs.Tags.{CallTag}
use Rattle.exec_client.specs.Waiting.{call_tag, lines_in}
use Rattle.exec_client.specs.declared.kept_calls.KeptCall.{KeptCall}
use Rattle.exec_client.proofs.TagLemmas.{filter-map}
use Rattle.exec_client.proofs.tags.Tags.forget.Goals as goal

pub returns : goal.returns
returns c =
    let was = c.self.inside in
    rw (← c.self.view_is)
    (ap (λ (cs : List CallTag). record { lines = lines_in was.waiting.items was.after; given = was.given; calls = cs })
    (ap (λ (ks : List KeptCall). map call_tag ks)
    (filter_same _ (λ k. not (k.call == c.args.call)) _ (λ x b f' t. search rules) _ _ c.retain.ensures.filtered)
    ∙ sym (filter-map call_tag (λ p. not (p.0 == c.args.call)) was.calls.items)))
