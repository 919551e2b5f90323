use Rattle.std.proofs.Common.{◌≡◌, map, None, Some, List, ap, sym, ◌∙◌}
use Rattle.exec_client.specs.Tags.{CallTag, with_call}
use Rattle.exec_client.specs.Waiting.{call_tag, lines_in}
use Rattle.exec_client.specs.declared.kept_calls.KeptCall.{KeptCall}
use Rattle.exec_client.proofs.TagLemmas.{call_added}
use Rattle.exec_client.proofs.tags.Tags.keep.Goals as goal

pub returns : goal.returns
returns c =
    let was = c.self.inside in
    let added : KeptCall = record { call = c.args.call; tag = c.in-Some.tag } in
    let given : was.given ≡ Some c.in-Some.tag = sym c.take.ensures.value ∙ c.in-Some.is in
    let calls : map call_tag c.add_call.new.calls.items ≡ with_call c.args.call was.given (map call_tag was.calls.items) =
    ap (λ (ks : List KeptCall). map call_tag ks) c.add_call.ensures.calls ∙ call_added was.calls.items added
    ∙ ap (λ o. with_call c.args.call o (map call_tag was.calls.items)) (sym given)
    in
    rw (← c.self.view_is, c.take.ensures.after)
    (ap (λ (cs : List CallTag). record { lines = lines_in was.waiting.items was.after; given = None; calls = cs }) calls)
