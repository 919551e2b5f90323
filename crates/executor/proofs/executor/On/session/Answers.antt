use Rattle.std.proofs.Common.{rules, arith, ◌≡◌, ◌++◌, ◌∷◌, [], List, length, sym, ◌∙◌, ap, subst, append_assoc}
use Rattle.std.proofs.lemmas.List.{append-nil, nil_from_length}
use Rattle.std.specs.Vec.{vec_len}
use Rattle.std.specs.Vec.Iter.{into_iter_items}
use Rattle.ocf_model.specs.Answer.{Reply}
use Rattle.executor.specs.Sessions.{Input, TakesInputs}
use Rattle.executor.proofs.Sessions.Growing.{inputs_more, inputs_start}
use Rattle.executor.proofs.executor.On.session.Goals as goal

pub loop-input-init : goal.loop-input-init
loop-input-init g c =
    let x = c.args.self.now in
    let whole_len : vec_len c.args.inputs ≡ length c.args.inputs.items = search rules in
    let all = c.into_iter-input-iterator.ensures.into_iter_gives.0 in
    record {
      whole = all;
      count = c.into_iter-input-iterator.ensures.into_iter_gives.1 ∙ whole_len ∙ sym (ap length all);
      room = search rules;
      takes_inputs = (
        [],
        c.reserve_for.ensures.items
            ∙ sym (append-nil c.args.replies.now.items),
        inputs_start g.S.Store.view x (c.lemma_lawful.ensures.lawful x.store) c.lemma_known.ensures.sound,
      );
    }

pub push_reserved-requires : goal.push_reserved-requires
push_reserved-requires g c =
    let room = c.loop-input.invariant.room in
    let one = c.in-Some.ensures.steps.1 in
    omega (arith, room, one)

pub loop-input-preserved : goal.loop-input-preserved
loop-input-preserved g c =
    let view = g.S.Store.view in
    let was = c.loop-input.invariant in
    let before = c.loop-input.self in
    let steps = c.in-Some.ensures.steps in
    let given = was.takes_inputs.0 in
    let taken = c.take-reply.ensures.takes in
    record {
      whole =
          append_assoc c.loop-input.yielded (c.in-Some.input ∷ []) (into_iter_items c.next.new.self)
          ∙ ap (λ (l : List Input). c.loop-input.yielded ++ l) (sym steps.0) ∙ was.whole;
      count =
          let one = steps.1 in
          let more = ap length steps.0 in
          let same = was.count in
          omega (arith, one, more, same);
      room =
          let one = steps.1 in
          let room = was.room in
          let len = c.push_reserved.ensures.len in
          let capacity = c.push_reserved.ensures.capacity in
          omega (arith, one, room, len, capacity);
      takes_inputs = (
        given ++ c.take-reply.result ∷ [],
        c.push_reserved.ensures.items ∙ ap (λ (l : List Reply). l ++ c.take-reply.result ∷ []) was.takes_inputs.1
            ∙ append_assoc c.args.replies.now.items given (c.take-reply.result ∷ []),
        inputs_more view c.args.self.now before
            c.take-reply.new.self c.loop-input.yielded given c.in-Some.input c.take-reply.result taken.0
            was.takes_inputs.2 taken.1,
      );
    }

pub returns-clause-takes_inputs : goal.returns-clause-takes_inputs
returns-clause-takes_inputs g c =
    let was = c.loop-input.invariant in
    let nothing = nil_from_length (into_iter_items c.loop-input.input-iterator) (sym was.count ∙ c.in-None.ensures.steps.0) in
    let all = sym (append-nil c.loop-input.yielded) ∙ ap (λ (l : List Input). c.loop-input.yielded ++ l) (sym nothing) ∙ was.whole in (
      was.takes_inputs.0,
      was.takes_inputs.1,
      subst (λ (l : List Input). TakesInputs g.S.Store.view l c.args.self.now
          c.loop-input.self was.takes_inputs.0) all was.takes_inputs.2,
    )
