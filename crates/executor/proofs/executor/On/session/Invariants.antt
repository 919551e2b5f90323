use Rattle.std.proofs.Common.{◌≡◌, ◌++◌, ◌+◌, ◌≤◌, List, length}
use Rattle.std.specs.Vec.{vec_capacity, vec_len}
use Rattle.std.specs.Vec.Iter.{into_iter_items, into_iter_len}
use Rattle.ocf_model.specs.Answer.{Reply}
use Rattle.executor.specs.Sessions.{TakesInputs}
use Rattle.executor.proofs.executor.On.session.Given as goal

abbrev pub invariant-loop-input : goal.invariant-loop-input
invariant-loop-input g l =
    record {
      whole : l.yielded ++ into_iter_items l.input-iterator ≡ l.fn.inputs.items;
      count : into_iter_len l.input-iterator ≡ length (into_iter_items l.input-iterator);
      room : vec_len l.replies + into_iter_len l.input-iterator ≤ vec_capacity l.replies;
      takes_inputs : (given : List Reply) × (l.replies.items ≡ l.fn.replies.items ++ given)
          × TakesInputs g.S.Store.view l.yielded l.fn.self l.self given;
    }
