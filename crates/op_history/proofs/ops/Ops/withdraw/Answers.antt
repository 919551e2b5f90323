use Rattle.std.proofs.Common.{◌≡◌, ℕ, ◌==◌, rules, not, List, [], ◌∷◌, ◌++◌, Some, refl}
use Rattle.arrayvec.proofs.ArrayVecLemmas.{filter-from_retain}
use Rattle.ocf_types.specs.declared.operation.Op.{Op}
use Rattle.ocf_types.specs.declared.operation.Ended.{Ended}
use Rattle.ocf_model.specs.Resource.{History, cancelled_of, last_ended, queued_of, withdrawn, without_call}
use Rattle.op_history.proofs.ops.Ops.withdraw.Goals as goal

-- the first action of the call becomes a result, and those of other calls stay queued
withdrawn_of : (call at : ℕ) (h : History) (o : Op) (queue : List Op) (e : Ended) (ended : List Ended)
    → queued_of call h.queue ≡ Some o → queue ≡ without_call call h.queue → e ≡ cancelled_of at o → ended ≡ last_ended (h.ended ++ e ∷ [])
    → record { queue = queue; running = h.running; ended = ended; failed = h.failed } ≡ withdrawn call at h
withdrawn_of call at h o queue e ended first stays result last = rw (stays, last, result, first) refl

pub returns-clause-withdrawn : goal.returns-clause-withdrawn
returns-clause-withdrawn g c =
    let h : History = record {
      queue = c.self.inside.queue.items;
      running = c.self.inside.running;
      ended = c.self.inside.ended;
      failed = c.self.inside.failed;
    } in
    let first : queued_of c.args.call h.queue ≡ Some c.in_ok-op.op = search rules in
    let stays : c.retain.new.self.items ≡ without_call c.args.call h.queue
    = filter-from_retain _ (λ o. not (o.call == c.args.call)) _ (λ x b f' y called. search rules) _ _ c.retain.ensures.filtered in
    rw (← c.self.view_is) (withdrawn_of c.args.call c.args.at h c.in_ok-op.op c.retain.new.self.items c.cancelled_of.result c.push.new.self
    first stays c.cancelled_of.ensures c.push.ensures)
