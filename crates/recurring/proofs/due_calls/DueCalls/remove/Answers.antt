use Rattle.std.proofs.Common.{◌==◌, rules, not, ap, sym, ◌∙◌}
use Rattle.arrayvec.proofs.ArrayVecLemmas.{filter-from_retain}
use Rattle.recurring.specs.DueCalls.{pair_of, pairs_of}
use Rattle.recurring.proofs.Recurs.{filter-map}
use Rattle.recurring.proofs.due_calls.DueCalls.remove.Goals as goal

pub returns : goal.returns
returns c =
    rw (← c.self.view_is) (ap pairs_of
    (filter-from_retain _ (λ d. not (d.call == c.args.call)) _ (λ x b f' y called. search rules) _ _ c.retain.ensures.filtered)
    ∙ sym (filter-map pair_of (λ p. not (p.1 == c.args.call)) c.self.inside.calls.items))
