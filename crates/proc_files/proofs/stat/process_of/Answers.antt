use Rattle.proc_files.proofs.StatLemmas.{no_number, no_state}
use Rattle.proc_files.proofs.stat.process_of.Goals as goal

pub returns-in_err-state-clause-none : goal.returns-in_err-state-clause-none
returns-in_err-state-clause-none c =
    rw c.from_residual.ensures (λ p is. c.in_err-state.ensures.none is.state.state is.state.third)

pub returns-in_err-threads-clause-none : goal.returns-in_err-threads-clause-none
returns-in_err-threads-clause-none c =
    rw c.from_residual-in_err-threads.ensures (λ p is. c.in_err-threads.ensures.none is.state.count.0 is.state.count.1)

pub returns-in_err-parent-clause-none : goal.returns-in_err-parent-clause-none
returns-in_err-parent-clause-none c =
    rw c.from_residual-in_err-parent.ensures (λ p is. c.in_err-parent.ensures.none is.parent.0 is.parent.1)

pub returns-in_err-group-clause-none : goal.returns-in_err-group-clause-none
returns-in_err-group-clause-none c =
    rw c.from_residual-in_err-group.ensures (λ p is. c.in_err-group.ensures.none is.group.0 is.group.1)

pub returns-in_err-start-clause-none : goal.returns-in_err-start-clause-none
returns-in_err-start-clause-none c =
    rw c.from_residual-in_err-start.ensures (λ p is. c.in_err-start.ensures.none is.start.0 is.start.1)

pub returns-in_err-id_of-2-clause-none : goal.returns-in_err-id_of-2-clause-none
returns-in_err-id_of-2-clause-none c =
    rw c.from_residual-in_err-id_of-2.ensures (λ p is.
    no_number 32 c.args.fields.now c.in_ok-parent.parent.now 4 c.in_ok-parent.ensures.some c.in_err-id_of-2.ensures.none p.parent is.parent)

pub returns-in_err-id_of-3-clause-none : goal.returns-in_err-id_of-3-clause-none
returns-in_err-id_of-3-clause-none c =
    rw c.from_residual-in_err-id_of-3.ensures (λ p is.
    no_number 32 c.args.fields.now c.in_ok-group.group.now 5 c.in_ok-group.ensures.some c.in_err-id_of-3.ensures.none p.group is.group)

pub returns-in_err-number_of-clause-none : goal.returns-in_err-number_of-clause-none
returns-in_err-number_of-clause-none c =
    rw c.from_residual-in_err-number_of.ensures (λ p is.
    no_number 64 c.args.fields.now c.in_ok-start.start.now 22 c.in_ok-start.ensures.some c.in_err-number_of.ensures.none p.start is.start)

pub returns-in_err-id_of-4-clause-none : goal.returns-in_err-id_of-4-clause-none
returns-in_err-id_of-4-clause-none c =
    rw c.from_residual-in_err-id_of-4.ensures (λ p is.
    no_number 32 c.args.fields.now c.in_ok-threads.threads.now 20 c.in_ok-threads.ensures.some c.in_err-id_of-4.ensures.none is.state.threads is.state.count)

pub returns-in_err-has_ended-clause-none : goal.returns-in_err-has_ended-clause-none
returns-in_err-has_ended-clause-none c =
    rw c.from_residual-in_err-has_ended.ensures (λ p is.
    no_state c.args.fields.now c.in_ok-state.state.now c.in_ok-threads.threads.now c.in_ok-id_of-4.field-0
    c.in_ok-state.ensures.some c.in_ok-threads.ensures.some c.in_ok-id_of-4.ensures.some c.in_err-has_ended.ensures.none
    p.has_ended is.state)
