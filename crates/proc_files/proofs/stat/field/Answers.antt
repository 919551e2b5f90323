use Rattle.std.proofs.Common.{◌≡◌, arith, subst}
use Rattle.proc_files.specs.Stats.{IsField}
use Rattle.proc_files.proofs.StatLemmas.{field_here, no_field, starts_next}
use Rattle.proc_files.proofs.stat.field.Goals as goal

pub returns-in_err-rest-clause-none : goal.returns-in_err-rest-clause-none
returns-in_err-rest-clause-none c =
    rw c.from_residual.ensures (λ field. no_field c.args.text.now c.loop.rest.now field c.loop.counter c.args.n c.loop.invariant
    (omega arith) c.in_err-rest.ensures.none)

pub loop-preserved : goal.loop-preserved
loop-preserved c =
    starts_next c.args.text.now c.loop.rest.now c.in_ok-rest.field-0-0.now c.in_ok-rest.field-0-1.now c.loop.counter
    c.loop.invariant c.in_ok-rest.ensures.is c.in_ok-rest.ensures.first

pub returns-in_err-field-clause-none : goal.returns-in_err-field-clause-none
returns-in_err-field-clause-none c =
    rw c.from_residual-in_err-field.ensures (λ field. no_field c.args.text.now c.loop.rest.now field c.loop.counter c.args.n
    c.loop.invariant (omega arith) c.in_err-field.ensures.none)

pub returns-clause-some : goal.returns-clause-some
returns-clause-some c =
    let last : c.loop.counter ≡ c.args.n = omega arith in
    subst (λ n. IsField c.args.text.now n c.in_ok-field.field.now) last
    (field_here c.args.text.now c.loop.rest.now c.in_ok-field.field.now c.in_ok-field.field-0-1.now c.loop.counter
    c.loop.invariant c.in_ok-field.ensures.is c.in_ok-field.ensures.first)
