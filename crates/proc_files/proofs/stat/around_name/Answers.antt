use Rattle.std.proofs.Common.{◌≡◌, ◌∷◌, ◌++◌, subst}
use Rattle.proc_files.specs.Stats.{close, space, Lacks}
use Rattle.proc_files.proofs.StatLemmas.{after_name, after_number, lacks_not, name_found, no_space}
use Rattle.proc_files.proofs.stat.around_name.Goals as goal

pub returns-in_err-number-clause-none : goal.returns-in_err-number-clause-none
returns-in_err-number-clause-none c =
    rw c.from_residual.ensures (λ number fields h. no_space c.args.text.now number fields c.in_err-number.ensures.none h)

pub returns-in_err-after-clause-none : goal.returns-in_err-after-clause-none
returns-in_err-after-clause-none c =
    rw c.from_residual-in_err-after.ensures (λ number fields h.
    c.in_err-after.ensures.none (h.name ++ close ∷ space ∷ fields)
    (after_number c.args.text.now c.in_ok-number.number.now c.in_ok-number.rest.now number fields
    c.in_ok-number.ensures.is c.in_ok-number.ensures.first h))

pub returns-in_err-_name-clause-none : goal.returns-in_err-_name-clause-none
returns-in_err-_name-clause-none c =
    rw c.from_residual-in_err-_name.ensures (λ number fields h.
    let rest = after_number c.args.text.now c.in_ok-number.number.now c.in_ok-number.rest.now number fields
    c.in_ok-number.ensures.is c.in_ok-number.ensures.first h in
    let is = c.in_ok-after.ensures.rest in
    let inner : c.in_ok-after.field-0.now ≡ h.name ++ close ∷ space ∷ fields = cc in
    lacks_not close h.name (space ∷ fields) (subst (Lacks close) inner c.in_err-_name.ensures.none))

pub returns-in_err-after-2-clause-none : goal.returns-in_err-after-2-clause-none
returns-in_err-after-2-clause-none c =
    rw c.from_residual-in_err-after-2.ensures (λ number fields h.
    let rest = after_number c.args.text.now c.in_ok-number.number.now c.in_ok-number.rest.now number fields
    c.in_ok-number.ensures.is c.in_ok-number.ensures.first h in
    let is = c.in_ok-after.ensures.rest in
    let inner : c.in_ok-after.field-0.now ≡ h.name ++ close ∷ space ∷ fields = cc in
    c.in_err-after-2.ensures.none fields
    (after_name h.name c.in_ok-after.field-0.now c.in_ok-_name.rest.now fields c.in_ok-_name._name.now
    c.in_ok-_name.ensures.is c.in_ok-_name.ensures.last inner h.last))

pub returns-clause-some : goal.returns-clause-some
returns-clause-some c =
    name_found c.args.text.now c.in_ok-number.number.now c.in_ok-number.rest.now c.in_ok-after.field-0.now c.in_ok-_name._name.now
    c.in_ok-_name.rest.now c.in_ok-after-2.field-0.now c.in_ok-number.ensures.is c.in_ok-number.ensures.first
    c.in_ok-after.ensures.rest c.in_ok-_name.ensures.is c.in_ok-_name.ensures.last c.in_ok-after-2.ensures.rest
