-- The empty statement holds of each answer of a system.
use Rattle.std.proofs.Common.{Result, Ok, Err, IfOk, IfErr, OnErr}
use Rattle.std.specs.Prelude.{⊤}

pub if_ok_any : {T E : Type 0} (r : Result T E) → IfOk r (λ x. ⊤)
if_ok_any (Ok x) = tt
if_ok_any (Err e) = tt

pub if_err_any : {T E : Type 0} (r : Result T E) → IfErr r (λ x. ⊤)
if_err_any (Ok x) = tt
if_err_any (Err e) = tt

pub on_err_any : {T E : Type 0} (r : Result T E) → OnErr r ⊤
on_err_any (Ok x) = tt
on_err_any (Err e) = tt
