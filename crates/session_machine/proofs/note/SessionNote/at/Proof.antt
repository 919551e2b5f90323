-- `at` makes a value of no bytes, at the trace.
use Rattle.std.proofs.Common.{List, [], ◌∷◌, refl}
use Rattle.std.proofs.raw_atomic.Walks.{proved}
use mir.MapTy.{inst_fn}
use mir.Syntax.{a_type, named}
use mir.Val.{Val, vstruct, vcons, vnil}
use types.Kit.{‵, raw, ◌⊛◌, ◌$◌, ◌∵◌, !, qed, done, move, keep, split, suffices}
use types.Part.{agg}
use types.Run.{enter, no_more, and_then, returns}
use types.ByLocal.{alloc_all, pass_all, free_all, look_at, get, sets}
use denote.Exit.{yes}
use denote.Param.{layouts}
use denote.RattleType.{owns}
use denote.Ref.{shr_vals, shr_Tells}
use denote.Shadow.{pure_i}
use denote.Signature.{plain, types_at}
use denote.Triple.Entry.{alive}
use denote.Triple.Walked.{Stays, walk_of, says, stay_none_ref, Goes-none_ref, ends_at}
use Rattle.session_machine.specs.contracts.note.SessionNote.{the_row as R}
use Rattle.session_machine.specs.contracts.note.SessionNote.at as f
use Rattle.session_machine.proofs.note.SessionNote.at.Statement.{statement}
use Rattle.session_machine.proofs.note.SessionNote.at.Code as code

-- how the machine stores it
abbrev stored : Val
stored = vstruct (vcons (vstruct vnil) vnil)

pub at_spec : {M : Type 1} → statement M
at_spec 𝓤 𝓛 𝓜 𝓡 wired S X L N =
    let P = f.X-row S X in let Q = f.S-row S X in
    let stayed : Stays (f.ended S X).signature.params (f.ended S X).kept =
    (stay_none_ref (0 ∷ []) tt (plain (λ _. P)) yes, tt) in
    let args = layouts (a_type ∷ a_type ∷ []) (S, (X, tt)) in
    let c = f.clauses S X 𝓛 𝓜.mem 𝓡.returns in let W = walk_of 𝓛 (f.ended S X) stayed c in
    proved 𝓛 (f.ended S X) stayed c 𝓜 𝓡
    (Goes-none_ref 𝓛 3 (0 ∷ []) tt (plain (λ _. P)) yes, tt)
    (f.Key.name args) (inst_fn args code.function) (code.unfolded 𝓤 𝓛.H 𝓜 𝓡 wired (S, (X, tt)))
    (λ κs. (shr_vals, tt)) (λ κs. (shr_Tells (named 0) κs.0 P, tt))
    (λ κs qs bounds a g are.
    let made : (R Q).Denot = record { «of» = record {}; trace = g } in
    let vs : List Val × Unit {0} = (shr_vals a.0, tt) in
    let y : W.Ghost = ((κs, qs, bounds, a, vs), g) in
    qed 𝓛 ((raw (alive 𝓛 (f.ended S X).signature κs qs) ⊛ ‵
    (owns (types_at (f.ended S X).signature.params κs) a vs)) ∷ raw ((c κs a).requires g) ∷ []) ∵
    keep ! (0 ∷ []) $ split ! $ keep ! (0 ∷ 1 ∷ []) $
    enter ! _ _ _ _ _ $ alloc_all !
    (λ l. pass_all ! refl ((tt, tt), tt) $
    sets ! (agg ! (no_more !)) refl (tt, tt) $ sets ! (agg ! (and_then ! (get ! refl) (no_more !))) refl (tt, (tt, tt)) $
    returns ! (look_at ! 0 refl) $ free_all ! refl $
    pure_i ! ((R Q).own_val made (stored ∷ [])) ((λ vss. (tt, ((λ uss. (tt, tt)), tt))), tt)
    (((vstruct vnil ∷ [], tt), (refl, ((tt, (refl, tt)), tt))), tt) $
    suffices ! _ (ends_at 𝓛 (f.ended S X) stayed c y stored made (tt, tt) (tt, tt)) $ says ! refl $
    move ! (1 ∷ 2 ∷ 0 ∷ []) $ done !))
