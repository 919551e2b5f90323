-- `with` makes a value of no bytes, at what was sent and then this.
use Rattle.std.proofs.Common.{List, [], ◌∷◌, ◌++◌, refl}
use Rattle.std.proofs.raw_atomic.Walks.{proved}
use mir.Syntax.{named}
use mir.Val.{Val, vstruct, vnil}
use types.Kit.{‵, raw, ◌⊛◌, ◌$◌, ◌∵◌, !, qed, done, move, keep, split, suffices}
use types.Part.{agg}
use types.Run.{enter, no_more, returns}
use types.ByLocal.{alloc_all, pass_all, free_all, look_at, sets}
use denote.Exit.{yes}
use denote.RattleType.{owns}
use denote.Ref.{shr_vals, shr_Tells}
use denote.Shadow.{pure_i}
use denote.Signature.{Slot, named_lft, plain, types_at}
use denote.Triple.Entry.{alive}
use denote.Triple.Walked.{Stays, walk_of, says, stay_none_ref, Goes-none_ref, ends_at}
use Rattle.exec_client.specs.MessageView.{message_view}
use Rattle.exec_client.specs.SentItem.{sent_in}
use Rattle.exec_client.specs.declared.sent_log.SentLog.{SentLog}
use Rattle.exec_client.specs.contracts.sent_log.SentLog.{the_row as R}
use Rattle.exec_client.specs.contracts.message.Message.{the_row as P}
use Rattle.exec_client.specs.contracts.sent_log.SentLog.with as f
use Rattle.exec_client.proofs.sent_log.SentLog.with.Statement.{statement}
use Rattle.exec_client.proofs.sent_log.SentLog.with.Code as code

-- how the machine stores it
abbrev stored : Val
stored = vstruct vnil

-- both parameters' types
abbrev what_was : Slot 3
what_was = plain (λ κs. R)

abbrev what_is : Slot 3
what_is = plain (λ κs. P (named_lft 3 2 tt κs))

abbrev stayed : Stays f.ended.signature.params f.ended.kept
stayed = (stay_none_ref (0 ∷ []) tt what_was yes, (stay_none_ref (1 ∷ []) tt what_is yes, tt))

pub with_spec : {M : Type 1} → statement M
with_spec 𝓤 𝓛 𝓜 𝓡 wired =
    let c = f.clauses 𝓛 𝓜.mem 𝓡.returns in let W = walk_of 𝓛 f.ended stayed c in
    proved 𝓛 f.ended stayed c 𝓜 𝓡
    (Goes-none_ref 𝓛 3 (0 ∷ []) tt what_was yes, (Goes-none_ref 𝓛 3 (1 ∷ []) tt what_is yes, tt))
    f.Key.name code.function (code.unfolded 𝓤 𝓛.H 𝓜 𝓡 wired)
    (λ κs. (shr_vals, (shr_vals, tt)))
    (λ κs. (shr_Tells (named 0) κs.0 R, (shr_Tells (named 1) κs.1.0 (P (named_lft 3 2 tt κs)), tt)))
    (λ κs qs bounds a g are.
    let made : SentLog = record { items = a.0.now.items ++ sent_in (message_view a.1.0.now) } in
    let vs : List Val × (List Val × Unit {0}) = (shr_vals a.0, (shr_vals a.1.0, tt)) in
    let y : W.Ghost = ((κs, qs, bounds, a, vs), g) in
    qed 𝓛 ((raw (alive 𝓛 f.signature κs qs) ⊛ ‵
    (owns (types_at f.signature.params κs) a vs)) ∷ raw ((c κs a).requires g) ∷ []) ∵
    keep ! (0 ∷ []) $ split ! $ keep ! (0 ∷ 1 ∷ []) $
    enter ! _ _ _ _ _ $ alloc_all !
    (λ l. pass_all ! refl ((tt, tt), ((tt, tt), tt)) $
    sets ! (agg ! (no_more !)) refl (tt, tt) $
    returns ! (look_at ! 0 refl) $ free_all ! refl $
    pure_i ! (R.own_val made (stored ∷ [])) ((λ vss. (tt, tt)), tt) ((tt, (refl, tt)), tt) $
    suffices ! _ (ends_at 𝓛 f.ended stayed c y stored made (tt, (tt, tt)) (tt, (tt, tt))) $ says ! refl $
    move ! (1 ∷ 2 ∷ 0 ∷ []) $ done !))
