-- The tokens of whole lines: those of their members, one after the other.
use Rattle.std.proofs.Common.{◌≡◌, ℕ, List, [], ◌∷◌, ◌++◌, Option, None, Some, true, length, map, refl, sym, ap, ◌∙◌, append_assoc}
use Rattle.std.specs.Prelude.{codes}
use Rattle.json.specs.Token.{Token, begin_object, end_array, end_object, key}
use Rattle.json.specs.Tree.{items_tokens, members_tokens}
use Rattle.serde_json.specs.Data.{Data, string}
use Rattle.serde_json.specs.View.{items_of}
use Rattle.serde_json.specs.Written.{items_outline, members_outline}
use Rattle.ocf_model.specs.Answer.{Info}
use Rattle.ocf_types.specs.Params.{ParamList}
use Rattle.ocf_types.specs.declared.operation.Ended.{Ended}
use Rattle.ocf_types.specs.declared.operation.Recur.{Recur}
use Rattle.ocf_types.specs.declared.operation.Running.{Running}
use Rattle.ocf_types.specs.declared.outcome.MetaFault.TheVariants as fault
use Rattle.ocf_model.specs.declared.refusal.Refusal.{Refusal}
use Rattle.ocf_types.specs.declared.notice.Notice.{Notice}
use Rattle.ocf_model.specs.Refusals.{refusal_row}
use Rattle.ocf_env.specs.Keys.{key_text}
use Rattle.exec_replies.specs.Errors.{error_tokens}
use Rattle.exec_replies.specs.Infos.{info_lists, info_more, info_state, params_tokens, queued_tokens, recur_first, recur_rest, recurring_tokens, running_tokens}
use Rattle.exec_replies.specs.Notices.{lives_tokens, short_first, short_rest, signal_tokens, timed_first, timed_how, timed_key}
use Rattle.exec_replies.specs.Objects.{natural_data, param_members}
use Rattle.exec_replies.specs.Places.{counts_tokens, place_tokens}
use Rattle.exec_replies.specs.Replies.{accepted_data, done_data, end_data, ended_data, failed_data, fault_data, history_data, info_data, keyed_data, length_data, list_data, recur_data, refusal_data, running_data, short_data, timed_data}
use Rattle.exec_replies.specs.Results.{ended_first, ended_rest}
use Rattle.exec_replies.specs.Service.{identity_in, lent, ready_data, text_data, text_or_null, version_data}
use Rattle.exec_replies.specs.Tags.{marked}
use Rattle.exec_replies.specs.Tokens.{array_member, flag_member, kind_member, number_member, tag_member, text_member, text_or_null_member, value_tokens, values_tokens}
use Rattle.exec_replies.specs.declared.kind.LineKind.{LineKind}
use Rattle.exec_replies.specs.declared.service.Counts.{Counts}
use Rattle.exec_replies.specs.declared.service.Service.{Service}

pub end_whole : (kind : Option LineKind) (tag : Option (List ℕ)) (word : List ℕ)
    → begin_object ∷ (text_member (codes "end") word ++ (kind_member kind ++ (tag_member tag ++ (end_object ∷ []))))
    ≡ value_tokens (marked kind tag (end_data word))
unfolding text_member number_member flag_member
end_whole None None word = refl
end_whole None (Some tag) word = refl
end_whole (Some kind) None word = refl
end_whole (Some kind) (Some tag) word = refl

pub failed_whole : (kind : Option LineKind) (tag : Option (List ℕ)) (code : ℕ)
    → begin_object ∷ (number_member (codes "code") code ++ (text_member (codes "end") (codes "failed") ++ (kind_member kind ++ (tag_member tag ++ (end_object ∷ [])))))
    ≡ value_tokens (marked kind tag (fault_data (fault.Failed code)))
unfolding text_member number_member flag_member
failed_whole None None code = refl
failed_whole None (Some tag) code = refl
failed_whole (Some kind) None code = refl
failed_whole (Some kind) (Some tag) code = refl

pub refusal_whole : (kind : Option LineKind) (tag : Option (List ℕ)) (why : Refusal)
    → begin_object ∷ (text_member (codes "error") (refusal_row why).1 ++ (kind_member kind ++ (number_member (codes "number") (refusal_row why).0 ++ (tag_member tag ++ (end_object ∷ [])))))
    ≡ value_tokens (marked kind tag (refusal_data why))
unfolding text_member number_member flag_member
refusal_whole None None why = refl
refusal_whole None (Some tag) why = refl
refusal_whole (Some kind) None why = refl
refusal_whole (Some kind) (Some tag) why = refl

pub done_whole : (kind : Option LineKind) (tag : Option (List ℕ))
    → begin_object ∷ (kind_member kind ++ (flag_member (codes "ok") true ++ (tag_member tag ++ (end_object ∷ []))))
    ≡ value_tokens (marked kind tag (done_data))
unfolding text_member number_member flag_member
done_whole None None = refl
done_whole None (Some tag) = refl
done_whole (Some kind) None = refl
done_whole (Some kind) (Some tag) = refl

pub accepted_whole : (kind : Option LineKind) (tag : Option (List ℕ)) (call : ℕ) (name : List ℕ)
    → begin_object ∷ (number_member (codes "call") call ++ (text_member (codes "key") name ++ (kind_member kind ++ (flag_member (codes "ok") true ++ (tag_member tag ++ (end_object ∷ []))))))
    ≡ value_tokens (marked kind tag (accepted_data call name))
unfolding text_member number_member flag_member
accepted_whole None None call name = refl
accepted_whole None (Some tag) call name = refl
accepted_whole (Some kind) None call name = refl
accepted_whole (Some kind) (Some tag) call name = refl

pub length_whole : (kind : Option LineKind) (tag : Option (List ℕ)) (metadata : List ℕ)
    → begin_object ∷ (kind_member kind ++ (number_member (codes "meta") (length metadata) ++ (tag_member tag ++ (end_object ∷ []))))
    ≡ value_tokens (marked kind tag (length_data metadata))
unfolding text_member number_member flag_member
length_whole None None metadata = refl
length_whole None (Some tag) metadata = refl
length_whole (Some kind) None metadata = refl
length_whole (Some kind) (Some tag) metadata = refl

pub version_whole : (kind : Option LineKind) (tag : Option (List ℕ)) (s : Service)
    → begin_object ∷ (kind_member kind ++ (flag_member (codes "ok") true ++ (tag_member tag ++ (text_member (codes "version") s.version.now ++ (end_object ∷ [])))))
    ≡ value_tokens (marked kind tag (version_data s))
unfolding text_member number_member flag_member
version_whole None None s = refl
version_whole None (Some tag) s = refl
version_whole (Some kind) None s = refl
version_whole (Some kind) (Some tag) s = refl

pub text_whole : (kind : Option LineKind) (tag : Option (List ℕ)) (metadata : List ℕ)
    → begin_object ∷ (kind_member kind ++ (text_member (codes "metadata") metadata ++ (flag_member (codes "ok") true ++ (tag_member tag ++ (end_object ∷ [])))))
    ≡ value_tokens (marked kind tag (text_data metadata))
unfolding text_member number_member flag_member
text_whole None None metadata = refl
text_whole None (Some tag) metadata = refl
text_whole (Some kind) None metadata = refl
text_whole (Some kind) (Some tag) metadata = refl

pub recur_whole : (m : Recur)
    → recur_first m ++ (recur_rest m)
    ≡ value_tokens (recur_data m)
unfolding text_member number_member flag_member
recur_whole m = refl

pub ended_whole : (e : Ended)
    → ended_first e ++ (ended_rest e)
    ≡ value_tokens (ended_data e)
unfolding text_member number_member flag_member
ended_whole e = refl

pub short_whole : (n : Notice)
    → short_first n ++ (short_rest n.result)
    ≡ value_tokens (short_data n)
unfolding text_member number_member flag_member
short_whole n = refl

pub running_whole : (id : List ℕ) (x : Running)
    → begin_object ∷ (number_member (codes "call") x.call ++ (text_member (codes "key") (key_text id x.task.action x.interval) ++ (number_member (codes "run") x.run ++ (end_object ∷ []))))
    ≡ value_tokens (running_data id (Some x))
unfolding text_member number_member flag_member
running_whole id x = refl

-- a refusal that is about a key, if any
pub refused_whole : (k : Option LineKind) (t about : Option (List ℕ)) (why : Refusal) (message : List ℕ)
    → error_tokens why about ++ (kind_member k ++ (text_member (codes "message") message ++ (number_member (codes "number") (refusal_row why).0
    ++ (tag_member t ++ (end_object ∷ [])))))
    ≡ value_tokens (marked k t (keyed_data (refusal_row why).1 about message (refusal_row why).0))
unfolding text_member number_member flag_member
refused_whole None None None why message = refl
refused_whole None None (Some name) why message = refl
refused_whole None (Some tag) None why message = refl
refused_whole None (Some tag) (Some name) why message = refl
refused_whole (Some kind) None None why message = refl
refused_whole (Some kind) None (Some name) why message = refl
refused_whole (Some kind) (Some tag) None why message = refl
refused_whole (Some kind) (Some tag) (Some name) why message = refl

-- the values of a list, and the end of its array
pub items_more : {A : Type 0} (say : A → Data) (xs : List A) (rest : List Token)
    → values_tokens say xs ++ (end_array ∷ rest) ≡ items_tokens (items_outline (items_of (map say xs))) ++ rest
items_more say [] rest = refl
items_more say (x ∷ xs) rest =
    let later = items_tokens (items_outline (items_of (map say xs))) in
    append_assoc (value_tokens (say x)) (values_tokens say xs) (end_array ∷ rest)
    ∙ ap (λ (ts : List Token). value_tokens (say x) ++ ts) (items_more say xs rest)
    ∙ sym (append_assoc (value_tokens (say x)) later rest)

pub list_whole : (k : Option LineKind) (t : Option (List ℕ)) (xs : List (List ℕ))
    → begin_object ∷ (kind_member k ++ (flag_member (codes "ok") true ++ (array_member (codes "resources") ++ (values_tokens string xs
    ++ (end_array ∷ (tag_member t ++ (end_object ∷ [])))))))
    ≡ value_tokens (marked k t (list_data xs))
unfolding text_member number_member flag_member
list_whole None None xs =
    ap (λ (ts : List Token). begin_object ∷ (kind_member None ++ (flag_member (codes "ok") true ++ (array_member (codes "resources") ++ ts))))
    (items_more string xs (tag_member None ++ (end_object ∷ [])))
list_whole None (Some tag) xs =
    ap (λ (ts : List Token). begin_object ∷ (kind_member None ++ (flag_member (codes "ok") true ++ (array_member (codes "resources") ++ ts))))
    (items_more string xs (tag_member (Some tag) ++ (end_object ∷ [])))
list_whole (Some kind) None xs =
    ap (λ (ts : List Token). begin_object ∷ (kind_member (Some kind) ++ (flag_member (codes "ok") true ++ (array_member (codes "resources") ++ ts))))
    (items_more string xs (tag_member None ++ (end_object ∷ [])))
list_whole (Some kind) (Some tag) xs =
    ap (λ (ts : List Token). begin_object ∷ (kind_member (Some kind) ++ (flag_member (codes "ok") true ++ (array_member (codes "resources") ++ ts))))
    (items_more string xs (tag_member (Some tag) ++ (end_object ∷ [])))

pub history_whole : (k : Option LineKind) (t : Option (List ℕ)) (xs : List Ended)
    → begin_object ∷ (kind_member k ++ (flag_member (codes "ok") true ++ (array_member (codes "results") ++ (values_tokens ended_data xs
    ++ (end_array ∷ (tag_member t ++ (end_object ∷ [])))))))
    ≡ value_tokens (marked k t (history_data xs))
unfolding text_member number_member flag_member
history_whole None None xs =
    ap (λ (ts : List Token). begin_object ∷ (kind_member None ++ (flag_member (codes "ok") true ++ (array_member (codes "results") ++ ts))))
    (items_more ended_data xs (tag_member None ++ (end_object ∷ [])))
history_whole None (Some tag) xs =
    ap (λ (ts : List Token). begin_object ∷ (kind_member None ++ (flag_member (codes "ok") true ++ (array_member (codes "results") ++ ts))))
    (items_more ended_data xs (tag_member (Some tag) ++ (end_object ∷ [])))
history_whole (Some kind) None xs =
    ap (λ (ts : List Token). begin_object ∷ (kind_member (Some kind) ++ (flag_member (codes "ok") true ++ (array_member (codes "results") ++ ts))))
    (items_more ended_data xs (tag_member None ++ (end_object ∷ [])))
history_whole (Some kind) (Some tag) xs =
    ap (λ (ts : List Token). begin_object ∷ (kind_member (Some kind) ++ (flag_member (codes "ok") true ++ (array_member (codes "results") ++ ts))))
    (items_more ended_data xs (tag_member (Some tag) ++ (end_object ∷ [])))

-- the parameters, and the end of their object
params_more : (ps : ParamList) (rest : List Token)
    → params_tokens ps ++ (end_object ∷ rest) ≡ members_tokens (members_outline (param_members ps)) ++ rest
unfolding text_member
params_more [] rest = refl
params_more (p ∷ ps) rest = ap (λ (ts : List Token). key p.0 ∷ Token.string p.1 ∷ ts) (params_more ps rest)

-- what a resource does, with what follows
work_more : (i : Info) (rest : List Token) → info_more i ++ rest
    ≡ array_member (codes "queued") ++ (items_tokens (items_outline (items_of (map natural_data i.queued.items)))
    ++ (array_member (codes "recurring") ++ (items_tokens (items_outline (items_of (map recur_data i.recurring.items)))
    ++ (key (codes "running") ∷ (value_tokens (running_data i.id i.running) ++ rest)))))
work_more i rest =
    let queued = array_member (codes "queued") in
    let calls = values_tokens natural_data i.queued.items in
    let recurring = array_member (codes "recurring") in
    let monitors = values_tokens recur_data i.recurring.items in
    let running = running_tokens i.id i.running in
    let ran = running ++ rest in
    append_assoc (queued_tokens i.queued.items) (recurring_tokens i.recurring.items ++ running) rest
    ∙ ap (λ (ts : List Token). queued_tokens i.queued.items ++ ts) (append_assoc (recurring_tokens i.recurring.items) running rest)
    ∙ ap (λ (ts : List Token). queued ++ ts) (append_assoc calls (end_array ∷ []) (recurring_tokens i.recurring.items ++ ran)
    ∙ items_more natural_data i.queued.items (recurring_tokens i.recurring.items ++ ran))
    ∙ ap (λ (ts : List Token). queued ++ (items_tokens (items_outline (items_of (map natural_data i.queued.items))) ++ (recurring ++ ts)))
    (append_assoc monitors (end_array ∷ []) ran ∙ items_more recur_data i.recurring.items ran)

-- how it is registered, with what follows
lists_more : (i : Info) (rest : List Token) → info_lists i ++ rest
    ≡ flag_member (codes "ok") true ++ (key (codes "params") ∷ begin_object ∷ (members_tokens (members_outline (param_members i.params))
    ++ (text_member (codes "provider") i.provider ++ rest)))
unfolding text_member flag_member
lists_more i rest =
    ap (λ (ts : List Token). flag_member (codes "ok") true ++ (key (codes "params") ∷ begin_object ∷ ts))
    (append_assoc (params_tokens i.params) ((end_object ∷ []) ++ text_member (codes "provider") i.provider) rest
    ∙ params_more i.params (text_member (codes "provider") i.provider ++ rest))

-- its state, with what follows
state_more : (i : Info) (rest : List Token) → info_state i ++ rest
    ≡ begin_object ∷ key (codes "failed") ∷ (value_tokens (failed_data i.failed) ++ (text_member (codes "id") i.id ++ rest))
state_more i rest =
    ap (λ (ts : List Token). begin_object ∷ key (codes "failed") ∷ ts)
    (append_assoc (value_tokens (failed_data i.failed)) (text_member (codes "id") i.id) rest)

pub info_whole : (k : Option LineKind) (t : Option (List ℕ)) (i : Info)
    → info_state i ++ (kind_member k ++ (info_lists i ++ (info_more i ++ (tag_member t ++ (text_member (codes "type") i.agent ++ (end_object ∷ []))))))
    ≡ value_tokens (marked k t (info_data i))
unfolding text_member number_member flag_member
info_whole None None i =
    let rest = tag_member None ++ (text_member (codes "type") i.agent ++ (end_object ∷ [])) in
    state_more i (kind_member None ++ (info_lists i ++ (info_more i ++ rest)))
    ∙ ap (λ (ts : List Token). begin_object ∷ key (codes "failed") ∷ (value_tokens (failed_data i.failed)
    ++ (text_member (codes "id") i.id ++ (kind_member None ++ ts)))) (lists_more i (info_more i ++ rest))
    ∙ ap (λ (ts : List Token). begin_object ∷ key (codes "failed") ∷ (value_tokens (failed_data i.failed)
    ++ (text_member (codes "id") i.id ++ (kind_member None ++ (flag_member (codes "ok") true ++ (key (codes "params") ∷ begin_object
    ∷ (members_tokens (members_outline (param_members i.params)) ++ (text_member (codes "provider") i.provider ++ ts)))))))) (work_more i rest)
info_whole None (Some tag) i =
    let rest = tag_member (Some tag) ++ (text_member (codes "type") i.agent ++ (end_object ∷ [])) in
    state_more i (kind_member None ++ (info_lists i ++ (info_more i ++ rest)))
    ∙ ap (λ (ts : List Token). begin_object ∷ key (codes "failed") ∷ (value_tokens (failed_data i.failed)
    ++ (text_member (codes "id") i.id ++ (kind_member None ++ ts)))) (lists_more i (info_more i ++ rest))
    ∙ ap (λ (ts : List Token). begin_object ∷ key (codes "failed") ∷ (value_tokens (failed_data i.failed)
    ++ (text_member (codes "id") i.id ++ (kind_member None ++ (flag_member (codes "ok") true ++ (key (codes "params") ∷ begin_object
    ∷ (members_tokens (members_outline (param_members i.params)) ++ (text_member (codes "provider") i.provider ++ ts)))))))) (work_more i rest)
info_whole (Some kind) None i =
    let rest = tag_member None ++ (text_member (codes "type") i.agent ++ (end_object ∷ [])) in
    state_more i (kind_member (Some kind) ++ (info_lists i ++ (info_more i ++ rest)))
    ∙ ap (λ (ts : List Token). begin_object ∷ key (codes "failed") ∷ (value_tokens (failed_data i.failed)
    ++ (text_member (codes "id") i.id ++ (kind_member (Some kind) ++ ts)))) (lists_more i (info_more i ++ rest))
    ∙ ap (λ (ts : List Token). begin_object ∷ key (codes "failed") ∷ (value_tokens (failed_data i.failed)
    ++ (text_member (codes "id") i.id ++ (kind_member (Some kind) ++ (flag_member (codes "ok") true ++ (key (codes "params") ∷ begin_object
    ∷ (members_tokens (members_outline (param_members i.params)) ++ (text_member (codes "provider") i.provider ++ ts)))))))) (work_more i rest)
info_whole (Some kind) (Some tag) i =
    let rest = tag_member (Some tag) ++ (text_member (codes "type") i.agent ++ (end_object ∷ [])) in
    state_more i (kind_member (Some kind) ++ (info_lists i ++ (info_more i ++ rest)))
    ∙ ap (λ (ts : List Token). begin_object ∷ key (codes "failed") ∷ (value_tokens (failed_data i.failed)
    ++ (text_member (codes "id") i.id ++ (kind_member (Some kind) ++ ts)))) (lists_more i (info_more i ++ rest))
    ∙ ap (λ (ts : List Token). begin_object ∷ key (codes "failed") ∷ (value_tokens (failed_data i.failed)
    ++ (text_member (codes "id") i.id ++ (kind_member (Some kind) ++ (flag_member (codes "ok") true ++ (key (codes "params") ∷ begin_object
    ∷ (members_tokens (members_outline (param_members i.params)) ++ (text_member (codes "provider") i.provider ++ ts)))))))) (work_more i rest)

-- the journal of a session, with what follows
place_more : (s : Service) (counts : Counts) (rest : List Token) → place_tokens s counts ++ rest
    ≡ begin_object ∷ (number_member (codes "dropped") counts.dropped ++ (key (codes "identity") ∷ (value_tokens (text_or_null (identity_in s))
    ++ (number_member (codes "interrupted") counts.interrupted ++ (key (codes "journal") ∷ (value_tokens (text_or_null (lent s.journal)) ++ rest))))))
unfolding number_member
place_more s counts rest =
    ap (λ (ts : List Token). begin_object ∷ (number_member (codes "dropped") counts.dropped ++ (key (codes "identity") ∷ ts)))
    (append_assoc (value_tokens (text_or_null (identity_in s)))
    (number_member (codes "interrupted") counts.interrupted ++ text_or_null_member (codes "journal") (lent s.journal)) rest)

pub ready_whole : (k : Option LineKind) (t : Option (List ℕ)) (s : Service) (counts : Counts)
    → place_tokens s counts ++ (kind_member k ++ (counts_tokens counts ++ (tag_member t ++ (text_member (codes "version") s.version.now ++ (end_object ∷ [])))))
    ≡ value_tokens (marked k t (ready_data s counts))
unfolding text_member number_member flag_member
ready_whole None None s counts =
    place_more s counts (kind_member None ++ (counts_tokens counts ++ (tag_member None ++ (text_member (codes "version") s.version.now ++ (end_object ∷ [])))))
ready_whole None (Some tag) s counts =
    place_more s counts (kind_member None ++ (counts_tokens counts ++ (tag_member (Some tag) ++ (text_member (codes "version") s.version.now ++ (end_object ∷ [])))))
ready_whole (Some kind) None s counts =
    place_more s counts (kind_member (Some kind) ++ (counts_tokens counts ++ (tag_member None ++ (text_member (codes "version") s.version.now ++ (end_object ∷ [])))))
ready_whole (Some kind) (Some tag) s counts =
    place_more s counts (kind_member (Some kind) ++ (counts_tokens counts ++ (tag_member (Some tag) ++ (text_member (codes "version") s.version.now ++ (end_object ∷ [])))))

-- a notice with what only some have
pub timed_whole : (k : Option LineKind) (t : Option (List ℕ)) (lives signal : Option ℕ) (reason : Option (List ℕ)) (n : Notice)
    → timed_first n ++ (timed_key n ++ (kind_member k ++ (lives_tokens lives ++ (timed_how n.result ++ (text_or_null_member (codes "reason") reason
    ++ (number_member (codes "run") n.result.run ++ (signal_tokens signal ++ (number_member (codes "since") n.result.since
    ++ (tag_member t ++ (end_object ∷ []))))))))))
    ≡ value_tokens (marked k t (timed_data lives reason signal n))
unfolding text_member number_member flag_member
timed_whole None None None None reason n = refl
timed_whole None None None (Some signal) reason n = refl
timed_whole None None (Some pid) None reason n = refl
timed_whole None None (Some pid) (Some signal) reason n = refl
timed_whole None (Some tag) None None reason n = refl
timed_whole None (Some tag) None (Some signal) reason n = refl
timed_whole None (Some tag) (Some pid) None reason n = refl
timed_whole None (Some tag) (Some pid) (Some signal) reason n = refl
timed_whole (Some kind) None None None reason n = refl
timed_whole (Some kind) None None (Some signal) reason n = refl
timed_whole (Some kind) None (Some pid) None reason n = refl
timed_whole (Some kind) None (Some pid) (Some signal) reason n = refl
timed_whole (Some kind) (Some tag) None None reason n = refl
timed_whole (Some kind) (Some tag) None (Some signal) reason n = refl
timed_whole (Some kind) (Some tag) (Some pid) None reason n = refl
timed_whole (Some kind) (Some tag) (Some pid) (Some signal) reason n = refl
