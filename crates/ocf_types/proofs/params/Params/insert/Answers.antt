use Rattle.std.proofs.Common.{◌≡◌, ℕ, List, length, sym, ◌∙◌, ap, subst, Bool, true, false, not, ◌≤◌, ◌<◌, arith}
use Rattle.std.specs.Prelude.{count_by, vec_len, insert, if◌then◌else◌, is_ok}
use Rattle.ocf_types.specs.Params.{ParamList, AreParams, is_before, has_param, with_param}
use Rattle.ocf_types.specs.Names.{is_param_name}
use Rattle.ocf_types.specs.Values.{is_param_value}
use Rattle.ocf_types.proofs.InsertLemmas.{index_below, set_there, insert_new, set_lawful, insert_lawful}
use Rattle.ocf_types.proofs.params.Params.insert.Goals as goal

-- what the count of the lesser names, and the test of the name at that index, say of the parameters
index_is : (name : List ℕ) (ps qs : ParamList) (n : ℕ) → n ≡ count_by (λ p. is_before p.0 name) qs → qs ≡ ps
    → n ≡ count_by (λ p. is_before p.0 name) ps
index_is name ps qs n h e = h ∙ ap (λ (xs : ParamList). count_by (λ p. is_before p.0 name) xs) e

pub index_mut-requires : goal.index_mut-requires
index_mut-requires g c =
    let name : List ℕ = c.args.name in
    let ps : ParamList = c.self.inside.entries.items in
    let index = index_is name ps c.as_slice.result.now c.lesser_names-index.result c.lesser_names-index.ensures c.as_slice.ensures.value in
    let there : has_param name ps ≡ true = sym (c.is_there.ensures ∙ ap (λ (xs : ParamList). has_param name xs) c.as_slice-2.ensures.value)
    ∙ c.if-is_there.true in
    let below : c.lesser_names-index.result < length ps =
    index_below name ps c.self.invariant.sorted c.lesser_names-index.result index there in
    let len : length ps ≡ vec_len c.self.inside.entries = ap (λ (xs : ParamList). length xs) (sym c.as_slice.ensures.value)
    ∙ c.as_slice.ensures.len in
    omega (arith, below, len)

pub invariant_of-self : goal.invariant_of-self
invariant_of-self g c =
    let name : List ℕ = c.args.name in
    let value : List ℕ = c.args.value in
    let ps : ParamList = c.self.inside.entries.items in
    let index = index_is name ps c.as_slice.result.now c.lesser_names-index.result c.lesser_names-index.ensures c.as_slice.ensures.value in
    let there : has_param name ps ≡ true = sym (c.is_there.ensures ∙ ap (λ (xs : ParamList). has_param name xs) c.as_slice-2.ensures.value)
    ∙ c.if-is_there.true in
    let named : is_param_name name ≡ true = subst (λ x. is_param_name x ≡ true) c.as_bytes.ensures.bytes c.as_bytes.ensures.lawful in
    let valued : is_param_value value ≡ true = subst (λ x. is_param_value x ≡ true) c.as_str.ensures.bytes c.as_str.ensures.lawful in
    set_lawful name value ps c.lesser_names-index.result c.self.invariant named valued index there

pub returns-then-is_there-clause-ok : goal.returns-then-is_there-clause-ok
returns-then-is_there-clause-ok g c =
    let name : List ℕ = c.args.name in
    let value : List ℕ = c.args.value in
    let ps : ParamList = c.self.inside.entries.items in
    let index = index_is name ps c.as_slice.result.now c.lesser_names-index.result c.lesser_names-index.ensures c.as_slice.ensures.value in
    let there : has_param name ps ≡ true = sym (c.is_there.ensures ∙ ap (λ (xs : ParamList). has_param name xs) c.as_slice-2.ensures.value)
    ∙ c.if-is_there.true in
    set_there name ps c.self.invariant.sorted value c.lesser_names-index.result index there
    ∙ ap (λ (xs : ParamList). with_param name value xs) c.self.view_is

-- the state after a growth that was not refused
pushed : (ok bad : Bool) (old new added : ParamList) → new ≡ (if ok then added else old) → ok ≡ not bad → bad ≡ false → new ≡ added
pushed ok bad old new added h e f = h ∙ ap (λ b. if b then added else old) (e ∙ ap not f)

pub invariant_of-self-2 : goal.invariant_of-self-2
invariant_of-self-2 g c =
    let name : List ℕ = c.args.name in
    let value : List ℕ = c.args.value in
    let ps : ParamList = c.self.inside.entries.items in
    let n : ℕ = c.lesser_names-index.result in
    let index = index_is name ps c.as_slice.result.now n c.lesser_names-index.ensures c.as_slice.ensures.value in
    let gone : has_param name ps ≡ false = sym (c.is_there.ensures ∙ ap (λ (xs : ParamList). has_param name xs) c.as_slice-2.ensures.value)
    ∙ c.if-is_there.false in
    let named : is_param_name name ≡ true = subst (λ x. is_param_name x ≡ true) c.as_bytes.ensures.bytes c.as_bytes.ensures.lawful in
    let valued : is_param_value value ≡ true = subst (λ x. is_param_value x ≡ true) c.as_str.ensures.bytes c.as_str.ensures.lawful in
    let len : length ps ≡ vec_len c.self.inside.entries = ap (λ (xs : ParamList). length xs) (sym c.as_slice.ensures.value)
    ∙ c.as_slice.ensures.len in
    let at_most : length ps ≤ 64 = c.self.invariant.at_most_64 in
    let room : length ps < 64 = omega (arith, at_most, len, c.len.ensures, c.if-len-eq-PARAMS_LIMIT.false) in
    let items : c.insert.new.self.items ≡ (if is_ok c.insert.result then insert ps n (name, value) else ps) =
    c.insert.ensures.items ∙ ap (λ (xs : ParamList). if is_ok c.insert.result then insert xs n (name, value) else xs) c.reserve.ensures.items in
    let new = pushed (is_ok c.insert.result) c.is_err-2.result ps c.insert.new.self.items
    (insert ps n (name, value)) items c.is_err-2.ensures.negation c.if-is_err-2.false in
    subst AreParams (sym new) (insert_lawful name value ps n c.self.invariant named valued index gone room)

pub returns-clause-ok : goal.returns-clause-ok
returns-clause-ok g c =
    let name : List ℕ = c.args.name in
    let value : List ℕ = c.args.value in
    let ps : ParamList = c.self.inside.entries.items in
    let n : ℕ = c.lesser_names-index.result in
    let index = index_is name ps c.as_slice.result.now n c.lesser_names-index.ensures c.as_slice.ensures.value in
    let gone : has_param name ps ≡ false = sym (c.is_there.ensures ∙ ap (λ (xs : ParamList). has_param name xs) c.as_slice-2.ensures.value)
    ∙ c.if-is_there.false in
    let items : c.insert.new.self.items ≡ (if is_ok c.insert.result then insert ps n (name, value) else ps) =
    c.insert.ensures.items ∙ ap (λ (xs : ParamList). if is_ok c.insert.result then insert xs n (name, value) else xs) c.reserve.ensures.items in
    let new = pushed (is_ok c.insert.result) c.is_err-2.result ps c.insert.new.self.items
    (insert ps n (name, value)) items c.is_err-2.ensures.negation c.if-is_err-2.false in
    new ∙ insert_new name ps c.self.invariant.sorted value n index gone ∙ ap (λ (xs : ParamList). with_param name value xs) c.self.view_is
