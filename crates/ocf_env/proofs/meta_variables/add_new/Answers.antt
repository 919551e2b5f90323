use Rattle.std.proofs.Common.{◌≡◌, ℕ, Bool, List, ◌∙◌, ap, sym, true, false}
use Rattle.std.specs.Prelude.{insert, if◌then◌else◌, is_ok, not}
use Rattle.ocf_types.specs.Params.{ParamList}
use Rattle.ocf_env.proofs.NewLemmas.{is_named, lesser, new_put, new_there}
use Rattle.ocf_env.proofs.meta_variables.add_new.Goals as goal

pub returns-then-is_there : goal.returns-then-is_there
returns-then-is_there g c = record {
  pairs =
      let name = c.args.name.now in
      let xs = c.args.pairs.now.items in
      let there : is_named name xs ≡ true = ap (λ ys. is_named name ys) (sym c.as_slice.ensures.value) ∙ sym c.is_there.ensures
      ∙ c.if-is_there.true in
      new_there (name, c.args.value.now) xs there;
}

-- the list after an insertion that was not refused
put_in : (ok bad : Bool) (old new more : ParamList) → new ≡ (if ok then more else old) → ok ≡ not bad → bad ≡ false → new ≡ more
put_in ok bad old new more h e f = h ∙ ap (λ b. if b then more else old) (e ∙ ap not f)

pub returns : goal.returns
returns g c = record {
  pairs =
      let name = c.args.name.now in
      let xs = c.args.pairs.now.items in
      let index = c.lesser_names-index.result in
      let gone : is_named name xs ≡ false = ap (λ ys. is_named name ys) (sym c.as_slice.ensures.value) ∙ sym c.is_there.ensures
      ∙ c.if-is_there.false in
      let at : index ≡ lesser name xs = c.lesser_names-index.ensures ∙ ap (λ ys. lesser name ys) c.as_slice-2.ensures.value in
      let pair : List ℕ × List ℕ = (c.in_ok-copied.field-0, c.in_ok-copied-2.field-0) in
      let items : c.insert.new.self.items ≡ (if is_ok c.insert.result then insert xs index pair else xs) = c.insert.ensures.items
      ∙ ap (λ (ys : ParamList). if is_ok c.insert.result then insert ys index pair else ys) c.reserve.ensures.items in
      let put : c.insert.new.self.items ≡ insert xs index (name, c.args.value.now) = put_in
      (is_ok c.insert.result) c.is_err.result xs c.insert.new.self.items (insert xs index pair) items c.is_err.ensures.negation c.if-is_err.false
      ∙ (λ k. insert xs index (c.in_ok-copied.ensures.text k, c.in_ok-copied-2.ensures.text k)) in
      new_put (name, c.args.value.now) xs c.insert.new.self.items index gone at put;
}
