use Rattle.std.proofs.Common.{◌≡◌, length, ◌<◌, true, rules, refl, None}
use Rattle.ocf_types.specs.Params.{ParamList, is_after, last_name}
use Rattle.ocf_types.proofs.ParamsLemmas.{AreParams_push}
use Rattle.ocf_types.proofs.params.Params.push.Goals as goal

pub invariant_of-self-2 : goal.invariant_of-self-2
invariant_of-self-2 g c =
    let ps : ParamList = c.self.inside.entries.items in
    let room : length ps < 64 = rw c.self.view_is c.requires.room in
    let after : is_after (last_name None ps) c.args.name ≡ true = rw c.self.view_is c.requires.after in
    rw c.in_ok-push.ensures.items (AreParams_push ps c.args.name c.args.value c.self.invariant room after (search rules) (search rules))

pub returns-clause-ok : goal.returns-clause-ok
returns-clause-ok g c = rw (c.in_ok-push.ensures.items, ← c.self.view_is) refl
