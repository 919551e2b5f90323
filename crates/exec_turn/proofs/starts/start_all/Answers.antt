use Rattle.std.proofs.Common.{◌≡◌, ◌+◌, ◌++◌, ◌∙◌, List, [], ◌∷◌, Option, take, drop, length, map, refl, sym, ap, subst, arith, append_assoc}
use Rattle.std.proofs.lemmas.List.{append-nil, drop_more, map-append, take_more}
use Rattle.ocf_types.specs.declared.notice.Notice.{Notice}
use Rattle.child_model.specs.Children.{ChildrenView}
use Rattle.ocf_env.specs.Locations.{Call, SiteView}
use Rattle.child_model.specs.MayStart.{IsLaunch}
use Rattle.exec_ledger.specs.Actives.{Active}
use Rattle.exec_turn.specs.Actives.{notice_of}
use Rattle.exec_turn.specs.Launches.{HasOwnLaunch, actions_of_starts, action_of_start}
use Rattle.exec_turn.specs.Starts.{Rising, Starts, refused_end}
use Rattle.exec_turn.specs.declared.picks.StartOf.{StartOf}
use Rattle.exec_turn.proofs.Starting.{each_at, one_live, starts_more}
use Rattle.exec_turn.proofs.starts.start_all.Goals as goal

pub loop-start-init : goal.loop-start-init
loop-start-init g c = record {
  started = (
    [],
    record { answers = []; each = refl; children = refl; batch_is = c.clear.ensures.items; reported_is = refl },
    sym (append-nil c.args.notices.now.items),
  );
  rising = c.requires.rising;
  few = omega (arith, c.requires.few);
  room = omega (arith, c.requires.room);
  ended = c.requires.ended;
  site = refl;
  batch_len = omega (arith, c.clear.ensures.len);
  notice_len = omega arith;
  batch_room = c.clear.ensures.capacity;
  notice_room = refl;
}

pub start_one-requires-clause-launches : goal.start_one-requires-clause-launches
start_one-requires-clause-launches g c =
    let at_first = each_at (λ (x : StartOf Call). IsLaunch (g.C.Children.view c.args.children.now).site c.args.state.now.state x.launch)
    c.args.starts.now c.loop-start.start-index c.start-item.result c.requires.launches c.loop-start-test.true c.start-item.is in
    subst (λ (site : Option SiteView). IsLaunch site c.args.state.now.state c.start-item.result.launch) (sym c.loop-start.invariant.site) at_first

pub start_one-requires-clause-of_one : goal.start_one-requires-clause-of_one
start_one-requires-clause-of_one g c =
    each_at HasOwnLaunch c.args.starts.now c.loop-start.start-index c.start-item.result c.requires.of_one c.loop-start-test.true c.start-item.is

pub loop-start-preserved : goal.loop-start-preserved
loop-start-preserved g c =
    let inv = c.loop-start.invariant in
    let view = g.C.Children.view in
    let clock = (g.T.Store.view c.args.store.now).clock in
    let all = c.args.starts.now in
    let i = c.loop-start.start-index in
    let x = c.start-item.result in
    let a = action_of_start x in
    let old = view c.loop-start.children in
    let new = view c.start_one.new.children in
    let reported = inv.started.0 in
    let started = c.start_one.ensures.started in
    let answer = started.0 in
    let taken : actions_of_starts (take (i + 1) all) ≡ actions_of_starts (take i all) ++ a ∷ [] =
    ap actions_of_starts (take_more all i x c.loop-start-test.true ∙ ap (λ (y : StartOf Call). take i all ++ y ∷ []) (sym c.start-item.is))
    ∙ map-append action_of_start (take i all) (x ∷ []) in
    let split : drop i all ≡ x ∷ drop (i + 1) all = drop_more all i x c.loop-start-test.true
    ∙ ap (λ (y : StartOf Call). y ∷ drop (i + 1) all) (sym c.start-item.is) in
    let rises : Rising old.last_run (actions_of_starts (x ∷ drop (i + 1) all)) = subst
    (λ (l : List (StartOf Call)). Rising old.last_run (actions_of_starts l)) split inv.rising in
    let last : new.last_run ≡ x.running.run = ap (λ (v : ChildrenView). v.last_run) started.1 in
    record {
      started = (
        reported ++ map (notice_of c.args.at a) (refused_end answer),
        subst (λ (l : List Active). Starts c.args.at clock l (view c.args.children.now) new c.start_one.new.batch.items
            (reported ++ map (notice_of c.args.at a) (refused_end answer))) (sym taken)
            (starts_more c.args.at clock (actions_of_starts (take i all)) a
            (view c.args.children.now) old new c.loop-start.batch.items c.start_one.new.batch.items reported _ answer inv.started.1 started.1
            started.2 refl),
        started.3 ∙ ap (λ (l : List Notice). l ++ map (notice_of c.args.at a) (refused_end answer)) inv.started.2
            ∙ append_assoc c.args.notices.now.items reported (map (notice_of c.args.at a) (refused_end answer)),
      );
      rising = subst (λ k. Rising k (actions_of_starts (drop (i + 1) all))) (sym last) rises.1;
      few = let live = ap (λ (v : ChildrenView). length v.live) started.1 in
          omega (arith, inv.few, live, one_live x.running.run old.live answer);
      room = let left = ap (λ (v : ChildrenView). v.room) started.1 in omega (arith, inv.room, left);
      ended = ap (λ (v : ChildrenView). v.given_up) started.1 ∙ inv.ended;
      site = ap (λ (v : ChildrenView). v.site) started.1 ∙ inv.site;
      batch_len = omega (arith, inv.batch_len, c.start_one.ensures.batch.few);
      notice_len = omega (arith, inv.notice_len, c.start_one.ensures.notices.few);
      batch_room = c.start_one.ensures.batch.room ∙ inv.batch_room;
      notice_room = c.start_one.ensures.notices.room ∙ inv.notice_room;
    }
