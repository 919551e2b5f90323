use Rattle.std.proofs.Common.{rules, ◌≡◌, ◌+◌, ◌<◌, ◌++◌, nat_eq, length, take, drop, arith, length-append, ◌∙◌, ap, subst, List}
use Rattle.std.specs.List.{IsDistinct, flat_map}
use Rattle.std.proofs.lemmas.List.{map-append}
use Rattle.ocf_model.specs.Indexes.{entry_at}
use Rattle.exec_ledger.specs.Actives.{Active, active_in, runs_of}
use Rattle.exec_turn.proofs.Polling.{Live, active_more, active_rest, others_distinct, others_live, polls_more, room_kept}
use Rattle.exec_turn.proofs.Results.{each_first}
use Rattle.exec_turn.proofs.polls.poll_all.Goals as goal

pub poll_at-requires-clause-lives : goal.poll_at-requires-clause-lives
poll_at-requires-clause-lives g c =
    let s = c.args.state.now.state in
    let here = active_in (entry_at s c.loop-index.index) in
    let later = flat_map active_in (drop (c.loop-index.index + 1) s.resources) in
    let live = subst (λ (l : List Active). Live (g.C.Children.view c.loop-index.children).live (runs_of l))
    (active_rest s c.loop-index.index (search rules)) c.loop-index.invariant.lives in
    each_first _ (runs_of here) (runs_of later) (subst (Live (g.C.Children.view c.loop-index.children).live) (map-append _ here later) live)

pub loop-index-preserved : goal.loop-index-preserved
loop-index-preserved g c =
    let s = c.args.state.now.state in
    let index = c.loop-index.index in
    let inv = c.loop-index.invariant in
    let within : index < length s.resources = search rules in
    let here = active_in (entry_at s index) in
    let later = flat_map active_in (drop (index + 1) s.resources) in
    let old = g.C.Children.view c.loop-index.children in
    let new = g.C.Children.view c.poll_at.new.children in
    let more = c.poll_at.ensures.polled in
    let is = active_rest s index within in
    let distinct = subst (λ (l : List Active). IsDistinct nat_eq (runs_of l)) is inv.distinct in
    let lives = subst (λ (l : List Active). Live old.live (runs_of l)) is inv.lives in
    let both = polls_more c.args.at (flat_map active_in (take index s.resources)) here
    (g.C.Children.view c.args.children.now) old new c.loop-index.batch.items more.0 c.loop-index.notices.items more.1 inv.polled more.2 in
    let size : length (flat_map active_in (drop index s.resources)) ≡ length (here ++ later) = ap (λ (l : List Active). length l) is in
    record {
      polled = rw (active_more s index within, more.3, more.4) both;
      lives = others_live c.args.at here later old new more.0 more.1 more.2 distinct lives;
      distinct = others_distinct here later distinct;
      room = omega (arith, inv.room, size, length-append here later, room_kept c.args.at here old new more.0 more.1 more.2);
      batch_few = omega (arith, inv.batch_few, c.poll_at.ensures.batch.few);
      notices_few = omega (arith, inv.notices_few, c.poll_at.ensures.notices.few);
      batch_room = c.poll_at.ensures.batch.room ∙ inv.batch_room;
      notice_room = c.poll_at.ensures.notices.room ∙ inv.notice_room;
    }
