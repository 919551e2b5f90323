use Rattle.std.proofs.Common.{◌≡◌, true, true≢false, refl, sym, subst, ◌∙◌}
use Rattle.ocf_model.specs.declared.reply.TurnEnd.{TurnEnd}
use Rattle.ocf_model.specs.Answer.{moment}
use Rattle.child_model.specs.Children.{Admits}
use Rattle.exec_ledger.specs.Lemmas.{while_open}
use Rattle.exec_ledger.specs.BatchStarts.{batch_start_of}
use Rattle.exec_turn.specs.Turn.{IsTurn}
use Rattle.exec_turn.specs.Turns.{turn_notices}
use Rattle.executor.specs.Reports.{remembered_report}
use Rattle.executor.specs.ExecutorView.{ExecutorView, executor_view}
use Rattle.executor.specs.TurnCalls.{TakesTurn, TurnsWhile}
use Rattle.executor.proofs.executor.On.turn.Goals as goal

pub take_turn-end-requires-clause-matched : goal.take_turn-end-requires-clause-matched
take_turn-end-requires-clause-matched g c = (c.self.invariant (sym c.is_open.ensures.value ∙ c.if-not-is_open.false)).matched

pub take_turn-end-requires-clause-site : goal.take_turn-end-requires-clause-site
take_turn-end-requires-clause-site g c = (c.self.invariant (sym c.is_open.ensures.value ∙ c.if-not-is_open.false)).admits

pub invariant_of-self : goal.invariant_of-self
invariant_of-self g c is_open =
    let tends = c.self.invariant (sym c.is_open.ensures.value ∙ c.if-not-is_open.false) in
    let turn = c.take_turn-end.ensures in
    record {
      matched = turn.matched (λ disk. true≢false (sym is_open ∙ turn.closes.1 disk));
      admits = subst (λ w. Admits w c.self.inside.site) (sym turn.turns.site) tends.admits;
    }

pub returns : goal.returns
returns g c =
    let e = c.self.inside in
    let x = executor_view e.ledger (g.C.Children.view e.children) e.site (turn_notices e.buffers) (remembered_report e.opening_report) in
    let y = executor_view c.take_turn-end.new.ledger (g.C.Children.view c.take_turn-end.new.children) e.site (turn_notices c.take_turn-end.new.buffers) (remembered_report e.opening_report) in
    let was : x.is_open ≡ true = sym c.is_open.ensures.value ∙ c.if-not-is_open.false in
    let turn = c.take_turn-end.ensures in
    let takes : TakesTurn g.S.Store.view c.args.now x y c.take_turn-end.result = record {
      turns = turn.turns;
      site = refl;
      allocator = ◌∙◌ {b = g.A.Grows.refuses} c.lemma_known-2.ensures.allocator (sym c.lemma_known.ensures.allocator);
      opening_report = refl;
      full = turn.full;
      unchanged = λ is.
          let same = turn.unchanged is in
          let none = (subst (λ (end : TurnEnd). IsTurn y.children.held end (batch_start_of g.S.Store.view e.ledger (moment e.ledger.state c.args.now)) turn.turns.effects y.reported) is
          turn.turns.does).1 in
          λ i. executor_view (same.0 i) (g.C.Children.view (same.1 i)) e.site (none i) (remembered_report e.opening_report);
      closes = turn.closes;
    } in
    record {
      turns = subst (λ (z : ExecutorView _). TurnsWhile z.is_open g.S.Store.view c.args.now z y c.take_turn-end.result) c.self.view_is
          (while_open _ was takes);
    }
