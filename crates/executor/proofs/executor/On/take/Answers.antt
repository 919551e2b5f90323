use Rattle.std.proofs.Common.{subst, sym}
use Rattle.ocf_model.specs.declared.reply.ReplyOf.TheVariants.{Turn}
use Rattle.exec_ledger.specs.Pieces.{Effects}
use Rattle.executor.specs.Sessions.{Input, TakesWhile}
use Rattle.executor.specs.CallLemmas.{request_taken, turn_taken}
use Rattle.executor.proofs.executor.On.take.Goals as goal

pub returns-in-Request : goal.returns-in-Request
returns-in-Request g c =
    let x = c.args.self.now in
    let y = c.command.new.self in
    record {
      takes = subst (λ (i : Input). (d : Effects) × TakesWhile x.is_open g.S.Store.view i x y c.command.result d) (sym c.in-Request.is)
          (request_taken x.is_open g.S.Store.view c.in-Request.now c.in-Request.request x y c.command.result c.command.ensures.serves
          c.command.ensures.closes);
    }

pub returns-in-Turn : goal.returns-in-Turn
returns-in-Turn g c =
    let x = c.args.self.now in
    let y = c.turn.new.self in
    record {
      takes = subst (λ (i : Input). (d : Effects) × TakesWhile x.is_open g.S.Store.view i x y (Turn c.turn.result) d) (sym c.in-Turn.is)
          (turn_taken x.is_open g.S.Store.view c.in-Turn.now x y c.turn.result c.turn.ensures.turns);
    }
