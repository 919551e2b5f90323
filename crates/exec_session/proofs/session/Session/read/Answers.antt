use Rattle.std.proofs.Common.{ap, subst, sym, ◌∙◌}
use Rattle.exec_lines.specs.Buffer.{line_bytes}
use Rattle.exec_session.specs.Reading.{IsGot}
use Rattle.exec_session.specs.Standing.{Standing}
use Rattle.exec_session.specs.declared.reading.Got.{Got}
use Rattle.exec_session.proofs.ReadLemmas.{read_got}
use Rattle.exec_session.proofs.session.Session.read.Goals as goal

pub invariant_of-self-2 : goal.invariant_of-self-2
invariant_of-self-2 g c =
    let (reads, is_got) =
    read_got c.args.self.now.trace (g.E.Edge.trace c.self.inside.edge) (g.E.Edge.trace c.read.new.self) (line_bytes c.read.new.buffer) c.in_ok-next.next
    (ap (λ (s : Standing g.row.E-Store.Denot). s.trace) c.self.view_is) c.requires.may.0 c.in_ok-next.ensures.reads in
    c.self.invariant ∙ ap (λ (s : Standing g.row.E-Store.Denot). s.trace.state.executor) c.self.view_is ∙ sym reads.executor

pub returns : goal.returns
returns g c =
    let (reads, is_got) =
    read_got c.args.self.now.trace (g.E.Edge.trace c.self.inside.edge) (g.E.Edge.trace c.read.new.self) (line_bytes c.read.new.buffer) c.in_ok-next.next
    (ap (λ (s : Standing g.row.E-Store.Denot). s.trace) c.self.view_is) c.requires.may.0 c.in_ok-next.ensures.reads in
    record {
      same = record {
        gathered = ap (λ (s : Standing g.row.E-Store.Denot). s.pending.gathered) c.self.view_is;
        held = ap (λ (s : Standing g.row.E-Store.Denot). s.pending.held) c.self.view_is;
        pause = ap (λ (s : Standing g.row.E-Store.Denot). s.pause) c.self.view_is;
        own_end = ap (λ (s : Standing g.row.E-Store.Denot). s.own_end) c.self.view_is;
      };
      continues = record { lasts = reads.lasts; broke = tt };
      reads = reads;
      got = subst (λ (r : Got). IsGot (g.E.Edge.trace c.read.new.self).state (line_bytes c.read.new.buffer) r) (sym c.got_in.ensures) is_got;
    }
