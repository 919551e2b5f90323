use Rattle.std.proofs.Common.{arith, refl, subst, sym, take, drop, ◌∙◌}
use Rattle.std.proofs.lemmas.Bool.{false≢true}
use borrow.Author.Count.{below_more}
use Rattle.proc_files.specs.Pieces.{IsPieces}
use Rattle.proc_files.specs.Signals.{BeginsWithBit}
use Rattle.proc_files.proofs.PieceLemmas.{after_at, after_none}
use Rattle.proc_files.proofs.SignalLemmas.{no_line}
use Rattle.proc_files.proofs.signal.is_ignored.Goals as goal
use Rattle.proc_files.proofs.signal.is_ignored.Goals.{else-is_pieces-via-then-is_pieces+else-begins_with_bit}
use Rattle.proc_files.proofs.signal.is_ignored.Goals.{else-is_pieces-via-else-is_pieces}

pub returns-then-begins_with_bit : goal.returns-then-begins_with_bit
returns-then-begins_with_bit c = (
  λ _. after_at 10 (BeginsWithBit c.args.signal) c.args.status.now c.loop-at.at
      (subst (IsPieces 10) c.split_at.ensures.front (c.is_pieces.ensures.0 c.if-is_pieces.true))
      (subst (BeginsWithBit c.args.signal) c.split_at.ensures.back (c.begins_with_bit.ensures.0 c.if-begins_with_bit.true)),
  λ _. refl,
)

pub loop-at-preserved : goal.loop-at-preserved
loop-at-preserved c =
    below_more (λ k. IsPieces 10 (take k c.args.status.now) → BeginsWithBit c.args.signal (drop k c.args.status.now) → ⊥)
    c.loop-at.at c.loop-at.invariant (λ pieces begins. elim c.else-is_pieces.branch [
      | else-is_pieces-via-then-is_pieces+else-begins_with_bit w ↦
          false≢true (sym w.if-begins_with_bit.false
          ∙ w.begins_with_bit.ensures.1 (subst (BeginsWithBit c.args.signal) (sym c.split_at.ensures.back) begins))
      | else-is_pieces-via-else-is_pieces w ↦
          false≢true (sym w.if-is_pieces.false ∙ c.is_pieces.ensures.1 (subst (IsPieces 10) (sym c.split_at.ensures.front) pieces))
    ])

pub returns : goal.returns
returns c = (
  λ never. absurd (false≢true never),
  λ has. absurd (after_none 10 (BeginsWithBit c.args.signal) c.args.status.now (no_line c.args.signal)
      (λ at within. c.loop-at.invariant at (omega (arith, within))) has),
)
