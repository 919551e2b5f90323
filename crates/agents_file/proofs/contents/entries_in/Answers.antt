use Rattle.std.proofs.Common.{◌≡◌, ◌∙◌, ◌+◌, ap, arith, refl, subst, sym}
use Rattle.agents_file.specs.Contents.{AreKept}
use Rattle.agents_file.proofs.ContentsLemmas.{kept_more, kept_none, kept_same}
use Rattle.agents_file.proofs.contents.entries_in.Goals.{in-Some+in_ok-push, in_default}
use Rattle.agents_file.proofs.contents.entries_in.Goals as goal

pub loop-slot-init : goal.loop-slot-init
loop-slot-init g c = subst (λ l. AreKept 0 c.args.bytes.now l) (sym c.new-kept.ensures.items) (kept_none c.args.bytes.now)

pub loop-slot-preserved : goal.loop-slot-preserved
loop-slot-preserved g c = elim c.match-entry_of.branch [
  | in-Some+in_ok-push w ↦
      let more = kept_more c.loop-slot.slot c.args.bytes.now c.loop-slot.kept.items
      (record { slot = c.loop-slot.slot; entry = w.in-Some.entry }) c.loop-slot.invariant refl
      (sym c.line_at.ensures ∙ w.in-Some.ensures.some) in
      let same : c.match-entry_of.kept.items ≡ w.push.new.self.items = ap (λ v. v.items) w.kept-is in
      subst (λ l. AreKept (c.loop-slot.slot + 1) c.args.bytes.now l) (sym (same ∙ w.in_ok-push.ensures.items)) more
  | in_default w ↦
      let same : c.match-entry_of.kept.items ≡ c.loop-slot.kept.items = ap (λ v. v.items) w.kept-is in
      subst (λ l. AreKept (c.loop-slot.slot + 1) c.args.bytes.now l) (sym same)
      (kept_same c.loop-slot.slot c.args.bytes.now c.loop-slot.kept.items c.loop-slot.invariant
      (λ e is line. w.in_default.ensures.none e is (c.line_at.ensures ∙ line)))
]

pub returns : goal.returns
returns g c =
    record {
      kept = subst (λ n. AreKept n c.args.bytes.now c.loop-slot.kept.items)
          (omega (arith, c.loop-slot-test.false, c.loop-slot.auto.slot-end)) c.loop-slot.invariant;
    }
