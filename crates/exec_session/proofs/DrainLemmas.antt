-- Drains, watches and the orderly end of a session.
use Rattle.std.proofs.Common.{◌≡◌, ◌≢◌, ◌≤◌, ◌+◌, ℕ, Bool, true, false, not, [], ◌∷◌, Option, None, Some, refl, sym, ap, subst, ◌∙◌, arith, inl, inr, length-append}
use Rattle.ocf_model.specs.Boot.{any_busy}
use Rattle.ocf_model.specs.declared.reply.TurnEnd.{TurnEnd}
use Rattle.ocf_model.specs.declared.reply.TurnEnd.TheVariants as turn_end
use Rattle.executor.specs.ExecutorView.{ExecutorView}
use Rattle.exec_replies.specs.declared.ends.DrainEnd.{DrainEnd}
use Rattle.session_machine.specs.After.{after_drain_turn, drain_of}
use Rattle.session_machine.specs.Behaviours.{Trace, then}
use Rattle.session_machine.specs.Drains.{end_after}
use Rattle.session_machine.specs.Events.{Shown}
use Rattle.session_machine.specs.May.{IsTurnDue, MayShow}
use Rattle.session_machine.specs.Pausing.{IsShort}
use Rattle.session_machine.specs.Session.{At, Drain, Draining, at_then, lines_in}
use Rattle.session_machine.specs.declared.terms.Terms.{Terms}
use Rattle.session_machine.specs.declared.rules.Rules.{Rules}
use Rattle.exec_session.specs.declared.pause.Pause.{Pause}
use Rattle.exec_session.specs.Standing.{Stays, StaysLonger}
use Rattle.exec_session.specs.Steps.{HasFinished, HasPaused, IsDrained, IsDraining, IsLeaving, MayPauseNow}
use Rattle.exec_session.proofs.RoundLemmas.{keeps_both, lasts_both}

-- a drain goes on after a turn that is done
done : (t : Terms) (turns now : ℕ) (end : TurnEnd) (idle : Bool) → end_after t turns now end idle ≡ None → end ≡ turn_end.Done
done t turns now turn_end.Done idle e = refl
done t turns now turn_end.Closed idle e = absurd cc
done t turns now turn_end.BookFull idle e = absurd cc
done t turns now turn_end.RunsSpent idle e = absurd cc
done t turns now turn_end.Full idle e = absurd cc
done t turns now turn_end.Memory idle e = absurd cc
done t turns now turn_end.Disk idle e = absurd cc

-- a pause that is short since one time is short since an earlier one
pub short_since : (before since now micros : ℕ) → before ≤ since → IsShort since now micros → IsShort before now micros
short_since before since now micros le (inl short) = inl short
short_since before since now micros le (inr (long, part)) = inr (long, omega (arith, le, part))

-- one after the other
module _ {S : Type 0} where
  pub stays_both : (p q r : Trace S) → Stays p q → Stays q r → Stays p r
  stays_both p q r one two = record {
    lasts = lasts_both p q r one.lasts two.lasts;
    part = two.part ∙ one.part;
    found = two.found ∙ one.found;
    ended = two.ended ∙ one.ended;
    own = keeps_both p.state.own q.state.own r.state.own one.own two.own;
  }

  -- after a turn of a drain it may pause
  pub pauses_between : (q : Trace S) (d : Drain) (now : ℕ) (end : TurnEnd) (since moment micros : ℕ)
      → q.state.at ≡ at_then (after_drain_turn d now end) → d.start ≤ since → moment ≡ now → IsShort since moment micros → MayPauseNow q.state micros
  pauses_between q d now end since moment micros at le same short = (
    record { since = d.start; now = now; made = false },
    Some (record d { turns = d.turns + 1; end = end }),
    at,
    refl,
    short_since d.start since now micros le (subst (λ (n : ℕ). IsShort since n micros) same short),
  )

  -- After the turn and the pause.
  module _ (p q r e : Trace S) (d : Drain) (now : ℕ) (end : TurnEnd) (longer : StaysLonger p q)
      (at : q.state.at ≡ at_then (after_drain_turn d now end)) (paused : HasPaused q r) (same : e ≡ r) where
    abbrev next : Drain
    next = record d { turns = d.turns + 1; end = end }

    rested_at : e.state.at ≡ Draining next
    rested_at =
        ap (λ (t : Trace S). t.state.at) same ∙ paused.at (record { since = d.start; now = now; made = false }) (Some next) at

    pub may_show : MayShow e.state.at
    may_show = subst (λ (a : At). MayShow a) (sym rested_at) tt

    -- and a clock reading
    module _ (s : Trace S) (later : ℕ) (shown : s ≡ then e (Shown later)) where
      goes_on_at : s.state.at ≡ Draining next
      goes_on_at = ap (λ (t : Trace S). t.state.at) shown ∙ rested_at

      goes_on_executor : s.state.executor ≡ q.state.executor
      goes_on_executor =
          ap (λ (t : Trace S). t.state.executor) shown ∙ ap (λ (t : Trace S). t.state.executor) same ∙ paused.executor

      pub goes_on_longer : StaysLonger p s
      goes_on_longer =
          subst (λ (t : Trace S). StaysLonger p t) (sym (shown ∙ ap (λ (t : Trace S). then t (Shown later)) same))
          (let all = stays_both p q r longer.stays paused.stays in
          record {
            stays =
                record {
                  lasts =
                      record {
                        rules = all.lasts.rules;
                        first = all.lasts.first;
                        grows = omega (arith, all.lasts.grows, length-append r.events (Shown later ∷ []));
                      };
                  part = all.part;
                  found = all.found;
                  ended = all.ended;
                  own = all.own;
                };
            lines = paused.lines ∙ longer.lines;
            longer = omega (arith, longer.longer, paused.stays.lasts.grows, length-append r.events (Shown later ∷ []));
          })

      -- how it ends then, by the executor's own answer whether it is idle
      module _ (x : ExecutorView S) (idle : Bool) (given : Option DrainEnd) (of : x ≡ e.state.executor) (is_idle : idle ≡ not (any_busy x.state))
          (is : given ≡ end_after d.terms (d.turns + 1) later end idle) where
        ends_so : end_after d.terms (d.turns + 1) later end (not (any_busy s.state.executor.state)) ≡ given
        ends_so =
            ap (λ (t : Trace S). end_after d.terms (d.turns + 1) later end (not (any_busy t.state.executor.state))) shown
            ∙ ap (λ (y : ExecutorView S). end_after d.terms (d.turns + 1) later end (not (any_busy y.state))) (sym of)
            ∙ ap (λ (b : Bool). end_after d.terms (d.turns + 1) later end b) (sym is_idle) ∙ sym is

        pub drained : (found : DrainEnd) → given ≡ Some found → IsDrained s.state found
        drained found gave =
            record { drain = next; at = goes_on_at; now = later; shown = ap (λ (t : Trace S). t.state.shown) shown; ended = ends_so ∙ gave }

        pub goes_on : given ≡ None → (end ≢ turn_end.Disk → q.state.executor.is_open ≡ true)
            → IsDraining s.state (record { terms = d.terms; start = d.start; turns = d.turns + 1; end = turn_end.Done }) later
        goes_on gave opens =
            let is_done : end ≡ turn_end.Done = done d.terms (d.turns + 1) later end idle (sym is ∙ gave) in
            let still : s.state.at ≡ Draining (record { terms = d.terms; start = d.start; turns = d.turns + 1; end = turn_end.Done }) =
            goes_on_at ∙ ap (λ (w : TurnEnd). Draining (record { terms = d.terms; start = d.start; turns = d.turns + 1; end = w })) is_done in
            record {
              shown = ap (λ (t : Trace S). t.state.shown) shown;
              due =
                  subst (λ (a : At). IsTurnDue s.state a later) (sym still)
                  (ap (λ (w : TurnEnd). end_after d.terms (d.turns + 1) later w (not (any_busy s.state.executor.state))) (sym is_done) ∙ ends_so ∙ gave);
              is = ap (λ (a : At). drain_of a (lines_in s.state) later s.state.rules.most_turns) still;
              is_open = ap (λ (y : ExecutorView S). y.is_open) goes_on_executor ∙ opens (λ disk. cc);
            }

  -- an orderly end goes on after a turn and its pause
  pub leaves_on : (q r : Trace S) (pause : Pause) → q.state.executor.is_open ≡ true → HasFinished q.state pause → HasPaused q r → IsLeaving r.state
  leaves_on q r pause is_open finished paused = record {
    serves = ap (λ (w : Rules). w.mode) paused.stays.lasts.rules ∙ finished.serves;
    goes_on = (
      paused.at (record { since = 0; now = pause.moment; made = false }) None (finished.rests is_open),
      paused.stays.ended ∙ finished.goes_on,
      λ serves. ap (λ (x : ExecutorView S). x.is_open) paused.executor ∙ is_open,
    );
    is = paused.lines ∙ finished.is;
  }
