-- A wait of a session in `serve`.
use Rattle.std.proofs.Common.{◌≡◌, ◌≤◌, ◌<◌, ◌+◌, ◌*◌, ℕ, Bool, true, not, cond, ◌||◌, ◌⊎◌, [], ◌∷◌, ◌++◌, map, refl, sym, ap, subst, ◌∙◌, arith, inl, inr, length-append}
use Rattle.std.proofs.lemmas.Bool.{lt-ltb, or_right}
use Rattle.session_machine.specs.After.{polled}
use Rattle.session_machine.specs.Behaviours.{Trace, then}
use Rattle.session_machine.specs.Events.{Polled}
use Rattle.session_machine.specs.May.{MayPoll, MayWait}
use Rattle.session_machine.specs.Pausing.{IsShort, IsUntilDue}
use Rattle.session_machine.specs.Session.{OwnTurn, ReadLine, SessionState, lines_in}
use Rattle.exec_session.specs.Waits.{HasWaited, MayWaitNow, OnlyShows}

-- at most as long as the wait may be
pub waits_less : {S : Type 0} (s : SessionState S) (less micros : ℕ) → less ≤ micros → MayWait s micros → MayWait s less
waits_less s less micros le may = record {
  serves = may.serves;
  at = may.at;
  rests = may.rests;
  noted = may.noted;
  once = may.once;
  brief = by may.brief;
}
  where
    by : IsShort s.own.since s.own.now micros ⊎ IsUntilDue s.executor s.shown micros → IsShort s.own.since s.own.now less ⊎ IsUntilDue s.executor s.shown less
    by (inl (inl short)) = inl (inl (omega (arith, le, short)))
    by (inl (inr (long, part))) = inl (inr (omega (arith, le, long), omega (arith, le, part)))
    by (inr until) = inr (record {
      idle = until.idle;
      moment = until.moment;
      read = until.read;
      brief = omega (arith, le, until.brief);
      before = λ k d lt. omega (arith, le, until.before k d lt);
    })

-- a poll that may wait
polled_is : (own : OwnTurn) (millis : ℕ) (ready : Bool) → 0 < millis
    → polled own millis ready ≡ record own { waits = own.waits + 1; looked = not ready || own.looked; woken = true }
polled_is own millis ready some =
    ap (λ (b : Bool). record own {
      polls = cond b own.polls (own.polls + 1);
      waits = cond b (own.waits + 1) own.waits;
      looked = not ready || own.looked;
      woken = b || own.woken;
    }) (lt-ltb 0 millis some)

module _ {S : Type 0} (p m e : Trace S) (millis : ℕ) (shown : OnlyShows p m) (same : e ≡ m) (some : 0 < millis) where
  pub may_poll : (micros : ℕ) → MayWaitNow p.state → lines_in p.state ≡ [] → MayWait m.state micros → millis * 1000 ≤ micros
      → MayPoll e.state millis
  may_poll micros now none may part = subst (λ (t : Trace S). MayPoll t.state millis) (sym same) (record {
    serves = may.serves;
    listens =
        record {
          at = may.at;
          goes_on = shown.asks.ended ∙ now.goes_on;
          noted = may.noted;
          commands = [];
          waits = ap (map (λ (l : ReadLine). l.line)) shown.asks.lines ∙ none;
        };
    brief = inr (some, waits_less m.state (1000 * millis) micros (omega (arith, part)) may);
  })

  module _ (r : Trace S) (ready : Bool) (is : r ≡ then e (Polled millis ready)) where
    -- as one trace
    abbrev last : Trace S
    last = record {
      first = m.first;
      events = m.events ++ Polled millis ready ∷ [];
      state =
          record m.state {
            there = ready;
            own = record m.state.own { waits = m.state.own.waits + 1; looked = not ready || m.state.own.looked; woken = true };
          };
    }

    last_is : r ≡ last
    last_is = is ∙ ap (λ (t : Trace S). then t (Polled millis ready)) same
        ∙ ap (λ (own : OwnTurn). record { first = m.first; events = m.events ++ Polled millis ready ∷ []; state = record m.state { there = ready; own = own } })
        (polled_is m.state.own millis ready some)

    pub polled_waits : HasWaited p r
    polled_waits = subst (λ (t : Trace S). HasWaited p t) (sym last_is) (record {
      asks =
          record {
            lasts =
                record {
                  rules = shown.asks.lasts.rules;
                  first = shown.asks.lasts.first;
                  grows = omega (arith, shown.asks.lasts.grows, length-append m.events (Polled millis ready ∷ []));
                };
            at = shown.asks.at;
            executor = shown.asks.executor;
            lines = shown.asks.lines;
            part = shown.asks.part;
            found = shown.asks.found;
            ended = shown.asks.ended;
            now = shown.asks.now;
            since = shown.asks.since;
            end = shown.asks.end;
            reads = shown.asks.reads;
            looked = λ looked. or_right (not ready) m.state.own.looked (shown.asks.looked looked);
            woken = λ woken. refl;
          };
      polls = shown.polls;
    })

    pub polled_woken : r.state.own.woken ≡ true
    polled_woken = ap (λ (t : Trace S). t.state.own.woken) last_is
