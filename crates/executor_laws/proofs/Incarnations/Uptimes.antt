-- The states that an incarnation may leave that crashed after its last call returned.
use Rattle.std.proofs.Common.{◌≡◌, inl, inr, ◌≤◌, ℕ, Bool, true, false, List, [], ◌++◌, refl, sym, ap, subst, ◌∙◌, arith, append_assoc}
use Rattle.std.proofs.lemmas.List.{append-nil}
use Rattle.ocf_types.specs.Kinds.{Event}
use Rattle.ocf_model.specs.StateLemmas.{after_all-append}
use Rattle.ocf_model.specs.State.{State, after_all}
use Rattle.executor_laws.specs.Incarnations.{IsUptime, Uptime, Survives}
use Rattle.exec_ledger.specs.Pieces.{Effects, followed_by, no_effects}
use Rattle.executor_laws.proofs.Incarnations.Calls.{calls_closed, calls_more}
use Rattle.executor_laws.proofs.Incarnations.Prefixes.{EachBegun, PrefixOf, GoesOn, all_begun, begin_among}
use Rattle.executor.proofs.Sessions.Growing.{Onward, leads_start, leads_still, onward}
use Rattle.store_model.specs.Calls.{EitherSide}
use Rattle.store_model.specs.StoreView.{Lawful, StoreView}

-- the events of some effects, those that are pending after them
abbrev all_of : Effects → List Event
all_of d = d.events ++ d.pending

module _ {S : Type 0} (view : S → StoreView) (lawful : (k : S) → (view k).honest → Lawful (view k)) where
  module _ (x : Uptime S) (serves : IsUptime view x) where
    opened_leads : Onward view x.opened x.opened no_effects
    opened_leads =
        onward view x.opened x.opened no_effects
        (leads_start view x.opened (lawful x.opened.store) (serves.opens.sound serves.opens.over.is_open))

    -- the crash condition of the calls that returned
    returned_leads : Onward view x.opened x.returned x.done
    returned_leads =
        calls_more view x.opened x.opened x.returned serves.calls no_effects x.done serves.returns opened_leads

    -- the crash condition of all of its calls
    pub whole_leads : Onward view x.opened x.last (followed_by x.done x.under_way)
    whole_leads =
        calls_more view x.opened x.returned x.last serves.begun x.done x.under_way serves.goes_on returned_leads

    module _ (honest : (view x.last.store).honest) (s : State) (left : (view x.last.store).leaves x.stop s) where
      from_earlier : (t : ℕ) → t ≤ x.stop → (view x.last.store).leaves t s
      from_earlier t le = (lawful x.last.store honest).earlier x.stop t s le left

      abbrev Base : Type 0
      Base = (p : List Event) × PrefixOf x.opened.state (all_of (followed_by x.done x.under_way)) s p × GoesOn x.done.events p

      -- where the executor was open after the last return, the state is the one after some of the events under way
      base_open : x.returned.is_open ≡ true → Base
      base_open is_open =
          let going : Onward view x.returned x.last x.under_way =
          calls_more view x.returned x.returned x.last serves.begun no_effects x.under_way serves.goes_on
          (onward view x.returned x.returned no_effects
          (leads_still view x.opened x.returned x.done is_open returned_leads)) in
          let d = x.done.events in
          let u = x.under_way in
          let holds = going.crash.crash.from_start honest s (from_earlier (view x.returned.store).clock serves.following) in
          let q = holds.0 in
          let none : x.done.pending ≡ [] = returned_leads.whole is_open in (
            d ++ q,
            record {
              others = holds.1;
              prefix =
                  append_assoc d q holds.1 ∙ ap (λ (l : List Event). d ++ l) holds.2 ∙ sym (append_assoc d u.events u.pending)
                  ∙ ap (λ (l : List Event). (d ++ u.events) ++ (l ++ u.pending)) (sym none);
              found =
                  holds.3 ∙ ap (λ (t : State). after_all t q) (returned_leads.state is_open) ∙ sym (after_all-append x.opened.state d q);
            },
            (q, refl),
          )

      -- where a fault had closed it, nothing was under way: the state is the one after all recorded events, or also after those
      -- that the fault left pending
      base_closed : x.returned.is_open ≡ false → Base
      base_closed closed =
          let none = calls_closed view x.returned x.last serves.begun x.under_way closed serves.goes_on in
          let was_honest : (view x.returned.store).honest = subst (λ (y : S). (view y).honest) none.store honest in
          let was_left = subst (λ (y : S). (view y).leaves x.stop s) none.store left in
          let now = (lawful x.returned.store was_honest).earlier x.stop (view x.returned.store).clock s serves.following was_left in
          by (returned_leads.crash.now was_honest s now)
        where
          d : List Event
          d = x.done.events

          all_is : all_of (followed_by x.done x.under_way) ≡ d ++ x.done.pending
          all_is =
              let none = calls_closed view x.returned x.last serves.begun x.under_way closed serves.goes_on in
              (λ k. (d ++ (none.nothing k).events) ++ (x.done.pending ++ (none.nothing k).pending))
              ∙ (λ k. append-nil d k ++ append-nil x.done.pending k)

          by : EitherSide (after_all x.opened.state x.done.events) x.done.pending s → Base
          by (inl found) = (
            d,
            record {
              others = x.done.pending;
              prefix = sym all_is;
              found = found;
            },
            ([], sym (append-nil d)),
          )
          by (inr found) = (
            d ++ x.done.pending,
            record {
              others = [];
              prefix = append-nil (d ++ x.done.pending) ∙ sym all_is;
              found = found ∙ sym (after_all-append x.opened.state d x.done.pending);
            },
            (x.done.pending, refl),
          )

      base_of : (b : Bool) → x.returned.is_open ≡ b → Base
      base_of true is_open = base_open is_open
      base_of false closed = base_closed closed

      -- after a start that was asked before the crash the state has its begin
      each_begun : EachBegun x.opened.state (all_of (followed_by x.done x.under_way)) s x.stop (followed_by x.done x.under_way).entries
      each_begun run clock asked le =
          let begun = whole_leads.crash.starts run clock asked in
          let holds = begun.following.from_start honest s
          (from_earlier (view begun.store).clock (subst (λ (n : ℕ). n ≤ x.stop) begun.counted le)) in
          let q = holds.0 in (
            begun.first ++ q,
            record {
              others = holds.1;
              prefix =
                  append_assoc begun.first q holds.1 ∙ ap (λ (l : List Event). begun.first ++ l) holds.2 ∙ begun.split;
              found = holds.3 ∙ sym (after_all-append x.opened.state begun.first q);
            },
            begin_among run begun.first (begun.first ++ q) (q, refl) begun.begins,
          )

      -- the events that remain of it
      pub uptime_survives : (p : List Event) × Survives x p × (s ≡ after_all x.opened.state p)
      uptime_survives =
          let base = base_of x.returned.is_open refl in
          let all = all_begun x.opened.state (all_of (followed_by x.done x.under_way)) s x.stop (followed_by x.done x.under_way).entries each_begun
          base.0 base.1 in (
            all.0,
            record {
              others = all.1.others;
              prefix = all.1.prefix;
              later = base.2.0 ++ all.2.0;
              acknowledged =
                  all.2.1 ∙ ap (λ (l : List Event). l ++ all.2.0) base.2.1 ∙ append_assoc x.done.events base.2.0 all.2.0;
              begins = all.3;
            },
            all.1.found,
          )

    -- whatever it left opens, with space for its boot
    pub uptime_opens : (view x.last.store).honest → (view x.last.store).opens x.stop × (view x.last.store).boots x.stop
    uptime_opens honest =
        let crash = whole_leads.crash.crash in
        let keeps = serves.opens.sound serves.opens.over.is_open in
        let opened_honest = crash.passed.honest honest in
        let law = lawful x.last.store honest in
        let was = lawful x.opened.store opened_honest in
        let holds = keeps.settled opened_honest in
        let from = (view x.opened.store).clock in
        let later = returned_leads.crash.crash.passed.clock in
        let le : from ≤ x.stop = omega (arith, later, serves.following) in (
          law.opens_later x.stop from le (crash.opens honest from (omega arith) (was.held_opens x.opened.state holds)),
          law.boots_later x.stop from le (crash.boots honest from (omega arith) (was.held_boots x.opened.state holds keeps.reserve)),
        )
