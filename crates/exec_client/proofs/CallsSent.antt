-- What is sent of calls, piece by piece.
use Rattle.std.proofs.Common.{◌≡◌, ℕ, List, [], ◌∷◌, ◌++◌, map, append_assoc, refl, sym, ap, subst, ◌∙◌}
use Rattle.std.proofs.lemmas.List.{append-nil, map-append}
use Rattle.std.specs.List.{AllByRecursion, flat_map}
use Rattle.ocf_types.specs.Kinds.{Event}
use Rattle.ocf_types.specs.declared.command.RequestOf.TheVariants as asked
use Rattle.store_model.specs.StoreView.{StoreView}
use Rattle.executor.specs.CallLemmas.{followed_by_assoc, followed_by_none}
use Rattle.executor.specs.Exchanges.{Abandoned, Calls, Cleared, Does, Exchange, Finished, Batch, Tidied, Took}
use Rattle.executor.specs.CommandExchanges.{IsAt, replies_of}
use Rattle.executor.specs.Sessions.{Effects, followed_by, no_effects}
use Rattle.executor.specs.ExecutorView.{ExecutorView}
use Rattle.executor.specs.declared.session.InputOf.TheVariants as input
use Rattle.exec_client.specs.BackedBy.{BackedBy, nothing, states_else, sends, unsent}
use Rattle.exec_client.specs.SentItem.{SentItem, answered}
use Rattle.exec_client.specs.Sends.{ClaimsNothing, States, SendsCalls}

-- messages that are backed by no event claim nothing
claims_none : (ss : List SentItem) (es : List Event) → es ≡ [] → BackedBy ss es → ClaimsNothing ss
claims_none _ _ same nothing = tt
claims_none _ _ same (unsent e ss es b) = absurd cc
claims_none _ _ same (sends s e ss es t b) = absurd cc
claims_none _ _ same (states_else s ss es none b) = (none, claims_none ss es same b)

pub claims_nothing : (ss : List SentItem) → BackedBy ss [] → ClaimsNothing ss
claims_nothing ss b = claims_none ss [] refl b

both_nothing : (ss ts : List SentItem) → ClaimsNothing ss → ClaimsNothing ts → ClaimsNothing (ss ++ ts)
both_nothing [] ts one two = two
both_nothing (s ∷ ss) ts one two = (one.0, both_nothing ss ts one.1 two)

module _ {S : Type 0} (view : S → StoreView) where
  -- one call
  pub one_sends : (x y : ExecutorView S) (e : Exchange) (d : Effects) (items : List SentItem) → Does view e x y d → States e y items
      → SendsCalls view x (e ∷ []) y d items
  one_sends x y e d items does says =
      ([], items, [], y, d, no_effects, tt, does, says, (refl, refl, tt), sym (followed_by_none d), sym (append-nil items))

  -- messages that claim nothing, and then calls
  aside_sends : (x z : ExecutorView S) (es : List Exchange) (d : Effects) (ss ts : List SentItem) → ClaimsNothing ss → SendsCalls view x es z d ts
      → SendsCalls view x es z d (ss ++ ts)
  aside_sends x z [] d ss ts none (same, nil, plain) = (same, nil, both_nothing ss ts none plain)
  aside_sends x z (e ∷ es) d ss ts none (aside, mine, later, mid, first, rest, plain, does, says, goes_on, is, reported) = (
    ss ++ aside,
    mine,
    later,
    mid,
    first,
    rest,
    both_nothing ss aside none plain,
    does,
    says,
    goes_on,
    is,
    ap (λ (us : List SentItem). ss ++ us) reported ∙ sym (append_assoc ss aside (mine ++ later)),
  )

  -- calls, and then others
  pub both_send : (x y z : ExecutorView S) (es fs : List Exchange) (a b : Effects) (ss ts : List SentItem) → SendsCalls view x es y a ss
      → SendsCalls view y fs z b ts → SendsCalls view x (es ++ fs) z (followed_by a b) (ss ++ ts)
  both_send x y z [] fs a b ss ts (same, none, plain) two =
      subst (λ (d : Effects). SendsCalls view x fs z d (ss ++ ts)) (sym (ap (λ (d : Effects). followed_by d b) none))
      (aside_sends x z fs b ss ts plain (subst (λ (w : ExecutorView S). SendsCalls view w fs z b ts) same two))
  both_send x y z (e ∷ es) fs a b ss ts (aside, mine, later, mid, first, rest, plain, does, says, goes_on, is, reported) two = (
    aside,
    mine,
    later ++ ts,
    mid,
    first,
    followed_by rest b,
    plain,
    does,
    says,
    both_send mid y z es fs rest b later ts goes_on two,
    ap (λ (d : Effects). followed_by d b) is ∙ sym (followed_by_assoc first rest b),
    ap (λ (us : List SentItem). us ++ ts) reported ∙ append_assoc aside (mine ++ later) ts
        ∙ ap (λ (us : List SentItem). aside ++ us) (append_assoc mine later ts),
  )

  -- commands that were carried out at one moment
  states_at : (now : ℕ) (e : Exchange) (y : ExecutorView S) → IsAt now e → States e y (map answered (replies_of e))
  states_at now (Took (input.Request at (asked.Command c)) r) y is = refl
  states_at now (Took (input.Request at (asked.Question q)) r) y is = absurd is
  states_at now (Took (input.Turn at) r) y is = absurd is
  states_at now (Batch at cs rs) y is = refl
  states_at now (Finished at end) y is = absurd is
  states_at now (Tidied end) y is = absurd is
  states_at now Cleared y is = absurd is
  states_at now Abandoned y is = absurd is

  pub commands_send : (now : ℕ) (es : List Exchange) (x y : ExecutorView S) (d : Effects) → AllByRecursion (IsAt now) es → Calls view x es y d
      → SendsCalls view x es y d (map answered (flat_map replies_of es))
  commands_send now [] x y d at (same, none) = (same, none, tt)
  commands_send now (e ∷ es) x y d at (mid, first, later, does, calls, is) = (
    [],
    map answered (replies_of e),
    map answered (flat_map replies_of es),
    mid,
    first,
    later,
    tt,
    does,
    states_at now e mid at.0,
    commands_send now es mid y later at.1 calls,
    is,
    map-append answered (replies_of e) (flat_map replies_of es),
  )
