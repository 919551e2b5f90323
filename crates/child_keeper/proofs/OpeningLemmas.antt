-- How the agents of an earlier executor are found.
use Rattle.std.specs.Prelude.{◌≡◌, ◌⊎◌, ◌&&◌, ◌<◌, ℕ, Bool, true, false, List, [], ◌∷◌, ◌++◌, Option, Some, Ok, All, Contains, if◌then◌else◌, length, map, not, slice_index_or, take}
use Rattle.std.proofs.Common.{ap, arith, inl, inr, refl, sym, ◌∙◌}
use Rattle.std.proofs.lemmas.List.{append-nil, append_assoc, get_or-map, length-map, map-append}
use Rattle.std.proofs.lemmas.List.Elements.{All-nil, All-push, All-take, All-weaker, Contains-append_left, Contains-append_right, Contains-push}
use Rattle.agent_system.specs.Sights.{HasEnded, Look}
use Rattle.agent_system.specs.SystemView.{SystemView, after_look, after_open, process_in}
use Rattle.agent_system.specs.declared.agent_process.AgentProcess.{AgentProcess}
use Rattle.agents_file.specs.declared.contents.Kept.{Kept}
use Rattle.agents_file.specs.declared.entry.AgentEntry.{AgentEntry}
use Rattle.child_keeper.specs.Openings.{AreFound, IsFound, IsSeenEnded, OnlyAdopts, left_of}
use Rattle.child_keeper.specs.Waits.{IsPart}
use Rattle.child_keeper.proofs.WaitLemmas.{begins_more}
use Rattle.ocf_types.specs.declared.orphan.Orphan.{Orphan}
use Rattle.process_ends.specs.Endings.{Begins}
use Rattle.proc_files.specs.declared.process.Process.{Process}

-- a look at the number of an entry's process whose answer shows that this has ended, and what came after that
pub seen_ended : (v m w : SystemView) (e : AgentEntry) (answer : Option Process) → m ≡ after_look v e.pid (Ok answer) → Begins w.looked m.looked
    → HasEnded (Some e.start) (Some answer) → IsSeenEnded v w e
seen_ended v m w e answer looked later ended =
    let look : Look = record { pid = e.pid; answer = Some answer } in (
      Some answer,
      (
        look ∷ [] ++ later.0,
        later.1 ∙ ap (λ (m : SystemView). m.looked ++ later.0) looked ∙ append_assoc v.looked (look ∷ []) later.0,
        Contains-append_left (look ∷ []) later.0 look (Contains-push [] look),
      ),
      ended,
    )

-- what was seen between two views was seen between an earlier and a later one
pub seen_more : (u v w x : SystemView) (e : AgentEntry) → Begins v.looked u.looked → Begins x.looked w.looked → IsSeenEnded v w e → IsSeenEnded u x e
seen_more u v w x e before after seen =
    let looks = seen.1 in
    let look : Look = record { pid = e.pid; answer = seen.0 } in (
      seen.0,
      (
        before.0 ++ (looks.0 ++ after.0),
        after.1 ∙ ap (λ ls. ls ++ after.0) (looks.1 ∙ ap (λ ls. ls ++ looks.0) before.1) ∙ append_assoc (u.looked ++ before.0) looks.0 after.0
            ∙ append_assoc u.looked before.0 (looks.0 ++ after.0),
        Contains-append_right before.0 (looks.0 ++ after.0) look (Contains-append_left looks.0 after.0 look looks.2),
      ),
      seen.2,
    )

-- a part of a list is a part of it with one more element, also with that added
pub part_skip : {X : Type 0} (xs ys : List X) (y : X) → IsPart xs ys → IsPart xs (ys ++ y ∷ [])
part_skip xs [] y none = inl none
part_skip xs (z ∷ ys) y (inl later) = inl (part_skip xs ys y later)
part_skip xs (z ∷ ys) y (inr here) = inr (here.0, here.1, part_skip here.0 ys y here.2)

pub part_push : {X : Type 0} (xs ys : List X) (y : X) → IsPart xs ys → IsPart (xs ++ y ∷ []) (ys ++ y ∷ [])
part_push {X} xs [] y none = inr ([], ap (λ (zs : List X). zs ++ y ∷ []) none, refl)
part_push xs (z ∷ ys) y (inl later) = inl (part_push xs ys y later)
part_push {X} xs (z ∷ ys) y (inr here) =
    inr (here.0 ++ y ∷ [], ap (λ (zs : List X). zs ++ y ∷ []) here.1, part_push here.0 ys y here.2)

-- nothing was asked of the system
pub adopts_same : (v : SystemView) → OnlyAdopts v v
adopts_same v =
    record {
      live = refl;
      own = refl;
      spawned = refl;
      asked = refl;
      let_run = refl;
      polled = refl;
      sent = refl;
      found = refl;
      looked = ([], sym (append-nil v.looked));
    }

pub adopts_more : (u v w : SystemView) → OnlyAdopts u v → OnlyAdopts v w → OnlyAdopts u w
adopts_more u v w first second =
    record {
      live = second.live ∙ first.live;
      own = second.own ∙ first.own;
      spawned = second.spawned ∙ first.spawned;
      asked = second.asked ∙ first.asked;
      let_run = second.let_run ∙ first.let_run;
      polled = second.polled ∙ first.polled;
      sent = second.sent ∙ first.sent;
      found = second.found ∙ first.found;
      looked = begins_more u.looked v.looked w.looked first.looked second.looked;
    }

-- no agents are found by no entries
pub none_found : (v m : SystemView) (leave : Bool) (waits : List AgentProcess) (left : List Orphan) → waits ≡ [] → left ≡ []
    → AreFound v m leave [] waits left
none_found v m leave waits left no_waits no_left =
    record {
      living = [];
      part = refl;
      each = All-nil (λ e. Contains [] e ⊎ IsSeenEnded v m e);
      waits = no_waits ∙ elim leave as (λ b. [] ≡ (if b then [] else map process_in [])) [ true ↦ refl | false ↦ refl ];
      left = no_left;
    }

one_among : (found : List AgentEntry) (kepts : List Kept) (i : ℕ) (d : Kept) → i < length kepts
    → Contains (found ++ map (λ (x : Kept). x.entry) kepts) (slice_index_or kepts i d).entry
one_among found kepts i d within =
    let e = (slice_index_or kepts i d).entry in
    Contains-append_right found (map (λ (x : Kept). x.entry) kepts) e
    (i, omega (arith, length-map kepts (λ (x : Kept). x.entry), within), get_or-map (λ (x : Kept). x.entry) kepts i d e within)

-- the entries that were kept are among those that were found
pub among : (found : List AgentEntry) (n : ℕ) (kepts : List Kept)
    → All (λ k. Contains (found ++ map (λ (x : Kept). x.entry) kepts) k.entry) (take n kepts)
among found n kepts =
    All-take (λ k. Contains (found ++ map (λ (x : Kept). x.entry) kepts) k.entry) n kepts (λ i d within. one_among found kepts i d within)

since : (v m w : SystemView) (living : List AgentEntry) (e : AgentEntry) → Begins m.looked v.looked → Contains living e ⊎ IsSeenEnded m w e
    → Contains living e ⊎ IsSeenEnded v w e
since v m w living e before (inl lives) = inl lives
since v m w living e before (inr ended) = inr (seen_more v m w w e before ([], sym (append-nil w.looked)) ended)

-- what was found since the record was opened was found since just before that
pub found_from : (v m w : SystemView) (opened : List AgentEntry) (leave : Bool) (entries : List AgentEntry) (waits : List AgentProcess) (left : List Orphan)
    → m ≡ after_open v (Some opened) → AreFound m w leave entries waits left → AreFound v w leave entries waits left
found_from v m w opened leave entries waits left same found =
    let before : Begins m.looked v.looked = ([], ap (λ (x : SystemView). x.looked) same ∙ sym (append-nil v.looked)) in
    record {
      living = found.living;
      part = found.part;
      each = All-weaker (λ e. Contains found.living e ⊎ IsSeenEnded m w e) (λ e. Contains found.living e ⊎ IsSeenEnded v w e)
          (λ e known. since v m w found.living e before known) entries found.each;
      waits = found.waits;
      left = found.left;
    }

-- one more entry
stays : (v m w : SystemView) (living : List AgentEntry) (e x : AgentEntry) → Begins w.looked m.looked → Contains living x ⊎ IsSeenEnded v m x
    → Contains (living ++ e ∷ []) x ⊎ IsSeenEnded v w x
stays v m w living e x after (inl lives) = inl (Contains-append_left living (e ∷ []) x lives)
stays v m w living e x after (inr ended) = inr (seen_more v v m w x ([], sym (append-nil v.looked)) after ended)

stays_so : (v m w : SystemView) (living : List AgentEntry) (x : AgentEntry) → Begins w.looked m.looked → Contains living x ⊎ IsSeenEnded v m x
    → Contains living x ⊎ IsSeenEnded v w x
stays_so v m w living x after (inl lives) = inl lives
stays_so v m w living x after (inr ended) = inr (seen_more v v m w x ([], sym (append-nil v.looked)) after ended)

waits_more : (leave : Bool) (living : List AgentEntry) (e : AgentEntry) (was now : List AgentProcess)
    → now ≡ (if not leave then was ++ process_in e ∷ [] else was) → was ≡ (if leave then [] else map process_in living)
    → now ≡ (if leave then [] else map process_in (living ++ e ∷ []))
waits_more true living e was now one all = one ∙ all
waits_more false living e was now one all =
    one ∙ ap (λ ps. ps ++ process_in e ∷ []) all ∙ sym (map-append process_in living (e ∷ []))

one_more : (v m w : SystemView) (leave : Bool) (entries : List AgentEntry) (e : AgentEntry) (was now : List AgentProcess) (listed list : List Orphan)
    → Begins m.looked v.looked → Begins w.looked m.looked → AreFound v m leave entries was listed → (lives : Bool)
    → (lives ≡ false → IsSeenEnded m w e) → now ≡ (if lives && not leave then was ++ process_in e ∷ [] else was)
    → list ≡ (if lives then listed ++ left_of e ∷ [] else listed) → AreFound v w leave (entries ++ e ∷ []) now list
one_more v m w leave entries e was now listed list before after found true ended waits left =
    record {
      living = found.living ++ e ∷ [];
      part = part_push found.living entries e found.part;
      each = All-push (λ x. Contains (found.living ++ e ∷ []) x ⊎ IsSeenEnded v w x) entries e
          (All-weaker (λ x. Contains found.living x ⊎ IsSeenEnded v m x) (λ x. Contains (found.living ++ e ∷ []) x ⊎ IsSeenEnded v w x)
          (λ x known. stays v m w found.living e x after known) entries found.each)
          (inl (Contains-push found.living e));
      waits = waits_more leave found.living e was now waits found.waits;
      left = left ∙ ap (λ ls. ls ++ left_of e ∷ []) found.left ∙ sym (map-append left_of found.living (e ∷ []));
    }
one_more v m w leave entries e was now listed list before after found false ended waits left =
    record {
      living = found.living;
      part = part_skip found.living entries e found.part;
      each = All-push (λ x. Contains found.living x ⊎ IsSeenEnded v w x) entries e
          (All-weaker (λ x. Contains found.living x ⊎ IsSeenEnded v m x) (λ x. Contains found.living x ⊎ IsSeenEnded v w x)
          (λ x known. stays_so v m w found.living x after known) entries found.each)
          (inr (seen_more v m w w e before ([], sym (append-nil w.looked)) (ended refl)));
      waits = waits ∙ found.waits;
      left = left ∙ found.left;
    }

pub found_more : (v m w : SystemView) (leave : Bool) (entries : List AgentEntry) (e : AgentEntry) (was now : List AgentProcess) (listed list : List Orphan)
    → Begins m.looked v.looked → Begins w.looked m.looked → AreFound v m leave entries was listed → IsFound m w leave e was now listed list
    → AreFound v w leave (entries ++ e ∷ []) now list
found_more v m w leave entries e was now listed list before after found one =
    one_more v m w leave entries e was now listed list before after found one.lives one.ended one.waits one.left
