-- The body does nothing. The borrow of the record is opened, and closed at the record that holds these bytes too.
use Rattle.file_disk.proofs.Walking.{List, Val, [], ◌∷◌, ◌++◌, refl, proved, id⊢, ftrue, flft, named, vunit, ‵, ◌⊛◌, ◌$◌, ◌∵◌, !, qed, done, move}
use Rattle.file_disk.proofs.Walking.{keep, use1, split, join, fsplit3, feq_i, suffices, frame, group, enter, of_opd, unit_lit, returns}
use Rattle.file_disk.proofs.Walking.{alloc_all, pass_all, free_all, look_at, sets, u8, yes, owns, MutRef, ShrRef, mut_vals, mut_Tells}
use Rattle.file_disk.proofs.Walking.{shr_vals, shr_Tells, plain, ShrSlice, shr_slice_vals, shr_slice_Tells, opens, closes, Stays, walk_of}
use Rattle.file_disk.proofs.Walking.{says, stay_ref, stay_none_ref, stay_none_slice, Goes-ref, Goes-none_ref, Goes-none_slice, ends_at}
use Rattle.file_disk.specs.contracts.record.Record.{the_row as R}
use Rattle.ocf_types.specs.contracts.part.Part.{the_row as P}
use Rattle.disk_model.specs.Image.{bytes_of}
use Rattle.disk_model.specs.Parts.{put}
use Rattle.file_disk.specs.contracts.record.Record.find as f
use Rattle.file_disk.proofs.record.Record.find.Statement.{statement}
use Rattle.file_disk.proofs.record.Record.find.Code as code

-- at the return all three are still there
abbrev stayed : Stays f.ended.signature.params f.ended.kept
stayed = (
  stay_ref (0 ∷ []) tt (plain (λ _. R)),
  (stay_none_ref (1 ∷ []) tt (plain (λ _. P)) yes, (stay_none_slice (2 ∷ []) tt (plain (λ _. u8)) yes, tt)),
)

pub find_spec : {M : Type 1} → statement M
find_spec 𝓤 𝓛 𝓜 𝓡 wired =
    let c = f.clauses 𝓛 𝓜.mem 𝓡.returns in let W = walk_of 𝓛 f.ended stayed c in
    proved 𝓛 f.ended stayed c 𝓜 𝓡 (
      Goes-ref 𝓛 3 0 tt (plain (λ _. R)),
      (Goes-none_ref 𝓛 3 (1 ∷ []) tt (plain (λ _. P)) yes, (Goes-none_slice 𝓛 3 (2 ∷ []) tt (plain (λ _. u8)) yes, tt)),
    )
    f.Key.name code.function (code.unfolded 𝓤 𝓛.H 𝓜 𝓡 wired)
    (λ κs. (mut_vals, (shr_vals, (shr_slice_vals, tt))))
    (λ κs. (mut_Tells (named 0) κs.0 R, (shr_Tells (named 1) κs.1.0 P, (shr_slice_Tells (named 2) κs.1.1.0 u8, tt))))
    (λ κs qs bounds a _ are.
    let b = a.0.ref_ptr.0 in let o = a.0.ref_ptr.1 in let h = a.0.now in
    let longer = record h { first = put a.1.0.now (bytes_of a.1.0.now h.first ++ a.1.1.0.now) h.first } in
    let vs : List Val × (List Val × (List Val × Unit {0})) = (mut_vals a.0, (shr_vals a.1.0, (shr_slice_vals a.1.1.0, tt))) in
    let y : W.Ghost = ((κs, qs, bounds, a, vs), tt) in
    qed 𝓛 (((‵ (flft κs.0 qs.0) ⊛ (‵ (flft κs.1.0 qs.1.0) ⊛ (‵ (flft κs.1.1.0 qs.1.1.0) ⊛ ‵ ftrue))) ⊛
    (‵ ((MutRef (named 0) κs.0 R).own_val a.0 vs.0) ⊛ ‵
    (owns (ShrRef (named 1) κs.1.0 P ∷ ShrSlice (named 2) κs.1.1.0 u8 ∷ []) a.1 vs.1))) ∷ ‵ ftrue ∷ []) ∵
    split ! $ split ! $ move ! (2 ∷ []) $ split ! $ keep ! (0 ∷ 1 ∷ 2 ∷ 3 ∷ []) $
    -- [the record's borrow; the call and the bytes; its token; the other tokens]
    enter ! _ _ _ _ _ $ alloc_all !
    (λ l. pass_all ! refl ((tt, tt), ((tt, tt), ((tt, (tt, (record { fits = are.1.1.0.0.1.0 }, tt))), tt))) $
    fsplit3 ! $ move ! (1 ∷ 2 ∷ 4 ∷ []) $ opens ! tt R b o (λ us.
    move ! (1 ∷ []) $ use1 𝓛 (‵ (R.own_val longer us)) (id⊢ 𝓤 _) $ move ! (1 ∷ 0 ∷ []) $ closes ! tt R longer us b o $
    sets ! (of_opd ! (unit_lit !)) refl (tt, tt) $
    returns ! (look_at ! 0 refl) $ free_all ! refl $
    -- [two parts of the borrow; its token; its first part; the call and the bytes; the other tokens]
    suffices ! _ (ends_at 𝓛 f.ended stayed c y vunit tt (longer, (tt, (tt, tt))) (tt, (tt, (tt, tt)))) $ says ! (refl, refl) $
    move ! (3 ∷ []) $ group ! 3 $ move ! (0 ∷ 2 ∷ []) $ join ! $ move ! (1 ∷ 2 ∷ []) $ join ! $ frame ! $ frame ! $
    feq_i ! _ (vunit ∷ []) _ refl $ done !)))
