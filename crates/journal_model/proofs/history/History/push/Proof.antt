-- `push` does nothing: the borrow is closed at the longer list, which no memory holds. Assumes `Logic`.
use Rattle.std.proofs.Common.{List, [], ◌∷◌, ◌++◌, refl}
use Rattle.std.proofs.raw_atomic.Walks.{proved}
use mir.Syntax.{Args, Fn, a_type, named}
use mir.Val.{Val, vunit}
use mir.MapTy.{inst_fn}
use base.Logic.{id⊢}
use base.Fml.{ftrue, flft}
use contract.Running.{tables}
use types.Kit.{‵, raw, ◌⊛◌, ◌$◌, ◌∵◌, !, qed, move, keep, use1, split, join, fsplit, fsplit3, fjoin, fjoin3, feq_i, suffices, frame, done}
use types.Run.{enter, of_opd, unit_lit, returns}
use types.ByLocal.{alloc_all, pass_all, free_all, look_at, sets}
use denote.Builtin.{RefOf}
use denote.Exit.{yes}
use denote.RattleType.{RattleType, owns}
use denote.Param.{param, layouts}
use denote.Ref.{mut_vals, mut_Tells, shr_vals, shr_Tells}
use denote.Signature.{plain, types_at}
use denote.Steps.{nothing, opens, closes}
use denote.Triple.Clauses.{Ended}
use denote.Triple.Walked.{Stays, walk_of, says, stay_dropped, stay_ref, Goes-dropped, Goes-ref, ends_at}
use Rattle.journal_model.specs.contracts.history.History as Of
use Rattle.journal_model.specs.contracts.history.History.push as f
use Rattle.journal_model.specs.contracts.history.History.push.Key.{name as #self}
use Rattle.journal_model.proofs.history.History.push.Statement.{statement}
use Rattle.journal_model.proofs.history.History.push.Code as code

pub push_spec : {M : Type 1} → statement M
push_spec 𝓤 𝓛 𝓜 𝓡 wired T _ =
    let item : RattleType = param 0 T in let row : RattleType = Of.the_row item in let ended : Ended = f.ended T in let args : Args = layouts (a_type ∷ []) (T, tt) in
    let function : Fn = inst_fn args code.function in
    let stayed : Stays ended.signature.params ended.kept = (stay_ref (0 ∷ []) tt (plain (λ _. row)), (stay_dropped (RefOf (1 ∷ []) tt (plain (λ _. item)) (λ _. tt)) yes, tt)) in
    let c = f.clauses T 𝓛 𝓜.mem 𝓡.returns in let W = walk_of 𝓛 ended stayed c in let 𝓣 = tables 𝓤 𝓛.H 𝓜 𝓡 𝓡.env in
    proved 𝓛 ended stayed c 𝓜 𝓡 (Goes-ref 𝓛 3 0 tt (plain (λ _. row)), (Goes-dropped 𝓛 3 (RefOf (1 ∷ []) tt (plain (λ _. item)) (λ _. tt)) yes (λ κs x f. refl), tt))
    (#self args) function (code.unfolded 𝓤 𝓛.H 𝓜 𝓡 wired (T, tt))
    (λ κs. (mut_vals, (shr_vals, tt))) (λ κs. (mut_Tells (named 0) κs.0 row, (shr_Tells (named 1) κs.1.0 item, tt))) (λ κs qs bounds a g are.
    let b = a.0.ref_ptr.0 in let o = a.0.ref_ptr.1 in let here = mut_vals a.0 in let there = shr_vals a.1.0 in
    let longer : row.Denot = record { marker = record {}; items = a.0.now.items ++ a.1.0.now ∷ [] } in
    let y : W.Ghost = ((κs, qs, bounds, a, (here, (there, tt))), g) in
    qed 𝓛 (((‵ (flft κs.0 qs.0) ⊛ (‵ (flft κs.1.0 qs.1.0) ⊛ (‵ (flft κs.1.1.0 qs.1.1.0) ⊛ ‵ ftrue))) ⊛ ‵ (owns (types_at ended.signature.params κs) a y.0.4)) ∷ raw ((c κs a).requires g) ∷ []) ∵
    keep ! (0 ∷ []) $ split ! $ split ! $ move ! (2 ∷ []) $ fsplit ! $ fsplit3 ! $ keep ! (1 ∷ 2 ∷ 4 ∷ 5 ∷ []) $
    -- [self, in two parts; its token; the other tokens]
    enter ! 𝓣.C 𝓣.Λ function (here ++ there) (W.post y) $ alloc_all ! (λ l. pass_all ! refl ((tt, tt), ((tt, tt), tt)) $
    opens ! tt row b o (λ us. sets ! (of_opd ! (unit_lit !)) refl (tt, tt) $
    move ! (1 ∷ []) $ use1 𝓛 (‵ (row.own_val longer us)) (id⊢ 𝓤 _) $ move ! (1 ∷ 0 ∷ []) $ closes ! tt row longer us b o $
    returns ! (look_at ! 0 refl) $ free_all ! refl $
    suffices ! _ (ends_at 𝓛 ended stayed c y vunit tt (longer, (tt, tt)) (tt, (tt, tt))) $ says ! refl $
    move ! (2 ∷ 3 ∷ []) $ join ! $ frame ! $ feq_i ! (List Val) here here refl $ fjoin3 ! $ nothing ! $ nothing ! $ fjoin ! $ move ! (1 ∷ 0 ∷ []) $ fjoin ! $
    feq_i ! (List Val) (vunit ∷ []) (vunit ∷ []) refl $ move ! (1 ∷ 0 ∷ []) $ done !)))
