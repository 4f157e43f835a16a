-- `new` makes a value of no bytes, at the empty list, which no memory holds. Assumes `Logic`.
use Rattle.std.proofs.Common.{[], ◌∷◌, refl}
use Rattle.std.proofs.raw_atomic.Walks.{proved}
use mir.Syntax.{Args, Fn, a_type}
use mir.Val.{Val, vstruct, vcons, vnil}
use mir.MapTy.{inst_fn}
use contract.Running.{tables}
use types.Kit.{‵, raw, ◌⊛◌, ◌$◌, ◌∵◌, !, qed, move, keep, split, suffices, done}
use types.Part.{agg}
use types.Run.{enter, returns, and_then, no_more}
use types.ByLocal.{alloc_all, pass_all, free_all, look_at, get, sets}
use denote.RattleType.{RattleType, owns}
use denote.Param.{param, layouts}
use denote.Shadow.{pure_i}
use denote.Signature.{types_at}
use denote.Steps.{nothing}
use denote.Triple.Clauses.{Ended}
use denote.Triple.Entry.{alive}
use denote.Triple.Walked.{Stays, walk_of, says, ends_at}
use Rattle.journal_model.specs.contracts.history.History as Of
use Rattle.journal_model.specs.contracts.history.History.new as f
use Rattle.journal_model.specs.contracts.history.History.new.Key.{name as #self}
use Rattle.journal_model.proofs.history.History.new.Statement.{statement}
use Rattle.journal_model.proofs.history.History.new.Code as code

-- the machine's value: a struct of its marker, which is a struct of nothing
abbrev value : Val
value = vstruct (vcons (vstruct vnil) vnil)

pub new_spec : {M : Type 1} → statement M
new_spec 𝓤 𝓛 𝓜 𝓡 wired T _ =
    let row : RattleType = Of.the_row (param 0 T) in let ended : Ended = f.ended T in let args : Args = layouts (a_type ∷ []) (T, tt) in
    let function : Fn = inst_fn args code.function in let stayed : Stays ended.signature.params ended.kept = tt in
    let c = f.clauses T 𝓛 𝓜.mem 𝓡.returns in let W = walk_of 𝓛 ended stayed c in let 𝓣 = tables 𝓤 𝓛.H 𝓜 𝓡 𝓡.env in
    proved 𝓛 ended stayed c 𝓜 𝓡 tt (#self args) function (code.unfolded 𝓤 𝓛.H 𝓜 𝓡 wired (T, tt))
    (λ κs. tt) (λ κs. tt) (λ κs qs bounds a g are.
    let empty : row.Denot = record { marker = record {}; items = [] } in
    let y : W.Ghost = ((κs, qs, bounds, a, tt), g) in
    qed 𝓛 ((raw (alive 𝓛 ended.signature κs qs) ⊛ ‵ (owns (types_at ended.signature.params κs) a tt)) ∷ raw ((c κs a).requires g) ∷ []) ∵
    keep ! (0 ∷ []) $ split ! $ keep ! (0 ∷ []) $
    enter ! 𝓣.C 𝓣.Λ function [] (W.post y) $ alloc_all ! (λ l. pass_all ! refl tt $
    sets ! (agg ! (no_more !)) refl (tt, tt) $ sets ! (agg ! (and_then ! (get ! refl) (no_more !))) refl (tt, (tt, tt)) $
    returns ! (look_at ! 0 refl) $ free_all ! refl $
    pure_i ! (row.own_val empty (value ∷ [])) ((λ vss. (tt, ((λ uss. (tt, tt)), tt))), tt) (((vstruct vnil ∷ [], tt), (refl, ((tt, (refl, tt)), tt))), tt) $
    suffices ! _ (ends_at 𝓛 ended stayed c y value empty tt tt) $ says ! refl $
    nothing ! $ move ! (2 ∷ 0 ∷ 1 ∷ []) $ done !))
