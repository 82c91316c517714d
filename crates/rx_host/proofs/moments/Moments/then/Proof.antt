-- `then` picks the list that its clause names. Nothing but the clause ties it.
use Rattle.std.proofs.Common.{[], ◌∷◌, ◌++◌, refl, w64}
use Rattle.std.proofs.raw_atomic.Walks.{proved}
use mir.Syntax.{named}
use mir.Val.{Val, vptr, vstruct, vnil}
use types.Kit.{‵, raw, ◌⊛◌, ◌$◌, ◌∵◌, !, qed, move, keep, split, fjoin, suffices, done}
use types.Part.{agg}
use types.Run.{enter, no_more, returns}
use types.ByLocal.{alloc_all, pass_all, free_all, look_at, sets}
use denote.Builtin.{u64}
use denote.Exit.{yes}
use denote.Plain.{uint_vals, uint_Tells}
use denote.Ref.{shr_vals, shr_Tells}
use denote.Shadow.{pure_i}
use denote.RattleType.{owns}
use denote.Builtin.{RefOf}
use denote.Signature.{plain, types_at}
use denote.Steps.{nothing}
use denote.Triple.Entry.{alive}
use denote.Triple.Walked.{Stays, walk_of, says, stay_dropped, Goes-dropped, ends_at}
use Rattle.rx_host.specs.contracts.moments.Moments as Moments
use Rattle.rx_host.specs.contracts.moments.Moments.then as f
use Rattle.rx_host.proofs.moments.Moments.then.Statement.{statement}
use Rattle.rx_host.proofs.moments.Moments.then.Code as code

abbrev stayed : Stays f.ended.signature.params f.ended.kept
stayed = (stay_dropped _ yes, (stay_dropped _ yes, tt))

pub then_spec : {M : Type 1} → statement M
then_spec 𝓤 𝓛 𝓜 𝓡 wired =
    let c = f.clauses 𝓛 𝓜.mem 𝓡.returns in
    let W = walk_of 𝓛 f.ended stayed c in
    proved 𝓛 f.ended stayed c 𝓜 𝓡 (
      Goes-dropped 𝓛 1 (RefOf (0 ∷ []) tt (plain (λ _. Moments.the_row)) (λ _. tt)) yes
          (λ κs x w. refl),
      (Goes-dropped 𝓛 1 (plain (λ _. u64)) yes (λ κs x w. refl), tt),
    )
    f.Key.name code.function (code.unfolded 𝓤 𝓛.H 𝓜 𝓡 wired)
    (λ κs. (shr_vals, (uint_vals w64, tt)))
    (λ κs. (shr_Tells (named 0) κs.0 Moments.the_row, (uint_Tells w64, tt)))
    (λ κs qs bounds a n are.
    let before : Val = vptr a.0.ref_ptr.0 a.0.ref_ptr.1 in
    let more : (Moments.the_row).Denot = record { items = a.0.now.items ++ a.1.0 ∷ [] } in
    let y : W.Ghost = ((κs, qs, bounds, a, (before ∷ [], (uint_vals w64 a.1.0, tt))), n) in
    qed 𝓛 ((raw (alive 𝓛 f.signature κs qs)
    ⊛ ‵ (owns (types_at f.signature.params κs) a y.0.4)) ∷ raw ((c κs a).requires n) ∷ []) ∵
    keep ! (0 ∷ []) $ split ! $ keep ! (0 ∷ []) $ enter ! _ _ _ _ _ $
    alloc_all ! (λ l. pass_all ! refl ((tt, tt), ((tt, record { fits = are.1.0.1 }), tt)) $
    sets ! (agg ! (no_more !)) refl (tt, tt) $
    returns ! (look_at ! 0 refl) $ free_all ! refl $
    suffices ! _ (ends_at 𝓛 f.ended stayed c y (vstruct vnil) more (tt, (tt, tt)) (tt, (tt, tt))) $
    says ! refl $
    pure_i ! (Moments.the_row.own_val more (vstruct vnil ∷ [])) ((λ vss. (tt, tt)), tt)
    ((tt, (refl, tt)), tt) $
    nothing ! $ nothing ! $ fjoin ! $ nothing ! $ fjoin ! $ move ! (2 ∷ 0 ∷ 1 ∷ []) $ done !))
