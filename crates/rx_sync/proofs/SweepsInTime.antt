-- A sweep with budget enough ends quiet, or where no write time is left.
use Rattle.std.proofs.Common.{◌≡◌, ◌∙◌, ◌⊎◌, inl, inr, ℕ, zero, suc, ◌+◌, ◌*◌, ◌≤◌, true, false, List, [], ◌∷◌, length, Option, Some, None, refl, sym, ap, subst, arith}
use Rattle.std.proofs.lemmas.Bool.{false≢true}
use Rattle.std.proofs.lemmas.Slice.Eq.{bytes_eq-Decides}
use Rattle.std.specs.List.{AllByRecursion}
use Rattle.std.specs.Str.{bytes_eq}
use Rattle.rx_value.specs.Due.{◌>>=◌}
use Rattle.rx_value.specs.Named.{named}
use Rattle.rx_value.proofs.Outcomes.{some_same, some_then}
use Rattle.rx_collection.specs.Held.{Held}
use Rattle.rx_replication.specs.Exchange.{Link}
use Rattle.rx_replication.specs.Taking.{Resolve}
use Rattle.rx_reply.specs.declared.swept.Pass.{Pass}
use Rattle.rx_reply.specs.declared.swept.Pass.TheVariants.{Up, Down}
use Rattle.rx_reply.specs.declared.turn.Exchanged.{Exchanged}
use Rattle.rx_reply.specs.declared.turn.TurnEnd.{TurnEnd}
use Rattle.rx_reply.specs.declared.turn.TurnEnd.TheVariants.{Quiet, Lost, Clock, More}
use Rattle.rx_script.specs.declared.happening.Happening.TheVariants as link
use Rattle.rx_tree.specs.Forest.{climbed, master_of}
use Rattle.rx_world.specs.Chain.{forest_of}
use Rattle.rx_world.specs.World.{World}
use Rattle.rx_sync.specs.Asks.{Asks, asks_of}
use Rattle.rx_sync.specs.Bound.{enough}
use Rattle.rx_sync.specs.Exchange.{Course, Terms, course, world_after}
use Rattle.rx_tree.specs.Orders.{levels_down, levels_up}
use Rattle.rx_sync.specs.Sweep.{HoldsOnly, MaySweep, Sweep, SweepEndsInTime, forks_in, sweep, sweep_from, swept_on}
use Rattle.rx_sync.specs.declared.sweeping.Step.{Step}
use Rattle.rx_sync.specs.Turn.{Turned, end_by, going_on, turn}
use Rattle.rx_sync.proofs.Bound.{turn_in_time}
use Rattle.rx_sync.proofs.Ends.{ends_of}
use Rattle.rx_sync.proofs.Forks.{are_forks}
use Rattle.rx_sync.proofs.KeysWithin.{HoldsWithin, IsWithinKeys, exchange_within_keys, few_enough}
use Rattle.rx_sync.proofs.Staying.{ready_after}
use Rattle.rx_sync.proofs.Steps.{CourseSteps, Stands, at_once, course_steps, is_link, keeps_key, link_here, link_is, stands_here}
use Rattle.rx_sync.proofs.Sweeps.{InTree, IsGood, IsReadyFor, Standing, both_ways, called, come, good_first, may_turn, on, one_ready, one_writes, step_of, stepped, steps_both, terms_of, turned}
use Rattle.rx_tree.proofs.Walks.{all_both, all_so, down_below, up_below}
use Rattle.rx_sync.proofs.Worlds.{after-append}

-- ---- a turn

module _ (keys : List (List ℕ)) (t : Terms) (batch : ℕ) (some : 1 ≤ batch) (by : Resolve) where
  -- a link that holds no other keys stands after it
  abbrev StandsWithin : World → Type 0
  StandsWithin w = (m : Link) × Stands t.name t.kinds by w m × IsWithinKeys keys m

  turn_within_keys : (budget : ℕ) (w : World) (l : Link) (a : Asks) → Stands t.name t.kinds by w l
      → IsWithinKeys keys l → (turn t batch budget [] w a).ended ≡ Quiet
      → StandsWithin (world_after (turn t batch budget [] w a).records w)
  turn_within_keys zero w l a s within is = absurd (cc)
  turn_within_keys (suc budget) w l a s within is =
      let c : Course = course t batch link.Ok w a in
      let rest = turn t batch budget [] (world_after c.records w) c.asks in
      let next : (e : Exchanged) (steps : CourseSteps t batch by w l c e)
      → IsWithinKeys keys steps.next =
      λ e steps. exchange_within_keys keys by (keeps_key w t.name t.kinds by l s) l
      (is_link w t.name t.kinds by l s) (at_once batch t.now) steps.next within steps.step in
      let ends : (e : Exchanged) → CourseSteps t batch by w l c e → (o : Option TurnEnd)
      → (going_on c o rest).ended ≡ Quiet
      → StandsWithin (world_after (going_on c o rest).records w) =
      λ e steps o. elim o as (λ o. (going_on c o rest).ended ≡ Quiet
      → StandsWithin (world_after (going_on c o rest).records w)) [
        | None ↦ (λ quiet. subst StandsWithin (sym (after-append c.records rest.records w))
            (turn_within_keys budget (world_after c.records w) steps.next c.asks steps.stands
            (next e steps) quiet))
        | Some end ↦ (λ quiet. subst StandsWithin (sym (after-append c.records [] w))
            (steps.next, steps.stands, next e steps))
      ] in
      (elim c.came as (λ o. c.came ≡ o → (going_on c (end_by batch o) rest).ended ≡ Quiet
      → StandsWithin (world_after (going_on c (end_by batch o) rest).records w)) [
        | None ↦ (λ at quiet. absurd (cc))
        | Some e ↦ (λ at quiet. ends e (course_steps t batch some by w l a s link.Ok refl e at)
            (end_by batch (Some e)) quiet)
      ]) refl is

-- ---- a sweep

lost_isnt : Lost ≡ Quiet → ⊥
lost_isnt is = absurd (cc)

lost_isnt_clock : Lost ≡ Clock → ⊥
lost_isnt_clock is = absurd (cc)

more_isnt : More ≡ Quiet → ⊥
more_isnt is = absurd (cc)

more_isnt_clock : More ≡ Clock → ⊥
more_isnt_clock is = absurd (cc)

module _ (s : Sweep) (root : List ℕ) (w : World) (asks : List (List ℕ × Asks))
    (may_sweep : MaySweep s root w asks) (keys : List (List ℕ))
    (much : 3 * length keys + 1 ≤ s.budget) where
  -- the tree's collections hold no other keys
  abbrev HoldsIn : Standing → Type 0
  HoldsIn at =
      (c : List ℕ) → InTree s root w asks may_sweep c → (x : Held)
      → named at.0.collections c ≡ Some x → HoldsWithin keys x.documents

  module _ (c n : List ℕ) (follows : master_of bytes_eq (forest_of w.replications) c ≡ Some n)
      (inside : InTree s root w asks may_sweep n) (at : Standing)
      (good : IsGood s root w asks may_sweep at) (holds : HoldsIn at) where
    abbrev here : IsReadyFor s may_sweep.batch w c n at
    here = good c n follows inside

    abbrev l : Link
    l = link_here at.0 (called s may_sweep.batch w c) s.kinds here.ready

    in_tree : InTree s root w asks may_sweep c
    in_tree = (
      suc inside.0,
      ap (λ o. o >>= climbed bytes_eq inside.0 (forest_of w.replications)) follows
          ∙ inside.1,
    )

    link_within : IsWithinKeys keys l
    link_within =
        let e = ends_of at.0 (called s may_sweep.batch w c) s.kinds here.ready in
        record {
          fork = holds c in_tree e.fork
              (ap (named at.0.collections) (sym here.fork) ∙ e.held);
          master = holds n inside e.master
              (ap (named at.0.collections) (sym here.master) ∙ e.there);
        }

    abbrev t : Turned
    t = turned s may_sweep.batch w c at

    ends_in_time : (t.ended ≡ Quiet) ⊎ (t.ended ≡ Clock)
    ends_in_time =
        let may = may_turn s may_sweep.batch w c n at here in
        let name = called s may_sweep.batch w c in
        let p = turn_in_time (terms_of s may_sweep.batch w c) s.batch s.budget [] at.0
        (asks_of name at.1) may_sweep.batch may tt in
        let standing = stands_here at.0 name s.kinds here.ready in
        let same : l ≡ p.0 = some_same (sym (link_is at.0 name s.kinds here.ready) ∙ p.1) in
        let few = few_enough keys l (is_link at.0 name s.kinds _ l standing) link_within in
        p.2 (subst (λ (k : Link). enough k ≤ s.budget) same (omega (arith, few, much)))

    holds_then : t.ended ≡ Quiet → HoldsIn (step_of s may_sweep.batch w c at)
    holds_then quiet =
        let name = called s may_sweep.batch w c in
        let standing = stands_here at.0 name s.kinds here.ready in
        let m = turn_within_keys keys
        (terms_of s may_sweep.batch w c) s.batch may_sweep.batch _ s.budget
        at.0 l (asks_of name at.1) standing link_within quiet in
        let then = world_after t.records at.0 in
        let again = ready_after t.records at.0 name s.kinds here.ready
        (come s may_sweep.batch w c n at here) in
        let e = ends_of then name s.kinds again in
        let same : link_here then name s.kinds again ≡ m.0 =
        some_same (sym (link_is then name s.kinds again) ∙ m.1.is) in
        let ready = one_ready s may_sweep.batch w c n at here c n here in
        let r = ends_of then name s.kinds ready.ready in
        let link_then : link_here then name s.kinds ready.ready ≡ m.0 =
        some_same (sym (link_is then name s.kinds ready.ready) ∙ m.1.is) in
        λ y in_y x at_y.
        elim (bytes_eq y c) as (λ b. bytes_eq y c ≡ b → HoldsWithin keys x.documents) [
          | true ↦ (λ is_c.
              let x_is : x ≡ r.fork = some_same (sym at_y
              ∙ ap (named then.collections) ((bytes_eq-Decides y c).0 is_c ∙ sym ready.fork)
              ∙ r.held) in
              subst (λ (z : Held). HoldsWithin keys z.documents) (sym x_is)
              (subst (IsWithinKeys keys) (sym link_then) m.2).fork)
          | false ↦ (λ not_c. elim (bytes_eq y n) as (λ b. bytes_eq y n ≡ b
              → HoldsWithin keys x.documents) [
                | true ↦ (λ is_n.
                    let x_is : x ≡ r.master = some_same (sym at_y
                    ∙ ap (named then.collections) ((bytes_eq-Decides y n).0 is_n ∙ sym ready.master)
                    ∙ r.there) in
                    subst (λ (z : Held). HoldsWithin keys z.documents) (sym x_is)
                    (subst (IsWithinKeys keys) (sym link_then) m.2).master)
                | false ↦ (λ not_n. holds y in_y x
                    (sym (one_writes s may_sweep.batch w c n at here y
                    (λ same. false≢true (sym not_c ∙ (bytes_eq-Decides y c).1 same))
                    (λ same. false≢true (sym not_n ∙ (bytes_eq-Decides y n).1 same))) ∙ at_y))
              ] refl)
        ] refl

    good_then : IsGood s root w asks may_sweep (step_of s may_sweep.batch w c at)
    good_then d k d_follows k_inside =
        one_ready s may_sweep.batch w c n at here d k (good d k d_follows k_inside)

  -- a fork of the tree
  abbrev IsForkIn : List ℕ → Type 0
  IsForkIn c =
      (n : List ℕ) × (master_of bytes_eq (forest_of w.replications) c ≡ Some n)
      × InTree s root w asks may_sweep n

  in_time : (ps : List (Pass × List ℕ)) → AllByRecursion (λ p. IsForkIn p.1) ps → (at : Standing)
      → IsGood s root w asks may_sweep at → HoldsIn at
      → ((sweep s (stepped s may_sweep.batch w ps) at.0 at.1).ended ≡ Quiet)
      ⊎ ((sweep s (stepped s may_sweep.batch w ps) at.0 at.1).ended ≡ Clock)
  in_time [] forks at good holds = inl refl
  in_time (p ∷ ps) forks at good holds =
      let f = forks.0 in
      let t = turned s may_sweep.batch w p.1 at in
      let then = step_of s may_sweep.batch w p.1 at in
      let rest = sweep s (stepped s may_sweep.batch w ps) then.0 then.1 in
      let ends = ends_in_time p.1 f.0 f.1 f.2 at good holds in
      (elim t.ended as (λ e. t.ended ≡ e → (e ≡ Quiet) ⊎ (e ≡ Clock)
      → ((swept_on e then.1 rest).ended ≡ Quiet) ⊎ ((swept_on e then.1 rest).ended ≡ Clock)) [
        | Quiet ↦ (λ is either. in_time ps forks.1 then (good_then p.1 f.0 f.1 f.2 at good holds)
            (holds_then p.1 f.0 f.1 f.2 at good holds is))
        | Lost ↦
            (λ is either. absurd (elim either [ inl x ↦ lost_isnt x | inr x ↦ lost_isnt_clock x ]))
        | Clock ↦ (λ is either. inr refl)
        | More ↦
            (λ is either. absurd (elim either [ inl x ↦ more_isnt x | inr x ↦ more_isnt_clock x ]))
      ]) refl ends

  fork_below : (x : List ℕ) (j : ℕ)
      → climbed bytes_eq (suc j) (forest_of w.replications) x ≡ Some root → IsForkIn x
  fork_below x j way =
      let found = some_then (master_of bytes_eq (forest_of w.replications) x)
      (climbed bytes_eq j (forest_of w.replications)) root way in
      (found.0, found.1, (j, found.2))

  all_on : (pass : Pass) (cs : List (List ℕ)) → AllByRecursion IsForkIn cs
      → AllByRecursion (λ (p : Pass × List ℕ). IsForkIn p.1) (on pass cs)
  unfolding on
  all_on pass [] all = tt
  all_on pass (c ∷ cs) all = (all.0, all_on pass cs all.1)

  pub sweep_in_time : HoldsOnly w root keys
      → ((sweep_from s root w asks).ended ≡ Quiet) ⊎ ((sweep_from s root w asks).ended ≡ Clock)
  unfolding both_ways
  sweep_in_time holds =
      let es = forest_of w.replications in
      let forks = are_forks w may_sweep.made in
      let levels = length w.replications in
      let up = levels_up (forks_in w) levels root in
      let down = levels_down (forks_in w) levels root in
      subst (λ (xs : List Step).
      ((sweep s xs w asks).ended ≡ Quiet) ⊎ ((sweep s xs w asks).ended ≡ Clock))
      (steps_both s may_sweep.batch w up down)
      (in_time (both_ways up down)
      (all_both (λ (p : Pass × List ℕ). IsForkIn p.1) (on Up up) (on Down down)
      (all_on Up up (all_so (λ x. (j : ℕ) × (climbed bytes_eq (suc j) es x ≡ Some root)) IsForkIn
      (λ x b. fork_below x b.0 b.1) up
      (up_below bytes_eq bytes_eq-Decides es (forks_in w) forks levels root)))
      (all_on Down down
      (all_so (λ x. (j : ℕ) × (climbed bytes_eq (suc j) es x ≡ Some root)) IsForkIn
      (λ x b. fork_below x b.0 b.1) down
      (down_below bytes_eq bytes_eq-Decides es (forks_in w) forks levels root))))
      (w, asks) (good_first s root w asks may_sweep) (λ c in_c x at. holds c in_c x at))

pub sweep_ends_in_time : SweepEndsInTime
sweep_ends_in_time s root w asks may keys holds much =
    sweep_in_time s root w asks may keys much holds
