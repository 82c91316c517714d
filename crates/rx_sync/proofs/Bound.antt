-- How many exchanges are enough, where the link does nothing to them.
use Rattle.std.proofs.Common.{◌≡◌, ◌≢◌, ◌∙◌, ℕ, zero, suc, ◌+◌, ◌*◌, ◌≤◌, ◌<◌, Bool, true, false, cond, nat_lt, List, [], ◌∷◌, map, take, filter, length, Option, Some, None, refl, sym, ap, subst, inl, inr, arith, lt-ltb}
use Rattle.std.proofs.lemmas.List.{length-map}
use Rattle.std.specs.List.{AllByRecursion}
use Rattle.std.specs.Prelude.{◌⊎◌}
use Rattle.std.specs.Str.{bytes_eq}
use Rattle.rx_value.specs.declared.state.State.{State}
use Rattle.rx_value.proofs.Outcomes.{some_same, not_none}
use Rattle.rx_document.specs.declared.place.Place.{Place}
use Rattle.rx_document.specs.declared.stored.Stored.{Stored}
use Rattle.rx_collection.specs.Since.{since}
use Rattle.rx_handler.specs.Handlers.{Kinds}
use Rattle.rx_wire.specs.declared.message.AskKind.{AskKind}
use Rattle.rx_wire.specs.declared.message.AskKind.TheVariants.{Push, Pull}
use Rattle.rx_wire.specs.declared.message.Body.{Body}
use Rattle.rx_wire.specs.declared.message.Body.TheVariants.{Conflicts, Docs}
use Rattle.rx_replication.specs.Exchange.{Link, Exchange, IsLink, IsQuiet, GoOn, HaveBatches, asked, exchange_over_link, pushed, pushes_of}
use Rattle.rx_replication.specs.Known.{KnownStates, pending}
use Rattle.rx_replication.specs.Left.{key_count}
use Rattle.rx_replication.specs.Master.{body_of}
use Rattle.rx_replication.specs.Request.{push_or_pull, push_row}
use Rattle.rx_replication.specs.Taking.{KeepsKey, Resolve}
use Rattle.rx_replication.proofs.Bound.{in_time as link_in_time, lowers, pushed_twice}
use Rattle.rx_replication.proofs.Handled.{states_of}
use Rattle.rx_reply.specs.declared.turn.Exchanged.{Exchanged}
use Rattle.rx_reply.specs.declared.turn.TurnEnd.{TurnEnd}
use Rattle.rx_reply.specs.declared.turn.TurnEnd.TheVariants.{Quiet, Lost, Clock, More}
use Rattle.rx_script.specs.declared.happening.Happening.{Happening}
use Rattle.rx_script.specs.declared.happening.Happening.TheVariants as happening
use Rattle.rx_world.specs.World.{World}
use Rattle.rx_sync.specs.Asks.{Asks}
use Rattle.rx_sync.specs.Bound.{AreOk, EachLowersLeft, EndsInTime, EveryOkTurn, FallsBy, IsOkTurn, NextTurn, PushesAtMostTwice, TurnsEndInTime, enough, exchanges_of, is_done, pushed_keys, pushes_in, turn_of_line}
use Rattle.rx_sync.specs.Exchange.{Terms, Course, world_after, course, row_keys, state_keys, taken_as}
use Rattle.rx_sync.specs.Laws.{IsReady}
use Rattle.rx_sync.specs.Taking.{resolve_for}
use Rattle.rx_sync.specs.Turn.{Turned, end_by, first_of, going_on, rest_of, turn}
use Rattle.rx_sync.proofs.Steps.{CourseSteps, Stands, at_once, course_steps, is_link, keeps_key, link_here, stands_here}
use Rattle.rx_sync.proofs.Worlds.{after-append}

-- ---- what an exchange came to

take_nothing : (n : ℕ) (ds : List Stored) → ds ≡ [] → take n ds ≡ []
take_nothing zero ds none = refl
take_nothing (suc n) [] none = refl
take_nothing (suc n) (d ∷ ds) none = absurd (cc)

-- a quiet exchange is a pull that brings fewer documents than the batch
pull_is : (l : Link) (batch : ℕ) → pending l.fork.documents l.known ≡ []
    → asked l batch ≡ Pull l.down batch
pull_is l batch none =
    ap (λ (ds : List Stored). push_or_pull (map (push_row l.known) ds) l.down batch)
    (take_nothing batch (pending l.fork.documents l.known) none)

few_keys : (ds : List Stored) (batch : ℕ) → length ds < batch
    → nat_lt (length (state_keys (states_of ds))) batch ≡ true
few_keys ds batch few =
    lt-ltb (length (state_keys (states_of ds))) batch
    (subst (λ (n : ℕ). n < batch)
    (sym (length-map (states_of ds) (λ (s : State). s.key)
    ∙ length-map ds (λ (d : Stored). d.state))) few)

quiet_ends : (l : Link) (batch : ℕ) → IsQuiet l batch
    → end_by batch (Some (taken_as (asked l batch) (body_of l.master.documents (asked l batch))))
    ≡ Some Quiet
quiet_ends l batch q =
    ap (λ (a : AskKind). end_by batch (Some (taken_as a (body_of l.master.documents a))))
    (pull_is l batch q.settled)
    ∙ ap (λ (b : Bool). cond b (Some Quiet) None)
    (few_keys (since l.master.documents l.down batch) batch q.few)

quiet_of : (b : Bool) (end : TurnEnd) → cond b (Some Quiet) None ≡ Some end → end ≡ Quiet
quiet_of true end is = sym (some_same is)
quiet_of false end is = not_none is

-- what was taken ends a turn quiet, if it does
end_is : (batch : ℕ) (a : AskKind) (b : Body) (end : TurnEnd)
    → end_by batch (Some (taken_as a b)) ≡ Some end → end ≡ Quiet
end_is batch (Push rows) (Conflicts cs) end is = not_none is
end_is batch (Push rows) (Docs ss to) end is = not_none is
end_is batch (Pull p n) (Conflicts cs) end is =
    quiet_of (nat_lt (length (state_keys cs)) batch) end is
end_is batch (Pull p n) (Docs ss to) end is =
    quiet_of (nat_lt (length (state_keys ss)) batch) end is

-- it shows the documents that were pushed
keys_of_rows : (known : KnownStates) (ds : List Stored)
    → row_keys (map (push_row known) ds) ≡ map (λ d. d.state.key) ds
keys_of_rows known [] = refl
keys_of_rows known (d ∷ ds) =
    ap (λ (ks : List (List ℕ)). d.state.key ∷ ks) (keys_of_rows known ds)

shown_by : (known : KnownStates) (down : Option Place) (batch : ℕ) (ds : List Stored) (b : Body)
    → pushed_keys (taken_as (push_or_pull (map (push_row known) ds) down batch) b)
    ≡ map (λ d. d.state.key) ds
shown_by known down batch [] (Conflicts cs) = refl
shown_by known down batch [] (Docs ss to) = refl
shown_by known down batch (d ∷ ds) (Conflicts cs) = keys_of_rows known (d ∷ ds)
shown_by known down batch (d ∷ ds) (Docs ss to) = keys_of_rows known (d ∷ ds)

pushed_shown : (l : Link) (batch : ℕ) (e : Exchanged)
    → e ≡ taken_as (asked l batch) (body_of l.master.documents (asked l batch))
    → pushed_keys e ≡ map (λ d. d.state.key) (pushed l batch)
pushed_shown l batch e is =
    ap pushed_keys is
    ∙ shown_by l.known l.down batch (pushed l batch) (body_of l.master.documents (asked l batch))

count_keys : (key : List ℕ) (ds : List Stored)
    → length (filter (λ k. bytes_eq k key) (map (λ d. d.state.key) ds))
    ≡ length (filter (λ d. bytes_eq d.state.key key) ds)
count_keys key [] = refl
count_keys key (d ∷ ds) =
    let rest = count_keys key ds in
    elim (bytes_eq d.state.key key) as (λ b.
    length (cond b (d.state.key ∷ filter (λ k. bytes_eq k key) (map (λ d. d.state.key) ds))
    (filter (λ k. bytes_eq k key) (map (λ d. d.state.key) ds)))
    ≡ length (cond b (d ∷ filter (λ d. bytes_eq d.state.key key) ds)
    (filter (λ d. bytes_eq d.state.key key) ds))) [ true ↦ omega arith | false ↦ rest ]

-- ---- exchanges that go by without a quiet one

-- so many do, from the one link to the other: before any that go on, they all go on
pub record Goes (by : Resolve) (l : Link) (n : ℕ) (last : Link) : Type 0 where
  pub on : (ys : List Exchange) → HaveBatches ys → GoOn by last ys
      → (zs : List Exchange) × HaveBatches zs × GoOn by l zs × (length zs ≡ n + length ys)

goes_none : (by : Resolve) (l : Link) → Goes by l 0 l
goes_none by l = record { on = λ ys some go. (ys, some, go, omega arith) }

goes_first : (by : Resolve) (l : Link) (x : Exchange) (next : Link) (n : ℕ) (last : Link)
    → 1 ≤ x.batch → exchange_over_link by l x ≡ Some next → (IsQuiet l x.batch → ⊥)
    → Goes by next n last
    → Goes by l (suc n) last
goes_first by l x next n last some step loud rest = record {
  on = λ ys have go.
      let z = rest.on ys have go in
      (x ∷ z.0, (some, z.1), (next, step, loud, z.2), omega (arith, z.3));
}

goes_then : (by : Resolve) (l : Link) (n : ℕ) (m : Link) (k : ℕ) (last : Link) → Goes by l n m
    → Goes by m k last → Goes by l (n + k) last
goes_then by l n m k last first rest = record {
  on = λ ys have go.
      let y = rest.on ys have go in
      let z = first.on y.0 y.1 y.2 in (z.0, z.1, z.2, omega (arith, y.3, z.3));
}

-- no more than the bound
goes_within : (by : Resolve) → KeepsKey by → (l : Link) → IsLink l → (n : ℕ) (last : Link)
    → Goes by l n last
    → n ≤ 2 * length (pending l.fork.documents l.known)
    + key_count l.fork.documents l.master.documents
goes_within by law l keys n last g =
    let z = g.on [] tt tt in
    let few = link_in_time by law l keys z.0 z.1 z.2 in omega (arith, z.3, few)

-- ---- a turn

-- the documents of a key are pushed as often as by exchanges of the link
pub record PushesSo (by : Resolve) (l : Link) (key : List ℕ) (es : List Exchanged) : Type 0 where
  pub xs : List Exchange
  pub some : HaveBatches xs
  pub count : pushes_in key es ≡ pushes_of by key (Some l) xs

pushes_none : (by : Resolve) (l : Link) (key : List ℕ) → PushesSo by l key []
pushes_none by l key = record { xs = []; some = tt; count = refl }

-- exchanges may go on, as many as there were to be have gone by
pub record IsOver (name : List ℕ) (kinds : Kinds) (by : Resolve) (w : World) (last : Link)
    (budget n : ℕ) (u : Turned) : Type 0 where
  pub stands : Stands name kinds by (world_after u.records w) last
  pub all : n ≡ budget
  pub count : length u.exchanges ≡ n

-- how a turn has gone: at most its last exchange is quiet
pub record HasGone (name : List ℕ) (kinds : Kinds) (by : Resolve) (w : World) (l : Link)
    (budget : ℕ)
    (u : Turned) : Type 0 where
  pub n : ℕ
  pub last : Link
  pub goes : Goes by l n last
  pub few : length u.exchanges ≤ n + 1
  pub more : u.ended ≡ More → IsOver name kinds by w last budget n u
  pub found : u.ended ≢ Lost
  pub pushes : (key : List ℕ) → PushesSo by l key u.exchanges

module _ (t : Terms) (batch : ℕ) (some : 1 ≤ batch) (by : Resolve) where
  abbrev pub gone : World → Link → ℕ → Turned → Type 0
  gone w l budget u = HasGone t.name t.kinds by w l budget u

  first_pushes : (w : World) (l : Link) (c : Course) (e : Exchanged)
      → (s : CourseSteps t batch by w l c e) → (key : List ℕ) (es : List Exchanged)
      → PushesSo by s.next key es → PushesSo by l key (e ∷ es)
  first_pushes w l c e s key es rest = record {
    xs = at_once batch t.now ∷ rest.xs;
    some = (some, rest.some);
    count =
        let here : length (filter (λ k. bytes_eq k key) (pushed_keys e))
        ≡ length (filter (λ d. bytes_eq d.state.key key) (pushed l batch)) =
        ap (λ (ks : List (List ℕ)). length (filter (λ k. bytes_eq k key) ks))
        (pushed_shown l batch e s.came)
        ∙ count_keys key (pushed l batch) in
        let there : pushes_in key es
        ≡ pushes_of by key (exchange_over_link by l (at_once batch t.now)) rest.xs =
        rest.count ∙ ap (λ (o : Option Link). pushes_of by key o rest.xs) (sym s.step) in
        ap (λ (n : ℕ). n + pushes_in key es) here
        ∙ ap (λ (n : ℕ). length (filter (λ d. bytes_eq d.state.key key) (pushed l batch)) + n)
        there;
  }

  module _ (w : World) (l : Link) (s : Stands t.name t.kinds by w l) (budget : ℕ) where
    -- the exchange finds no write time
    gone_clock : (c : Course) (rest : Turned)
        → gone w l (suc budget) (going_on (record c { came = None }) (Some Clock) rest)
    gone_clock c rest = record {
      n = 0;
      last = l;
      goes = goes_none by l;
      few = omega arith;
      more = λ is. absurd (cc);
      found = λ is. absurd (cc);
      pushes = pushes_none by l;
    }

    module _ (c : Course) (e : Exchanged) (steps : CourseSteps t batch by w l c e) (rest : Turned)
      where
        -- it is the last
        gone_last : (end : TurnEnd) → end ≡ Quiet
            → gone w l (suc budget) (going_on (record c { came = Some e }) (Some end) rest)
        gone_last end quiet = record {
          n = 0;
          last = l;
          goes = goes_none by l;
          few = omega arith;
          more = λ is. let other : Quiet ≡ More = sym quiet ∙ is in absurd (cc);
          found = λ is. let other : Quiet ≡ Lost = sym quiet ∙ is in absurd (cc);
          pushes = λ key. first_pushes w l c e steps key [] (pushes_none by steps.next key);
        }

        -- or others follow
        loud : end_by batch (Some e) ≡ None → IsQuiet l batch → ⊥
        loud goes_on quiet =
            not_none
            (sym goes_on ∙ ap (λ (e : Exchanged). end_by batch (Some e)) steps.came
            ∙ quiet_ends l batch quiet)

        gone_on : end_by batch (Some e) ≡ None
            → gone (world_after c.records w) steps.next budget rest
            → gone w l (suc budget) (going_on (record c { came = Some e }) None rest)
        gone_on goes_on more = record {
          n = suc more.n;
          last = more.last;
          goes = goes_first by l (at_once batch t.now) steps.next more.n more.last some steps.step
              (loud goes_on) more.goes;
          few = omega (arith, more.few);
          more = λ is.
              let m = more.more is in
              record {
                stands = subst (λ (v : World). Stands t.name t.kinds by v more.last)
                    (sym (after-append c.records rest.records w)) m.stands;
                all = ap suc m.all;
                count = ap suc m.count;
              };
          found = more.found;
          pushes = λ key. first_pushes w l c e steps key rest.exchanges (more.pushes key);
        }

        gone_by : (q : Option TurnEnd) → end_by batch (Some e) ≡ q
            → gone (world_after c.records w) steps.next budget rest
            → gone w l (suc budget) (going_on (record c { came = Some e }) q rest)
        gone_by None is more = gone_on is more
        gone_by (Some end) is more =
            gone_last end
            (end_is batch (asked l batch) (body_of l.master.documents (asked l batch)) end
            (ap (λ (e : Exchanged). end_by batch (Some e)) (sym steps.came) ∙ is))

    gone_came : (c : Course) (rest : Turned)
        (steps : (e : Exchanged) → c.came ≡ Some e → CourseSteps t batch by w l c e)
        → ((e : Exchanged) (is : c.came ≡ Some e)
        → gone (world_after c.records w) (steps e is).next budget rest)
        → (o : Option Exchanged) → c.came ≡ o
        → gone w l (suc budget) (going_on (record c { came = o }) (end_by batch o) rest)
    gone_came c rest steps more None is = gone_clock c rest
    gone_came c rest steps more (Some e) is =
        gone_by c e (steps e is) rest (end_by batch (Some e)) refl (more e is)

  first_ok : (link : List Happening) → AreOk link → first_of link ≡ happening.Ok
  first_ok [] ok = refl
  first_ok (x ∷ xs) ok = ok.0

  rest_ok : (link : List Happening) → AreOk link → AreOk (rest_of link)
  rest_ok [] ok = tt
  rest_ok (x ∷ xs) ok = ok.1

  pub turn_goes : (budget : ℕ) (link : List Happening) → AreOk link → (w : World) (l : Link)
      (a : Asks) → Stands t.name t.kinds by w l → gone w l budget (turn t batch budget link w a)
  turn_goes zero link ok w l a s = record {
    n = 0;
    last = l;
    goes = goes_none by l;
    few = omega arith;
    more = λ is. record { stands = s; all = refl; count = refl };
    found = λ is. absurd (cc);
    pushes = pushes_none by l;
  }
  turn_goes (suc budget) link ok w l a s =
      let c : Course = course t batch (first_of link) w a in
      let steps : (e : Exchanged) → c.came ≡ Some e → CourseSteps t batch by w l c e =
      course_steps t batch some by w l a s (first_of link) (first_ok link ok) in
      gone_came w l s budget c
      (turn t batch budget (rest_of link) (world_after c.records w) c.asks) steps
      (λ e is. turn_goes budget (rest_of link) (rest_ok link ok) (world_after c.records w)
      (steps e is).next c.asks (steps e is).stands) c.came refl

  -- ---- each exchange

  falls : (w : World) (l : Link) → Stands t.name t.kinds by w l → (c : Course) (e : Exchanged)
      → CourseSteps t batch by w l c e
      → FallsBy w (world_after c.records w) t.name (length (pushed_keys e))
  falls w l s c e steps =
      let lower = lowers by (keeps_key w t.name t.kinds by l s) l
      (is_link w t.name t.kinds by l s) (at_once batch t.now) some steps.next steps.step in
      let same : length (pushed_keys e) ≡ length (pushed l batch) =
      ap (λ (ks : List (List ℕ)). length ks) (pushed_shown l batch e steps.came)
      ∙ length-map (pushed l batch) (λ (d : Stored). d.state.key) in
      (l, s.is, (steps.next, steps.stands.is, omega (arith, lower, same)))

  -- what holds of the rest, where the turn goes on
  rest_by : (P : Type 0) (c : Course) → ((e : Exchanged) → c.came ≡ Some e → P)
      → (o : Option Exchanged) → c.came ≡ o → end_by batch o ≡ None → P
  rest_by P c next None is goes_on = not_none (sym goes_on)
  rest_by P c next (Some e) is goes_on = next e is

  pub each_lowers : (budget : ℕ) (link : List Happening) → AreOk link → (w : World) (l : Link)
      (a : Asks) → Stands t.name t.kinds by w l
      → EachLowersLeft t batch budget link w a
  each_lowers zero link ok w l a s = tt
  each_lowers (suc budget) link ok w l a s =
      let c : Course = course t batch (first_of link) w a in
      let steps : (e : Exchanged) → c.came ≡ Some e → CourseSteps t batch by w l c e =
      course_steps t batch some by w l a s (first_of link) (first_ok link ok) in (
        λ e is. falls w l s c e (steps e is),
        rest_by (EachLowersLeft t batch budget (rest_of link) (world_after c.records w) c.asks) c
            (λ e is. each_lowers budget (rest_of link) (rest_ok link ok) (world_after c.records w)
            (steps e is).next c.asks (steps e is).stands) c.came refl,
      )

-- ---- the laws of a turn

module _ (w : World) (name : List ℕ) (kinds : Kinds) (ready : IsReady w name kinds) where
  abbrev by_here : Resolve
  by_here = resolve_for ready.kind ready.here.replication

  abbrev standing : Stands name kinds by_here w (link_here w name kinds ready)
  standing = stands_here w name kinds ready

  law_here : KeepsKey by_here
  law_here = keeps_key w name kinds by_here (link_here w name kinds ready) standing

  keys_here : IsLink (link_here w name kinds ready)
  keys_here = is_link w name kinds by_here (link_here w name kinds ready) standing

pub exchanges_lower : EveryOkTurn EachLowersLeft
exchanges_lower t batch budget link w a some may ok =
    each_lowers t batch some (by_here w t.name t.kinds may.ready) budget link ok w
    (link_here w t.name t.kinds may.ready) a (standing w t.name t.kinds may.ready)

pub turn_pushes_twice : EveryOkTurn PushesAtMostTwice
turn_pushes_twice t batch budget link w a some may ok =
    let by = by_here w t.name t.kinds may.ready in
    let l = link_here w t.name t.kinds may.ready in
    let s : Stands t.name t.kinds by w l = standing w t.name t.kinds may.ready in
    let g = turn_goes t batch some by budget link ok w l a s in (
      l,
      s.is,
      λ key.
          let p = g.pushes key in
          let twice = pushed_twice by (law_here w t.name t.kinds may.ready) l
          (keys_here w t.name t.kinds may.ready) p.xs p.some key in (
            subst (λ (n : ℕ). n ≤ 2) (sym p.count) twice.0,
            λ some. twice.1 (subst (λ (n : ℕ). 1 ≤ n) p.count some),
          ),
    )

ended_by : (name : List ℕ) (kinds : Kinds) (by : Resolve) → KeepsKey by → (w : World) (l : Link)
    → IsLink l → (budget : ℕ) (u : Turned) → HasGone name kinds by w l budget u
    → enough l ≤ budget → (end : TurnEnd) → u.ended ≡ end → (end ≡ Quiet) ⊎ (end ≡ Clock)
ended_by name kinds by law w l keys budget u g much Quiet is = inl refl
ended_by name kinds by law w l keys budget u g much Clock is = inr refl
ended_by name kinds by law w l keys budget u g much Lost is = absurd (g.found is)
ended_by name kinds by law w l keys budget u g much More is =
    let all = (g.more is).all in
    let few = goes_within by law l keys g.n g.last g.goes in
    absurd (omega (arith, all, few, much))

pub turn_in_time : EveryOkTurn EndsInTime
turn_in_time t batch budget link w a some may ok =
    let by = by_here w t.name t.kinds may.ready in
    let l = link_here w t.name t.kinds may.ready in
    let s : Stands t.name t.kinds by w l = standing w t.name t.kinds may.ready in
    let u : Turned = turn t batch budget link w a in
    let g : HasGone t.name t.kinds by w l budget u =
    turn_goes t batch some by budget link ok w l a s in (
      l,
      s.is,
      λ much. ended_by t.name t.kinds by (law_here w t.name t.kinds may.ready) w l
          (keys_here w t.name t.kinds may.ready) budget u g much u.ended refl,
    )

-- ---- turns that follow each other

module _ (name : List ℕ) (kinds : Kinds) (by : Resolve) where
  -- so many exchanges go by before the last of them
  abbrev CountsTo : Link → ℕ → Type 0
  CountsTo l k = (n : ℕ) × (last : Link) × Goes by l n last × (k ≤ n + 1)

  counts_on : (w : World) (l : Link) (budget : ℕ) (u : Turned)
      → HasGone name kinds by w l budget u → (k : ℕ)
      → ((m : Link) → Stands name kinds by (world_after u.records w) m → CountsTo m k)
      → (end : TurnEnd) → u.ended ≡ end
      → CountsTo l (length u.exchanges + cond (is_done end) 0 k)
  counts_on w l budget u g k rest Quiet is = (g.n, g.last, g.goes, omega (arith, g.few))
  counts_on w l budget u g k rest Clock is = (g.n, g.last, g.goes, omega (arith, g.few))
  counts_on w l budget u g k rest Lost is = absurd (g.found is)
  counts_on w l budget u g k rest More is =
      let over = g.more is in
      let more = rest g.last over.stands in (
        g.n + more.0,
        more.1,
        goes_then by l g.n g.last more.0 more.1 g.goes more.2,
        omega (arith, over.count, more.3),
      )

  turns_go : (turns : List NextTurn) → AllByRecursion IsOkTurn turns → (w : World) (l : Link)
      → Stands name kinds by w l → CountsTo l (exchanges_of name kinds turns w)
  turns_go [] ok w l s = (0, l, goes_none by l, omega arith)
  turns_go (x ∷ xs) ok w l s =
      let u : Turned = turn_of_line name kinds x w in
      let g : HasGone name kinds by w l x.budget u =
      turn_goes (record { name = name; now = x.now; kinds = kinds }) x.batch ok.0.0 by x.budget
      x.link ok.0.1 w l x.asks s in
      counts_on w l x.budget u g (exchanges_of name kinds xs (world_after u.records w))
      (λ m stands. turns_go xs ok.1 (world_after u.records w) m stands) u.ended refl

pub turns_in_time : TurnsEndInTime
turns_in_time name kinds w ready turns ok =
    let by = by_here w name kinds ready in
    let l = link_here w name kinds ready in
    let s : Stands name kinds by w l = standing w name kinds ready in
    let g = turns_go name kinds by turns ok w l s in
    let few = goes_within by (law_here w name kinds ready) l (keys_here w name kinds ready) g.0
    g.1 g.2 in
    (l, s.is, omega (arith, g.3, few))
