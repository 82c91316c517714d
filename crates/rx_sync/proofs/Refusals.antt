-- A reply of the master is refused only where no write time is left.
use Rattle.std.proofs.Common.{◌≡◌, ◌⊎◌, ◌∙◌, ℕ, suc, ◌+◌, ◌-◌, ◌≤◌, ◌==◌, ◌&&◌, ◌||◌, Bool, true, false, cond, not, nat_lt, List, [], ◌∷◌, length, Option, Some, None, option_map, Result, Ok, Err, slice_get, refl, sym, ap, subst, inl, inr, arith, ltb-true, eq-eqb}
use Rattle.std.proofs.lemmas.Bool.{not-false}
use Rattle.std.specs.Cmp.Derive.{both_true}
use Rattle.std.specs.List.{position_or_len}
use Rattle.std.specs.Str.{bytes_eq}
use Rattle.rx_value.specs.Due.{◌>>◌, demand, lifted, or_fault, unless}
use Rattle.rx_value.specs.declared.state.State.{State}
use Rattle.rx_value.proofs.Bytes.{bytes_itself}
use Rattle.rx_value.proofs.Outcomes.{some_same}
use Rattle.rx_document.specs.Documents.{Documents}
use Rattle.rx_document.specs.declared.place.Place.{Place}
use Rattle.rx_document.proofs.Places.{place_eq-Decides}
use Rattle.rx_collection.specs.Held.{Held}
use Rattle.rx_collection.specs.Since.{is_above, since}
use Rattle.rx_collection.specs.Time.{last_lwt}
use Rattle.rx_handler.specs.declared.kind.HandlerKind.{HandlerKind}
use Rattle.rx_meta.specs.Side.{Side}
use Rattle.rx_wire.specs.declared.message.AskKind.{AskKind}
use Rattle.rx_wire.specs.declared.message.AskKind.TheVariants.{Push, Pull}
use Rattle.rx_wire.specs.declared.message.Body.TheVariants.{Docs}
use Rattle.rx_wire.specs.declared.message.PushRow.{PushRow}
use Rattle.rx_wire.specs.declared.message.Reply.{Reply}
use Rattle.rx_replication.specs.Fitting.{IsFitting, PlaceFits, last_key}
use Rattle.rx_replication.specs.Master.{body_of, conflicts, last_place, reply_with}
use Rattle.rx_replication.specs.Member.{Member}
use Rattle.rx_replication.specs.Taking.{Resolve, Taking, taking}
use Rattle.rx_replication.specs.Write.{AreByKey}
use Rattle.rx_replication.proofs.Commits.{lawful-by_key}
use Rattle.rx_replication.proofs.Handled.{push_fits, pull_fits, states_of}
use Rattle.rx_fork.specs.Accept.{accepted, answered, plan_of}
use Rattle.rx_fork.specs.BadReply.{bad_reply, first_foreign, has_row, is_fit, place_fits}
use Rattle.rx_fork.specs.declared.accept.ExchangePlan.{ExchangePlan}
use Rattle.rx_fork.specs.declared.ask.Asked.{Asked}
use Rattle.rx_fork.specs.declared.fault.AcceptFault.{AcceptFault}
use Rattle.rx_fork.specs.declared.fault.AcceptFault.TheVariants as refused
use Rattle.rx_record.specs.Content.{Content}
use Rattle.rx_world.specs.declared.replication.Replication.{Replication}
use Rattle.rx_sync.specs.Laws.{RefusedByTheClockAlone}
use Rattle.rx_sync.specs.Taking.{changes_nothing, exchange_at, recorded, resolve_for, take_fault, taken_by, write_time}
use Rattle.rx_sync.specs.declared.fault.TakeFault.{TakeFault}
use Rattle.rx_sync.specs.declared.fault.TakeFault.TheVariants.{ClockEnd}
use Rattle.rx_sync.proofs.Calls.{taken_before}
use Rattle.rx_sync.proofs.Ends.{HasEnds, ends_of}
use Rattle.rx_sync.proofs.Exchanges.{taken_is}
use Rattle.rx_sync.proofs.Going.{asked_is, current_here, due_here, handled_well}
use Rattle.rx_sync.proofs.Messages.{IsFromDown, from_down}

-- ---- a push

or_either : (a b : Bool) → (a ≡ true) ⊎ (b ≡ true) → (a || b) ≡ true
or_either true b is = refl
or_either false b (inl is) = absurd (cc)
or_either false b (inr is) = is

row_there : (rows : List PushRow) (row : PushRow) (k : List ℕ) → Member row rows
    → k ≡ row.new.key → has_row rows k ≡ true
row_there [] row k m is = absurd m
row_there (r ∷ rs) row k (inl same) is =
    or_either (bytes_eq r.new.key k) (has_row rs k)
    (inl (ap (λ (z : PushRow). bytes_eq z.new.key k) (sym same)
    ∙ ap (bytes_eq row.new.key) is ∙ bytes_itself row.new.key))
row_there (r ∷ rs) row k (inr m) is =
    or_either (bytes_eq r.new.key k) (has_row rs k) (inr (row_there rs row k m is))

all_passed : (rows : List PushRow) (cs : List State)
    → ((c : State) → Member c cs → has_row rows c.key ≡ true)
    → position_or_len (λ s. not (has_row rows s.key)) cs ≡ length cs
all_passed rows [] each = refl
all_passed rows (c ∷ cs) each =
    let rest = all_passed rows cs (λ d m. each d (inr m)) in
    let more : 1 + position_or_len (λ s. not (has_row rows s.key)) cs
    ≡ length (c ∷ cs) = omega arith in
    ap (λ (b : Bool). cond (not (not b)) (1 + position_or_len (λ s. not (has_row rows s.key)) cs) 0)
    (each c (inl refl))
    ∙ more

no_place : (n : ℕ) → cond (nat_lt n n) (Some n) None ≡ None
no_place n =
    elim (nat_lt n n) as (λ b. nat_lt n n ≡ b → cond b (Some n) None ≡ None) [
      | true ↦ (λ is. let less = ltb-true n n is in absurd (omega arith))
      | false ↦ (λ is. refl)
    ] refl

none_foreign : (rows : List PushRow) (cs : List State)
    → ((c : State) → Member c cs → has_row rows c.key ≡ true) → first_foreign rows cs ≡ None
none_foreign rows cs each =
    ap (λ (n : ℕ). cond (nat_lt n (length cs)) (Some n) None) (all_passed rows cs each)
    ∙ no_place (length cs)

-- ---- a pull

last_is : (s : State) (ss : List State)
    → (l : State) × (slice_get (s ∷ ss) (length (s ∷ ss) - 1) ≡ Some l) × (l.key ≡ last_key s ss)
last_is s [] = (s, refl, refl)
last_is s (t ∷ ss) =
    let rest = last_is t ss in
    let less : length (s ∷ t ∷ ss) - 1 ≡ suc (length (t ∷ ss) - 1) = omega arith in
    (rest.0, ap (slice_get (s ∷ t ∷ ss)) less ∙ rest.1, rest.2)

last_fits : (down : Option Place) (l : State) (p : Place) → is_above down p ≡ true → p.id ≡ l.key
    → place_fits down (Some l) (Some p) ≡ true
last_fits None l p above same =
    both_true above (ap (λ (k : List ℕ). bytes_eq k l.key) same ∙ bytes_itself l.key)
last_fits (Some q) l p above same =
    both_true above (ap (λ (k : List ℕ). bytes_eq k l.key) same ∙ bytes_itself l.key)

same_fits : (down : Option Place) → place_fits down None down ≡ true
same_fits None = refl
same_fits (Some p) = (place_eq-Decides p p).1 refl

fits_is : (down : Option Place) (ss : List State) (to : Option Place) → PlaceFits down ss to
    → is_fit down ss to ≡ true
fits_is down [] to fits =
    subst (λ (to : Option Place). place_fits down None to ≡ true) (sym fits) (same_fits down)
fits_is down (s ∷ ss) to fits =
    let l = last_is s ss in
    subst (λ (to : Option Place).
    place_fits down (slice_get (s ∷ ss) (length (s ∷ ss) - 1)) to ≡ true) (sym fits.1)
    (subst (λ (last : Option State). place_fits down last (Some fits.0) ≡ true) (sym l.1)
    (last_fits down l.0 fits.0 (not-false (is_above down fits.0) fits.2) (fits.3 ∙ sym l.2)))

few_by : (b : Bool) (batch count : ℕ) (fit : Bool) → nat_lt batch count ≡ b → count ≤ batch
    → fit ≡ true → cond b (Some batch) (cond fit None (Some count)) ≡ None
few_by true batch count fit is few fits =
    let over = ltb-true batch count is in absurd (omega arith)
few_by false batch count fit is few fits =
    ap (λ (f : Bool). cond f None (Some count)) fits

-- a page that fits isn't refused
pub page_not_bad : (down : Option Place) (b : ℕ) (ss : List State) (to : Option Place)
    → IsFitting (Pull down b) (Docs ss to) → bad_reply down (Pull down b) (Docs ss to) ≡ None
page_not_bad down b ss to fits =
    few_by (nat_lt b (length ss)) b (length ss) (is_fit down ss to) refl fits.0
    (fits_is down ss to fits.1)

-- ---- the reply of a master

not_bad : (m : Documents) (by_key : AreByKey m) (down : Option Place) (ask : AskKind)
    → IsFromDown down ask → bad_reply down ask (body_of m ask) ≡ None
not_bad m by_key down (Push rows) from =
    none_foreign rows (conflicts m rows) (λ c h.
    let x = push_fits m by_key rows c h in row_there rows x.0 c.key x.1 x.2)
not_bad m by_key down (Pull p b) from =
    let ss = states_of (since m p b) in
    let to = last_place p (since m p b) in
    let fits = pull_fits m p b by_key in
    few_by (nat_lt b (length ss)) b (length ss) (is_fit down ss to) refl fits.0
    (subst (λ (q : Option Place). is_fit q ss to ≡ true) from.0 (fits_is p ss to fits.1))

some_taking : (by : Resolve) (fork : Documents) (up down : Option Place) (m : Documents)
    (ask : AskKind) → (t : Taking) × (taking by fork up down ask (body_of m ask) ≡ Some t)
some_taking by fork up down m (Push rows) = (_, refl)
some_taking by fork up down m (Pull p b) = (_, refl)

is_accepted : (by : Resolve) (fork : Documents) (side : Side) (asked : Asked) (m : Documents)
    → AreByKey m → IsFromDown side.down asked.request.ask → last_lwt fork ≡ asked.lwt
    → (plan : ExchangePlan)
    × (accepted by fork side asked (reply_with asked.request (body_of m asked.request.ask))
    ≡ Ok plan)
is_accepted by fork side asked m by_key from same =
    let q = asked.request in
    let body = body_of m q.ask in
    let t = some_taking by fork side.up side.down m q.ask in
    let numbers : (q.epoch == q.epoch && q.n == q.n) ≡ true =
    both_true (eq-eqb q.epoch q.epoch refl) (eq-eqb q.n q.n refl) in (
      plan_of t.0,
      ap (λ (b : Bool). demand b (refused.Foreign q.epoch q.n)
          >> λ _. demand (last_lwt fork == asked.lwt) (refused.Moved asked.lwt (last_lwt fork))
          >> λ _. answered by fork side q.ask body) numbers
          ∙ ap (λ (b : Bool). demand b (refused.Moved asked.lwt (last_lwt fork))
          >> λ _. answered by fork side q.ask body) (eq-eqb (last_lwt fork) asked.lwt same)
          ∙ ap (λ (o : Option ℕ). unless refused.BadReply o
          (or_fault (refused.BadReply 0)
          (option_map plan_of (taking by fork side.up side.down q.ask body))))
          (not_bad m by_key side.down q.ask from)
          ∙ ap (λ (o : Option Taking). or_fault (refused.BadReply 0) (option_map plan_of o)) t.1,
    )

-- ---- its record

clock_by : (b : Bool) (o : Option ℕ) (entry : ℕ → Content) (fault : TakeFault)
    → cond b (Ok []) (or_fault ClockEnd (option_map (λ lwt. entry lwt ∷ []) o)) ≡ Err fault
    → fault ≡ ClockEnd
clock_by true o entry fault is = absurd (cc)
clock_by false None entry fault is = cc
clock_by false (Some lwt) entry fault is = absurd (cc)

taken_clock : (name : List ℕ) (now : ℕ) (asked : Asked) (reply : Reply) (r : Replication)
    (fork : Held) (kind : HandlerKind) (plan : ExchangePlan) (fault : TakeFault)
    → accepted (resolve_for kind r) fork.documents r.side asked reply ≡ Ok plan
    → taken_by name now asked reply r fork kind ≡ Err fault → fault ≡ ClockEnd
taken_clock name now asked reply r fork kind plan fault at is =
    clock_by (changes_nothing r.side plan) (write_time now fork plan.rows) (exchange_at name fork
    plan)
    fault
    (sym (ap (λ (o : Result ExchangePlan AcceptFault).
    lifted take_fault o >> recorded name now fork r.side) at) ∙ is)

pub by_the_clock_alone : RefusedByTheClockAlone
by_the_clock_alone t w ready asked has h is fault refused =
    let e : HasEnds w t.name ready.here.replication ready.here.master = ends_of w t.name t.kinds
    ready in
    let r = ready.here.replication in
    let lawful = (due_here w t.name t.kinds ready t.now has.0 has.1 has.2 asked has.3).lawful in
    let hh = handled_well w t.name t.kinds ready t.now asked.request h lawful is in
    let current = current_here w t.name t.kinds ready t.now has.0 has.1 has.2 asked has.3 in
    let same : last_lwt e.fork.documents ≡ asked.lwt =
    ap (λ (a : Asked). a.lwt) (asked_is w t.name t.kinds ready t.now has.0 has.1 has.2 asked
    has.3) in
    let ok = is_accepted (resolve_for ready.kind r) e.fork.documents r.side asked e.master.documents
    (lawful-by_key e.master e.lawful)
    (from_down e.fork.documents r.side.known r.side.down asked.request.ask current) same in
    let at = taken_before w t.name t.kinds ready asked has t.now h is in
    let here = taken_is w t.kinds t.name asked h.reply t.now r e.fork ready.kind ready.here.held
    e.held
    ready.handler in
    taken_clock t.name t.now asked h.reply r e.fork ready.kind ok.0 fault
    (ap (λ (y : Reply). accepted (resolve_for ready.kind r) e.fork.documents r.side asked y)
    hh.reply
    ∙ ok.1)
    (some_same (sym here ∙ sym at ∙ refused))
