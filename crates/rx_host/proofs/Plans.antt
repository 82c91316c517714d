-- What a push writes, and what its record makes of the collection.
use Rattle.std.proofs.Common.{◌≡◌, refl, sym, ap, subst, ℕ, ◌<◌, true, List, [], ◌∷◌, length, map, Option, Some, None, IfSome, IfOk, Result, option_map, inl, inr, arith}
use Rattle.std.proofs.lemmas.Slice.Eq.{bytes_eq-Decides}
use Rattle.std.specs.List.{AllByRecursion}
use Rattle.std.specs.Map.{values_of}
use Rattle.std.specs.Option.{option_to_list}
use Rattle.rx_value.specs.declared.state.State.{State}
use Rattle.rx_value.proofs.Outcomes.{none_mapped, if_ok}
use Rattle.rx_schema.specs.declared.shape.Shape.{Shape}
use Rattle.rx_collection.specs.Commit.{by_key, row_of, rows_of, with_rows}
use Rattle.rx_collection.specs.Held.{Held}
use Rattle.rx_collection.specs.Time.{stamp}
use Rattle.rx_fork.specs.Asked.{HasRowsApart}
use Rattle.rx_fork.specs.Valid.{is_valid}
use Rattle.rx_record.specs.Content.{Content, rows}
use Rattle.rx_record.specs.Shown.{content}
use Rattle.rx_record.specs.declared.record.Record.{Record}
use Rattle.rx_replication.specs.Master.{body_of, master_then, reply_with, writes}
use Rattle.rx_replication.specs.Member.{Member}
use Rattle.rx_replication.specs.Throughout.{AskPasses, RowPasses}
use Rattle.rx_replication.specs.Write.{write}
use Rattle.rx_serve.specs.Answered.{commit_by, commit_of, commit_with}
use Rattle.rx_sync.specs.Asks.{IsLawfulRequest}
use Rattle.rx_sync.specs.Handling.{Handled as Whole, commits_of, handled_by, written_by}
use Rattle.rx_sync.specs.Laws.{MayCome, MayComeInTurn}
use Rattle.rx_sync.specs.Shown.{handled_of, record_in}
use Rattle.rx_sync.specs.declared.handling.Handled.{Handled}
use Rattle.rx_wire.specs.Lawful.{IsAsk, IsRequest, IsRow, IsState}
use Rattle.rx_wire.specs.declared.message.AskKind.{AskKind}
use Rattle.rx_wire.specs.declared.message.AskKind.TheVariants.{Push, Pull}
use Rattle.rx_wire.specs.declared.message.PushRow.{PushRow}
use Rattle.rx_wire.specs.declared.message.Request.{Request}
use Rattle.rx_world.specs.Commit.{commit_to, out_of}
use Rattle.rx_world.specs.Step.{stored_of, written_to}
use Rattle.rx_world.specs.World.{World}
use Rattle.rx_world.specs.declared.fault.StepFault.{StepFault}
use Rattle.rx_host.specs.Planned.{Writes}

-- ---- the rows

-- a collection stores the rows of a record as the commit has them
stored_again : (c : Held) (lwt : ℕ) (ss : List State)
    → map (stored_of c.name lwt) (map out_of (map (row_of c lwt) ss)) ≡ map (row_of c lwt) ss
stored_again c lwt [] = refl
stored_again c lwt (s ∷ ss) = ap (λ ds. row_of c lwt s ∷ ds) (stored_again c lwt ss)

written_so : (c : Held) (lwt : ℕ) (ss : List State)
    → with_rows c (rows_of c ss lwt) ≡ written_to lwt (map out_of (rows_of c ss lwt)) c
written_so c lwt ss = ap (with_rows c) (sym (stored_again c lwt (values_of (by_key ss))))

-- ---- the record

abbrev record_at : Held → List State → ℕ → Content
record_at c ss lwt = rows c.name lwt (map out_of (rows_of c ss lwt))

module _ (c : Held) (ss : List State) (r : Content) where
  written_at : (o : Option ℕ) → option_map (record_at c ss) o ≡ Some r
      → Writes c (option_to_list (option_map (commit_with c ss) o))
      (option_map (λ lwt. with_rows c (rows_of c ss lwt)) o) (Some r)
  written_at None is = absurd (cc)
  written_at (Some lwt) is =
      let same : r ≡ record_at c ss lwt = cc in
      (commit_with c ss lwt, same, refl, ap Some (written_so c lwt ss))

-- the record of a commit of some states
pub writes_one : (c : Held) (ss : List State) (now : ℕ) (r : Content) → 0 < length ss
    → commit_to c.name ss now c ≡ Some r
    → Writes c (commit_of c ss now) (write c ss now) (Some r)
writes_one c [] now r some is = absurd (omega (arith, some))
writes_one c (s ∷ ss) now r some is = written_at c (s ∷ ss) r (stamp c.documents now) is

-- ---- the states

valid_state : (s : Shape) (state : State) → IsState s state → is_valid s state ≡ true
valid_state s state is =
    rw (is.valid, is.carried) ((bytes_eq-Decides state.key state.key).1 refl)

passes : (s : Shape) (pushed : List PushRow) → AllByRecursion (IsRow s) pushed → (row : PushRow)
    → Member row pushed → RowPasses (is_valid s) row
passes s [] all row m = absurd m
passes s (x ∷ pushed) all row (inl same) =
    subst (RowPasses (is_valid s)) (sym same) (record {
      new = valid_state s x.new all.0.new;
      assumed =
          λ state is. valid_state s state (subst (λ o. IfSome o (IsState s)) is all.0.assumed);
    })
passes s (x ∷ pushed) all row (inr m) = passes s pushed all.1 row m

ask_lawful : (s : Shape) (ask : AskKind) → IsAsk s ask
    → AskPasses (is_valid s) ask × HasRowsApart ask
ask_lawful s (Push pushed) is = (passes s pushed is.each, is.distinct)
ask_lawful s (Pull place batch) is = (tt, tt)

-- a request of the wire may be handled
pub lawful_request : (s : Shape) (q : Request) → IsRequest s q → IsLawfulRequest s q
lawful_request s q is =
    let l = ask_lawful s q.ask is.ask in record { valid = l.0; apart = l.1 }

-- ---- what a request comes to

module _ (c : Held) (now : ℕ) where
  abbrev nothing : Option (List Content)
  nothing = Some []

  none_in : (o : Option Record) → nothing ≡ Some (record_in o) → o ≡ None
  none_in None is = refl
  none_in (Some entry) is = absurd (cc)

  one_in : (ss : List State) (o : Option Record)
      → option_map (λ r. r ∷ []) (commit_to c.name ss now c) ≡ Some (record_in o)
      → (e : Record) × (o ≡ Some e) × (commit_to c.name ss now c ≡ Some (content e))
  one_in ss o is = one_of (commit_to c.name ss now c) o is
    where
      one_of : (x : Option Content) (o : Option Record)
          → option_map (λ r. r ∷ []) x ≡ Some (record_in o)
          → (e : Record) × (o ≡ Some e) × (x ≡ Some (content e))
      one_of None o is = absurd (cc)
      one_of (Some r) None is = absurd (cc)
      one_of (Some r) (Some e) is = (e, refl, cc)

  written_of : (ss : List State) (o : Option Record)
      → written_by c.name now c ss ≡ Some (record_in o)
      → Writes c (commit_of c ss now) (write c ss now) (option_map content o)
  written_of [] o is =
      subst (λ o. Writes c [] (Some c) (option_map content o)) (sym (none_in o is)) (refl, refl)
  written_of (s ∷ ss) o is =
      let one = one_in (s ∷ ss) o is in
      subst (λ o. Writes c (commit_of c (s ∷ ss) now) (write c (s ∷ ss) now) (option_map content o))
      (sym one.1) (writes_one c (s ∷ ss) now (content one.0) (omega arith) one.2)

  -- its record is that of its commit
  pub planned_so : (ask : AskKind) (o : Option Record)
      → commits_of c.name now ask c ≡ Some (record_in o)
      → Writes c (commit_by c ask now) (master_then c ask now) (option_map content o)
  planned_so (Push pushed) o is = written_of (writes c.documents pushed) o is
  planned_so (Pull place batch) o is =
      subst (λ o. Writes c [] (Some c) (option_map content o)) (sym (none_in o is)) (refl, refl)

  clock_of : (ss : List State) → written_by c.name now c ss ≡ None → write c ss now ≡ None
  clock_of [] is = absurd (cc)
  clock_of (s ∷ ss) is =
      ap (option_map (λ lwt. with_rows c (rows_of c (s ∷ ss) lwt)))
      (none_mapped (record_at c (s ∷ ss)) (stamp c.documents now)
      (none_mapped (λ r. r ∷ []) (commit_to c.name (s ∷ ss) now c) is))

  -- where no write time is left, there is no commit
  pub clock_so : (ask : AskKind) → commits_of c.name now ask c ≡ None → master_then c ask now ≡ None
  clock_so (Push pushed) is = clock_of (writes c.documents pushed) is
  clock_so (Pull place batch) is = absurd (cc)

-- what is handled, by its parts
module _ (c : Held) (now : ℕ) (q : Request) where
  abbrev whole : List Content → Whole
  whole records = record { records = records; reply = reply_with q (body_of c.documents q.ask) }

  pub parts_of : (h : Handled) → handled_by c.name now q c ≡ Some (handled_of h)
      → (commits_of c.name now q.ask c ≡ Some (record_in h.written))
      × (h.reply ≡ reply_with q (body_of c.documents q.ask))
  parts_of h is = parts (commits_of c.name now q.ask c) is
    where
      parts : (o : Option (List Content)) → option_map whole o ≡ Some (handled_of h)
          → (o ≡ Some (record_in h.written)) × (h.reply ≡ reply_with q (body_of c.documents q.ask))
      parts None is = absurd (cc)
      parts (Some rs) is =
          let same : whole rs ≡ handled_of h = cc in (
            ap (λ (x : Whole). Some x.records) same,
            sym (ap (λ (x : Whole). x.reply) same),
          )

  pub none_of : handled_by c.name now q c ≡ None → commits_of c.name now q.ask c ≡ None
  none_of is = none_mapped whole (commits_of c.name now q.ask c) is

  module _ (r : Result Handled StepFault)
      (is : IfOk r (λ h. handled_by c.name now q c ≡ Some (handled_of h))) where
    pub reply_so : IfOk r (λ h. h.reply ≡ reply_with q (body_of c.documents q.ask))
    reply_so = if_ok r _ _ is (λ h is. (parts_of h is).1)

    pub writes_so : IfOk r (λ h. Writes c (commit_by c q.ask now) (master_then c q.ask now)
        (option_map content h.written))
    writes_so = if_ok r _ _ is (λ h is. planned_so c now q.ask h.written (parts_of h is).0)

-- the record may come
may_one : (w : World) (o : Option Record) → MayComeInTurn w (record_in o)
    → IfSome o (λ e. MayCome w (content e))
may_one w None may = tt
may_one w (Some e) may = may.0

pub may_so : (w : World) (r : Result Handled StepFault)
    → IfOk r (λ h. MayComeInTurn w (record_in h.written))
    → IfOk r (λ h. IfSome h.written (λ e. MayCome w (content e)))
may_so w r may = if_ok r _ _ may (λ h may. may_one w h.written may)
